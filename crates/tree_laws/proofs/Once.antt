-- Trees no path of which decides a thing twice: one leaf, a tree that is carried over, and one that grew.
use Rattle.std.proofs.Common.{◌≡◌, ℕ, ◌==◌, Bool, true, false, List, [], ◌∷◌, ◌++◌, get_or, Option, sym, ap, subst, ◌∙◌, inl, inr}
use Rattle.std.specs.Prelude.{◌≢◌, Contains, not}
use Rattle.std.specs.List.{list_any}
use Rattle.std.proofs.lemmas.Bool.{and_parts, and_from, or_parts, cond_both, both_ways, eq-eqb, not-true}
use Rattle.std.proofs.lemmas.List.Elements.{All-contains, All-push, Contains-get_or, Contains-append_left, Contains-push}
use Rattle.std.proofs.lemmas.List.Folds.{list_any_at}
use Rattle.location_terms.specs.declared.decision.Decision.{Decision}
use Rattle.location_terms.specs.declared.decision.Decision.TheVariants.{Opened, Closed, Yes, No}
use Rattle.location_terms.specs.declared.split.Split.{Split}
use Rattle.location_terms.specs.declared.split.Split.TheVariants.{Site, Lane}
use Rattle.location_terms.specs.Instance.{Instance, site_at, customer_at}
use Rattle.location_terms.specs.Box.{Path, closes_site, opens_site, bars_lane, must_open, must_close, is_called_for, is_closed}
use Rattle.location_terms.specs.Bound.{Duals}
use Rattle.location_terms.specs.Split.{first_step, second_step}
use Rattle.location_terms.specs.Tree.{Node, Leaf, Fork, Tree}
use Rattle.branch_tree.specs.Made.{leaf_of}
use Rattle.dual_value.specs.Zeros.{zeros}
use Rattle.dual_ascent.proofs.Walked.{lane_parts}
use Rattle.leaf_repair.specs.CarriedTree.{knows_split, reduced, reduced_tree, is_too_large, carried_tree}
use Rattle.tree_search.specs.Made.{IsFreeSite, IsOpenLane, IsOpenSplit, IsMade}
use Rattle.tree_search.specs.Grown.{IsGrownBelow, IsGrownFrom}
use Rattle.certificate_lines.specs.Length.{split_of, IsUndecided, SplitsUndecided, DecidesOnce}

-- one leaf decides nothing
pub leaf_once : (I : Instance) (d : Duals) → DecidesOnce (leaf_of I d)
leaf_once I d = tt

-- A tree that is carried over loses decisions of its paths, and gets none.

-- what is undecided on the one path is so on the other
abbrev LeavesUndecided : Path → Path → Type 0
LeavesUndecided old new = (split : Split) → IsUndecided old split → IsUndecided new split

-- it is so where no step of the path is on it
undecided_from : (path : Path) (split : Split) → ((step : Decision) → Contains path step → split_of step ≢ split) → IsUndecided path split
undecided_from path split none k d within = none (get_or path k d) (Contains-get_or path k d within)

no_step : (path : Path) (split : Split) → IsUndecided path split → (step : Decision) → Contains path step → split_of step ≢ split
no_step path split none step has = All-contains (λ (e : Decision). split_of e ≢ split) path step none has

-- a path without its last step
less : (path : Path) (step : Decision) (split : Split) → IsUndecided (path ++ step ∷ []) split → IsUndecided path split
less path step split none = undecided_from path split (λ e has. no_step (path ++ step ∷ []) split none e (Contains-append_left path (step ∷ []) e has))

-- both paths with one more step
one_more : (old new : Path) (step : Decision) → LeavesUndecided old new → LeavesUndecided (old ++ step ∷ []) (new ++ step ∷ [])
one_more old new step leaves split none =
    All-push (λ (e : Decision). split_of e ≢ split) new step (leaves split (less old step split none)) (no_step (old ++ step ∷ []) split none step (Contains-push old step))

carried_below : (I : Instance) (sites customers : List ℕ) (old new : Path) → LeavesUndecided old new → (t : Node) → SplitsUndecided old t → SplitsUndecided new (reduced I sites customers t)
carried_below I sites customers old new leaves (Leaf d) once = tt
carried_below I sites customers old new leaves (Fork split first second) once =
    cond_both (knows_split I split) (Fork split (reduced I sites customers first) (reduced I sites customers second)) (reduced I sites customers first) (SplitsUndecided new)
    (λ _. (
      leaves split once.0,
      carried_below I sites customers (old ++ first_step split ∷ []) (new ++ first_step split ∷ []) (one_more old new (first_step split) leaves) first once.1,
      carried_below I sites customers (old ++ second_step split ∷ []) (new ++ second_step split ∷ []) (one_more old new (second_step split) leaves) second once.2,
    ))
    (λ _. carried_below I sites customers (old ++ first_step split ∷ []) new (λ s none. leaves s (less old (first_step split) s none)) first once.1)

pub carried_once : (I : Instance) (t : Tree) → DecidesOnce t → DecidesOnce (carried_tree I t)
carried_once I t once =
    cond_both (is_too_large I (reduced_tree I t)) (leaf_of I (zeros I 1)) (reduced_tree I t) DecidesOnce (λ _. tt) (λ _. carried_below I t.sites t.customers [] [] (λ split none. none) t.root once)

-- A search splits on what is open to it.

any_has : (p : Decision → Bool) (path : Path) (step : Decision) → Contains path step → p step ≡ true → list_any p path ≡ true
any_has p path step has is = list_any_at p path has.0 step has.1 (ap p has.2 ∙ is)

-- a site that the path neither opens nor closes
no_site_step : (path : Path) (s : ℕ) → list_any (opens_site s) path ≡ false → list_any (closes_site s) path ≡ false → (step : Decision) → Contains path step → split_of step ≢ Site s
no_site_step path s unopened unclosed (Opened t) has on = let same : s ≡ t = cc in both_ways (list_any (opens_site s) path) unopened (any_has (opens_site s) path (Opened t) has (eq-eqb s t same))
no_site_step path s unopened unclosed (Closed t) has on = let same : s ≡ t = cc in both_ways (list_any (closes_site s) path) unclosed (any_has (closes_site s) path (Closed t) has (eq-eqb s t same))
no_site_step path s unopened unclosed (Yes t c) has on = absurd cc
no_site_step path s unopened unclosed (No t c) has on = absurd cc

-- a lane that the path neither bars nor uses
no_lane_step : (path : Path) (s c : ℕ) → list_any (bars_lane s c) path ≡ false → (Contains path (Yes s c) → ⊥) → (step : Decision) → Contains path step → split_of step ≢ Lane s c
no_lane_step path s c unbarred unused (Opened t) has on = absurd cc
no_lane_step path s c unbarred unused (Closed t) has on = absurd cc
no_lane_step path s c unbarred unused (Yes t d) has on =
    let site : t ≡ s = cc in
    let customer : d ≡ c = cc in
    unused (subst (λ x. Contains path (Yes x c)) site (subst (λ y. Contains path (Yes t y)) customer has))
no_lane_step path s c unbarred unused (No t d) has on =
    let site : s ≡ t = cc in
    let customer : c ≡ d = cc in
    both_ways (list_any (bars_lane s c) path) unbarred (any_has (bars_lane s c) path (No t d) has (and_from (s == t) (c == d) (eq-eqb s t site) (eq-eqb c d customer)))

free_undecided : (I : Instance) (path : Path) (s : ℕ) → IsFreeSite I path s → IsUndecided path (Site s)
free_undecided I path s free =
    let x = site_at I free.place in
    let parts = and_parts (not (is_called_for path x)) (not (is_closed path x)) free.free in
    let unopened = or_parts (must_open x.status) (list_any (opens_site x.id) path) (not-true (is_called_for path x) parts.0) in
    let unclosed = or_parts (must_close x.status) (list_any (closes_site x.id) path) (not-true (is_closed path x) parts.1) in
    subst (λ id. IsUndecided path (Site id)) free.named (undecided_from path (Site x.id) (no_site_step path x.id unopened.1 unclosed.1))

lane_undecided : (I : Instance) (path : Path) (s c : ℕ) → IsOpenLane I path s c → IsUndecided path (Lane s c)
lane_undecided I path s c opened =
    let unbarred : list_any (bars_lane (site_at I opened.site).id (customer_at I opened.customer).id) path ≡ false = (lane_parts I path opened.site opened.customer opened.allowed).3 in
    let at_site : list_any (bars_lane s (customer_at I opened.customer).id) path ≡ false = subst (λ x. list_any (bars_lane x (customer_at I opened.customer).id) path ≡ false) opened.site_named unbarred in
    let at_lane : list_any (bars_lane s c) path ≡ false = subst (λ x. list_any (bars_lane s x) path ≡ false) opened.customer_named at_site in
    undecided_from path (Lane s c) (no_lane_step path s c at_lane opened.undecided)

open_undecided : (I : Instance) (path : Path) (split : Split) → IsOpenSplit I path split → IsUndecided path split
open_undecided I path (Site s) opened = free_undecided I path s opened
open_undecided I path (Lane s c) opened = lane_undecided I path s c opened

made_once : (I : Instance) (target cost : Option ℕ) (old_path : Path) (old : Duals) (path : Path) (t : Node) → IsMade I target cost old_path old path t → SplitsUndecided path t
made_once I target cost old_path old path (Leaf d) made = tt
made_once I target cost old_path old path (Fork split first second) made = (
  open_undecided I path split made.0.1,
  made_once I target cost old_path old (path ++ first_step split ∷ []) first made.1,
  made_once I target cost old_path old (path ++ second_step split ∷ []) second made.2,
)

grown_below : (I : Instance) (target cost : Option ℕ) (path : Path) (old new : Node) → SplitsUndecided path old → IsGrownBelow I target cost path old new → SplitsUndecided path new
grown_below I target cost path (Leaf d) new once (inl stays) = subst (SplitsUndecided path) (sym stays.1) tt
grown_below I target cost path (Leaf d) new once (inr worked) = made_once I target cost path d path new worked.1
grown_below I target cost path (Fork split first second) (Leaf d) once grown = absurd grown
grown_below I target cost path (Fork split first second) (Fork split_now first_now second_now) once grown =
    subst (λ s. SplitsUndecided path (Fork s first_now second_now)) grown.0 (
      once.0,
      grown_below I target cost (path ++ first_step split ∷ []) first first_now once.1 grown.1,
      grown_below I target cost (path ++ second_step split ∷ []) second second_now once.2 grown.2,
    )

pub grown_once : (I : Instance) (target cost : Option ℕ) (old new : Tree) → DecidesOnce old → IsGrownFrom I target cost old new → DecidesOnce new
grown_once I target cost old new once grown = grown_below I target cost [] old.root new.root once grown.root
