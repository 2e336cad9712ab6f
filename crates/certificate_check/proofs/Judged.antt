-- Nothing speaks against what a certificate shows just where it is accepted, if it has a text.
use Rattle.std.proofs.Common.{◌≡◌, ◌↔◌, ℕ, List, [], ◌∷◌, ◌++◌, length, refl, sym, ap, ◌∙◌, subst, arith, ◌+◌, Option, Some, None}
use Rattle.std.specs.Prelude.{All, Contains, IsNone, MatchOption}
use Rattle.std.proofs.lemmas.Bool.{true≢false}
use Rattle.std.proofs.lemmas.List.{length-append, get_or_append_left, get_or-append-add}
use Rattle.std.proofs.lemmas.List.Elements.{All-nil, All-cons, All-head, All-tail, All-append, All-contains, All-weaker}
use Rattle.location_terms.specs.declared.claim.Claim.{Claim}
use Rattle.location_terms.specs.declared.claim.Claim.TheVariants.{Optimal, Infeasible, Bracket}
use Rattle.location_terms.specs.Instance.{Instance, site_ids}
use Rattle.location_terms.specs.Plan.{Plan, IsFeasible, cost_of}
use Rattle.location_terms.specs.Box.{Path}
use Rattle.location_terms.specs.Split.{first_step, second_step}
use Rattle.location_terms.specs.Bound.{Duals}
use Rattle.location_terms.specs.Fit.{BoundCloses}
use Rattle.location_terms.specs.Leaf.{leaf_bound}
use Rattle.location_terms.specs.Tree.{Node, Leaf, Fork, Tree, AllClose, leaves_below}
use Rattle.location_terms.specs.Certificate.{Certificate, cost_claimed, target_of, Costs, Shows, IsAccepted}
use Rattle.certificate_lines.specs.Due.{Shown, PlanShown, SplitShown, LeafShown}
use Rattle.certificate_lines.specs.Follow.{HasSmallCosts, IsSpellable, HasPlanWhere, HasText, plan_shown, nodes_shown, shown_by}
use Rattle.certificate_check.specs.Judgement.{Stands}

-- what holds of all of a list holds of its two parts
pub parts : {X : Type 0} (P : X → Type 0) (xs ys : List X) → All P (xs ++ ys) → All P xs × All P ys
parts P xs ys all = (λ k d within. subst P (get_or_append_left xs ys d k within) (all k d (omega (arith, length-append xs ys))), λ k d within. subst P (get_or-append-add xs ys k d) (all (length xs + k) d (omega (arith, length-append xs ys))))

-- the bound of a leaf closes against the claim's target
abbrev IsClosed : Instance → Claim → Path × Duals → Type 0
IsClosed I claim l = BoundCloses (leaf_bound I l.0 l.1) l.1.q (target_of claim)

-- what a split shows and its two parts show stands just where the leaves of both parts close
split_stands : (I : Instance) (claim : Claim) (split : Shown) (xs ys : List Shown) (ls ms : List (Path × Duals)) → Stands I split
    → (All (Stands I) xs ↔ All (IsClosed I claim) ls) → (All (Stands I) ys ↔ All (IsClosed I claim) ms) → All (Stands I) (split ∷ (xs ++ ys)) ↔ All (IsClosed I claim) (ls ++ ms)
split_stands I claim split xs ys ls ms stands a b = (
  λ all. let both = parts (Stands I) xs ys (All-tail (Stands I) split (xs ++ ys) all) in All-append (IsClosed I claim) ls ms (a.0 both.0) (b.0 both.1),
  λ all. let both = parts (IsClosed I claim) ls ms all in All-cons (Stands I) split (xs ++ ys) stands (All-append (Stands I) xs ys (a.1 both.0) (b.1 both.1)),
)

-- what the nodes below a path show stands just where the leaves below it close
stands_below : (I : Instance) (claim : Claim) (path : Path) (t : Node) → All (Stands I) (nodes_shown claim path t) ↔ All (IsClosed I claim) (leaves_below path t)
stands_below I claim path (Leaf d) = (
  λ all. All-cons (IsClosed I claim) (path, d) [] (All-head (Stands I) (LeafShown claim path d) [] all) (All-nil (IsClosed I claim)),
  λ all. All-cons (Stands I) (LeafShown claim path d) [] (All-head (IsClosed I claim) (path, d) [] all) (All-nil (Stands I)),
)
stands_below I claim path (Fork split a b) =
    let below_a = path ++ first_step split ∷ [] in
    let below_b = path ++ second_step split ∷ [] in
    split_stands I claim (SplitShown split) (nodes_shown claim below_a a) (nodes_shown claim below_b b) (leaves_below below_a a) (leaves_below below_b b) tt (stands_below I claim below_a a) (stands_below I claim below_b b)

-- there is a plan of this cost, or none where there is no cost
abbrev HasCost : Instance → Option ℕ → Option Plan → Type 0
HasCost I cost plan = MatchOption cost (IsNone plan) (Costs I plan)

-- a claim is shown by a plan of the cost that is claimed, and by leaves that close against its target
shows_both : (I : Instance) (claim : Claim) (plan : Option Plan) (t : Tree) → Shows I claim plan t ↔ (HasCost I (cost_claimed claim) plan × AllClose I t (target_of claim))
shows_both I (Optimal cost) plan t = (λ shows. shows, λ shows. shows)
shows_both I Infeasible plan t = (λ shows. shows, λ shows. shows)
shows_both I (Bracket low high) plan t = (λ shows. shows, λ shows. shows)

-- a feasible plan can be spelled
spellable : (I : Instance) (P : Plan) → IsFeasible I P → IsSpellable I P
spellable I P feasible =
    record {
      plan = feasible.plan;
      sites_known = feasible.sites_known;
      each_once = feasible.each_once;
      servers_known = All-weaker (λ v. Contains P.sites v.1) (λ v. Contains (site_ids I) v.1) (λ v opened. All-contains (Contains (site_ids I)) P.sites v.1 feasible.sites_known opened) P.serves feasible.by_open;
    }

-- a plan has the cost that is claimed just where it can be spelled and stands
costs_both : (I : Instance) (claim : Claim) (cost : Option ℕ) (plan : Option Plan) → cost_claimed claim ≡ cost → HasCost I cost plan ↔ (HasPlanWhere I cost plan × All (Stands I) (plan_shown claim plan))
costs_both I claim None None is = (λ none. (none, All-nil (Stands I)), λ both. both.0)
costs_both I claim None (Some P) is = (λ none. absurd (true≢false none), λ both. both.0)
costs_both I claim (Some cost) None is = (λ costs. absurd costs, λ both. absurd both.0)
costs_both I claim (Some cost) (Some P) is = (
  λ costs. (spellable I P costs.0, All-cons (Stands I) (PlanShown claim P) [] (costs.0, ap Some costs.1 ∙ sym is) (All-nil (Stands I))),
  λ both.
      let stands : Stands I (PlanShown claim P) = All-head (Stands I) (PlanShown claim P) [] both.1 in
      let same : Some (cost_of I P) ≡ Some cost = stands.1 ∙ is in
      (stands.0, cc),
)

-- a certificate that has a text, and against which nothing speaks, is accepted
pub accepted_from : (I : Instance) (cert : Certificate) → HasText I cert → All (Stands I) (shown_by cert) → IsAccepted I cert
accepted_from I cert has stand =
    let both = parts (Stands I) (plan_shown cert.claim cert.plan) (nodes_shown cert.claim [] cert.tree.root) stand in
    let closed = (stands_below I cert.claim [] cert.tree.root).0 both.1 in
    record {
      tree = has.tree;
      stands = has.stands;
      shows = (shows_both I cert.claim cert.plan cert.tree).1 ((costs_both I cert.claim (cost_claimed cert.claim) cert.plan refl).1 (has.plan, both.0), λ k d within. record { fit = has.fit k d within; closed = closed k d within });
    }

module _ (I : Instance) (cert : Certificate) (accepted : IsAccepted I cert) where
  shows : HasCost I (cost_claimed cert.claim) cert.plan × AllClose I cert.tree (target_of cert.claim)
  shows = (shows_both I cert.claim cert.plan cert.tree).0 accepted.shows

  plan : HasPlanWhere I (cost_claimed cert.claim) cert.plan × All (Stands I) (plan_shown cert.claim cert.plan)
  plan = (costs_both I cert.claim (cost_claimed cert.claim) cert.plan refl).0 shows.0

  -- an accepted certificate has a text, where its costs are small
  pub has_text : HasSmallCosts cert.claim → HasText I cert
  has_text small = record { tree = accepted.tree; stands = accepted.stands; fit = λ k d within. (shows.1 k d within).fit; costs = small; plan = plan.0 }

  -- nothing speaks against what it shows
  pub accepted_stands : All (Stands I) (shown_by cert)
  accepted_stands =
      All-append (Stands I) (plan_shown cert.claim cert.plan) (nodes_shown cert.claim [] cert.tree.root) plan.1
      ((stands_below I cert.claim [] cert.tree.root).1 (λ k d within. (shows.1 k d within).closed))
