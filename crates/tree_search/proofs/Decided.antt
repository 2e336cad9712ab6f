-- A search ends with a budget of 2 ^ (decisions + 1) nodes for each leaf that doesn't close at its start.
use Rattle.std.proofs.Common.{◌≡◌, ℕ, zero, suc, ◌+◌, ◌*◌, ◌^◌, ◌≤◌, Bool, true, false, List, [], ◌∷◌, ◌++◌, length, length-append, Option, refl, sym, ap, subst, ◌∙◌, inl, inr, arith}
use Rattle.std.specs.Prelude.{IsTrue, ◌↔◌, IfSome, not, filter, slice_get, All, Contains}
use Rattle.std.proofs.lemmas.Bool.{both_ways}
use Rattle.std.proofs.lemmas.List.Elements.{All-nil, All-cons, All-contains, filter-append}
use Rattle.location_terms.specs.Instance.{Instance}
use Rattle.location_terms.specs.Plan.{Plan}
use Rattle.location_terms.specs.Box.{Path}
use Rattle.location_terms.specs.Split.{first_step, second_step}
use Rattle.location_terms.specs.Bound.{Duals}
use Rattle.location_terms.specs.Leaf.{leaf_bound, LeafCloses}
use Rattle.location_terms.specs.Tree.{Node, Leaf, Fork, Tree, leaves_below, leaves_of, size_of, nodes_of}
use Rattle.tree_search.specs.Grown.{IsGrownBelow, IsGrownFrom}
use Rattle.tree_search.specs.Answer.{cost_in, most_decisions, AreHeld, IsAnswerTo, IsBracketCause, IsDecided}
use Rattle.tree_search.specs.declared.answer.Answer.{Answer}
use Rattle.tree_search.specs.declared.answer.Answer.TheVariants.{Optimal, Infeasible, Bracket}
use Rattle.tree_search.proofs.Closer.{closes_no_worse}
use Rattle.tree_search.proofs.Ending.{made_within}

-- What is told of the leaves.

-- how many leaves don't close
abbrev pub open_leaves : List Bool → ℕ
open_leaves held = length (filter not held)

module _ (I : Instance) (target : Option ℕ) where
  -- for each leaf in turn, whether it closes
  abbrev Tells : List (Path × Duals) → List Bool → Type 0
  Tells [] [] = Unit {0}
  Tells [] (h ∷ hs) = ⊥
  Tells (l ∷ ls) [] = ⊥
  Tells (l ∷ ls) (h ∷ hs) = (IsTrue h ↔ LeafCloses I l.0 l.1 target) × Tells ls hs

  told : (ls : List (Path × Duals)) (held : List Bool) → length held ≡ length ls → ((k : ℕ) → IfSome (slice_get held k) (λ h. IfSome (slice_get ls k) (λ l. IsTrue h ↔ LeafCloses I l.0 l.1 target))) → Tells ls held
  told [] [] len each = tt
  told [] (h ∷ hs) len each = absurd (omega (arith, len))
  told (l ∷ ls) [] len each = absurd (omega (arith, len))
  told (l ∷ ls) (h ∷ hs) len each = (each 0, told ls hs (omega (arith, len)) (λ k. each (suc k)))

  parted : (xs ys : List (Path × Duals)) (held : List Bool) → Tells (xs ++ ys) held → (first : List Bool) × (second : List Bool) × (held ≡ first ++ second) × Tells xs first × Tells ys second
  parted [] ys held tells = ([], held, refl, tt, tells)
  parted (x ∷ xs) ys [] tells = absurd tells
  parted (x ∷ xs) ys (h ∷ hs) tells = let rest = parted xs ys hs tells.1 in (h ∷ rest.0, rest.1, ap (λ bs. h ∷ bs) rest.2, (tells.0, rest.3), rest.4)

  -- where none is told to be open, each closes
  all_close : (ls : List (Path × Duals)) (held : List Bool) → Tells ls held → open_leaves held ≡ 0 → All (λ l. LeafCloses I l.0 l.1 target) ls
  all_close [] held tells none = All-nil (λ l. LeafCloses I l.0 l.1 target)
  all_close (l ∷ ls) [] tells none = absurd tells
  all_close (l ∷ ls) (true ∷ hs) tells none = All-cons (λ l. LeafCloses I l.0 l.1 target) l ls (tells.0.0 refl) (all_close ls hs tells.1 none)
  all_close (l ∷ ls) (false ∷ hs) tells none = absurd (omega (arith, none))

-- Growth.

parts_sized : (room p q m n s t all : ℕ) → all ≡ s + t → p + 2 * s ≤ m + s * room → q + 2 * t ≤ n + t * room → (1 + p + q) + 2 * all ≤ (1 + m + n) + all * room
parts_sized room p q m n s t all sum first second = omega (arith, sum, first, second, ap (λ k. k * room) sum)

-- a node that grew has at most so many more nodes for each open leaf, and without one it is as before
record Grows (room : ℕ) (old new : Node) (opened : ℕ) : Type 0 where
  sized : size_of new + 2 * opened ≤ size_of old + opened * room
  same : opened ≡ 0 → new ≡ old

module _ (I : Instance) (target cost : Option ℕ) where
  abbrev room : ℕ
  room = 2 ^ (most_decisions I + 1)

  leaf_grows : (d : Duals) (new : Node) (path : Path) (held : List Bool) → Tells I target ((path, d) ∷ []) held → IsGrownBelow I target cost path (Leaf d) new → Grows room (Leaf d) new (open_leaves held)
  leaf_grows d new path [] tells grown = absurd tells
  leaf_grows d new path (h ∷ k ∷ hs) tells grown = absurd tells.1
  leaf_grows d new path (true ∷ []) tells (inl stays) = record { sized = omega (arith, ap size_of stays.1); same = λ none. stays.1 }
  leaf_grows d new path (true ∷ []) tells (inr worked) = absurd (worked.0 (tells.0.0 refl))
  leaf_grows d new path (false ∷ []) tells (inl stays) = absurd (both_ways false refl (tells.0.1 stays.0))
  leaf_grows d new path (false ∷ []) tells (inr worked) = record { sized = omega (arith, made_within I target cost path d new path worked.1); same = λ none. absurd (omega (arith, none)) }

  grows : (old new : Node) (path : Path) (held : List Bool) → Tells I target (leaves_below path old) held → IsGrownBelow I target cost path old new → Grows room old new (open_leaves held)
  grows (Leaf d) new path held tells grown = leaf_grows d new path held tells grown
  grows (Fork split a b) (Leaf d) path held tells grown = absurd grown
  grows (Fork split a b) (Fork split_now a_now b_now) path held tells grown =
      let parts = parted I target (leaves_below (path ++ first_step split ∷ []) a) (leaves_below (path ++ second_step split ∷ []) b) held tells in
      let one = grows a a_now (path ++ first_step split ∷ []) parts.0 parts.3 grown.1 in
      let two = grows b b_now (path ++ second_step split ∷ []) parts.1 parts.4 grown.2 in
      let sum : open_leaves held ≡ open_leaves parts.0 + open_leaves parts.1 = ap open_leaves parts.2 ∙ ap length (filter-append not parts.0 parts.1) ∙ length-append (filter not parts.0) (filter not parts.1) in
      record {
        sized = parts_sized room (size_of a_now) (size_of b_now) (size_of a) (size_of b) (open_leaves parts.0) (open_leaves parts.1) (open_leaves held) sum one.sized two.sized;
        same = λ none. ap (λ s. Fork s a_now b_now) (sym grown.0) ∙ ap (λ x. Fork split x b_now) (one.same (omega (arith, none, sum))) ∙ ap (Fork split a) (two.same (omega (arith, none, sum)));
      }

module _ (I : Instance) (old : Tree) where
  grown : (target cost : Option ℕ) (new : Tree) (held : List Bool) → AreHeld I old target held → IsGrownFrom I target cost old new → Grows (2 ^ (most_decisions I + 1)) old.root new.root (open_leaves held)
  grown target cost new held tells from = grows I target cost old.root new.root [] held (told I target (leaves_of old) held tells.len tells.each) from.root

  -- a tree that grew has less than 2 ^ (decisions + 1) more nodes for each leaf that didn't close
  pub grown_within : (target cost : Option ℕ) (new : Tree) (held : List Bool) → AreHeld I old target held → IsGrownFrom I target cost old new
      → nodes_of new + 2 * length (filter not held) ≤ nodes_of old + length (filter not held) * 2 ^ (most_decisions I + 1)
  grown_within target cost new held tells from = (grown target cost new held tells from).sized

  module _ (handed : Option Plan) (budget : ℕ) (held : List Bool) (tells : AreHeld I old (cost_in I handed) held) (low : ℕ) (plan : Option Plan) (tree : Tree) (made : ℕ) (answer : IsAnswerTo I old handed budget (Bracket low plan tree made)) where
    -- where each leaf closed at the start, each closes against the answer's plan
    none_open : open_leaves held ≡ 0 → ⊥
    none_open none =
        let spent : IsBracketCause I budget low plan tree made = answer.cause in
        let same : tree.root ≡ old.root = (grown (cost_in I handed) (cost_in I plan) tree held tells answer.grown).same none in
        let closed : All (λ (l : Path × Duals). LeafCloses I l.0 l.1 (cost_in I handed)) (leaves_below [] old.root) = all_close I (cost_in I handed) (leaves_of old) held (told I (cost_in I handed) (leaves_of old) held tells.len tells.each) none in
        let here : Contains (leaves_below [] old.root) (spent.unfinished.path, spent.unfinished.duals) = subst (λ n. Contains (leaves_below [] n) (spent.unfinished.path, spent.unfinished.duals)) same spent.unfinished.leaf in
        let closes : LeafCloses I spent.unfinished.path spent.unfinished.duals (cost_in I handed) = All-contains (λ (l : Path × Duals). LeafCloses I l.0 l.1 (cost_in I handed)) (leaves_below [] old.root) (spent.unfinished.path, spent.unfinished.duals) closed here in
        spent.unfinished.unclosed (record { fit = closes.fit; closed = closes_no_worse I (leaf_bound I spent.unfinished.path spent.unfinished.duals) spent.unfinished.duals.q plan handed answer.kept closes.closed })

    no_bracket : (opened : ℕ) → opened ≡ open_leaves held → opened * 2 ^ (most_decisions I + 1) ≤ budget → ⊥
    no_bracket zero is enough = none_open (sym is)
    no_bracket (suc k) is enough =
        let sized : nodes_of tree + 2 * suc k ≤ nodes_of old + suc k * 2 ^ (most_decisions I + 1) = subst (λ n. nodes_of tree + 2 * n ≤ nodes_of old + n * 2 ^ (most_decisions I + 1)) (sym is) (grown_within (cost_in I handed) (cost_in I plan) tree held tells answer.grown) in
        omega (arith, sized, enough, answer.made, answer.cause.spent)

  pub decided : (handed : Option Plan) (budget : ℕ) (held : List Bool) (a : Answer) → AreHeld I old (cost_in I handed) held → IsAnswerTo I old handed budget a → length (filter not held) * 2 ^ (most_decisions I + 1) ≤ budget → IsDecided a
  decided handed budget held (Optimal plan cost tree made) tells answer enough = tt
  decided handed budget held (Infeasible tree made) tells answer enough = tt
  decided handed budget held (Bracket low plan tree made) tells answer enough = no_bracket handed budget held tells low plan tree made answer (open_leaves held) refl enough
