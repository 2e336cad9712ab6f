-- What the leaves of a tree show of all feasible plans, since each plan is in the box of a leaf.
use Rattle.std.proofs.Common.{◌≡◌, ℕ, ◌*◌, ◌<◌, ◌≤◌, zero, suc, sym, ap, ◌∙◌, inl, inr, arith, subst, Bool, true, List, [], ◌∷◌, length, get_or, min, None, Some, ℤ, pos, ◌≤ℤ◌}
use Rattle.std.specs.Prelude.{All, fold, filter, nat_lt}
use Rattle.std.proofs.lemmas.Bool.{cases_eq, lt-ltb, cond_both, cond-true}
use Rattle.std.proofs.lemmas.List.Elements.{All-contains}
use Rattle.std.proofs.Math.Nat.{min-le_left, min-le_right}
use Rattle.location_terms.specs.declared.limits.TheConstants.{MAX_COST}
use Rattle.location_terms.specs.Instance.{Instance, IsValid}
use Rattle.location_terms.specs.Plan.{cost_of}
use Rattle.location_terms.specs.Optimal.{IsLowEnd, IsImpossible}
use Rattle.location_terms.specs.Box.{Path}
use Rattle.location_terms.specs.Bound.{Duals, AreDualsOf}
use Rattle.location_terms.specs.Fit.{BoundCloses}
use Rattle.location_terms.specs.Leaf.{leaf_bound, LeafCloses}
use Rattle.location_terms.specs.Tree.{Tree, leaves_of, AllClose, low_end, low_of}
use Rattle.location_terms.proofs.Duality.{leaf_bound_within_cost}
use Rattle.location_terms.proofs.Leaves.{IsCovered, covered}
use Rattle.location_terms.proofs.Closing.{none_within_untargeted, target_within, low_end_within}

-- the least of a first number and of a value of each element that passes a test
abbrev least : {X : Type 0} → (X → ℕ) → (X → Bool) → ℕ → List X → ℕ
least f p a xs = fold (λ m x. min m (f x)) a (filter p xs)

module _ {X : Type 0} (f : X → ℕ) (p : X → Bool) where
  -- it is at most the first number
  least_within_first : (a : ℕ) (xs : List X) → least f p a xs ≤ a
  least_within_first a [] = omega arith
  least_within_first a (x ∷ xs) =
      cond_both (p x) (x ∷ filter p xs) (filter p xs) (λ ys. fold (λ m x. min m (f x)) a ys ≤ a)
      (λ _. omega (arith, least_within_first (min a (f x)) xs, min-le_left a (f x)))
      (λ _. least_within_first a xs)

  -- it is at most the value of an element that passes
  least_within : (a : ℕ) (xs : List X) (k : ℕ) (x : X) → k < length xs → get_or xs k x ≡ x → p x ≡ true → least f p a xs ≤ f x
  least_within a [] k x inside here passes = absurd (omega arith)
  least_within a (y ∷ xs) zero x inside here passes =
      let P : List X → Type 0 = λ ys. fold (λ m x. min m (f x)) a ys ≤ f x in
      subst P (sym (cond-true (p y) (y ∷ filter p xs) (filter p xs) (ap p here ∙ passes)))
      (omega (arith, least_within_first (min a (f y)) xs, min-le_right a (f y), ap f here))
  least_within a (y ∷ xs) (suc k) x inside here passes =
      cond_both (p y) (y ∷ filter p xs) (filter p xs) (λ ys. fold (λ m x. min m (f x)) a ys ≤ f x)
      (λ _. least_within (min a (f y)) xs k x (omega arith) here passes)
      (λ _. least_within a xs k x (omega arith) here passes)

module _ (I : Instance) (valid : IsValid I) where
  -- a feasible plan costs no less than the target of the leaf that has it
  pub shows_low_end : (t : Tree) (T : ℕ) → AllClose I t (Some T) → IsLowEnd I T
  shows_low_end t T closed Q feasible =
      let leaf : IsCovered Q (leaves_of t) = covered t Q in
      let closes : LeafCloses I leaf.0.0 leaf.0.1 (Some T) = All-contains (λ l. LeafCloses I l.0 l.1 (Some T)) (leaves_of t) leaf.0 closed leaf.1 in
      target_within (leaf_bound I leaf.0.0 leaf.0.1) leaf.0.1.q T (cost_of I Q) closes.closed
      (leaf_bound_within_cost I leaf.0.0 leaf.0.1 Q valid feasible closes.fit.numbers.of_instance leaf.2)

  -- a leaf that closes without a target has no feasible plan
  pub shows_impossible : (t : Tree) → AllClose I t None → IsImpossible I
  shows_impossible t closed Q feasible =
      let leaf : IsCovered Q (leaves_of t) = covered t Q in
      let closes : LeafCloses I leaf.0.0 leaf.0.1 None = All-contains (λ l. LeafCloses I l.0 l.1 None) (leaves_of t) leaf.0 closed leaf.1 in
      none_within_untargeted (leaf_bound I leaf.0.0 leaf.0.1) leaf.0.1.q (cost_of I Q) closes.closed
      (leaf_bound_within_cost I leaf.0.0 leaf.0.1 Q valid feasible closes.fit.numbers.of_instance leaf.2)

  -- a leaf of scale 0 has no feasible plan, and another one has none below its own low end
  pub shows_low : (t : Tree) → All (λ l. AreDualsOf I l.1) (leaves_of t) → All (λ l. l.1.q ≡ 0 → BoundCloses (leaf_bound I l.0 l.1) 0 None) (leaves_of t) → IsLowEnd I (low_of I t)
  shows_low t fit rays Q feasible =
      let leaf : IsCovered Q (leaves_of t) = covered t Q in
      let d : Duals = leaf.0.1 in
      let bound : ℤ = leaf_bound I leaf.0.0 d in
      let within : bound ≤ℤ pos (d.q * cost_of I Q) = leaf_bound_within_cost I leaf.0.0 d Q valid feasible (All-contains (λ l. AreDualsOf I l.1) (leaves_of t) leaf.0 fit leaf.1) leaf.2 in
      elim (cases_eq d.q 0) [
        | inl unscaled ↦ let closed : BoundCloses bound 0 None = All-contains (λ l. l.1.q ≡ 0 → BoundCloses (leaf_bound I l.0 l.1) 0 None) (leaves_of t) leaf.0 rays leaf.1 unscaled in
            absurd (none_within_untargeted bound 0 (cost_of I Q) closed (subst (λ q. bound ≤ℤ pos (q * cost_of I Q)) unscaled within))
        | inr scaled ↦ let low : low_end bound d.q ≤ cost_of I Q = low_end_within bound d.q (cost_of I Q) (omega arith) within in
            let least_is : low_of I t ≤ low_end bound d.q = least_within (λ (l : Path × Duals). low_end (leaf_bound I l.0 l.1) l.1.q) (λ l. nat_lt 0 l.1.q) MAX_COST (leaves_of t) leaf.1.0 leaf.0 leaf.1.1 leaf.1.2 (lt-ltb 0 d.q (omega arith)) in
            omega arith
      ]
