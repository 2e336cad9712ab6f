-- A search that goes on from the tree of another one raises its low end.
use Rattle.std.proofs.Common.{◌≡◌, ℕ, zero, suc, ◌+◌, ◌-◌, ◌/◌, ◌≤◌, true, [], ◌∷◌, ◌++◌, Option, None, Some, refl, sym, subst, inl, inr, arith, ℤ, pos, negsuc, ◌-ℤ◌, ◌*ℤ◌, ◌≤ℤ◌, ◌<ℤ◌}
use Rattle.std.specs.Prelude.{All, filter, nat_lt}
use Rattle.std.proofs.lemmas.Bool.{cases_eq, ltb-true}
use Rattle.std.proofs.lemmas.Int.{ints}
use Rattle.std.proofs.lemmas.Nat.{le-div}
use Rattle.std.proofs.lemmas.List.Elements.{All-nil, All-cons, All-head, All-append, All-weaker}
use Rattle.location_terms.specs.declared.limits.TheConstants.{MAX_COST}
use Rattle.location_terms.specs.declared.form.LeafForm.TheVariants.{Prices}
use Rattle.location_terms.specs.Instance.{Instance, IsValid}
use Rattle.location_terms.specs.Plan.{Plan, IsFeasible, cost_of}
use Rattle.location_terms.specs.Box.{Path}
use Rattle.location_terms.specs.Split.{first_step, second_step}
use Rattle.location_terms.specs.Bound.{Duals, bound_of}
use Rattle.location_terms.specs.Fit.{AreTame, BoundCloses}
use Rattle.location_terms.specs.Leaf.{leaf_bound, LeafCloses}
use Rattle.location_terms.specs.Tree.{Node, Leaf, Fork, Tree, AllClose, leaves_below, leaves_of, low_end, low_of}
use Rattle.location_terms.specs.Certificate.{Shows}
use Rattle.location_terms.proofs.LowEnds.{shows_low_end}
use Rattle.dual_value.specs.Scales.{IsAtLeast}
use Rattle.plan_search.specs.InBox.{IsNoWorse}
use Rattle.branch_tree.proofs.Built.{built_leaves}
use Rattle.tree_search.specs.Made.{IsMadeScale, IsMadeAtScale, IsMadeByPrices, IsMadeLeaf, IsDueSplit}
use Rattle.tree_search.specs.Grown.{IsGrownBelow}
use Rattle.tree_search.specs.Answer.{cost_in, claim_in, IsAnswerTo}
use Rattle.tree_search.specs.declared.answer.Answer.TheVariants.{Bracket}
use Rattle.session_laws.proofs.Parts.{both, least_above, fold_small}
use Rattle.session_laws.proofs.Closes.{closes_at_least, closes_lower, closes_no_worse, of_made, by_prices, fit_by_prices}

-- Low ends.

-- a bound that closes against a cost has no lower low end
closed_low : (bound : ℤ) (q low : ℕ) → 1 ≤ q → low ≤ MAX_COST → BoundCloses bound q (Some low) → low ≤ low_end bound q
closed_low bound q low scaled small (inl ray) = absurd (omega (arith, scaled, ray.0))
closed_low bound q zero scaled small (inr closed) = omega arith
closed_low (pos b) q (suc t) scaled small (inr closed) =
    let one_less : (pos (suc t) -ℤ pos 1) ≡ pos t = omega (arith, ints) in
    let above : (pos q *ℤ pos t) <ℤ pos b = subst (λ x. (pos q *ℤ x) <ℤ pos b) one_less closed.1 in
    let ceiling : suc t ≤ (b + (q - 1)) / q = le-div (suc t) (b + (q - 1)) q (omega (arith, scaled)) (omega (arith, ints, above, scaled)) in
    omega (arith, ceiling, small)
closed_low (negsuc b) q (suc t) scaled small (inr closed) =
    let one_less : (pos (suc t) -ℤ pos 1) ≡ pos t = omega (arith, ints) in
    let above : (pos q *ℤ pos t) <ℤ negsuc b = subst (λ x. (pos q *ℤ x) <ℤ negsuc b) one_less closed.1 in
    absurd (omega (arith, ints, above))

-- a leaf's bound closes
abbrev Closed : Instance → ℕ → Path × Duals → Type 0
Closed I low l = BoundCloses (leaf_bound I l.0 l.1) l.1.q (Some low)

-- a tree whose leaves close against a cost shows no lower low end
low_above : (I : Instance) (t : Tree) (low : ℕ) → low ≤ MAX_COST → All (Closed I low) (leaves_of t) → low ≤ low_of I t
low_above I t low small all =
    least_above (λ (l : Path × Duals). low_end (leaf_bound I l.0 l.1) l.1.q) (λ (l : Path × Duals). nat_lt 0 l.1.q) low MAX_COST (leaves_of t) small
    (All-weaker (Closed I low) (λ (l : Path × Duals). nat_lt 0 l.1.q ≡ true → low ≤ low_end (leaf_bound I l.0 l.1) l.1.q) (λ l closed scaled. closed_low (leaf_bound I l.0 l.1) l.1.q low (omega (arith, ltb-true 0 l.1.q scaled)) small closed) (leaves_of t) all)

low_small : (I : Instance) (t : Tree) → low_of I t ≤ MAX_COST
low_small I t = fold_small (λ (l : Path × Duals). low_end (leaf_bound I l.0 l.1) l.1.q) MAX_COST (filter (λ (l : Path × Duals). nat_lt 0 l.1.q) (leaves_of t))

-- Trees.

-- a leaf that doesn't close with this plan's cost has prices, made at a scale
abbrev IsPricedWhereOpen : Instance → Option Plan → Path × Duals → Type 0
IsPricedWhereOpen I plan l = (LeafCloses I l.0 l.1 (cost_in I plan) → ⊥) → (l.1.form ≡ Prices) × AreTame I l.1 × IsMadeScale I l.1.q

-- what a search made or let stand is so
module _ (I : Instance) (handed plan : Option Plan) (later : IsNoWorse I plan handed) where
  stands_so : (path : Path) (d : Duals) → LeafCloses I path d (cost_in I handed) → IsPricedWhereOpen I plan (path, d)
  stands_so path d closes = λ opened. absurd (opened (record { fit = closes.fit; closed = closes_no_worse I (leaf_bound I path d) d.q plan handed later closes.closed }))

  priced_so : (old_path : Path) (old : Duals) (path : Path) (d : Duals) → d.form ≡ Prices → IsMadeByPrices I old_path old path d → IsPricedWhereOpen I plan (path, d)
  priced_so old_path old path d priced made = λ opened.
      elim (cases_eq d.q 0) [
        | inl ray ↦ absurd (opened (record { fit = fit_by_prices I path d priced made.fit; closed = inl (ray, subst (λ x. pos 1 ≤ℤ x) (sym (by_prices I path d priced)) (made.ray ray)) }))
        | inr scaled ↦ let at_scale = made.scaled (omega (arith, scaled)) in (priced, at_scale.tame, at_scale.scale)
      ]

  made_so : (old_path : Path) (old : Duals) (path : Path) (d : Duals) → IsMadeLeaf I (cost_in I plan) old_path old path d → IsPricedWhereOpen I plan (path, d)
  made_so old_path old path d made =
      elim (of_made I path d old_path old (cost_in I plan) made) [
        | inl priced ↦ priced_so old_path old path d priced.0 priced.1
        | inr whole ↦ λ opened. absurd (opened whole.1)
      ]

  grown_so : (path : Path) (old new : Node) → IsGrownBelow I (cost_in I handed) (cost_in I plan) path old new → All (IsPricedWhereOpen I plan) (leaves_below path new)
  grown_so path (Leaf d) new (inl stays) =
      subst (λ n. All (IsPricedWhereOpen I plan) (leaves_below path n)) (sym stays.1) (All-cons (IsPricedWhereOpen I plan) (path, d) [] (stands_so path d stays.0) (All-nil (IsPricedWhereOpen I plan)))
  grown_so path (Leaf d) new (inr worked) =
      All-weaker (λ (l : Path × Duals). IsMadeLeaf I (cost_in I plan) path d l.0 l.1) (IsPricedWhereOpen I plan) (λ l made. made_so path d l.0 l.1 made) (leaves_below path new)
      (built_leaves (IsMadeLeaf I (cost_in I plan) path d) (IsDueSplit I (cost_in I handed)) new path worked.1)
  grown_so path (Fork split first second) (Leaf d) grown = absurd grown
  grown_so path (Fork split first second) (Fork split_now first_now second_now) grown =
      let one = grown_so (path ++ first_step split ∷ []) first first_now grown.1 in
      let other = grown_so (path ++ second_step split ∷ []) second second_now grown.2 in
      subst (λ s. All (IsPricedWhereOpen I plan) (leaves_below path (Fork s first_now second_now))) grown.0
      (All-append (IsPricedWhereOpen I plan) (leaves_below (path ++ first_step split ∷ []) first_now) (leaves_below (path ++ second_step split ∷ []) second_now) one other)

-- The leaves of a tree close against a low end, and then those of a tree that grew from it do.
module _ (I : Instance) (low : ℕ) (plan found : Option Plan) (below : (P : Plan) → found ≡ Some P → low ≤ cost_of I P) where
  replaced_closes : (old_path : Path) (old : Duals) (path : Path) (d : Duals) → d.form ≡ Prices → 1 ≤ d.q → IsMadeAtScale I old_path old path d
      → (old.form ≡ Prices) × AreTame I old × IsMadeScale I old.q → BoundCloses (leaf_bound I old_path old) old.q (Some low) → BoundCloses (leaf_bound I path d) d.q (Some low)
  replaced_closes old_path old path d priced scaled made before closed =
      let least : IsAtLeast (bound_of I path d) d.q (bound_of I old_path old) old.q = made.replaced before.0 before.1 before.2 in
      let closed_before : BoundCloses (bound_of I old_path old) old.q (Some low) = subst (λ b. BoundCloses b old.q (Some low)) (by_prices I old_path old before.0) closed in
      let closed_now : BoundCloses (bound_of I path d) d.q (Some low) = closes_at_least (bound_of I path d) (bound_of I old_path old) d.q old.q (Some low) scaled before.1.scaled least closed_before in
      subst (λ b. BoundCloses b d.q (Some low)) (sym (by_prices I path d priced)) closed_now

  whole_closes : (bound : ℤ) (q : ℕ) (other : Option Plan) → ((P : Plan) → other ≡ Some P → low ≤ cost_of I P) → BoundCloses bound q (cost_in I other) → BoundCloses bound q (Some low)
  whole_closes bound q None least (inl ray) = inl ray
  whole_closes bound q None least (inr scaled) = absurd scaled.1
  whole_closes bound q (Some P) least closes = closes_lower bound q (cost_of I P) low (least P refl) closes

  priced_closes : (old_path : Path) (old : Duals) (path : Path) (d : Duals) → d.form ≡ Prices → IsMadeByPrices I old_path old path d
      → (old.form ≡ Prices) × AreTame I old × IsMadeScale I old.q → BoundCloses (leaf_bound I old_path old) old.q (Some low) → BoundCloses (leaf_bound I path d) d.q (Some low)
  priced_closes old_path old path d priced made before closed =
      elim (cases_eq d.q 0) [
        | inl ray ↦ inl (ray, subst (λ x. pos 1 ≤ℤ x) (sym (by_prices I path d priced)) (made.ray ray))
        | inr scaled ↦ replaced_closes old_path old path d priced (omega (arith, scaled)) (made.scaled (omega (arith, scaled))) before closed
      ]

  made_closes : (old_path : Path) (old : Duals) → (old.form ≡ Prices) × AreTame I old × IsMadeScale I old.q → BoundCloses (leaf_bound I old_path old) old.q (Some low)
      → (l : Path × Duals) → IsMadeLeaf I (cost_in I found) old_path old l.0 l.1 → Closed I low l
  made_closes old_path old before closed l made =
      elim (of_made I l.0 l.1 old_path old (cost_in I found) made) [
        | inl priced ↦ priced_closes old_path old l.0 l.1 priced.0 priced.1 before closed
        | inr whole ↦ whole_closes (leaf_bound I l.0 l.1) l.1.q found below whole.1.closed
      ]

  grown_closes : (path : Path) (old new : Node) → All (Closed I low) (leaves_below path old) → All (IsPricedWhereOpen I plan) (leaves_below path old)
      → IsGrownBelow I (cost_in I plan) (cost_in I found) path old new → All (Closed I low) (leaves_below path new)
  grown_closes path (Leaf d) new closed priced (inl stays) = subst (λ n. All (Closed I low) (leaves_below path n)) (sym stays.1) closed
  grown_closes path (Leaf d) new closed priced (inr worked) =
      let before = All-head (IsPricedWhereOpen I plan) (path, d) [] priced worked.0 in
      All-weaker (λ (l : Path × Duals). IsMadeLeaf I (cost_in I found) path d l.0 l.1) (Closed I low) (made_closes path d before (All-head (Closed I low) (path, d) [] closed)) (leaves_below path new)
      (built_leaves (IsMadeLeaf I (cost_in I found) path d) (IsDueSplit I (cost_in I plan)) new path worked.1)
  grown_closes path (Fork split first second) (Leaf d) closed priced grown = absurd grown
  grown_closes path (Fork split first second) (Fork split_now first_now second_now) closed priced grown =
      let below_first = path ++ first_step split ∷ [] in
      let below_second = path ++ second_step split ∷ [] in
      let closed_both = both (Closed I low) (leaves_below below_first first) (leaves_below below_second second) closed in
      let priced_both = both (IsPricedWhereOpen I plan) (leaves_below below_first first) (leaves_below below_second second) priced in
      let one = grown_closes below_first first first_now closed_both.0 priced_both.0 grown.1 in
      let other = grown_closes below_second second second_now closed_both.1 priced_both.1 grown.2 in
      subst (λ s. All (Closed I low) (leaves_below path (Fork s first_now second_now))) grown.0
      (All-append (Closed I low) (leaves_below below_first first_now) (leaves_below below_second second_now) one other)

-- Two searches that come to brackets, the second one from the tree and the plan of the first.

pub feasible_in : (I : Instance) (low : ℕ) (plan : Option Plan) (t : Tree) (P : Plan) → Shows I (claim_in I (Bracket low plan t 0)) plan t → plan ≡ Some P → IsFeasible I P
feasible_in I low None t P shows is = absurd cc
feasible_in I low (Some Q) t P shows is = let same : Q ≡ P = cc in subst (IsFeasible I) same shows.0.0

module _ (I : Instance) (valid : IsValid I) (start tree later_tree : Tree) (handed plan later_plan : Option Plan) (first second low later_low made later_made : ℕ)
    (is : IsAnswerTo I start handed first (Bracket low plan tree made)) (goes_on : IsAnswerTo I tree plan second (Bracket later_low later_plan later_tree later_made)) where
  closed : AllClose I tree (Some low)
  closed = is.accepted.shows.1

  small : low ≤ MAX_COST
  small = subst (λ n. n ≤ MAX_COST) (sym is.cause.shown) (low_small I tree)

  least : (P : Plan) → later_plan ≡ Some P → low ≤ cost_of I P
  least P found = shows_low_end I valid tree low closed P (feasible_in I later_low later_plan later_tree P goes_on.accepted.shows found)

  raised : low ≤ later_low
  raised =
      let before : All (Closed I low) (leaves_of tree) = All-weaker (λ (l : Path × Duals). LeafCloses I l.0 l.1 (Some low)) (Closed I low) (λ l closes. closes.closed) (leaves_of tree) closed in
      let priced : All (IsPricedWhereOpen I plan) (leaves_of tree) = grown_so I handed plan is.kept [] start.root tree.root is.grown.root in
      let now : All (Closed I low) (leaves_of later_tree) = grown_closes I low plan later_plan least [] tree.root later_tree.root before priced goes_on.grown.root in
      subst (λ n. low ≤ n) (sym goes_on.cause.shown) (low_above I later_tree low small now)

  pub goes_higher : (low ≤ later_low) × IsNoWorse I later_plan plan
  goes_higher = (raised, goes_on.kept)
