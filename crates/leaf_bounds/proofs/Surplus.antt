-- What a customer pays above the cost of its lane, as the code finds it.
use Rattle.std.proofs.Common.{◌≡◌, ℕ, ◌+◌, ◌*◌, ◌<◌, ◌≤◌, sym, ap, subst, ◌∙◌, arith, Bool, true, false, cond, Some, List, [], ◌∷◌, ◌++◌, length, length-append, All, ℤ, pos, ◌-ℤ◌, ◌≤ℤ◌}
use mir.Syntax.{w128}
use mir.Val.{to_z, of_z}
use Rattle.std.specs.Prelude.{unwrap_or}
use Rattle.std.specs.Int.RustNames.{unsigned_abs}
use Rattle.std.proofs.lemmas.Int.{ints}
use Rattle.std.proofs.lemmas.List.Elements.{All-nil, All-cons, All-append}
use Rattle.std.proofs.Math.Nat.{mul-le-mul}
use Rattle.location_terms.specs.Instance.{Instance, site_at, customer_at, lane}
use Rattle.location_terms.specs.Box.{Path, is_allowed}
use Rattle.location_terms.specs.Bound.{Duals, v_at}
use Rattle.location_terms.specs.Fit.{DualsFit}
use Rattle.location_terms.specs.Knapsack.{surplus_at}
use Rattle.location_terms.specs.declared.limits.TheConstants.{MAX_AMOUNT, MAX_SCALE, MAX_VALUE}
use Rattle.binary_knapsack.specs.declared.item.Item.{Item}
use Rattle.binary_knapsack.specs.declared.room.TheConstants.{MAX_WORTH}
use Rattle.dual_value.proofs.Sizes.{abs_below, size_pos, difference_kept}
use Rattle.leaf_bounds.specs.Gathered.{item_where_allowed}

module _ (I : Instance) (d : Duals) (i j cost from : ℕ) (v times : ℤ) (fit : DualsFit I d) (within : j < length I.customers) (at : v ≡ v_at d j) (priced : times ≡ pos (from * cost)) (scale : from ≡ d.q) (there : Some cost ≡ lane I (site_at I i).id (customer_at I j).id) (few : cost ≤ MAX_AMOUNT) where
  value_size : unsigned_abs (v_at d j) ≤ MAX_VALUE
  value_size = fit.in_limits.values j (pos 0) (omega (arith, within, fit.of_instance.customers))

  scaled : times ≡ pos (d.q * cost)
  scaled = priced ∙ ap (λ q. pos (q * cost)) scale

  -- the difference that the code makes is the surplus
  pub surplus_is : to_z w128 (of_z w128 (to_z w128 (of_z w128 v) -ℤ to_z w128 (of_z w128 times))) ≡ surplus_at I d i j
  surplus_is =
      let paid : times ≡ pos (d.q * unwrap_or (lane I (site_at I i).id (customer_at I j).id) 0) = scaled ∙ ap (λ c. pos (d.q * unwrap_or c 0)) there in
      difference_kept v times MAX_VALUE (MAX_SCALE * MAX_AMOUNT) (rw at value_size) (size_pos times (d.q * cost) (MAX_SCALE * MAX_AMOUNT) scaled (mul-le-mul fit.in_limits.scale few)) (omega arith)
      ∙ (λ k. at k -ℤ paid k)

  -- and it is small
  pub surplus_small : surplus_at I d i j ≤ℤ MAX_WORTH
  surplus_small =
      let below = abs_below (v_at d j) MAX_VALUE value_size in
      omega (arith, ints, below)

-- at most one item comes
at_most_one : (b : Bool) (x : Item) → length (cond b (x ∷ []) []) ≤ 1
at_most_one true x = omega arith
at_most_one false x = omega arith

of_one : (P : Item → Type 0) (b : Bool) (x : Item) → P x → All P (cond b (x ∷ []) [])
of_one P true x h = All-cons P x [] h (All-nil P)
of_one P false x h = All-nil P

module _ (I : Instance) (path : Path) (i j : ℕ) (worth : ℤ) (old new : List Item) (more : new ≡ old ++ item_where_allowed I path i j worth) where
  pub one_more_at_most : length new ≤ length old + 1
  one_more_at_most =
      omega (arith, ap length more, length-append old (item_where_allowed I path i j worth), at_most_one (is_allowed I path (site_at I i) (customer_at I j)) (record { weight = (customer_at I j).demand; worth = worth }))

  pub worths_stay_small : All (λ (x : Item). x.worth ≤ℤ MAX_WORTH) old → worth ≤ℤ MAX_WORTH → All (λ (x : Item). x.worth ≤ℤ MAX_WORTH) new
  worths_stay_small all few =
      let P : Item → Type 0 = λ (x : Item). x.worth ≤ℤ MAX_WORTH in
      subst (All P) (sym more) (All-append P old (item_where_allowed I path i j worth) all (of_one P (is_allowed I path (site_at I i) (customer_at I j)) (record { weight = (customer_at I j).demand; worth = worth }) few))
