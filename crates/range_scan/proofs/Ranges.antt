-- The range of a cost, from how much the leaves lack with the cost at its far end.
use Rattle.std.proofs.Common.{◌≡◌, ℕ, ◌+◌, ◌-◌, ◌≤◌, refl, sym, subst, arith, Bool, true, false, cond, get_or, Some, pos, ◌+ℤ◌, ◌<ℤ◌, ◌*◌}
use Rattle.std.specs.Prelude.{All}
use Rattle.location_terms.specs.declared.limits.TheConstants.{MAX_AMOUNT}
use Rattle.location_terms.specs.Instance.{Instance, IsValid}
use Rattle.location_terms.specs.Plan.{Plan, IsFeasible, cost_of}
use Rattle.location_terms.specs.Optimal.{IsOptimal}
use Rattle.location_terms.specs.declared.claim.Claim.TheVariants.{Optimal}
use Rattle.location_terms.specs.Box.{Path}
use Rattle.location_terms.specs.Bound.{Duals}
use Rattle.location_terms.specs.Fit.{BoundCloses}
use Rattle.location_terms.specs.Leaf.{leaf_bound, LeafFits}
use Rattle.location_terms.specs.Tree.{Tree, StandsOn, leaves_of}
use Rattle.location_terms.proofs.Claims.{claim_holds}
use Rattle.range_scan.specs.declared.range.Range.{Range}
use Rattle.range_scan.specs.Range.{IsProvedOptimal, IsInRange, IsProvedRange, IsCostRange}
use Rattle.range_scan.specs.Short.{IsLack, far_end, range_short}
use Rattle.range_scan.proofs.Bent.{IsBent}
use Rattle.range_scan.proofs.Targets.{closes_below, lacks_little, closes_where_little, closes_above, lacks_at_0, closes_from_0}

-- What is so of instances in which one cost is a number, and of a plan that pays that cost or not.
pub record IsPriced (at : ℕ → Instance) (P : Plan) (used : Bool) : Type 0 where
  pub stands : (x y : ℕ) (t : Tree) → StandsOn t (at x) → StandsOn t (at y)
  pub feasible : (x y : ℕ) → IsFeasible (at x) P → IsFeasible (at y) P
  pub fits : (x y : ℕ) (d : Duals) → LeafFits (at x) d → LeafFits (at y) d
  pub cost : (x : ℕ) → cost_of (at x) P ≡ cost_of (at 0) P + cond used x 0
  pub bent : (path : Path) (d : Duals) → IsBent d.q (λ x. leaf_bound (at x) path d)

module _ (at : ℕ → Instance) (P : Plan) (t : Tree) where
  abbrev Closes : ℕ → Path × Duals → Type 0
  Closes x l = BoundCloses (leaf_bound (at x) l.0 l.1) l.1.q (Some (cost_of (at x) P))

  -- what is proved at one cost is proved at another one, where each leaf closes there
  proved_at : (used : Bool) → IsPriced at P used → (x y : ℕ) → IsProvedOptimal (at x) t P → All (Closes y) (leaves_of t) → IsProvedOptimal (at y) t P
  proved_at used h x y proved closes = record {
    tree = proved.tree;
    stands = h.stands x y t proved.stands;
    shows = ((h.feasible x y proved.shows.0.0, refl), λ k d b. record { fit = h.fits x y _ (proved.shows.1 k d b).fit; closed = closes k d b });
  }

  module _ (h : IsPriced at P true) where
    -- against what the plan costs with that cost
    to_paid : (x : ℕ) (l : Path × Duals) → Closes x l → BoundCloses (leaf_bound (at x) l.0 l.1) l.1.q (Some (cost_of (at 0) P + x))
    to_paid x l = subst (λ T. BoundCloses (leaf_bound (at x) l.0 l.1) l.1.q (Some T)) (h.cost x)

    from_paid : (x : ℕ) (l : Path × Duals) → BoundCloses (leaf_bound (at x) l.0 l.1) l.1.q (Some (cost_of (at 0) P + x)) → Closes x l
    from_paid x l = subst (λ T. BoundCloses (leaf_bound (at x) l.0 l.1) l.1.q (Some T)) (sym (h.cost x))

    pub proved_below : (x y : ℕ) → x ≤ y → IsProvedOptimal (at y) t P → IsProvedOptimal (at x) t P
    proved_below x y le proved =
        proved_at true h y x proved
        (λ k d b. let l : Path × Duals = get_or (leaves_of t) k d in
        from_paid x l (closes_below l.1.q (λ z. leaf_bound (at z) l.0 l.1) (h.bent l.0 l.1) (cost_of (at 0) P) x y le (to_paid y l (proved.shows.1 k d b).closed)))

    module _ (far lack : ℕ) (is : IsLack (at far) (cost_of (at far) P) (leaves_of t) lack) where
      lack_within : (x w : ℕ) → x + w ≡ far → IsProvedOptimal (at x) t P → lack ≤ w
      lack_within x w e proved =
          (is w).1
          (λ k d b scale. let l : Path × Duals = get_or (leaves_of t) k d in
          subst (λ T. pos (l.1.q * T) <ℤ (leaf_bound (at far) l.0 l.1 +ℤ pos (l.1.q * (w + 1)))) (sym (h.cost far))
          (lacks_little l.1.q (λ z. leaf_bound (at z) l.0 l.1) (h.bent l.0 l.1) (cost_of (at 0) P) x w far e (to_paid x l (proved.shows.1 k d b).closed) scale))

      proved_within : (p x w : ℕ) → x + w ≡ far → IsProvedOptimal (at p) t P → lack ≤ w → IsProvedOptimal (at x) t P
      proved_within p x w e proved less =
          proved_at true h p x proved
          (λ k d b. let l : Path × Duals = get_or (leaves_of t) k d in
          from_paid x l (closes_where_little l.1.q (λ z. leaf_bound (at z) l.0 l.1) (h.bent l.0 l.1) (cost_of (at 0) P) p x w far e (to_paid p l (proved.shows.1 k d b).closed)
          (λ scale. subst (λ T. pos (l.1.q * T) <ℤ (leaf_bound (at far) l.0 l.1 +ℤ pos (l.1.q * (w + 1)))) (h.cost far) ((is w).0 less k d b scale))))

      used_range : (p : ℕ) → far ≡ MAX_AMOUNT → p ≤ far → IsProvedOptimal (at p) t P → (lack ≤ far) × IsCostRange at p t P (record { least = 0; greatest = far - lack })
      used_range p all small now =
          let w : ℕ = far - p in
          let room : lack ≤ w = lack_within p w (omega (arith, small)) now in
          let interval : IsProvedRange at p t P (record { least = 0; greatest = far - lack }) = record {
            amounts = omega (arith, all);
            has_present = (omega arith, omega (arith, room, small));
            proved = λ x within. proved_within p x (far - x) (omega (arith, within.1)) now (omega (arith, within.1, room));
          } in (
            omega (arith, room),
            record {
              range = interval;
              greatest = λ other theirs.
                  let top : other.greatest ≤ far = omega (arith, theirs.amounts, all) in
                  let held : IsProvedOptimal (at other.greatest) t P = theirs.proved other.greatest (omega (arith, theirs.has_present.0, theirs.has_present.1), omega arith) in
                  let less : lack ≤ far - other.greatest = lack_within other.greatest (far - other.greatest) (omega (arith, top)) held in
                  (omega arith, omega (arith, less, top));
            },
          )

  module _ (h : IsPriced at P false) where
    unpaid : (x : ℕ) → cost_of (at x) P ≡ cost_of (at 0) P
    unpaid x = omega (arith, h.cost x)

    to_unpaid : (x : ℕ) (l : Path × Duals) → Closes x l → BoundCloses (leaf_bound (at x) l.0 l.1) l.1.q (Some (cost_of (at 0) P))
    to_unpaid x l = subst (λ T. BoundCloses (leaf_bound (at x) l.0 l.1) l.1.q (Some T)) (unpaid x)

    from_unpaid : (x : ℕ) (l : Path × Duals) → BoundCloses (leaf_bound (at x) l.0 l.1) l.1.q (Some (cost_of (at 0) P)) → Closes x l
    from_unpaid x l = subst (λ T. BoundCloses (leaf_bound (at x) l.0 l.1) l.1.q (Some T)) (sym (unpaid x))

    pub proved_above : (x y : ℕ) → x ≤ y → IsProvedOptimal (at x) t P → IsProvedOptimal (at y) t P
    proved_above x y le proved =
        proved_at false h x y proved
        (λ k d b. let l : Path × Duals = get_or (leaves_of t) k d in
        from_unpaid y l (closes_above l.1.q (λ z. leaf_bound (at z) l.0 l.1) (h.bent l.0 l.1) (cost_of (at 0) P) x y le (to_unpaid x l (proved.shows.1 k d b).closed)))

    module _ (lack : ℕ) (is : IsLack (at 0) (cost_of (at 0) P) (leaves_of t) lack) where
      lack_at_most : (x : ℕ) → IsProvedOptimal (at x) t P → lack ≤ x
      lack_at_most x proved =
          (is x).1
          (λ k d b scale. let l : Path × Duals = get_or (leaves_of t) k d in
          lacks_at_0 l.1.q (λ z. leaf_bound (at z) l.0 l.1) (h.bent l.0 l.1) (cost_of (at 0) P) x (to_unpaid x l (proved.shows.1 k d b).closed) scale)

      proved_from : (p x : ℕ) → IsProvedOptimal (at p) t P → lack ≤ x → IsProvedOptimal (at x) t P
      proved_from p x proved less =
          proved_at false h p x proved
          (λ k d b. let l : Path × Duals = get_or (leaves_of t) k d in
          from_unpaid x l (closes_from_0 l.1.q (λ z. leaf_bound (at z) l.0 l.1) (h.bent l.0 l.1) (cost_of (at 0) P) p x (to_unpaid p l (proved.shows.1 k d b).closed) ((is x).0 less k d b)))

      unused_range : (p far : ℕ) → far ≡ MAX_AMOUNT → p ≤ far → IsProvedOptimal (at p) t P → (lack ≤ far) × IsCostRange at p t P (record { least = lack; greatest = far })
      unused_range p far all small now =
          let less : lack ≤ p = lack_at_most p now in
          let interval : IsProvedRange at p t P (record { least = lack; greatest = far }) = record {
            amounts = omega (arith, all);
            has_present = (less, small);
            proved = λ x within. proved_from p x now within.0;
          } in (
            omega (arith, less, small),
            record {
              range = interval;
              greatest = λ other theirs.
                  let held : IsProvedOptimal (at other.least) t P = theirs.proved other.least (omega arith, omega (arith, theirs.has_present.0, theirs.has_present.1)) in
                  (lack_at_most other.least held, omega (arith, theirs.amounts, all));
            },
          )

  -- in both cases
  pub range_of_lack : (used : Bool) (p lack : ℕ) → IsPriced at P used → p ≤ MAX_AMOUNT → IsProvedOptimal (at p) t P → IsLack (at (far_end used)) (cost_of (at (far_end used)) P) (leaves_of t) lack
      → (lack ≤ MAX_AMOUNT) × IsCostRange at p t P (range_short used lack)
  range_of_lack true p lack h small proved is = used_range h MAX_AMOUNT lack is p refl small proved
  range_of_lack false p lack h small proved is = unused_range h lack is p MAX_AMOUNT refl small proved

  pub proved_amid : (used : Bool) → IsPriced at P used → (a x b : ℕ) → a ≤ x → x ≤ b → IsProvedOptimal (at a) t P → IsProvedOptimal (at b) t P → IsProvedOptimal (at x) t P
  proved_amid true h a x b low high from to = proved_below h x b high to
  proved_amid false h a x b low high from to = proved_above h a x low from

  -- within its range a cost leaves the plan optimal
  pub optimal_within : ((x : ℕ) → x ≤ MAX_AMOUNT → IsValid (at x)) → (p : ℕ) (r : Range) → IsCostRange at p t P r → (x : ℕ) → IsInRange r x → IsOptimal (at x) P
  optimal_within valid p r is x within =
      let proved : IsProvedOptimal (at x) t P = is.range.proved x within in
      (claim_holds (at x) (valid x (omega (arith, within.1, is.range.amounts))) (Optimal (cost_of (at x) P)) (Some P) t proved.shows).0
