-- A cost that none of the lanes between places passes is passed by no lane.
use Rattle.std.proofs.Common.{◌≡◌, ℕ, zero, suc, ◌+◌, ◌<◌, ◌≤◌, length, Option, None, Some, IfSome, is_some, refl, sym, ap, subst, ◌∙◌, arith}
use Rattle.std.proofs.lemmas.List.{get_or_default}
use Rattle.location_terms.specs.Instance.{Instance, IsValid, site_ids, customer_ids, site_at, customer_at, lane}
use Rattle.location_terms.proofs.Places.{slice_index-site_ids, slice_index-customer_ids, length-site_ids, length-customer_ids}
use Rattle.plan_radius.specs.Radius.{IsAboveLanes}
use Rattle.center_solve.specs.Center.{IsJustAboveLanes}

-- a weaker limit
pub weaker_limit : (o : Option ℕ) (a b : ℕ) → a ≤ b → IfSome o (λ cost. cost ≤ a) → IfSome o (λ cost. cost ≤ b)
weaker_limit None a b more limit = tt
weaker_limit (Some cost) a b more limit = omega (arith, more, limit)

above_all : (I : Instance) (r : ℕ) → IsValid I → ((i j : ℕ) → i < length I.sites → j < length I.customers → IfSome (lane I (site_at I i).id (customer_at I j).id) (λ cost. cost ≤ r)) → IsAboveLanes I (r + 1)
above_all I r valid limit s c = by (lane I s c) refl
  where
    by : (o : Option ℕ) → lane I s c ≡ o → IfSome (lane I s c) (λ cost. cost < r + 1)
    by None none = subst (λ o. IfSome o (λ cost. cost < r + 1)) (sym none) tt
    by (Some cost) there =
        let known = valid.lanes_known s c (ap is_some there) in
        let within : known.0.0 < length I.sites = omega (arith, known.0.1, length-site_ids I) in
        let inside : known.1.0 < length I.customers = omega (arith, known.1.1, length-customer_ids I) in
        let site : (site_at I known.0.0).id ≡ s = sym (slice_index-site_ids I known.0.0 within) ∙ get_or_default (site_ids I) known.0.0 0 s known.0.1 ∙ known.0.2 in
        let customer : (customer_at I known.1.0).id ≡ c = sym (slice_index-customer_ids I known.1.0 inside) ∙ get_or_default (customer_ids I) known.1.0 0 c known.1.1 ∙ known.1.2 in
        let at_most : IfSome (lane I s c) (λ cost. cost ≤ r) = subst (λ (p : ℕ × ℕ). IfSome (lane I p.0 p.1) (λ cost. cost ≤ r)) (λ k. (site k, customer k)) (limit known.0.0 known.1.0 within inside) in
        subst (λ o. IfSome o (λ cost. cost < r + 1)) (sym there) (less cost (subst (λ o. IfSome o (λ cost. cost ≤ r)) there at_most))
      where
        less : (cost : ℕ) → cost ≤ r → cost < r + 1
        less cost at_most = omega (arith, at_most)

-- a limit that isn't reached
below_limit : (o : Option ℕ) (q : ℕ) → IfSome o (λ cost. cost < suc q) → IfSome o (λ cost. cost ≤ q)
below_limit None q below = tt
below_limit (Some cost) q below = omega (arith, below)

module _ (I : Instance) (r : ℕ) (valid : IsValid I) (limit : (i j : ℕ) → i < length I.sites → j < length I.customers → IfSome (lane I (site_at I i).id (customer_at I j).id) (λ cost. cost ≤ r))
    (least : (q : ℕ) → ((i j : ℕ) → i < length I.sites → j < length I.customers → IfSome (lane I (site_at I i).id (customer_at I j).id) (λ cost. cost ≤ q)) → r ≤ q) where
  least_above : (q : ℕ) → 0 < q → IsAboveLanes I q → r + 1 ≤ q
  least_above zero some above = absurd (omega (arith, some))
  least_above (suc q) some above =
      let most : r ≤ q = least q (λ i j _ _. below_limit (lane I (site_at I i).id (customer_at I j).id) q (above (site_at I i).id (customer_at I j).id)) in
      omega (arith, most)

  pub just_above : IsJustAboveLanes I (r + 1)
  just_above = record { above = above_all I r valid limit; positive = omega arith; least = least_above }
