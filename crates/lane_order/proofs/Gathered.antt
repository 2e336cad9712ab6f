-- The lanes to a customer as they are gathered, site after site.
use Rattle.std.proofs.Common.{◌≡◌, ℕ, suc, zero, ◌+◌, ◌<◌, ◌∷◌, ◌++◌, Bool, inl, inr, List, [], length, take, All, AllPairs, Contains, Option, None, Some, get_or, eqb, refl, sym, ap, ◌∙◌, subst, arith}
use Rattle.std.proofs.lemmas.Bool.{ne_eqb, cases_eq}
use Rattle.std.proofs.lemmas.List.{append-nil, append_assoc, take_more}
use Rattle.std.proofs.lemmas.List.Elements.{All-nil, All-cons, All-append, Contains-append_left, Contains-push}
use Rattle.std.proofs.lemmas.List.Quantifiers.{all_pairs_push}
use Rattle.std.proofs.lemmas.Map.Keys.{IsDistinct-from_apart}
use Rattle.std.specs.List.{IsDistinct}
use Rattle.location_terms.specs.Instance.{Instance, site_at, customer_at, lane, site_ids}
use Rattle.location_terms.proofs.Places.{length-site_ids, slice_index-site_ids}
use Rattle.lane_order.specs.declared.order.PlacedLane.{PlacedLane}
use Rattle.lane_order.specs.Building.{placed, first_lanes}

-- the id of one more site
pub one_more_id : (I : Instance) (i : ℕ) (ids : List ℕ) (id : ℕ) → i < length I.sites → ids ≡ take i (site_ids I) → id ≡ (site_at I i).id → ids ++ id ∷ [] ≡ take (i + 1) (site_ids I)
one_more_id I i ids id within are is =
    let at : id ≡ get_or (site_ids I) i 0 = is ∙ sym (slice_index-site_ids I i within) in
    (λ k. are k ++ at k ∷ []) ∙ sym (take_more (site_ids I) i 0 (omega (arith, within, length-site_ids I)))

-- no site's lanes yet
pub no_lanes : (xs : List PlacedLane) (I : Instance) (j : ℕ) → xs ≡ xs ++ first_lanes I j 0
unfolding first_lanes
no_lanes xs I j = sym (append-nil xs)

-- the lane of one more site, where it has one
pub more_lanes : (I : Instance) (j n : ℕ) (old xs ys : List PlacedLane) (o : Option ℕ) → o ≡ lane I (site_at I n).id (customer_at I j).id → xs ≡ old ++ first_lanes I j n → ys ≡ xs ++ placed o n → ys ≡ old ++ first_lanes I j (n + 1)
unfolding first_lanes
more_lanes I j n old xs ys o is before added =
    added ∙ (λ k. before k ++ placed (is k) n) ∙ append_assoc old (first_lanes I j n) (placed (lane I (site_at I n).id (customer_at I j).id) n) ∙ ap (λ m. old ++ first_lanes I j m) (add-one n)
  where
    add-one : (n : ℕ) → suc n ≡ n + 1
    add-one n = omega arith

-- a lane that the instance has to the customer at place j, from one of the first n sites
pub record IsLaneOf (I : Instance) (j n : ℕ) (l : PlacedLane) : Type 0 where
  pub below : l.site < n
  pub is : lane I (site_at I l.site).id (customer_at I j).id ≡ Some l.cost

-- each of the lanes gathered is one
pub first_lanes_are : (I : Instance) (j n : ℕ) → All (IsLaneOf I j n) (first_lanes I j n)
unfolding first_lanes
first_lanes_are I j zero = All-nil _
first_lanes_are I j (suc n) =
    All-append (IsLaneOf I j (suc n)) (first_lanes I j n) (placed here n)
    (λ k d b. let l = first_lanes_are I j n k d b in record { below = omega (arith, l.below); is = l.is }) (at here refl)
  where
    here : Option ℕ
    here = lane I (site_at I n).id (customer_at I j).id

    at : (o : Option ℕ) → here ≡ o → All (IsLaneOf I j (suc n)) (placed o n)
    at None e = All-nil _
    at (Some cost) e = All-cons (IsLaneOf I j (suc n)) (record { cost = cost; site = n }) [] (record { below = omega arith; is = e }) (All-nil _)

-- and each one is gathered
pub first_lanes_have : (I : Instance) (j n i cost : ℕ) → i < n → lane I (site_at I i).id (customer_at I j).id ≡ Some cost → Contains (first_lanes I j n) (record { cost = cost; site = i })
unfolding first_lanes
first_lanes_have I j zero i cost below is = absurd (omega arith)
first_lanes_have I j (suc n) i cost below is =
    elim (cases_eq i n) [
      | inl same ↦
          subst (λ k. Contains (first_lanes I j n ++ placed (lane I (site_at I n).id (customer_at I j).id) n) (record { cost = cost; site = k })) (sym same)
          (subst (λ o. Contains (first_lanes I j n ++ placed o n) (record { cost = cost; site = n })) (sym (subst (λ k. lane I (site_at I k).id (customer_at I j).id ≡ Some cost) same is))
          (Contains-push (first_lanes I j n) (record { cost = cost; site = n })))
      | inr other ↦
          Contains-append_left (first_lanes I j n) (placed (lane I (site_at I n).id (customer_at I j).id) n) (record { cost = cost; site = i })
          (first_lanes_have I j n i cost (omega (arith, other)) is)
    ]

-- they come from sites at rising places
pub first_lanes_rise : (I : Instance) (j n : ℕ) → AllPairs (λ a b. a.site < b.site) (first_lanes I j n)
unfolding first_lanes
first_lanes_rise I j zero = λ i k d before within. absurd (omega arith)
first_lanes_rise I j (suc n) = at (lane I (site_at I n).id (customer_at I j).id) (first_lanes_rise I j n)
  where
    at : (o : Option ℕ) → AllPairs (λ a b. a.site < b.site) (first_lanes I j n) → AllPairs (λ a b. a.site < b.site) (first_lanes I j n ++ placed o n)
    at None rise = subst (AllPairs (λ (a b : PlacedLane). a.site < b.site)) (sym (append-nil (first_lanes I j n))) rise
    at (Some cost) rise =
        all_pairs_push (λ (a b : PlacedLane). a.site < b.site) (first_lanes I j n) (record { cost = cost; site = n }) rise (λ k d b. (first_lanes_are I j n k d b).below)

-- whether two lanes come from one site
abbrev pub same_site : PlacedLane → PlacedLane → Bool
same_site a b = eqb a.site b.site

pub first_lanes_differ : (I : Instance) (j n : ℕ) → IsDistinct same_site (first_lanes I j n)
first_lanes_differ I j n =
    IsDistinct-from_apart same_site (first_lanes I j n) (λ i k d before within. let less = first_lanes_rise I j n i k d before within in ne_eqb _ _ (λ e. omega (arith, less, e)))
