-- What a scan needs of the instance with the cost at its far end, and what follows from how much the leaves lack there.
use Rattle.std.proofs.Common.{◌≡◌, ℕ, ◌≤◌, refl, ap, sym, subst, ◌∙◌, Bool, true, false, cond, List, [], ◌∷◌, length, arith, Option, None, Some}
use Rattle.std.specs.Prelude.{All, Contains, IsSome, IsTrue, ◌↔◌, ◌<◌, ◌==◌, ◌&&◌, ◌||◌, find, option_map}
use Rattle.std.specs.List.{list_any}
use Rattle.std.proofs.lemmas.Bool.{eqb-true, false≢true}
use Rattle.std.proofs.lemmas.List.{get_or-map}
use Rattle.location_terms.specs.declared.limits.TheConstants.{MAX_AMOUNT}
use Rattle.location_terms.specs.Instance.{Instance, Site, IsValid, site_at, site_ids, lane, fixed_of}
use Rattle.location_terms.proofs.Places.{length-site_ids}
use Rattle.location_terms.specs.Plan.{Plan, IsPlan, IsFeasible, cost_of}
use Rattle.location_terms.specs.Leaf.{LeafFits}
use Rattle.location_terms.specs.Optimal.{IsOptimal}
use Rattle.location_terms.specs.Tree.{Tree, leaves_of}
use Rattle.instance_store.specs.Changes.{with_fixed}
use Rattle.range_scan.specs.declared.range.Range.{Range}
use Rattle.range_scan.specs.Prices.{with_lane_costing, lane_cost_of}
use Rattle.range_scan.specs.Range.{IsProvedOptimal, IsInRange, IsCostRange}
use Rattle.range_scan.specs.Short.{IsLack, far_end, range_short}
use Rattle.range_scan.proofs.Alike.{DifferInCosts, no_site}
use Rattle.range_scan.proofs.FixedPrices.{fixed_costs_differ}
use Rattle.range_scan.proofs.LanePrices.{lane_costs_differ}
use Rattle.range_scan.proofs.Kept.{feasible_kept, fits_kept}
use Rattle.range_scan.proofs.PlanCosts.{PassesOnce, once_by_key, served_pairs}
use Rattle.range_scan.proofs.Ranges.{IsPriced, range_of_lack, optimal_within}
use Rattle.range_scan.proofs.Families.{fixed_priced, fixed_valid, fixed_here, fixed_small, lane_cost_priced, lane_valid, lane_here, lane_small, opens_as}

-- a plan is feasible and duals fit
pub record IsReady (J : Instance) (t : Tree) (P : Plan) : Type 0 where
  pub feasible : IsFeasible J P
  pub fit : All (λ l. LeafFits J l.1) (leaves_of t)

module _ (I : Instance) (valid : IsValid I) (t : Tree) (P : Plan) (now : IsProvedOptimal I t P) where
  module _ (s : ℕ) (known : Contains (site_ids I) s) where
    pub fixed_ready : (x : ℕ) (J : Instance) → J ≡ with_fixed I s x → IsReady J t P
    fixed_ready x J is =
        let h : DifferInCosts I (with_fixed I s x).sites I.lanes = fixed_costs_differ I s x in
        subst (λ K. IsReady K t P) (sym is) (record {
          feasible = feasible_kept I (with_fixed I s x).sites I.lanes h P now.shows.0.0;
          fit = λ k d b. fits_kept I (with_fixed I s x).sites I.lanes h _ (now.shows.1 k d b).fit;
        })

    pub fixed_scanned : (paid : Bool) (lack : ℕ) (J : Instance) → (IsTrue paid ↔ Contains P.sites s) → J ≡ with_fixed I s (far_end paid) → IsLack J (cost_of J P) (leaves_of t) lack
        → (lack ≤ MAX_AMOUNT) × IsCostRange (with_fixed I s) (fixed_of I s) t P (range_short paid lack)
    fixed_scanned paid lack J pays is lacks =
        range_of_lack (with_fixed I s) P t paid (fixed_of I s) lack
        (subst (IsPriced (with_fixed I s) P) (opens_as P s paid pays) (fixed_priced I valid s known P now.shows.0.0.plan))
        (fixed_small I valid s known)
        (subst (λ K. IsProvedOptimal K t P) (sym (fixed_here I valid s known)) now)
        (subst (λ K. IsLack K (cost_of K P) (leaves_of t) lack) is lacks)

    pub fixed_optimal : (r : Range) → IsCostRange (with_fixed I s) (fixed_of I s) t P r → (x : ℕ) → IsInRange r x → IsOptimal (with_fixed I s x) P
    fixed_optimal r is = optimal_within (with_fixed I s) P t (fixed_valid I valid s known) (fixed_of I s) r is

  module _ (s c : ℕ) (there : IsSome (lane I s c)) where
    pub lane_ready : (x : ℕ) (J : Instance) → J ≡ with_lane_costing I s c x → IsReady J t P
    lane_ready x J is =
        let h : DifferInCosts I I.sites (with_lane_costing I s c x).lanes = lane_costs_differ I s c there x in
        subst (λ K. IsReady K t P) (sym is) (record {
          feasible = feasible_kept I I.sites (with_lane_costing I s c x).lanes h P now.shows.0.0;
          fit = λ k d b. fits_kept I I.sites (with_lane_costing I s c x).lanes h _ (now.shows.1 k d b).fit;
        })

    pub lane_scanned : (paid : Bool) (lack : ℕ) (J : Instance) → paid ≡ list_any (λ v. (v.1 == s) && (v.0 == c)) P.serves → J ≡ with_lane_costing I s c (far_end paid) → IsLack J (cost_of J P) (leaves_of t) lack
        → (lack ≤ MAX_AMOUNT) × IsCostRange (with_lane_costing I s c) (lane_cost_of I s c) t P (range_short paid lack)
    lane_scanned paid lack J pays is lacks =
        range_of_lack (with_lane_costing I s c) P t paid (lane_cost_of I s c) lack
        (subst (IsPriced (with_lane_costing I s c) P) (sym pays) (lane_cost_priced I valid s c there P now.shows.0.0.plan))
        (lane_small I valid s c there)
        (subst (λ K. IsProvedOptimal K t P) (sym (lane_here I valid s c there)) now)
        (subst (λ K. IsLack K (cost_of K P) (leaves_of t) lack) is lacks)

    pub lane_optimal : (r : Range) → IsCostRange (with_lane_costing I s c) (lane_cost_of I s c) t P r → (x : ℕ) → IsInRange r x → IsOptimal (with_lane_costing I s c x) P
    lane_optimal r is = optimal_within (with_lane_costing I s c) P t (lane_valid I valid s c there) (lane_cost_of I s c) r is

-- the site at a place is one of the instance
pub site_known : (I : Instance) (i : ℕ) → i < length I.sites → Contains (site_ids I) (site_at I i).id
site_known I i b = (i, omega (arith, b, length-site_ids I), get_or-map (λ (y : Site). y.id) I.sites i no_site (site_at I i).id b)

-- The lane that a plan uses to a customer is the one that it is found to serve the customer by.

abbrev pub serves_by : ℕ → Option ℕ → Bool
serves_by s None = false
serves_by s (Some a) = a == s

settled : (b c : Bool) → c ≡ false → ((b && true) || c) ≡ b
settled true c none = refl
settled false c none = none

passed_over : (b c : Bool) → ((b && false) || c) ≡ c
passed_over true c = refl
passed_over false c = refl

module _ (s c : ℕ) where
  none_behind : (vs : List (ℕ × ℕ)) → list_any (λ v. v.0 == c) vs ≡ false → list_any (λ v. (v.1 == s) && (v.0 == c)) vs ≡ false
  none_behind [] none = refl
  none_behind (v ∷ vs) none = by (v.0 == c) refl (λ h. none_behind vs h)
    where
      by : (b : Bool) → (v.0 == c) ≡ b → (list_any (λ v. v.0 == c) vs ≡ false → list_any (λ v. (v.1 == s) && (v.0 == c)) vs ≡ false) → list_any (λ v. (v.1 == s) && (v.0 == c)) (v ∷ vs) ≡ false
      by true e rest = absurd (false≢true (sym none ∙ ap (λ t. t || list_any (λ v. v.0 == c) vs) e))
      by false e rest =
          ap (λ t. ((v.1 == s) && t) || list_any (λ v. (v.1 == s) && (v.0 == c)) vs) e
          ∙ passed_over (v.1 == s) _
          ∙ rest (sym (ap (λ t. t || list_any (λ v. v.0 == c) vs) e) ∙ none)

  used_by_found : (vs : List (ℕ × ℕ)) → PassesOnce (λ (v : ℕ × ℕ). v.0 == c) vs → list_any (λ v. (v.1 == s) && (v.0 == c)) vs ≡ serves_by s (option_map (λ v. v.1) (find (λ v. v.0 == c) vs))
  used_by_found [] once = refl
  used_by_found (v ∷ vs) once = by (v.0 == c) refl (used_by_found vs once.1)
    where
      by : (b : Bool) → (v.0 == c) ≡ b → list_any (λ v. (v.1 == s) && (v.0 == c)) vs ≡ serves_by s (option_map (λ v. v.1) (find (λ v. v.0 == c) vs))
          → list_any (λ v. (v.1 == s) && (v.0 == c)) (v ∷ vs) ≡ serves_by s (option_map (λ v. v.1) (find (λ v. v.0 == c) (v ∷ vs)))
      by true e rest =
          ap (λ t. ((v.1 == s) && t) || list_any (λ v. (v.1 == s) && (v.0 == c)) vs) e
          ∙ settled (v.1 == s) _ (none_behind vs (once.0 e))
          ∙ sym (ap (λ t. serves_by s (option_map (λ (v : ℕ × ℕ). v.1) (cond t (Some v) (find (λ v. v.0 == c) vs)))) e)
      by false e rest =
          ap (λ t. ((v.1 == s) && t) || list_any (λ v. (v.1 == s) && (v.0 == c)) vs) e
          ∙ passed_over (v.1 == s) _
          ∙ rest
          ∙ sym (ap (λ t. serves_by s (option_map (λ (v : ℕ × ℕ). v.1) (cond t (Some v) (find (λ v. v.0 == c) vs)))) e)

  pub uses_as_found : (P : Plan) → IsPlan P → list_any (λ v. (v.1 == s) && (v.0 == c)) P.serves ≡ serves_by s (option_map (λ v. v.1) (find (λ v. v.0 == c) P.serves))
  uses_as_found P plan = used_by_found P.serves (once_by_key (λ (v : ℕ × ℕ). v.0 == c) (λ v. v.0) c (λ v e. eqb-true v.0 c e) P.serves (served_pairs P plan))
