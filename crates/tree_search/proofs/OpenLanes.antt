-- A lane to a customer that has another one may be split on.
use Rattle.std.proofs.Common.{◌≡◌, ℕ, ◌<◌, refl, sym, subst, inl, inr, arith, Bool, true, length}
use Rattle.std.specs.Prelude.{Contains, ◌==◌, not}
use Rattle.std.specs.List.{list_any, range_with_len}
use Rattle.std.proofs.lemmas.Bool.{and_from, both_ways, cases_Bool, cases_eq, eq-eqb, ne_eqb, not_from_false}
use Rattle.std.proofs.lemmas.List.Folds.{list_any_at}
use Rattle.location_terms.specs.declared.decision.Decision.TheVariants.{Yes}
use Rattle.location_terms.specs.Instance.{Instance, IsValid, site_at, customer_at}
use Rattle.location_terms.specs.Box.{Path, bars_lane, is_allowed}
use Rattle.location_terms.proofs.Rising.{one_place}
use Rattle.dual_ascent.specs.Levels.{servers}
use Rattle.dual_adjust.proofs.IdsRise.{places_rise}
use Rattle.dual_adjust.proofs.MoreThanOne.{one_passes}
use Rattle.plan_search.specs.InBox.{HasNoCaps}
use Rattle.plan_search.proofs.Among.{contained-place}
use Rattle.dual_ascent.proofs.Walked.{lane_parts}
use Rattle.tree_search.specs.Made.{has_cap, IsOpenLane}
use Rattle.tree_search.specs.Working.{HasNoFreeSite, IsSettled}
use Rattle.tree_search.proofs.ZeroBound.{none_capped, uncapped}

-- where none is told to have a capacity, only the sites are to be settled
pub uncapped_settled : (I J : Instance) (path : Path) → J ≡ I → HasNoCaps J → HasNoFreeSite I path → IsSettled I path
uncapped_settled I J path same none none_free =
    record { sites = none_free; lanes = λ caps. absurd (both_ways (has_cap I) (none_capped I (subst HasNoCaps same none)) caps) }

-- and where it isn't so, one has
pub capped : (I J : Instance) → J ≡ I → (HasNoCaps J → ⊥) → has_cap I ≡ true
capped I J same some = elim (cases_Bool (has_cap I)) [ inl caps ↦ caps | inr none ↦ absurd (some (subst HasNoCaps (sym same) (uncapped I none))) ]

module _ (I : Instance) (path : Path) (valid : IsValid I) (i j : ℕ) (within : i < length I.sites) (allowed : is_allowed I path (site_at I i) (customer_at I j) ≡ true) (others : 1 < length (servers I path j)) where
  -- a yes to the lane would bar each other one
  not_decided : Contains path (Yes (site_at I i).id (customer_at I j).id) → ⊥
  not_decided decided =
      let allows : ℕ → Bool = λ k. is_allowed I path (site_at I k) (customer_at I j) in
      let same : (k : ℕ) → k < length I.sites → allows k ≡ true → k ≡ i =
      λ k b also. elim (cases_eq k i) [
        | inl here ↦ here
        | inr other ↦
            let bars : bars_lane (site_at I k).id (customer_at I j).id (Yes (site_at I i).id (customer_at I j).id) ≡ true =
            and_from (not ((site_at I k).id == (site_at I i).id)) ((customer_at I j).id == (customer_at I j).id)
            (not_from_false ((site_at I k).id == (site_at I i).id) (ne_eqb (site_at I k).id (site_at I i).id (λ ids. other (one_place (λ s. s.id) I.sites _ valid.sites_named.rising k i b within ids))))
            (eq-eqb (customer_at I j).id (customer_at I j).id refl) in
            absurd (both_ways (list_any (bars_lane (site_at I k).id (customer_at I j).id) path) (lane_parts I path k j also).3
            (list_any_at (bars_lane (site_at I k).id (customer_at I j).id) path decided.0 (Yes (site_at I i).id (customer_at I j).id) decided.1 (subst (λ e. bars_lane (site_at I k).id (customer_at I j).id e ≡ true) (sym decided.2) bars)))
      ] in
      let few = one_passes allows (range_with_len 0 (length I.sites)) (places_rise (length I.sites)) i (λ k c also. same k (contained-place (length I.sites) k c) also) in
      omega (arith, few, others)

  pub open_lane : has_cap I ≡ true → HasNoFreeSite I path → j < length I.customers → (s c : ℕ) → s ≡ (site_at I i).id → c ≡ (customer_at I j).id → IsOpenLane I path s c
  open_lane caps none_free known s c site customer = record {
    capacitated = caps;
    none_free = none_free;
    site = i;
    customer = j;
    site_within = within;
    customer_within = known;
    site_named = sym site;
    customer_named = sym customer;
    allowed = allowed;
    undecided = λ decided. not_decided (subst (λ (p : ℕ × ℕ). Contains path (Yes p.0 p.1)) (λ n. (site n, customer n)) decided);
    others = others;
  }
