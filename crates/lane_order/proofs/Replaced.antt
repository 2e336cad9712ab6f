-- The lanes to a customer with the lane from one site taken out, and with another one put in.
use Rattle.std.proofs.Common.{◌≡◌, ◌≢◌, ℕ, inl, inr, List, All, Contains, None, Some, get_or, sym, ap, subst, ◌∙◌}
use Rattle.std.proofs.lemmas.List.{get_or_default}
use Rattle.lane_order.specs.declared.order.PlacedLane.{PlacedLane}
use Rattle.lane_order.specs.Listed.{IsWith, IsWithout, IsLaneFrom, HaveSameOthers}

abbrev pub from_site : ℕ → ℕ → PlacedLane
from_site site cost = record { cost = cost; site = site }

one_cost : (a b : ℕ) → Some a ≡ Some b → a ≡ b
one_cost a b same = cc

no_cost : (a : ℕ) → None ≡ Some a → ⊥
no_cost a wrong = cc

pub same_others : (site : ℕ) (lanes : List PlacedLane) → HaveSameOthers site lanes lanes
same_others site lanes = λ l other. (λ k. k, λ k. k)

pub others_both : (site : ℕ) (a b c : List PlacedLane) → HaveSameOthers site a b → HaveSameOthers site b c → HaveSameOthers site a c
others_both site a b c first second = λ l other. (λ k. (first l other).0 ((second l other).0 k), λ k. (second l other).1 ((first l other).1 k))

module _ (site cost : ℕ) (old new : List PlacedLane) where
  pub gone : IsLaneFrom site (Some cost) old → IsWithout (from_site site cost) old new → IsLaneFrom site None new
  gone was without = λ c. (
    λ k.
        let same : cost ≡ c = one_cost cost c ((was c).0 (without.from (from_site site c) k)) in
        absurd (without.gone (subst (λ n. Contains new (from_site site n)) (sym same) k)),
    λ wrong. absurd (no_cost c wrong),
  )

  pub others_without : IsWithout (from_site site cost) old new → HaveSameOthers site old new
  others_without without = λ l other. (without.from l, λ k. without.kept l k (λ same. other (ap (λ (m : PlacedLane). m.site) same)))

  pub there : IsLaneFrom site None old → IsWith (from_site site cost) old new → IsLaneFrom site (Some cost) new
  there was with = λ c. (
    λ k. elim (with.from (from_site site c) k) [ inl same ↦ ap (λ (l : PlacedLane). Some l.cost) (sym same) | inr before ↦ absurd (no_cost c ((was c).0 before)) ],
    λ same. subst (λ n. Contains new (from_site site n)) (one_cost cost c same) with.has,
  )

  pub others_with : IsWith (from_site site cost) old new → HaveSameOthers site old new
  others_with with = λ l other. (
    λ k. elim (with.from l k) [ inl same ↦ absurd (other (ap (λ (m : PlacedLane). m.site) same)) | inr before ↦ before ],
    with.kept l,
  )

-- where there is no lane from the site, all are from others
pub from_others : (site : ℕ) (lanes : List PlacedLane) → IsLaneFrom site None lanes → All (λ other. other.site ≢ site) lanes
from_others site lanes none k d within same =
    let l = get_or lanes k d in
    let wanted = from_site site l.cost in
    let is : l ≡ wanted = λ n. record { cost = l.cost; site = same n } in
    no_cost l.cost ((none l.cost).0 (k, within, get_or_default lanes k wanted d within ∙ is))
