-- The first lane with a greater cost is the one at the place where the greater costs begin.
use Rattle.std.proofs.Common.{◌≡◌, ℕ, ◌<◌, ◌≤◌, Bool, true, false, inl, inr, leb, nat_lt, List, map, length, None, Some, find, get_or, slice_get, refl, sym, ap, ◌∙◌, arith}
use Rattle.std.proofs.lemmas.Bool.{cases_lt, le-ltb, lt-ltb, leb-true, leb-false}
use Rattle.std.proofs.lemmas.List.{length-map, get_or-map}
use Rattle.std.proofs.lemmas.List.Recursion.{found_at, found_nowhere}
use Rattle.std.proofs.lemmas.Option.{slice_get-get_or, slice_get_past}
use Rattle.std.specs.List.{AllWithin}
use Rattle.lane_order.specs.declared.order.PlacedLane.{PlacedLane}
use Rattle.lane_order.specs.Placed.{named}

module _ (ids : List ℕ) (lanes : List PlacedLane) (cost rank : ℕ) (cheap : AllWithin (λ l. leb l.cost cost ≡ true) lanes 0 rank) (dear : AllWithin (λ l. leb l.cost cost ≡ false) lanes rank (length lanes)) where
  abbrev none_at : PlacedLane
  none_at = record { cost = 0; site = 0 }

  abbrev costs_more : ℕ × ℕ → Bool
  costs_more l = nat_lt cost l.0

  abbrev seen : List (ℕ × ℕ)
  seen = map (named ids) lanes

  at : (k : ℕ) → k < length lanes → get_or seen k (named ids none_at) ≡ named ids (get_or lanes k none_at)
  at k within = get_or-map (named ids) lanes k none_at (named ids none_at) within

  fails : (k : ℕ) → k < rank → k < length lanes → costs_more (get_or seen k (named ids none_at)) ≡ false
  fails k below within = ap costs_more (at k within) ∙ le-ltb cost _ (leb-true _ _ (cheap k none_at (omega arith) below))

  pub rank_is : rank ≤ length lanes → slice_get seen rank ≡ find costs_more seen
  rank_is bound =
      let same : length seen ≡ length lanes = length-map lanes (named ids) in
      elim (cases_lt rank (length lanes)) [
        | inl within ↦
            slice_get-get_or seen rank (named ids none_at) (omega (arith, same, within))
            ∙ sym (found_at (λ ys. find costs_more ys) costs_more Some None refl (λ _ _. refl) seen rank (named ids none_at) (omega (arith, same, within))
            (λ k below. fails k below (omega (arith, below, within)))
            (ap costs_more (at rank within) ∙ lt-ltb cost _ (leb-false _ _ (dear rank none_at (omega arith) within))))
        | inr past ↦
            slice_get_past seen rank (omega (arith, same, past))
            ∙ sym (found_nowhere (λ ys. find costs_more ys) costs_more Some None refl (λ _ _. refl) seen (named ids none_at)
            (λ k below. fails k (omega (arith, same, past, below)) (omega (arith, same, below))))
      ]
