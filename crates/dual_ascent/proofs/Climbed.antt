-- Rounds of an ascent one after the other, up to the first that changes nothing.
use Rattle.std.proofs.Common.{◌≡◌, ℕ, suc, ◌<◌, sym, ap, subst, ◌∙◌, arith, length, Option, None, pos, ◌<ℤ◌}
use Rattle.std.specs.Int.{int_gap}
use Rattle.location_terms.specs.Instance.{Instance, IsValid}
use Rattle.location_terms.specs.Box.{Path}
use Rattle.location_terms.specs.Bound.{Duals, total}
use Rattle.location_terms.specs.Fit.{AreTame}
use Rattle.location_terms.specs.declared.limits.TheConstants.{MAX_VALUE}
use Rattle.dual_ascent.specs.Levels.{customer_places}
use Rattle.dual_ascent.specs.Ascent.{round, rounds, IsAscendedOver, IsAscended}
use Rattle.dual_ascent.specs.Steps.{picks, picked, IsClimbed}
use Rattle.dual_ascent.proofs.Rounds.{AreKnown, value_sum}
use Rattle.dual_ascent.proofs.Tame.{tame_has_room, tame_is_under}
use Rattle.dual_ascent.proofs.Turns.{all_kept, first_known, turns_all, turns_tame, left_falls}

module _ (I : Instance) (path : Path) (apart : Option ℕ) where
  pub picked_known : AreKnown I path (picked I apart)
  picked_known = first_known I path (picks apart) (length I.customers) (omega arith)

  pub one_more : (start d e : Duals) (n : ℕ) → d ≡ rounds I path (picked I apart) start n → e ≡ round I path (picked I apart) d → e ≡ rounds I path (picked I apart) start (suc n)
  unfolding rounds
  one_more start d e n after is = is ∙ ap (round I path (picked I apart)) after

  pub climb_ends : (start d e : Duals) (n : ℕ) → d ≡ rounds I path (picked I apart) start n → e ≡ round I path (picked I apart) d → e ≡ d → IsClimbed I path (picked I apart) start e
  climb_ends start d e n after is same = record { count = n; after = same ∙ after; settled = ap (round I path (picked I apart)) same ∙ sym is }

  module _ (valid : IsValid I) (d e : Duals) (tame : AreTame I d) (is : e ≡ round I path (picked I apart) d) where
    pub round_tame : AreTame I e
    round_tame = subst (λ (f : Duals). AreTame I f) (turns_all I path (picks apart) d ∙ sym is) (turns_tame I path (picks apart) d tame.fit.of_instance.customers (length I.customers) (omega arith) valid tame)

    -- what is left below the greatest value falls with a round that changes something
    pub round_falls : value_sum I path d <ℤ value_sum I path e → int_gap (value_sum I path e) (total (λ _. pos MAX_VALUE) (length I.customers)) < int_gap (value_sum I path d) (total (λ _. pos MAX_VALUE) (length I.customers))
    round_falls more =
        let Less : Duals → Type 0 = λ f. int_gap (value_sum I path f) (total (λ _. pos MAX_VALUE) (length I.customers)) < int_gap (value_sum I path d) (total (λ _. pos MAX_VALUE) (length I.customers)) in
        subst Less (sym is)
        (left_falls I path (pos MAX_VALUE) (picked I apart) picked_known d tame.fit.of_instance.customers (tame_has_room I path valid d tame) (tame_is_under I path valid d tame) (subst (λ (f : Duals). value_sum I path d <ℤ value_sum I path f) is more))

-- the ascent that passes over nobody is that over all customers
pub over_all : (I : Instance) (path : Path) (start result : Duals) → IsAscendedOver I path (picked I None) start result → IsAscended I path start result
over_all I path start result asc = subst (λ customers. IsAscendedOver I path customers start result) (all_kept (customer_places I)) asc
