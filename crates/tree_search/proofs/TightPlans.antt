-- Without capacities and with a free number of open sites the tight sites of blocked duals give a plan.
use Rattle.std.proofs.Common.{◌≡◌, ◌⊎◌, ℕ, ◌<◌, Bool, true, false, length, Some, inl, inr, refl, pos}
use Rattle.std.specs.Prelude.{Contains, ◌&&◌, ◌||◌, not, filter, int_le}
use Rattle.std.proofs.lemmas.Bool.{and_parts, and_from, or_cases, or_right}
use Rattle.location_terms.specs.Instance.{Instance, IsValid, site_at}
use Rattle.location_terms.specs.Plan.{Plan}
use Rattle.location_terms.specs.Box.{Path, is_opened, is_called_for, is_closed}
use Rattle.location_terms.specs.Bound.{Duals, slack_of}
use Rattle.dual_ascent.specs.Levels.{site_places}
use Rattle.dual_ascent.specs.Ascent.{IsBlocked}
use Rattle.dual_ascent.proofs.Blocked.{blocked_reaches}
use Rattle.dual_adjust.specs.Slackness.{is_tight, tight_sites}
use Rattle.plan_search.specs.InBox.{HasNoCaps}
use Rattle.plan_search.specs.Packed.{chosen, packed}
use Rattle.plan_search.proofs.Among.{contains-among, Contains-map, Contains-filter, place-contained}
use Rattle.plan_search.proofs.OpenSites.{called_chosen}
use Rattle.dual_ascent.proofs.Walked.{lane_parts}
use Rattle.tree_search.specs.Made.{AreServed}
use Rattle.tree_search.specs.Answer.{HasFreeCount}
use Rattle.tree_search.proofs.OpenPlans.{hinted_chosen, served_packs}

open_or_free : (called closed : Bool) → closed ≡ false → (called ≡ true) ⊎ ((not called && not closed) ≡ true)
open_or_free true closed e = inl refl
open_or_free false false e = inr refl
open_or_free false true e = cc

module _ (I : Instance) (path : Path) (d : Duals) (valid : IsValid I) (no_caps : HasNoCaps I) (free_count : HasFreeCount I) (served : AreServed I path) (blocked : IsBlocked I path d) where
  -- a spent site that isn't closed is chosen
  spent_chosen : (i : ℕ) → i < length I.sites → is_closed path (site_at I i) ≡ false → (is_opened path (site_at I i) || int_le (slack_of I path d i) (pos 0)) ≡ true → Contains (chosen I path (tight_sites I path d)) i
  spent_chosen i b not_closed spent =
      elim (open_or_free (is_called_for path (site_at I i)) (is_closed path (site_at I i)) not_closed) [
        | inl called ↦ called_chosen I path (tight_sites I path d) i b called not_closed
        | inr free ↦ elim (or_cases (is_opened path (site_at I i)) (int_le (slack_of I path d i) (pos 0)) spent) [
          | inl opened ↦ called_chosen I path (tight_sites I path d) i b (and_parts _ _ opened).0 not_closed
          | inr nothing ↦
              let tight : is_tight I path d i ≡ true = or_right _ _ (and_from _ _ free nothing) in
              hinted_chosen I path (tight_sites I path d) free_count i b free
              (contains-among (tight_sites I path d) (site_at I i).id (Contains-map (λ k. (site_at I k).id) (filter (is_tight I path d) (site_places I)) i (Contains-filter (is_tight I path d) (site_places I) i (place-contained (length I.sites) i b) tight)))
        ]
      ]

  pub tight_plans : (P : Plan) × (packed I path (tight_sites I path d) ≡ Some P)
  tight_plans =
      served_packs I path (tight_sites I path d) free_count no_caps
      (λ j b.
      let reach = blocked_reaches I path d j (served j b) (blocked j b) in
      (reach.0, spent_chosen reach.0 reach.1 (lane_parts I path reach.0 j reach.2).2 reach.4, reach.2))
