-- The sites that packing opens, found step by step as flags.
use Rattle.std.proofs.Common.{◌≡◌, ℕ, ◌+◌, ◌-◌, Bool, true, false, List, ◌++◌, length, take, refl, sym, ap, ◌∙◌, arith}
use Rattle.std.specs.Prelude.{filter, ◌==◌, ◌&&◌, ◌||◌, not}
use Rattle.std.proofs.lemmas.List.Folds.{list_any-append}
use Rattle.location_terms.specs.Instance.{Instance, site_at}
use Rattle.location_terms.specs.Box.{Path, is_free, is_opened}
use Rattle.dual_ascent.specs.Levels.{site_places}
use Rattle.plan_search.specs.Packed.{is_among, opened_places, hinted, unhinted, joined, remaining, chosen}
use Rattle.plan_search.specs.Flags.{is_set, flagged, AreFlags}
use Rattle.plan_search.proofs.Flagging.{passing_same, flagged_are, among-flagged}
use Rattle.plan_search.proofs.Hinted.{AreHinted}

but_not : (a b : Bool) → (a && not (a && b)) ≡ (a && not b)
but_not true b = refl
but_not false b = refl

module _ (I : Instance) (path : Path) (hint : List ℕ) (first : List Bool) (are : AreHinted I path hint first) where
  hinted_is : flagged first ≡ hinted I path hint
  hinted_is = flagged_are (λ i. is_free path (site_at I i) && is_among hint (site_at I i).id) (length I.sites) first are

  -- the free sites that aren't flagged
  abbrev unflagged : List ℕ
  unflagged = filter (λ k. is_free path (site_at I k) && not (is_set first k)) (site_places I)

  unflagged_is : unflagged ≡ unhinted I path hint
  unflagged_is =
      passing_same (λ k. is_free path (site_at I k) && not (is_set first k)) (λ k. is_free path (site_at I k) && not (is_among hint (site_at I k).id)) (length I.sites)
      (λ i b. ap (λ t. is_free path (site_at I i) && not t) (are.each i b) ∙ but_not (is_free path (site_at I i)) (is_among hint (site_at I i).id))

  module _ (most : ℕ) (missing : most ≡ I.lo - (length (opened_places I path) + length (flagged first))) (second : List Bool) (more : AreFlags (λ i. is_set first i || is_among (take most unflagged) i) (length I.sites) second) where
    joins : take most unflagged ≡ take (I.lo - (length (opened_places I path) + length (hinted I path hint))) (unhinted I path hint)
    joins = ap (take most) unflagged_is ∙ ap (λ n. take n (unhinted I path hint)) (missing ∙ ap (λ (xs : List ℕ). I.lo - (length (opened_places I path) + length xs)) hinted_is)

    joined_is : flagged second ≡ joined I path hint
    joined_is =
        flagged_are (λ i. is_set first i || is_among (take most unflagged) i) (length I.sites) second more
        ∙ passing_same (λ i. is_set first i || is_among (take most unflagged) i) (is_among (hinted I path hint ++ take (I.lo - (length (opened_places I path) + length (hinted I path hint))) (unhinted I path hint))) (length I.sites)
        (λ i b.
        ap (λ t. t || is_among (take most unflagged) i) (sym (among-flagged first i (omega (arith, b, are.long))) ∙ ap (λ xs. is_among xs i) hinted_is)
        ∙ ap (λ xs. is_among (hinted I path hint) i || is_among xs i) joins
        ∙ sym (list_any-append (λ k. k == i) (hinted I path hint) (take (I.lo - (length (opened_places I path) + length (hinted I path hint))) (unhinted I path hint))))

    module _ (kept : ℕ) (keeps : kept ≡ length (flagged second) - ((length (opened_places I path) + length (flagged second)) - I.hi)) (third : List Bool) (long : length third ≡ length I.sites) (cut : flagged third ≡ take kept (flagged second)) where
      remaining_is : flagged third ≡ remaining I path hint
      remaining_is =
          cut ∙ ap (take kept) joined_is
          ∙ ap (λ n. take n (joined I path hint)) (keeps ∙ ap (λ (xs : List ℕ). length xs - ((length (opened_places I path) + length xs) - I.hi)) joined_is)

      pub chosen_is : (fourth : List Bool) → AreFlags (λ i. is_opened path (site_at I i) || is_set third i) (length I.sites) fourth → flagged fourth ≡ chosen I path hint
      chosen_is fourth last =
          flagged_are (λ i. is_opened path (site_at I i) || is_set third i) (length I.sites) fourth last
          ∙ passing_same (λ i. is_opened path (site_at I i) || is_set third i) (λ i. is_opened path (site_at I i) || is_among (remaining I path hint) i) (length I.sites)
          (λ i b. ap (λ t. is_opened path (site_at I i) || t) (sym (among-flagged third i (omega (arith, b, long))) ∙ ap (λ xs. is_among xs i) remaining_is))
