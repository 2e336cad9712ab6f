-- Which sites packing opens: the opened ones, none that is closed, and places of the instance alone.
use Rattle.std.proofs.Common.{◌≡◌, ◌⊎◌, ℕ, ◌-◌, ◌+◌, ◌<◌, Bool, true, false, List, ◌++◌, length, take, inl, inr}
use Rattle.std.specs.Prelude.{Contains, All, ◌&&◌, ◌||◌, not, filter}
use Rattle.std.proofs.lemmas.Bool.{or_cases, or_left, and_parts, and_from, not-true, not_from_false}
use Rattle.std.proofs.lemmas.List.Elements.{All-append, All-take, All-contains, All-weaker, filter_passes}
use Rattle.location_terms.specs.Instance.{Instance, site_at}
use Rattle.location_terms.specs.Box.{Path, is_closed, is_called_for, is_opened, is_free}
use Rattle.dual_ascent.specs.Levels.{site_places}
use Rattle.plan_search.specs.Packed.{is_among, opened_places, hinted, unhinted, joined, remaining, chosen}
use Rattle.plan_search.proofs.Among.{among-contains, passed, Contains-filter, place-contained, contained-place}

module _ (I : Instance) (path : Path) (hint : List ℕ) where
  abbrev IsFreeAt : ℕ → Type 0
  IsFreeAt i = is_free path (site_at I i) ≡ true

  all_free : (p : ℕ → Bool) → ((i : ℕ) → p i ≡ true → IsFreeAt i) → All IsFreeAt (filter p (site_places I))
  all_free p each = All-weaker (λ i. p i ≡ true) IsFreeAt each (filter p (site_places I)) (filter_passes p (site_places I))

  joined_free : All IsFreeAt (joined I path hint)
  joined_free =
      let missing : ℕ = I.lo - (length (opened_places I path) + length (hinted I path hint)) in
      let both : List ℕ = hinted I path hint ++ take missing (unhinted I path hint) in
      let free : All IsFreeAt both =
      All-append IsFreeAt (hinted I path hint) (take missing (unhinted I path hint))
      (all_free (λ i. is_free path (site_at I i) && is_among hint (site_at I i).id) (λ i t. (and_parts _ _ t).0))
      (All-take IsFreeAt missing (unhinted I path hint) (all_free (λ i. is_free path (site_at I i) && not (is_among hint (site_at I i).id)) (λ i t. (and_parts _ _ t).0))) in
      all_free (is_among both) (λ i t. All-contains IsFreeAt both i free (among-contains both i t))

  remaining_free : All IsFreeAt (remaining I path hint)
  remaining_free = All-take IsFreeAt (length (joined I path hint) - ((length (opened_places I path) + length (joined I path hint)) - I.hi)) (joined I path hint) joined_free

  -- a chosen site is one of the instance
  pub chosen_below : (i : ℕ) → Contains (chosen I path hint) i → i < length I.sites
  chosen_below i c = contained-place (length I.sites) i (passed (λ k. is_opened path (site_at I k) || is_among (remaining I path hint) k) (site_places I) i c).0

  -- and either opened in the box or free
  pub chosen_state : (i : ℕ) → Contains (chosen I path hint) i → (is_opened path (site_at I i) ≡ true) ⊎ (is_free path (site_at I i) ≡ true)
  chosen_state i c =
      elim (or_cases _ _ (passed (λ k. is_opened path (site_at I k) || is_among (remaining I path hint) k) (site_places I) i c).1) [
        | inl opened ↦ inl opened
        | inr among ↦ inr (All-contains IsFreeAt (remaining I path hint) i remaining_free (among-contains (remaining I path hint) i among))
      ]

  -- so it isn't closed
  pub chosen_not_closed : (i : ℕ) → Contains (chosen I path hint) i → is_closed path (site_at I i) ≡ false
  chosen_not_closed i c =
      elim (chosen_state i c) [
        | inl opened ↦ not-true _ (and_parts _ _ opened).1
        | inr free ↦ not-true _ (and_parts _ _ free).1
      ]

  -- a site that is opened in the box is chosen
  opened_chosen : (i : ℕ) → i < length I.sites → is_opened path (site_at I i) ≡ true → Contains (chosen I path hint) i
  opened_chosen i b opened =
      Contains-filter (λ k. is_opened path (site_at I k) || is_among (remaining I path hint) k) (site_places I) i (place-contained (length I.sites) i b) (or_left _ _ opened)

  -- so is one that is called for and not closed
  pub called_chosen : (i : ℕ) → i < length I.sites → is_called_for path (site_at I i) ≡ true → is_closed path (site_at I i) ≡ false → Contains (chosen I path hint) i
  called_chosen i b called not_closed = opened_chosen i b (and_from _ _ called (not_from_false _ not_closed))
