-- Which customers pay more than one of some sites: those that pay two that differ.
use Rattle.std.proofs.Common.{◌≡◌, ◌≢◌, ℕ, ◌<◌, sym, ap, subst, ◌∙◌, arith, Bool, true, false, List, length, get_or}
use Rattle.std.specs.Prelude.{◌==◌, ◌&&◌, Any, Contains, filter, int_lt}
use Rattle.std.specs.List.{list_any}
use Rattle.std.specs.List.Sorted.{IsStrictlyIncreasing}
use Rattle.std.proofs.lemmas.Bool.{and_parts, and_from, eqb-true, eq-eqb, lt-ltb, le-ltb}
use Rattle.std.proofs.lemmas.List.{length-map, get_or-map}
use Rattle.std.proofs.lemmas.List.Elements.{All-contains, All-filter, filter_passes}
use Rattle.std.proofs.lemmas.List.Folds.{Any-from_list_any, list_any_at}
use Rattle.std.proofs.lemmas.List.FromFn.{get_or-range_with_len, length-range_with_len}
use Rattle.std.proofs.lemmas.List.Kept.{IsStrictlyIncreasing-filter}
use Rattle.location_terms.specs.Instance.{Instance, IsValid, site_at, customer_at}
use Rattle.location_terms.specs.Box.{Path, is_allowed}
use Rattle.location_terms.specs.Bound.{Duals, v_at, level_at}
use Rattle.location_terms.proofs.Rising.{one_place}
use Rattle.dual_ascent.specs.Levels.{site_places, servers}
use Rattle.dual_ascent.proofs.Ceiling.{places_below}
use Rattle.dual_adjust.specs.Slackness.{is_tight, tight_sites, is_violating, paid_places}
use Rattle.dual_adjust.specs.Paid.{is_paid, is_named}
use Rattle.dual_adjust.proofs.IdsRise.{places_rise}
use Rattle.dual_adjust.proofs.MoreThanOne.{kept_by, two_pass, one_passes}

module _ (I : Instance) (path : Path) where
  is_place : (i : ℕ) → i < length I.sites → Contains (site_places I) i
  is_place i b =
      let at : get_or (site_places I) i i ≡ i = omega (arith, get_or-range_with_len 0 (length I.sites) i i b) in
      (i, omega (arith, b, length-range_with_len 0 (length I.sites)), at)

  -- the places of the sites with an allowed lane to the customer
  pub is_server : (i j : ℕ) → i < length I.sites → is_allowed I path (site_at I i) (customer_at I j) ≡ true → Contains (servers I path j) i
  is_server i j b allowed = kept_by (λ k. is_allowed I path (site_at I k) (customer_at I j)) (site_places I) i (is_place i b) allowed

  pub server_within : (i j : ℕ) → Contains (servers I path j) i → (i < length I.sites) × (is_allowed I path (site_at I i) (customer_at I j) ≡ true)
  server_within i j c =
      let allows : ℕ → Bool = λ k. is_allowed I path (site_at I k) (customer_at I j) in (
        All-contains (λ k. k < length I.sites) (servers I path j) i (All-filter allows (λ k. k < length I.sites) (site_places I) (places_below (length I.sites))) c,
        All-contains (λ k. allows k ≡ true) (servers I path j) i (filter_passes allows (site_places I)) c,
      )

  servers_rise : (j : ℕ) → IsStrictlyIncreasing (servers I path j)
  servers_rise j = IsStrictlyIncreasing-filter (λ i. is_allowed I path (site_at I i) (customer_at I j)) (site_places I) (places_rise (length I.sites))

  module _ (d : Duals) (j : ℕ) (ids : List ℕ) where
    abbrev pays : ℕ → Bool
    pays i = list_any (λ s. s == (site_at I i).id) ids && int_lt (level_at I d i j) (v_at d j)

    -- the customer pays this one of the sites
    abbrev pub PaysNamed : ℕ → Type 0
    PaysNamed i = (i < length I.sites) × (is_named I ids i ≡ true) × (is_paid I path d i j ≡ true)

    paid_server : (i : ℕ) → PaysNamed i → Contains (servers I path j) i × (pays i ≡ true)
    paid_server i h =
        let parts = and_parts (is_allowed I path (site_at I i) (customer_at I j)) (int_lt (level_at I d i j) (v_at d j)) h.2 in
        (is_server i j h.0 parts.0, and_from (is_named I ids i) (int_lt (level_at I d i j) (v_at d j)) h.1 parts.1)

    -- it pays two that differ
    pub two_paid : (i k : ℕ) → PaysNamed i → PaysNamed k → i ≢ k → is_violating I path d ids j ≡ true
    two_paid i k a b apart =
        let first = paid_server i a in
        let second = paid_server k b in
        lt-ltb 1 (length (paid_places I path d ids j)) (two_pass pays (servers I path j) i k first.0 second.0 first.1 second.1 apart)

    -- each one that it pays is the same
    pub one_paid : (one : ℕ) → ((i : ℕ) → PaysNamed i → i ≡ one) → is_violating I path d ids j ≡ false
    one_paid one same =
        le-ltb 1 (length (paid_places I path d ids j))
        (one_passes pays (servers I path j) (servers_rise j) one (λ i c t.
        let within = server_within i j c in
        let parts = and_parts (is_named I ids i) (int_lt (level_at I d i j) (v_at d j)) t in
        same i (within.0, parts.0, and_from (is_allowed I path (site_at I i) (customer_at I j)) (int_lt (level_at I d i j) (v_at d j)) within.1 parts.1)))

  -- a site is named among the tight ones where it is tight
  module _ (d : Duals) (valid : IsValid I) (i : ℕ) (b : i < length I.sites) where
    abbrev tight_places : List ℕ
    tight_places = filter (is_tight I path d) (site_places I)

    pub tight_is_named : is_tight I path d i ≡ true → is_named I (tight_sites I path d) i ≡ true
    tight_is_named t =
        let c = kept_by (is_tight I path d) (site_places I) i (is_place i b) t in
        let id : ℕ → ℕ = λ k. (site_at I k).id in
        let inside : c.0 < length (tight_sites I path d) = let h = c.1 in omega (arith, h, length-map tight_places id) in
        let at : get_or (tight_sites I path d) c.0 0 ≡ id i = get_or-map id tight_places c.0 i 0 c.1 ∙ ap id c.2 in
        list_any_at (λ s. s == id i) (tight_sites I path d) c.0 0 inside (eq-eqb (get_or (tight_sites I path d) c.0 0) (id i) at)

    pub named_is_tight : is_named I (tight_sites I path d) i ≡ true → is_tight I path d i ≡ true
    named_is_tight named =
        let id : ℕ → ℕ = λ k. (site_at I k).id in
        let found : Any (λ s. (s == id i) ≡ true) (tight_sites I path d) = Any-from_list_any (λ s. s == id i) (tight_sites I path d) named in
        let inside : found.0 < length tight_places = let h = found.2 in omega (arith, h, length-map tight_places id) in
        let k : ℕ = get_or tight_places found.0 0 in
        let tight : is_tight I path d k ≡ true = filter_passes (is_tight I path d) (site_places I) found.0 0 inside in
        let k_within : k < length I.sites = All-filter (is_tight I path d) (λ m. m < length I.sites) (site_places I) (places_below (length I.sites)) found.0 0 inside in
        let same_id : id k ≡ id i = sym (get_or-map id tight_places found.0 0 found.1 inside) ∙ found.3 ∙ eqb-true found.1 (id i) found.4 in
        let same : k ≡ i = one_place (λ s. s.id) I.sites _ valid.sites_named.rising k i k_within b same_id in
        subst (λ m. is_tight I path d m ≡ true) same tight
