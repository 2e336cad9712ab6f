-- Whether a customer pays more than one of some sites, found out at a list of their places.
use Rattle.std.proofs.Common.{◌≡◌, ℕ, ◌<◌, sym, ap, ◌∙◌, arith, Bool, true, false, List, length, get_or}
use Rattle.std.proofs.lemmas.List.{get_or_default}
use Rattle.location_terms.specs.Instance.{Instance}
use Rattle.location_terms.specs.Box.{Path}
use Rattle.location_terms.specs.Bound.{Duals}
use Rattle.dual_adjust.specs.Slackness.{is_violating}
use Rattle.dual_adjust.specs.Paid.{is_paid, ArePlacesOf}
use Rattle.dual_adjust.proofs.MoreThanOne.{IsSeen, seen_same}
use Rattle.dual_adjust.proofs.Violating.{two_paid, one_paid}

module _ (I : Instance) (path : Path) (d : Duals) (j : ℕ) (places : List ℕ) where
  abbrev pub pays : ℕ → Bool
  pays i = is_paid I path d i j

  abbrev pub place : ℕ → ℕ
  place r = get_or places r 0

  module _ (ids : List ℕ) (of : ArePlacesOf I ids places) where
    -- the next one is the second
    pub second_place : (k : ℕ) → k < length places → IsSeen pays place k true → pays (place k) ≡ true → is_violating I path d ids j ≡ true
    second_place k b found passes =
        let here = found.1 in
        let c : found.0 < length places = omega (arith, here, b) in
        two_paid I path d j ids (place found.0) (place k) (of.known found.0 0 c, of.named found.0 0 c, found.2) (of.known k 0 b, of.named k 0 b, passes) (of.apart found.0 k 0 here b)

    -- there is no other
    pub no_second_place : (seen : Bool) → IsSeen pays place (length places) seen → is_violating I path d ids j ≡ false
    no_second_place seen all_seen =
        let one = seen_same pays place seen (length places) all_seen in
        one_paid I path d j ids one.0 (λ i h.
        let c = of.all i h.0 h.1 in
        let at : place c.0 ≡ i = get_or_default places c.0 0 i c.1 ∙ c.2 in
        sym at ∙ one.1 c.0 c.1 (ap pays at ∙ h.2))
