-- The places of the sites of some ids, found one after the other.
use Rattle.std.proofs.Common.{◌≡◌, ◌≢◌, ℕ, ◌+◌, ◌<◌, sym, ap, subst, ◌∙◌, inl, inr, arith, true, List, [], ◌∷◌, ◌++◌, take, length, get_or}
use Rattle.std.specs.Prelude.{◌==◌, ◌||◌, Any, Contains}
use Rattle.std.specs.List.Sorted.{IsStrictlyIncreasing}
use Rattle.std.proofs.lemmas.Bool.{eqb-true, eq-eqb, or_cases, or_right}
use Rattle.std.proofs.lemmas.List.{get_or-map, length-take, get_or-take, get_or_default}
use Rattle.std.proofs.lemmas.List.Elements.{All-push, All-weaker, Contains-append_left, Contains-push}
use Rattle.std.proofs.lemmas.List.Folds.{Any-from_list_any, list_any_more, list_any_kept}
use Rattle.std.proofs.lemmas.List.Kept.{AllPairs-from_increasing}
use Rattle.std.proofs.lemmas.List.Quantifiers.{all_pairs_push}
use Rattle.location_terms.specs.Instance.{Instance, IsValid, site_at, site_ids}
use Rattle.location_terms.proofs.Places.{length-site_ids}
use Rattle.location_terms.proofs.Rising.{one_place}
use Rattle.dual_adjust.specs.Paid.{is_named, ArePlacesOf}

-- an id that a site has is among those of the sites
pub has_id : (I : Instance) (i s : ℕ) → i < length I.sites → (site_at I i).id ≡ s → Contains (site_ids I) s
has_id I i s b is = (i, omega (arith, b, length-site_ids I), get_or-map (λ x. x.id) I.sites i _ s b ∙ is)

module _ (I : Instance) (valid : IsValid I) (ids : List ℕ) (k : ℕ) (b : k < length ids) (places : List ℕ) (so_far : ArePlacesOf I (take k ids) places) where
  abbrev next : ℕ
  next = get_or ids k 0

  named_more : (i : ℕ) → is_named I (take (k + 1) ids) i ≡ (is_named I (take k ids) i || (next == (site_at I i).id))
  named_more i = list_any_more (λ s. s == (site_at I i).id) ids k 0 b

  named_before : (i : ℕ) → is_named I (take k ids) i ≡ true → is_named I (take (k + 1) ids) i ≡ true
  named_before i named = list_any_kept (λ s. s == (site_at I i).id) ids k named

  -- no site has the id
  pub no_place : ((i : ℕ) → i < length I.sites → (site_at I i).id ≢ next) → ArePlacesOf I (take (k + 1) ids) places
  no_place unknown =
      record {
        apart = so_far.apart;
        known = so_far.known;
        named = All-weaker (λ i. is_named I (take k ids) i ≡ true) (λ i. is_named I (take (k + 1) ids) i ≡ true) named_before places so_far.named;
        all = λ i within named.
            elim (or_cases (is_named I (take k ids) i) (next == (site_at I i).id) (sym (named_more i) ∙ named)) [
              | inl before ↦ so_far.all i within before
              | inr here ↦ absurd (unknown i within (sym (eqb-true next (site_at I i).id here)))
            ];
      }

  -- the site at this place has it
  module _ (rising : IsStrictlyIncreasing ids) (place : ℕ) (within : place < length I.sites) (is : (site_at I place).id ≡ next) where
    -- the ids before it are other ones
    differs : (i : ℕ) → is_named I (take k ids) i ≡ true → i ≢ place
    differs i named same =
        let found : Any (λ s. (s == (site_at I i).id) ≡ true) (take k ids) = Any-from_list_any (λ s. s == (site_at I i).id) (take k ids) named in
        let r : ℕ = found.0 in
        let inside = found.2 in
        let before : r < k = omega (arith, inside, length-take k ids) in
        let at : get_or ids r 0 ≡ next = get_or_default ids r 0 found.1 (omega (arith, before, b)) ∙ sym (get_or-take k ids r found.1 before) ∙ found.3 ∙ eqb-true found.1 (site_at I i).id found.4 ∙ ap (λ n. (site_at I n).id) same ∙ is in
        let less : get_or ids r 0 < next = AllPairs-from_increasing ids rising r k 0 before b in
        omega (arith, less, at)

    is_named_now : is_named I (take (k + 1) ids) place ≡ true
    is_named_now = named_more place ∙ or_right (is_named I (take k ids) place) (next == (site_at I place).id) (eq-eqb next (site_at I place).id (sym is))

    pub next_place : ArePlacesOf I (take (k + 1) ids) (places ++ place ∷ [])
    next_place =
        record {
          apart = all_pairs_push (λ i n. i ≢ n) places place so_far.apart (λ m d c. differs (get_or places m d) (so_far.named m d c));
          known = All-push (λ i. i < length I.sites) places place so_far.known within;
          named = All-push (λ i. is_named I (take (k + 1) ids) i ≡ true) places place (All-weaker (λ i. is_named I (take k ids) i ≡ true) (λ i. is_named I (take (k + 1) ids) i ≡ true) named_before places so_far.named) is_named_now;
          all = λ i inside named.
              elim (or_cases (is_named I (take k ids) i) (next == (site_at I i).id) (sym (named_more i) ∙ named)) [
                | inl before ↦ Contains-append_left places (place ∷ []) i (so_far.all i inside before)
                | inr here ↦
                    let same : place ≡ i = one_place (λ s. s.id) I.sites _ valid.sites_named.rising place i within inside (is ∙ eqb-true next (site_at I i).id here) in
                    subst (λ n. Contains (places ++ place ∷ []) n) same (Contains-push places place)
              ];
        }
