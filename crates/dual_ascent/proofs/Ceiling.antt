-- No dual is raised past a ceiling that the levels leave room under, so that rounds end.
use Rattle.std.proofs.Common.{◌≡◌, ℕ, ◌*◌, ◌<◌, sym, ap, subst, ◌∙◌, inl, inr, arith, Bool, true, false, length, get_or, List, Option, Some, None, unwrap_or, ℤ, pos, ◌+ℤ◌, ◌-ℤ◌, ◌≤ℤ◌}
use Rattle.std.specs.Prelude.{◌==◌, ⊤, All, MatchOption, if◌then◌else◌}
use Rattle.std.specs.List.{list_any, range_with_len}
use Rattle.std.specs.Int.{int_max}
use Rattle.std.proofs.lemmas.Int.{ints, clamps}
use Rattle.std.proofs.lemmas.Bool.{cases_Bool, cases_eq, eqb-false, false≢true}
use Rattle.std.proofs.lemmas.List.Elements.{All-map, All-get_or, All-filter, All-from_get_or, filter_passes}
use Rattle.std.proofs.lemmas.List.FromFn.{get_or-range_with_len, length-range_with_len}
use Rattle.std.proofs.lemmas.List.{get_or-set_same, get_or-set_other}
use Rattle.location_terms.specs.declared.form.LeafForm.{LeafForm}
use Rattle.location_terms.specs.Instance.{Instance, site_at, customer_at}
use Rattle.location_terms.specs.Box.{Path, is_allowed}
use Rattle.location_terms.specs.Bound.{Duals, v_at, level_at, paid_at, slack_of}
use Rattle.location_terms.proofs.Totals.{total_part}
use Rattle.dual_ascent.specs.Levels.{site_places, servers, levels_of, least_level, reached}
use Rattle.dual_ascent.specs.Ascent.{is_spent, is_blocked, with_v, seated, raised}
use Rattle.dual_ascent.proofs.Tested.{neither}
use Rattle.dual_ascent.proofs.Rise.{least_among, rise, rise_leaves}
use Rattle.dual_ascent.proofs.Raised.{IsRisen, raised_blocked, raised_free}

-- what is paid above a level is no less than nothing
pub paid_at_least : (allowed : Bool) (v level : ℤ) → pos 0 ≤ℤ (if allowed then int_max (pos 0) (v -ℤ level) else pos 0)
paid_at_least true v level = omega (arith, ints, clamps)
paid_at_least false v level = omega (arith, ints)

paid_allowed : (allowed : Bool) (v level : ℤ) → allowed ≡ true → (v -ℤ level) ≤ℤ (if allowed then int_max (pos 0) (v -ℤ level) else pos 0)
paid_allowed true v level e = omega (arith, ints, clamps)
paid_allowed false v level e = absurd (false≢true e)

-- the duals of these prices
pub same_prices : (d e : Duals) → e.form ≡ d.form → e.q ≡ d.q → e.nu ≡ d.nu → e.u ≡ d.u → (let f : Duals = record d { v = e.v } in f) ≡ e
same_prices d e form q nu u =
    let by_form : LeafForm → Duals = λ x. record { form = x; q = d.q; nu = d.nu; v = e.v; u = d.u } in
    let by_q : ℕ → Duals = λ x. record { form = e.form; q = x; nu = d.nu; v = e.v; u = d.u } in
    let by_nu : ℤ → Duals = λ x. record { form = e.form; q = e.q; nu = x; v = e.v; u = d.u } in
    let by_u : List ℕ → Duals = λ x. record { form = e.form; q = e.q; nu = e.nu; v = e.v; u = x } in
    ap by_form (sym form) ∙ ap by_q (sym q) ∙ ap by_nu (sym nu) ∙ ap by_u (sym u)

-- places are below their number
pub places_below : (n : ℕ) → All (λ i. i < n) (range_with_len 0 n)
places_below n = All-from_get_or (λ i. i < n) (range_with_len 0 n) 0 (λ i b. let inside : i < n = omega (arith, b, length-range_with_len 0 n) in omega (arith, inside, get_or-range_with_len 0 n i 0 inside))

module _ (I : Instance) (path : Path) (limit : ℤ) where
  -- each level, and each level with the site's cost, is within the limit
  abbrev pub HasRoom : Duals → Type 0
  HasRoom d = (i j : ℕ) → i < length I.sites → j < length I.customers → (level_at I d i j ≤ℤ limit) × ((level_at I d i j +ℤ (pos (d.q * (site_at I i).fixed) +ℤ d.nu)) ≤ℤ limit)

  abbrev pub IsUnder : Duals → Type 0
  IsUnder d = (k : ℕ) → k < length I.customers → v_at d k ≤ℤ limit

  pub room_stays : (d e : Duals) → IsRisen I path d e → HasRoom d → HasRoom e
  room_stays d e up room = subst HasRoom (same_prices d e up.form up.scale up.count_price up.prices) room

  module _ (d : Duals) (room : HasRoom d) (under : IsUnder d) (j : ℕ) (known : j < length I.customers) (here : j < length d.v) where
    -- a site's slack with what the customer pays is within the site's cost
    slack_below : (i : ℕ) → is_allowed I path (site_at I i) (customer_at I j) ≡ true → (slack_of I path d i +ℤ (v_at d j -ℤ level_at I d i j)) ≤ℤ (pos (d.q * (site_at I i).fixed) +ℤ d.nu)
    slack_below i allowed =
        let part = total_part (paid_at I path d i) (length I.customers) j known (λ k _. paid_at_least (is_allowed I path (site_at I i) (customer_at I k)) (v_at d k) (level_at I d i k)) in
        let pays = paid_allowed (is_allowed I path (site_at I i) (customer_at I j)) (v_at d j) (level_at I d i j) allowed in
        omega (arith, ints, part, pays)

    with_v_under : (x : ℤ) → x ≤ℤ limit → IsUnder (with_v d j x)
    with_v_under x low k b =
        elim (cases_eq k j) [
          | inl e ↦ omega (arith, ints, low, get_or-set_same d.v j x (pos 0) here, ap (v_at (with_v d j x)) e)
          | inr other ↦ omega (arith, ints, under k b, get_or-set_other d.v j k x (pos 0) other)
        ]

    level_under : All (λ i. i < length I.sites) (servers I path j)
    level_under = All-filter (λ i. is_allowed I path (site_at I i) (customer_at I j)) (λ i. i < length I.sites) (site_places I) (places_below (length I.sites))

    seat_under : (o : Option ℤ) → MatchOption o ⊤ (λ l. l ≤ℤ limit) → int_max (v_at d j) (unwrap_or o (v_at d j)) ≤ℤ limit
    seat_under None h = omega (arith, ints, clamps, under j known)
    seat_under (Some l) h = omega (arith, ints, clamps, under j known)

    pub seated_under : IsUnder (seated I path d j)
    seated_under =
        let levels_low : All (λ l. l ≤ℤ limit) (levels_of I path d j) = All-map (λ l. l ≤ℤ limit) (λ i. level_at I d i j) (servers I path j) (λ k x b. (room (get_or (servers I path j) k x) j (level_under k x b) known).0) in
        with_v_under (int_max (v_at d j) (unwrap_or (least_level I path d j) (v_at d j))) (seat_under (least_level I path d j) (least_among (λ l. l ≤ℤ limit) (levels_of I path d j) levels_low))

    free_under : is_blocked I path d j ≡ false → (v_at d j +ℤ rise I path d j) ≤ℤ limit
    free_under free =
        let some : (length (servers I path j) ≡ 0 → ⊥) = eqb-false (length (servers I path j)) 0 (neither (length (servers I path j) == 0) (list_any (is_spent I path d) (reached I path d j)) free).0 in
        let some_server : 0 < length (servers I path j) = omega (arith, some) in
        let i : ℕ = get_or (servers I path j) 0 0 in
        let within : i < length I.sites = All-get_or (λ k. k < length I.sites) (servers I path j) 0 0 some_server level_under in
        let allowed : is_allowed I path (site_at I i) (customer_at I j) ≡ true = All-get_or (λ k. is_allowed I path (site_at I k) (customer_at I j) ≡ true) (servers I path j) 0 0 some_server (filter_passes (λ k. is_allowed I path (site_at I k) (customer_at I j)) (site_places I)) in
        let level = room i j within known in
        elim (rise_leaves I path d j free i within allowed) [
          | inl below ↦ omega (arith, ints, below, level.0)
          | inr reached ↦ let holds = reached.2 in omega (arith, ints, holds, slack_below i allowed, level.1)
        ]

    pub raised_under : IsUnder (raised I path d j)
    raised_under =
        elim (cases_Bool (is_blocked I path d j)) [
          | inl blocked ↦ subst IsUnder (sym (raised_blocked I path d j blocked)) under
          | inr free ↦ subst IsUnder (sym (raised_free I path d j free)) (with_v_under (v_at d j +ℤ rise I path d j) (free_under free))
        ]
