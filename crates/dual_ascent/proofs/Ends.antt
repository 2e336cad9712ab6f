-- Rounds end, below a limit that leaves the levels room: each round that changes something makes the sum of the duals greater.
use Rattle.std.proofs.Common.{◌≡◌, ℕ, zero, suc, ◌<◌, refl, sym, ap, subst, ◌∙◌, inl, inr, arith, length, List, [], ◌∷◌, ℤ, pos, negsuc, ◌+ℤ◌, ◌-ℤ◌, ◌≤ℤ◌}
use Rattle.std.specs.List.{fold}
use Rattle.std.proofs.lemmas.Int.{ints}
use Rattle.std.proofs.lemmas.List.Elements.{All-head, All-tail}
use Rattle.location_terms.specs.Instance.{Instance}
use Rattle.location_terms.specs.Box.{Path}
use Rattle.location_terms.specs.Bound.{Duals, v_at, total}
use Rattle.location_terms.proofs.Totals.{total_le}
use Rattle.dual_ascent.specs.Ascent.{seated, raised, round, rounds, IsAscendedOver}
use Rattle.dual_ascent.proofs.Raised.{IsRisen, seated_is_risen, raised_is_risen}
use Rattle.dual_ascent.proofs.Rounds.{AreKnown, value_sum, seats_are_risen, round_is_risen, rounds_are_risen, round_moves}
use Rattle.dual_ascent.proofs.Ceiling.{HasRoom, IsUnder, room_stays, seated_under, raised_under}

at_most_some : (z : ℤ) → (g : ℕ) × (z ≤ℤ pos g)
at_most_some (pos n) = (n, omega (arith, ints))
at_most_some (negsuc n) = (0, omega (arith, ints))

module _ (I : Instance) (path : Path) (limit : ℤ) where
  module _ (step : Duals → ℕ → Duals) (one : (d : Duals) (j : ℕ) → j < length I.customers → j < length d.v → IsRisen I path d (step d j))
      (stays : (d : Duals) → HasRoom I path limit d → IsUnder I path limit d → (j : ℕ) → j < length I.customers → j < length d.v → IsUnder I path limit (step d j)) where
    fold_under : (d : Duals) → length d.v ≡ length I.customers → HasRoom I path limit d → IsUnder I path limit d → (customers : List ℕ) → AreKnown I path customers → IsUnder I path limit (fold step d customers)
    fold_under d long room under [] known = under
    fold_under d long room under (j ∷ js) known =
        let in_range : j < length I.customers = All-head (λ k. k < length I.customers) j js known in
        let here : j < length d.v = omega (arith, in_range, long) in
        let first : IsRisen I path d (step d j) = one d j in_range here in
        fold_under (step d j) (first.customers ∙ long) (room_stays I path limit d (step d j) first room) (stays d room under j in_range here) js (All-tail (λ k. k < length I.customers) j js known)

  module _ (customers : List ℕ) (known : AreKnown I path customers) where
    pub seats_under : (d : Duals) → length d.v ≡ length I.customers → HasRoom I path limit d → IsUnder I path limit d → IsUnder I path limit (fold (seated I path) d customers)
    seats_under d long room under = fold_under (seated I path) (seated_is_risen I path) (seated_under I path limit) d long room under customers known

    pub round_under : (d : Duals) → length d.v ≡ length I.customers → HasRoom I path limit d → IsUnder I path limit d → IsUnder I path limit (round I path customers d)
    unfolding round
    round_under d long room under = fold_under (raised I path) (raised_is_risen I path) (raised_under I path limit) d long room under customers known

    pub rounds_under : (d : Duals) → length d.v ≡ length I.customers → HasRoom I path limit d → IsUnder I path limit d → (k : ℕ) → IsUnder I path limit (rounds I path customers d k)
    unfolding rounds
    rounds_under d long room under zero = under
    rounds_under d long room under (suc k) =
        let e : Duals = rounds I path customers d k in
        let before : IsRisen I path d e = rounds_are_risen I path customers known d long k in
        round_under e (before.customers ∙ long) (room_stays I path limit d e before room) (rounds_under d long room under k)

    -- the ascent stays below the limit
    pub ascended_under : (start result : Duals) → length start.v ≡ length I.customers → HasRoom I path limit start → IsUnder I path limit start → IsAscendedOver I path customers start result → IsUnder I path limit result
    ascended_under start result long room under asc =
        let seats : Duals = fold (seated I path) start customers in
        let first : IsRisen I path start seats = seats_are_risen I path start long customers known in
        subst (IsUnder I path limit) (sym asc.after) (rounds_under seats (first.customers ∙ long) (room_stays I path limit start seats first room) (seats_under start long room under) asc.count)

    rounds_of_round : (d : Duals) (k : ℕ) → rounds I path customers (round I path customers d) k ≡ round I path customers (rounds I path customers d k)
    unfolding rounds
    rounds_of_round d zero = refl
    rounds_of_round d (suc k) = ap (round I path customers) (rounds_of_round d k)

    abbrev Settles : Duals → Type 0
    Settles d = (k : ℕ) × (round I path customers (rounds I path customers d k) ≡ rounds I path customers d k)

    settled_at_once : (d : Duals) → round I path customers d ≡ d → Settles d
    unfolding rounds
    settled_at_once d fixed = (0, fixed)

    settled_later : (d : Duals) → Settles (round I path customers d) → Settles d
    unfolding rounds
    settled_later d later =
        let next : rounds I path customers (round I path customers d) later.0 ≡ rounds I path customers d (suc later.0) = rounds_of_round d later.0 in
        (suc later.0, subst (λ f. round I path customers f ≡ f) next later.1)

    settles : (gap : ℕ) (d : Duals) → length d.v ≡ length I.customers → HasRoom I path limit d → IsUnder I path limit d → total (λ _. limit) (length I.customers) ≤ℤ (value_sum I path d +ℤ pos gap) → Settles d
    settles zero d long room under within =
        elim (round_moves I path customers known d long) [
          | inl fixed ↦ settled_at_once d fixed
          | inr more ↦
              let full = total_le (v_at (round I path customers d)) (λ _. limit) (length I.customers) (round_under d long room under) in
              absurd (omega (arith, ints, within, more, full))
        ]
    settles (suc gap) d long room under within =
        let e : Duals = round I path customers d in
        let up : IsRisen I path d e = round_is_risen I path customers known d long in
        elim (round_moves I path customers known d long) [
          | inl fixed ↦ settled_at_once d fixed
          | inr more ↦ settled_later d (settles gap e (up.customers ∙ long) (room_stays I path limit d e up room) (round_under d long room under) (omega (arith, ints, within, more)))
        ]

    -- the ascent has a result
    pub ascent_ends : (start : Duals) → length start.v ≡ length I.customers → HasRoom I path limit start → IsUnder I path limit start → (result : Duals) × IsAscendedOver I path customers start result
    ascent_ends start long room under =
        let seats : Duals = fold (seated I path) start customers in
        let first : IsRisen I path start seats = seats_are_risen I path start long customers known in
        let gap : (g : ℕ) × ((total (λ _. limit) (length I.customers) -ℤ value_sum I path seats) ≤ℤ pos g) = at_most_some (total (λ _. limit) (length I.customers) -ℤ value_sum I path seats) in
        let end : Settles seats = settles gap.0 seats (first.customers ∙ long) (room_stays I path limit start seats first room) (seats_under start long room under) (omega (arith, ints, gap.1)) in
        (rounds I path customers seats end.0, record { count = end.0; after = refl; settled = end.1 })
