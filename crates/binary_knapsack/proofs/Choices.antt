-- What choices come to with the loads still to come.
use Rattle.std.proofs.Common.{◌≡◌, ℕ, zero, suc, ◌+◌, ◌-◌, ◌<◌, ◌≤◌, inl, inr, refl, sym, ap, ◌∙◌, arith, true, Option, None, Some, List, [], ◌∷◌, ◌++◌, length, get_or, drop, max}
use Rattle.std.specs.List.{filter_map}
use Rattle.std.specs.Prelude.{slice_get, nat_le}
use Rattle.std.proofs.lemmas.Option.{slice_get_within, get_or_from_slice_get}
use Rattle.std.proofs.lemmas.Bool.{le-leb, lt-leb, leb-true}
use Rattle.std.proofs.lemmas.List.{drop_more}
use Rattle.binary_knapsack.specs.Loads.{Load, Choice, worth_with, reach, taking_load}
use Rattle.binary_knapsack.proofs.Most.{le_or_above, most_fits, most_heavy, most-mono}

pub reach_of_none : (rest : List Load) → reach rest [] ≡ 0
unfolding reach
reach_of_none rest = refl

pub reach_cons : (rest : List Load) (c : Choice) (cs : List Choice) → reach rest (c ∷ cs) ≡ max (worth_with rest c) (reach rest cs)
unfolding reach
reach_cons rest c cs = refl

-- one choice more at the end
pub reach_push : (rest : List Load) (cs : List Choice) (c : Choice) → reach rest (cs ++ c ∷ []) ≡ max (reach rest cs) (worth_with rest c)
reach_push rest [] c = omega (arith, reach_cons rest c [], reach_of_none rest)
reach_push rest (a ∷ cs) c = omega (arith, reach_cons rest a (cs ++ c ∷ []), reach_cons rest a cs, reach_push rest cs c)

-- a choice among them comes to no more than all
pub at_most_reach : (rest : List Load) (cs : List Choice) (k : ℕ) (d : Choice) → k < length cs → worth_with rest (get_or cs k d) ≤ reach rest cs
at_most_reach rest [] k d h = absurd (omega arith)
at_most_reach rest (c ∷ cs) zero d h = omega (arith, reach_cons rest c cs)
at_most_reach rest (c ∷ cs) (suc k) d h = omega (arith, reach_cons rest c cs, at_most_reach rest cs k d (omega arith))

-- those from a place on are the one there and those behind it
pub reach_drop : (rest : List Load) (cs : List Choice) (k : ℕ) (d : Choice) → k < length cs → reach rest (drop k cs) ≡ max (worth_with rest (get_or cs k d)) (reach rest (drop (k + 1) cs))
reach_drop rest cs k d h = ap (reach rest) (drop_more cs k d h) ∙ reach_cons rest (get_or cs k d) (drop (k + 1) cs)

-- with as much room and worth a choice comes to no less
pub covered : (rest : List Load) (a b : Choice) → a.room ≤ b.room → a.worth ≤ b.worth → worth_with rest a ≤ worth_with rest b
covered rest a b room worth = omega (arith, most-mono rest a.room b.room room)

-- the last choice has as much room and worth
pub at_last : (rest : List Load) (a last : Choice) (cs : List Choice) (k : ℕ) → Some last ≡ slice_get cs k → a.room ≤ last.room → nat_le a.worth last.worth ≡ true → worth_with rest a ≤ reach rest cs
at_last rest a last cs k at room worth =
    let inside = slice_get_within cs k last (sym at) in
    let is : get_or cs k last ≡ last = get_or_from_slice_get cs k last last (sym at) in
    let below : worth_with rest last ≤ reach rest cs = rw is at (at_most_reach rest cs k last inside) in
    let less = covered rest a last room (leb-true a.worth last.worth worth) in
    omega (arith, below, less)

-- the worth of the last choice is reached
pub raised_to_last : (rest : List Load) (reached : ℕ) (last : Choice) (cs : List Choice) (k : ℕ) → Some last ≡ slice_get cs k → reached < last.worth → max last.worth (reach rest cs) ≡ max reached (reach rest cs)
raised_to_last rest reached last cs k at above =
    let inside = slice_get_within cs k last (sym at) in
    let is : get_or cs k last ≡ last = get_or_from_slice_get cs k last last (sym at) in
    let below : worth_with rest last ≤ reach rest cs = rw is at (at_most_reach rest cs k last inside) in
    omega (arith, below, above)

-- what the choice that takes the load comes to, where it fits
pub with_load : List Load → Option Choice → ℕ
with_load rest None = 0
with_load rest (Some c) = worth_with rest c

pub with_load-Some : (rest : List Load) (c : Choice) → with_load rest (Some c) ≡ worth_with rest c
unfolding with_load
with_load-Some rest c = refl

pub with_load-None : (rest : List Load) → with_load rest None ≡ 0
unfolding with_load
with_load-None rest = refl

-- the load fits
pub taking_fits : (x : Load) (c : Choice) → x.weight ≤ c.room → taking_load x c ≡ Some (record { room = c.room - x.weight; worth = c.worth + x.worth })
taking_fits x c h = rw (le-leb x.weight c.room h) refl

-- or doesn't
pub taking_heavy : (x : Load) (c : Choice) → c.room < x.weight → taking_load x c ≡ None
taking_heavy x c h = rw (lt-leb x.weight c.room h) refl

-- a choice takes the next load or not
pub with_and_without : (rest : List Load) (x : Load) (c : Choice) → worth_with (x ∷ rest) c ≡ max (worth_with rest c) (with_load rest (taking_load x c))
unfolding with_load
with_and_without rest x c = elim (le_or_above x.weight c.room) [
  | inl fits ↦ rw (taking_fits x c fits) (omega (arith, most_fits c.room x rest fits))
  | inr heavy ↦ rw (taking_heavy x c heavy) (omega (arith, most_heavy c.room x rest heavy))
]

-- a load that fits is worth no more than the choice comes to
pub within_reach : (rest : List Load) (x : Load) (c : Choice) → x.weight ≤ c.room → c.worth + x.worth ≤ worth_with (x ∷ rest) c
within_reach rest x c fits = omega (arith, most_fits c.room x rest fits)

-- those that take the load, from a place on
pub reach_taking : (rest : List Load) (x : Load) (c : Choice) (cs : List Choice) → reach rest (filter_map (taking_load x) (c ∷ cs)) ≡ max (with_load rest (taking_load x c)) (reach rest (filter_map (taking_load x) cs))
unfolding with_load
reach_taking rest x c cs = elim (le_or_above x.weight c.room) [
  | inl fits ↦ rw (taking_fits x c fits) (reach_cons rest (record { room = c.room - x.weight; worth = c.worth + x.worth }) (filter_map (taking_load x) cs))
  | inr heavy ↦ rw (taking_heavy x c heavy) (omega arith)
]

pub reach_taking_drop : (rest : List Load) (x : Load) (cs : List Choice) (k : ℕ) (d : Choice) → k < length cs
    → reach rest (filter_map (taking_load x) (drop k cs)) ≡ max (with_load rest (taking_load x (get_or cs k d))) (reach rest (filter_map (taking_load x) (drop (k + 1) cs)))
reach_taking_drop rest x cs k d h = ap (λ l. reach rest (filter_map (taking_load x) l)) (drop_more cs k d h) ∙ reach_taking rest x (get_or cs k d) (drop (k + 1) cs)

-- what choices come to with one load more: without it or with it
pub reach_split : (rest : List Load) (x : Load) (cs : List Choice) → reach (x ∷ rest) cs ≡ max (reach rest cs) (reach rest (filter_map (taking_load x) cs))
reach_split rest x [] = omega (arith, reach_of_none (x ∷ rest), reach_of_none rest)
reach_split rest x (c ∷ cs) =
    omega (arith, reach_cons (x ∷ rest) c cs, reach_cons rest c cs, with_and_without rest x c, reach_taking rest x c cs, reach_split rest x cs)
