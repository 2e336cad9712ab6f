-- A capacity that there may be: what is left of it, and the greatest worth within it.
use Rattle.std.proofs.Common.{◌≡◌, ℕ, ◌+◌, ◌-◌, ◌<◌, ◌≤◌, ◌⊎◌, inl, inr, refl, sym, ap, ◌∙◌, arith, Bool, true, false, Option, None, Some, List, [], ◌∷◌, ◌++◌, length, get_or, take, ℤ, pos, negsuc, ◌≤ℤ◌}
use Rattle.std.specs.Prelude.{◌&&◌, int_lt}
use Rattle.std.specs.Int.RustNames.{unsigned_abs}
use Rattle.std.proofs.lemmas.Int.{ints}
use Rattle.std.proofs.lemmas.Bool.{le-leb, leb-true, false≢true}
use Rattle.std.proofs.lemmas.List.{append-nil, take_more}
use Rattle.std.proofs.lemmas.List.Concat.{flat_map-append}
use Rattle.std.proofs.lemmas.List.Sums.{sum_by-cons}
use Rattle.location_terms.specs.Box.{holds_demand}
use Rattle.binary_knapsack.specs.Loads.{Load, Item, most, most_in, may_pay, as_load, load_in, kept}
use Rattle.binary_knapsack.proofs.Most.{le_or_above, most_fits, most_heavy, most_cons}

-- what a weight leaves of a capacity
abbrev pub left_of : Option ℕ → ℕ → Option ℕ
left_of None weight = None
left_of (Some cap) weight = Some (cap - weight)

-- what fits into the one fits into the other
abbrev pub IsWithin : Option ℕ → Option ℕ → Type 0
IsWithin part cap = (w : ℕ) → holds_demand part w ≡ true → holds_demand cap w ≡ true

pub left_within : (part cap : Option ℕ) (a : ℕ) → IsWithin part cap → IsWithin (left_of part a) cap
left_within None cap a within w h = within w h
left_within (Some p) cap a within w h = within w (le-leb w p (omega (arith, leb-true w (p - a) h)))

-- two weights fit where each fits into what the other leaves
pub first_fits : (cap : Option ℕ) (a b : ℕ) → holds_demand cap (a + b) ≡ true → holds_demand cap a ≡ true
first_fits None a b h = refl
first_fits (Some c) a b h = le-leb a c (omega (arith, leb-true (a + b) c h))

pub second_fits : (cap : Option ℕ) (a b : ℕ) → holds_demand cap (a + b) ≡ true → holds_demand cap b ≡ true
second_fits None a b h = refl
second_fits (Some c) a b h = le-leb b c (omega (arith, leb-true (a + b) c h))

pub rest_fits : (cap : Option ℕ) (a b : ℕ) → holds_demand cap (a + b) ≡ true → holds_demand (left_of cap a) b ≡ true
rest_fits None a b h = refl
rest_fits (Some c) a b h = le-leb b (c - a) (omega (arith, leb-true (a + b) c h))

pub both_fit : (cap : Option ℕ) (a b : ℕ) → holds_demand cap a ≡ true → holds_demand (left_of cap a) b ≡ true → holds_demand cap (a + b) ≡ true
both_fit None a b ha hb = refl
both_fit (Some c) a b ha hb = le-leb (a + b) c (omega (arith, leb-true a c ha, leb-true b (c - a) hb))

pub nothing_fits : (cap : Option ℕ) → holds_demand cap 0 ≡ true
nothing_fits None = refl
nothing_fits (Some c) = le-leb 0 c (omega arith)

-- a load is left out or taken
pub most_in_skips : (cap : Option ℕ) (x : Load) (xs : List Load) → most_in cap xs ≤ most_in cap (x ∷ xs)
most_in_skips None x xs = omega (arith, sum_by-cons (λ (y : Load). y.worth) x xs)
most_in_skips (Some c) x xs = most_cons c x xs

pub most_in_takes : (cap : Option ℕ) (x : Load) (xs : List Load) → holds_demand cap x.weight ≡ true → x.worth + most_in (left_of cap x.weight) xs ≤ most_in cap (x ∷ xs)
most_in_takes None x xs h = omega (arith, sum_by-cons (λ (y : Load). y.worth) x xs)
most_in_takes (Some c) x xs h = omega (arith, most_fits c x xs (leb-true x.weight c h))

pub most_in_cases : (cap : Option ℕ) (x : Load) (xs : List Load)
    → (most_in cap (x ∷ xs) ≡ most_in cap xs) ⊎ ((holds_demand cap x.weight ≡ true) × (most_in cap (x ∷ xs) ≡ x.worth + most_in (left_of cap x.weight) xs))
most_in_cases None x xs = inr (refl, sum_by-cons (λ (y : Load). y.worth) x xs)
most_in_cases (Some c) x xs = elim (le_or_above x.weight c) [
  | inl fits ↦ elim (le_or_above (x.worth + most (c - x.weight) xs) (most c xs)) [
    | inl more ↦ inl (omega (arith, most_fits c x xs fits))
    | inr less ↦ inr (le-leb x.weight c fits, omega (arith, most_fits c x xs fits))
  ]
  | inr heavy ↦ inl (most_heavy c x xs heavy)
]

-- an item that may pay, and one that may not
pub load_of_paying : (cap : Option ℕ) (x : Item) → may_pay cap x ≡ true → load_in cap x ≡ as_load x ∷ []
load_of_paying cap x h = rw h refl

pub load_of_idle : (cap : Option ℕ) (x : Item) → may_pay cap x ≡ false → load_in cap x ≡ []
load_of_idle cap x h = rw h refl

worth_above : (z : ℤ) → int_lt (pos 0) z ≡ true → z ≡ pos (unsigned_abs z)
worth_above (pos n) h = refl
worth_above (negsuc n) h = absurd (false≢true h)

worth_below : (z : ℤ) → int_lt (pos 0) z ≡ false → z ≤ℤ pos 0
worth_below z h = grind (arith, ints)

pays_then : (a b : Bool) → (a && b) ≡ true → a ≡ true
pays_then true b h = refl
pays_then false b h = absurd (false≢true h)

idle_then : (a b : Bool) → (a && b) ≡ false → b ≡ true → a ≡ false
idle_then true b h e = absurd (false≢true (sym h ∙ e))
idle_then false b h e = refl

-- what a paying item is worth is above 0
pub paying_worth : (cap : Option ℕ) (x : Item) → may_pay cap x ≡ true → x.worth ≡ pos (unsigned_abs x.worth)
paying_worth cap x h = worth_above x.worth (pays_then (int_lt (pos 0) x.worth) (holds_demand cap x.weight) h)

-- an item that fits and may not pay is worth nothing
pub idle_worth : (cap : Option ℕ) (x : Item) → may_pay cap x ≡ false → holds_demand cap x.weight ≡ true → x.worth ≤ℤ pos 0
idle_worth cap x h fits = worth_below x.worth (idle_then (int_lt (pos 0) x.worth) (holds_demand cap x.weight) h fits)

one_more : (cap : Option ℕ) (items : List Item) (i : ℕ) (d : Item) → i < length items → kept cap (take (i + 1) items) ≡ kept cap (take i items) ++ load_in cap (get_or items i d)
one_more cap items i d h =
    ap (kept cap) (take_more items i d h) ∙ flat_map-append (load_in cap) (take i items) (get_or items i d ∷ [])
    ∙ ap (λ l. kept cap (take i items) ++ l) (append-nil (load_in cap (get_or items i d)))

-- one item more
pub keep_paying : (cap : Option ℕ) (items : List Item) (i : ℕ) (d : Item) (loads : List Load) (load : Load) → i < length items → loads ≡ kept cap (take i items)
    → may_pay cap (get_or items i d) ≡ true → load ≡ as_load (get_or items i d) → loads ++ load ∷ [] ≡ kept cap (take (i + 1) items)
keep_paying cap items i d loads load h before pays is =
    let more = one_more cap items i d h in
    let last = load_of_paying cap (get_or items i d) pays in
    rw (before, is) (ap (λ l. kept cap (take i items) ++ l) (sym last) ∙ sym more)

pub keep_idle : (cap : Option ℕ) (items : List Item) (i : ℕ) (d : Item) (loads : List Load) → i < length items → loads ≡ kept cap (take i items)
    → may_pay cap (get_or items i d) ≡ false → loads ≡ kept cap (take (i + 1) items)
keep_idle cap items i d loads h before idle =
    let more = one_more cap items i d h in
    let last = load_of_idle cap (get_or items i d) idle in
    before ∙ sym (append-nil (kept cap (take i items))) ∙ ap (λ l. kept cap (take i items) ++ l) (sym last) ∙ sym more

pub bool_cases : (b : Bool) → (b ≡ true) ⊎ (b ≡ false)
bool_cases true = inl refl
bool_cases false = inr refl
