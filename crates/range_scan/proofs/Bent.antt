-- A number that rises with a cost, at first q times as fast and then no more: what the bound of a leaf does in one cost.
use Rattle.std.proofs.Common.{◌≡◌, ◌≢◌, ℕ, ◌*◌, ◌+◌, ◌<◌, zero, suc, ap, sym, subst, inl, inr, arith, Bool, true, false, List, [], ◌∷◌, ℤ, pos, ◌+ℤ◌, ◌-ℤ◌}
use Rattle.std.specs.Prelude.{fold, if◌then◌else◌}
use Rattle.std.specs.Int.{int_max, int_min}
use Rattle.std.specs.List.{AllByRecursion}
use Rattle.std.proofs.lemmas.Int.{ints, clamps}
use Rattle.std.proofs.lemmas.Bool.{cases_eq}
use Rattle.location_terms.specs.Bound.{total}
use Rattle.location_terms.proofs.Totals.{total_same}

-- wherever it stops to rise, it has risen q times as fast until there
abbrev pub IsBent : ℕ → (ℕ → ℤ) → Type 0
IsBent q b = (x more : ℕ) → b x ≡ int_min (b (x + more)) (b 0 +ℤ pos (q * x))

pub bent_same : (q : ℕ) (a b : ℕ → ℤ) → ((x : ℕ) → a x ≡ b x) → IsBent q b → IsBent q a
bent_same q a b same h = subst (IsBent q) (λ k x. sym (same x) k) h

pub bent_flat : (q : ℕ) (c : ℤ) → IsBent q (λ _. c)
bent_flat q c x more = omega (arith, ints, clamps)

pub bent_plus : (q : ℕ) (c : ℤ) (b : ℕ → ℤ) → IsBent q b → IsBent q (λ x. c +ℤ b x)
bent_plus q c b h x more = omega (arith, ints, clamps, h x more)

pub bent_min : (q : ℕ) (a b : ℕ → ℤ) → IsBent q a → IsBent q b → IsBent q (λ x. int_min (a x) (b x))
bent_min q a b g h x more = omega (arith, ints, clamps, g x more, h x more)

less_max : (a b : ℤ) → (pos 0 -ℤ int_max a b) ≡ int_min (pos 0 -ℤ a) (pos 0 -ℤ b)
less_max a b = omega (arith, ints, clamps)

-- the greater of two, taken off
pub bent_max : (q : ℕ) (a b : ℕ → ℤ) → IsBent q (λ x. pos 0 -ℤ a x) → IsBent q (λ x. pos 0 -ℤ b x) → IsBent q (λ x. pos 0 -ℤ int_max (a x) (b x))
bent_max q a b g h =
    bent_same q (λ x. pos 0 -ℤ int_max (a x) (b x)) (λ x. int_min (pos 0 -ℤ a x) (pos 0 -ℤ b x)) (λ x. less_max (a x) (b x))
    (bent_min q (λ x. pos 0 -ℤ a x) (λ x. pos 0 -ℤ b x) g h)

-- what a fixed cost adds to a slack
pub bent_fixed : (q : ℕ) (nu cap paid : ℤ) → IsBent q (λ x. ((pos (q * x) +ℤ nu) -ℤ cap) -ℤ paid)
bent_fixed q nu cap paid x more = omega (arith, ints, clamps)

pub bent_whole_fixed : (q : ℕ) (nu best : ℤ) → IsBent q (λ x. (pos (q * x) +ℤ nu) -ℤ best)
bent_whole_fixed q nu best x more = omega (arith, ints, clamps)

-- what a customer pays for a lane of this cost, taken off
pub bent_paid : (q : ℕ) (allowed : Bool) (v : ℤ) (load : ℕ) → IsBent q (λ x. pos 0 -ℤ (if allowed then int_max (pos 0) (v -ℤ pos (q * x + load)) else pos 0))
bent_paid q true v load x more = omega (arith, ints, clamps)
bent_paid q false v load x more = omega (arith, ints, clamps)

pub bent_surplus : (q : ℕ) (v : ℤ) → IsBent q (λ x. pos 0 -ℤ (v -ℤ pos (q * x)))
bent_surplus q v x more = omega (arith, ints, clamps)

-- what a site adds to a bound
pub bent_share : (q : ℕ) (opened free : Bool) (b : ℕ → ℤ) → IsBent q b → IsBent q (λ x. if opened then b x else (if free then int_min (pos 0) (b x) else pos 0))
bent_share q true free b h = h
bent_share q false true b h = bent_min q (λ _. pos 0) b (bent_flat q (pos 0)) h
bent_share q false false b h = bent_flat q (pos 0)

-- totals that agree but in one term
total_but_one : (f g : ℕ → ℤ) (n k : ℕ) → k < n → ((i : ℕ) → i < n → i ≢ k → f i ≡ g i) → total f n ≡ total g n +ℤ (f k -ℤ g k)
unfolding total
total_but_one f g zero k b h = absurd (omega arith)
total_but_one f g (suc n) k b h =
    elim (cases_eq k n) [
      | inl e ↦ let rest = total_same f g n (λ i c. h i (omega arith) (omega (arith, c, e))) in omega (arith, ints, rest, ap f e, ap g e)
      | inr other ↦ omega (arith, ints, total_but_one f g n k (omega (arith, b, other)) (λ i c ne. h i (omega arith) ne), h n (omega arith) (λ e. other (omega (arith, e))))
    ]

-- a total of which one term is so and the others stay
pub bent_total : (q : ℕ) (f : ℕ → ℕ → ℤ) (g : ℕ → ℤ) (n k : ℕ) → k < n → ((x i : ℕ) → i < n → i ≢ k → f x i ≡ g i) → IsBent q (λ x. f x k) → IsBent q (λ x. total (f x) n)
bent_total q f g n k b others h =
    bent_same q (λ x. total (f x) n) (λ x. (total g n -ℤ g k) +ℤ f x k)
    (λ x. let one = total_but_one (f x) g n k b (others x) in omega (arith, ints, one))
    (bent_plus q (total g n -ℤ g k) (λ x. f x k) h)

-- and one that is taken off
pub bent_total_off : (q : ℕ) (f : ℕ → ℕ → ℤ) (g : ℕ → ℤ) (n k : ℕ) → k < n → ((x i : ℕ) → i < n → i ≢ k → f x i ≡ g i) → IsBent q (λ x. pos 0 -ℤ f x k) → (c : ℤ) → IsBent q (λ x. c -ℤ total (f x) n)
bent_total_off q f g n k b others h c =
    bent_same q (λ x. c -ℤ total (f x) n) (λ x. (c -ℤ (total g n -ℤ g k)) +ℤ (pos 0 -ℤ f x k))
    (λ x. let one = total_but_one (f x) g n k b (others x) in omega (arith, ints, one))
    (bent_plus q (c -ℤ (total g n -ℤ g k)) (λ x. pos 0 -ℤ f x k) h)

-- the greatest value over a list, or where it starts, taken off
pub bent_greatest : {X : Type 0} (q : ℕ) (w : ℕ → X → ℤ) (a : ℕ → ℤ) (xs : List X) → IsBent q (λ x. pos 0 -ℤ a x) → AllByRecursion (λ y. IsBent q (λ x. pos 0 -ℤ w x y)) xs
    → IsBent q (λ x. pos 0 -ℤ fold (λ best y. int_max best (w x y)) (a x) xs)
bent_greatest q w a [] start each = start
bent_greatest q w a (y ∷ ys) start each = bent_greatest q w (λ x. int_max (a x) (w x y)) ys (bent_max q a (λ x. w x y) start each.0) each.1
