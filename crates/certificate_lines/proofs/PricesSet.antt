-- Prices that are set by the places of their sites, one after another.
use Rattle.std.proofs.Common.{◌≡◌, ℕ, zero, suc, ◌<◌, ◌==◌, Bool, true, false, List, [], ◌∷◌, length, get_or, replicate, refl, sym, ap, ◌∙◌, subst, arith}
use Rattle.std.specs.Prelude.{ℤ, pos, negsuc, map, All, slice_set, Some, None, int_lt, ◌<ℤ◌, ◌≤ℤ◌, unsigned_abs, if◌then◌else◌}
use Rattle.std.specs.List.{list_any}
use Rattle.std.proofs.lemmas.Bool.{and_parts, eq-eqb, ne_eqb, or_parts, or_from}
use Rattle.std.proofs.lemmas.Int.{ints}
use Rattle.std.proofs.lemmas.List.Elements.{All-head, All-tail}
use Rattle.location_terms.specs.Instance.{Instance, IsValid, site_ids, site_at}
use Rattle.location_terms.proofs.Places.{slice_index-site_ids, length-site_ids}
use Rattle.number_words.specs.Number.{is_rising}
use Rattle.certificate_lines.specs.Lines.{Price, is_same, price_in}
use Rattle.certificate_lines.proofs.Ids.{Rises, rises}

-- the price of a site that is given, or else another
abbrev pub price_or : List Price → ℕ → ℕ → ℕ
price_or [] s u = u
price_or (p ∷ ps) s u = if is_same p.0 s then unsigned_abs p.1 else price_or ps s u

-- a row of prices by site, with those that are given in place of the others
abbrev pub prices_set : List Price → List ℕ → List ℕ → List ℕ
prices_set ps [] us = []
prices_set ps (s ∷ ss) [] = []
prices_set ps (s ∷ ss) (u ∷ us) = price_or ps s u ∷ prices_set ps ss us

price_or-zero : (ps : List Price) (s : ℕ) → price_or ps s 0 ≡ price_in ps s
price_or-zero [] s = refl
price_or-zero (p ∷ ps) s = ap (λ u. if is_same p.0 s then unsigned_abs p.1 else u) (price_or-zero ps s)

-- over zeros stand the given prices alone
pub set-zeros : (ps : List Price) (ss : List ℕ) → prices_set ps ss (replicate (length ss) 0) ≡ map (price_in ps) ss
set-zeros ps [] = refl
set-zeros ps (s ∷ ss) = ap (λ u. u ∷ prices_set ps ss (replicate (length ss) 0)) (price_or-zero ps s) ∙ ap (λ us. price_in ps s ∷ us) (set-zeros ps ss)

-- where none is given, nothing changes
pub set-none : (ss us : List ℕ) → length us ≡ length ss → prices_set [] ss us ≡ us
set-none [] [] same = refl
set-none [] (u ∷ us) same = absurd (omega arith)
set-none (s ∷ ss) [] same = absurd (omega arith)
set-none (s ∷ ss) (u ∷ us) same = ap (λ vs. u ∷ vs) (set-none ss us (omega arith))

price_or-other : (ps : List Price) (s u : ℕ) → list_any (λ p. is_same p.0 s) ps ≡ false → price_or ps s u ≡ u
price_or-other [] s u none = refl
price_or-other (p ∷ ps) s u none =
    let parts = or_parts (is_same p.0 s) (list_any (λ q. is_same q.0 s) ps) none in
    rw parts.0 (price_or-other ps s u parts.1)

-- the price of a site below all of these is none of theirs
set-below : (n : ℕ) (p : ℤ) (ps : List Price) (ss us : List ℕ) → All (λ s. n < s) ss → prices_set ((pos n, p) ∷ ps) ss us ≡ prices_set ps ss us
set-below n p ps [] us above = refl
set-below n p ps (s ∷ ss) [] above = refl
set-below n p ps (s ∷ ss) (u ∷ us) above =
    let less : n < s = All-head (λ m. n < m) s ss above in
    let other : n == s ≡ false = ne_eqb n s (λ e. omega arith) in
    rw other (ap (λ vs. price_or ps s u ∷ vs) (set-below n p ps ss us (All-tail (λ m. n < m) s ss above)))

-- the first given price is set at the place of its site
set-first : (n : ℕ) (p : ℤ) (ps : List Price) (ss us : List ℕ) (i : ℕ) → Rises ss → list_any (λ q. is_same q.0 n) ps ≡ false → length us ≡ length ss → i < length ss → get_or ss i 0 ≡ n
    → prices_set ((pos n, p) ∷ ps) ss us ≡ prices_set ps ss (slice_set us i (unsigned_abs p))
set-first n p ps [] us i up once same within at = absurd (omega arith)
set-first n p ps (s ∷ ss) [] i up once same within at = absurd (omega arith)
set-first n p ps (s ∷ ss) (u ∷ us) zero up once same within at =
    let first : n == s ≡ true = eq-eqb n s (sym at) in
    let once_here : list_any (λ q. is_same q.0 s) ps ≡ false = rw at once in
    let above : All (λ m. n < m) ss = subst (λ k. All (λ m. k < m) ss) at up.0 in
    rw first (ap (λ v. v ∷ prices_set ((pos n, p) ∷ ps) ss us) (sym (price_or-other ps s (unsigned_abs p) once_here)) ∙ ap (λ vs. price_or ps s (unsigned_abs p) ∷ vs) (set-below n p ps ss us above))
set-first n p ps (s ∷ ss) (u ∷ us) (suc i) up once same within at =
    let less : s < get_or ss i 0 = up.0 i 0 (omega arith) in
    let other : n == s ≡ false = ne_eqb n s (λ e. omega (arith, less, at, e)) in
    rw other (ap (λ vs. price_or ps s u ∷ vs) (set-first n p ps ss us i up.1 once (omega arith) (omega arith) at))

-- of numbers that rise, the first is none of the others
none_same : (z : ℤ) (ps : List Price) (n : ℕ) → pos n ≤ℤ z → is_rising (z ∷ map (λ p. p.0) ps) ≡ true → list_any (λ q. is_same q.0 n) ps ≡ false
none_same z [] n below up = refl
none_same z (p ∷ ps) n below up =
    let parts = and_parts (int_lt z p.0) (is_rising (p.0 ∷ map (λ q. q.0) ps)) up in
    let lower : int_lt z p.0 ≡ true = parts.0 in
    let less : z <ℤ p.0 = grind (arith, ints) in
    or_from _ _ (not_same p.0 n (omega (arith, ints, less, below))) (none_same p.0 ps n (omega (arith, ints, less, below)) parts.1)
  where
    not_same : (y : ℤ) (n : ℕ) → pos n <ℤ y → is_same y n ≡ false
    not_same (pos m) n less = ne_eqb m n (λ e. omega (arith, ints, less, e))
    not_same (negsuc m) n less = refl

pub rising_rest : (z : ℤ) (zs : List ℤ) → is_rising (z ∷ zs) ≡ true → is_rising zs ≡ true
rising_rest z [] up = refl
rising_rest z (y ∷ zs) up = (and_parts (int_lt z y) (is_rising (y ∷ zs)) up).1

pub some-if : (b : Bool) (n v : ℕ) → Some v ≡ (if b then Some n else None) → n ≡ v
some-if true n v is = cc
some-if false n v is = cc

-- the next price of a line is set at the place of its site
pub set-next : (I : Instance) (z p : ℤ) (ps : List Price) (us : List ℕ) (i : ℕ) → IsValid I → is_rising (z ∷ map (λ q. q.0) ps) ≡ true → length us ≡ length I.sites → i < length I.sites → z ≡ pos (site_at I i).id
    → prices_set ps (site_ids I) (slice_set us i (unsigned_abs p)) ≡ prices_set ((z, p) ∷ ps) (site_ids I) us
set-next I z p ps us i valid up same within is =
    let n = (site_at I i).id in
    let rises_on : is_rising (pos n ∷ map (λ q. q.0) ps) ≡ true = ap (λ y. is_rising (y ∷ map (λ q. q.0) ps)) (sym is) ∙ up in
    let once = none_same (pos n) ps n (omega (arith, ints)) rises_on in
    let at : get_or (site_ids I) i 0 ≡ n = slice_index-site_ids I i within in
    sym (set-first n p ps (site_ids I) us i (rises (site_ids I) valid.sites_named.rising) once (same ∙ sym (length-site_ids I)) (subst (λ k. i < k) (sym (length-site_ids I)) within) at)
    ∙ ap (λ y. prices_set ((y, p) ∷ ps) (site_ids I) us) (sym is)
