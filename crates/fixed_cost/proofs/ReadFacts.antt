-- What is known of what was read.
use Rattle.std.proofs.Common.{◌≡◌, ℕ, zero, suc, ◌+◌, ◌≤◌, ◌/◌, ◌%◌, ◌==◌, ◌&&◌, Bool, true, false, not, cond, nat_le, List, [], ◌∷◌, length, Result, Ok, Err, refl, ap, subst, ◌∙◌, arith}
use Rattle.std.proofs.lemmas.Bool.{and_parts}
use Rattle.std.proofs.lemmas.Bool.Decides.{nat_tests}
use Rattle.std.proofs.lemmas.List.Elements.{All-nil, All-cons}
use Rattle.std.specs.Prelude.{All, if◌then◌else◌}
use Rattle.location_terms.specs.declared.limits.TheConstants.{MAX_AMOUNT}
use Rattle.number_words.specs.Words.{PlacedWord}
use Rattle.fixed_cost.specs.Amount.{amount_of, is_numeral, is_in_millionths, millionths}
use Rattle.fixed_cost.specs.declared.amount.AmountFault.{AmountFault}
use Rattle.fixed_cost.specs.declared.amount.AmountFault.TheVariants.{NotANumber, TooFine, TooBig}
use Rattle.fixed_cost.specs.declared.fault.FileFault.{FileFault}
use Rattle.fixed_cost.specs.declared.fault.FileKind.{FileKind}
use Rattle.fixed_cost.specs.Faults.{fault_at}
use Rattle.fixed_cost.specs.Reading.{Rest, ◌>>=◌, word_at, in_word, amount_at, size_in, size_at, many_from, many_at, if_done, finished}

abbrev done : {A : Type 0} → A → Result A FileFault
done x = Ok x

pub done-same : {A : Type 0} (x y : A) → done x ≡ done y → x ≡ y
done-same x y e = cc

-- the value of a step that did not fail
pub bind-ok : {A B : Type 0} (read : Result A FileFault) (next : A → Result B FileFault) (y : B) → (read >>= next) ≡ Ok y → (x : A) × (read ≡ Ok x) × (next x ≡ Ok y)
bind-ok (Ok x) next y e = (x, refl, e)
bind-ok (Err f) next y e = absurd cc

by_limit : (a b c : Bool) (m n : ℕ) → (c ≡ true → m ≤ MAX_AMOUNT) → cond a (Err NotANumber) (cond b (Err TooFine) (cond c (Ok m) (Err TooBig))) ≡ Ok n → n ≤ MAX_AMOUNT
by_limit true b c m n small e = absurd cc
by_limit false true c m n small e = absurd cc
by_limit false false true m n small e = let same : m ≡ n = cc in omega (arith, small refl, same)
by_limit false false false m n small e = absurd cc

-- an amount that is spelled is within the limit
pub amount_of-small : (word : List ℕ) (n : ℕ) → amount_of word ≡ Ok n → n ≤ MAX_AMOUNT
unfolding amount_of
amount_of-small word n e = by_limit (not (is_numeral word)) (not (is_in_millionths word)) (nat_le (millionths word) MAX_AMOUNT) (millionths word) n (λ t. grind (arith, nat_tests)) e

in_word-ok : (w : PlacedWord) (read : Result ℕ AmountFault) (n : ℕ) → in_word w read ≡ Ok n → read ≡ Ok n
in_word-ok w (Ok m) n e = ap Ok cc
in_word-ok w (Err f) n e = absurd cc

pub amount_at-small : (r : Rest) (n : ℕ) (after : Rest) → amount_at r ≡ Ok (n, after) → n ≤ MAX_AMOUNT
unfolding amount_at
amount_at-small r n after e =
    let w = bind-ok (word_at r) _ (n, after) e in
    let m = bind-ok (in_word w.0.0 (amount_of w.0.0.text)) _ (n, after) w.2 in
    let same : m.0 ≡ n = ap (λ (p : ℕ × Rest). p.0) (done-same (m.0, w.0.1) (n, after) m.2) in
    subst (λ k. k ≤ MAX_AMOUNT) same (amount_of-small w.0.0.text m.0 (in_word-ok w.0.0 (amount_of w.0.0.text) m.0 m.1))

-- a fact of each of several things and of the state before it
abbrev pub AllAlong : {A S : Type 0} → (S → A → S) → (S → A → Type 0) → S → List A → Type 0
AllAlong next P s [] = Unit {0}
AllAlong next P s (x ∷ xs) = P s x × AllAlong next P (next s x) xs

-- a step that reads no more than what has a fact
pub record AlwaysGives {A S : Type 0} (P : S → A → Type 0) (step : S → Rest → Result (A × Rest) FileFault) : Type 0 where
  pub gives : (s : S) (r : Rest) (x : A) (after : Rest) → step s r ≡ Ok (x, after) → P s x

-- as many as were wanted, each with the fact
pub many_from-all : {A S : Type 0} (next : S → A → S) (P : S → A → Type 0) (step : S → Rest → Result (A × Rest) FileFault) → AlwaysGives P step
    → (n : ℕ) (s : S) (r : Rest) (xs : List A) (after : Rest) → many_from next step s n r ≡ Ok (xs, after) → (length xs ≡ n) × AllAlong next P s xs
unfolding many_from
many_from-all next P step gives zero s r [] after e = (refl, tt)
many_from-all {A} next P step gives zero s r (x ∷ xs) after e = absurd (cc (ap (λ (p : List A × Rest). p.0) (done-same ([], r) (x ∷ xs, after) e)))
many_from-all {A} next P step gives (suc n) s r xs after e =
    let first = bind-ok (step s r) _ (xs, after) e in
    let others = bind-ok (many_from next step (next s first.0.0) n first.0.1) _ (xs, after) first.2 in
    let rest = many_from-all next P step gives n (next s first.0.0) first.0.1 others.0.0 others.0.1 others.1 in
    let same : first.0.0 ∷ others.0.0 ≡ xs = ap (λ (p : List A × Rest). p.0) (done-same (first.0.0 ∷ others.0.0, others.0.1) (xs, after) others.2) in
    subst (λ ys. (length ys ≡ suc n) × AllAlong next P s ys) same (omega (arith, rest.0), (gives.gives s r first.0.0 first.0.1 first.1, rest.1))

-- the same of a fact that the state has no part in
pub many_at-each : {A : Type 0} (Q : A → Type 0) (step : ℕ → Rest → Result (A × Rest) FileFault) → AlwaysGives (λ _. Q) step
    → (n k : ℕ) (r : Rest) (xs : List A) (after : Rest) → many_at step k n r ≡ Ok (xs, after) → (length xs ≡ n) × All Q xs
many_at-each {A} Q step gives n k r xs after e = let all = many_from-all (λ number _. number + 1) (λ _. Q) step gives n k r xs after e in (all.0, each k xs all.1)
  where
    each : (k : ℕ) (ys : List A) → AllAlong (λ (number : ℕ) _. number + 1) (λ _. Q) k ys → All Q ys
    each k [] all = All-nil Q
    each k (y ∷ ys) all = All-cons Q y ys all.0 (each (k + 1) ys all.1)

-- what is given where a test has to hold
by_test : (b : Bool) (k n : ℕ) (f : FileFault) → (if b then Ok k else Err f) ≡ Ok n → (b ≡ true) × (k ≡ n)
by_test true k n f e = (refl, done-same k n e)
by_test false k n f e = absurd cc

-- a size that was read passes its test
pub size_at-tested : (kind : FileKind) (test : ℕ → Bool) (r : Rest) (n : ℕ) (after : Rest) → size_at kind test r ≡ Ok (n, after) → test n ≡ true
unfolding size_at
size_at-tested kind test r n after e =
    let w = bind-ok (word_at r) _ (n, after) e in
    let m = bind-ok (in_word w.0.0 (amount_of w.0.0.text)) _ (n, after) w.2 in
    let size = bind-ok (size_in kind test w.0.0 m.0) _ (n, after) m.2 in
    let same : size.0 ≡ n = ap (λ (p : ℕ × Rest). p.0) (done-same (size.0, w.0.1) (n, after) size.2) in
    let passed = by_test (m.0 % 1000000 == 0 && test (m.0 / 1000000)) (m.0 / 1000000) size.0 (fault_at kind w.0.0) size.1 in
    subst (λ k. test k ≡ true) (passed.1 ∙ same) (and_parts (m.0 % 1000000 == 0) (test (m.0 / 1000000)) passed.0).1

-- what is given at the end was put in
pub finished-same : {A : Type 0} (x y : A) (r : Rest) → finished x r ≡ Ok y → x ≡ y
unfolding finished
finished-same {A} x y r = by r.left
  where
    by : (ws : List PlacedWord) → if_done x ws ≡ Ok y → x ≡ y
    by [] e = done-same x y e
    by (w ∷ ws) e = absurd cc

-- where a word is left it trails, whatever was read
pub finished-err : {A B : Type 0} (x : A) (y : B) (r : Rest) (f : FileFault) → finished x r ≡ Err f → finished y r ≡ Err f
unfolding finished
finished-err {A} {B} x y r f = by r.left
  where
    by : (ws : List PlacedWord) → if_done x ws ≡ Err f → if_done y ws ≡ Err f
    by [] e = absurd cc
    by (w ∷ ws) e = ap Err cc

pub finished-ok : {A B : Type 0} (x z : A) (y : B) (r : Rest) → finished x r ≡ Ok z → finished y r ≡ Ok y
unfolding finished
finished-ok {A} {B} x z y r = by r.left
  where
    by : (ws : List PlacedWord) → if_done x ws ≡ Ok z → if_done y ws ≡ Ok y
    by [] e = refl
    by (w ∷ ws) e = absurd cc
