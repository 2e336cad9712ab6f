-- Laws of reading words in order.
use Rattle.std.proofs.Common.{◌≡◌, ℕ, suc, ◌+◌, Bool, List, [], ◌∷◌, ◌++◌, Result, Ok, Err, refl, sym, ap, ◌∙◌, append_assoc}
use Rattle.std.proofs.lemmas.List.{append-nil}
use Rattle.fixed_cost.specs.Amount.{amount_of}
use Rattle.fixed_cost.specs.declared.fault.FileKind.{FileKind}
use Rattle.fixed_cost.specs.declared.fault.FileFault.{FileFault}
use Rattle.fixed_cost.specs.declared.fault.FormFault.{FormFault}
use Rattle.fixed_cost.specs.declared.fault.FormFault.TheVariants as form
use Rattle.fixed_cost.specs.Reading.{Rest, ◌>>=◌, word_at, in_word, size_at, many_from, many_at, FailsAs}

-- steps that go on alike give the same
bind-same : {A B : Type 0} (read : Result A FileFault) (f g : A → Result B FileFault) → ((x : A) → f x ≡ g x) → (read >>= f) ≡ (read >>= g)
bind-same (Ok x) f g same = same x
bind-same (Err fault) f g same = refl

-- tests that agree read the same sizes
pub size_at-same : (kind : FileKind) (f g : ℕ → Bool) (r : Rest) → ((n : ℕ) → f n ≡ g n) → size_at kind f r ≡ size_at kind g r
unfolding size_at
size_at-same kind f g r same = bind-same (word_at r) _ _ (λ w. bind-same (in_word w.0 (amount_of w.0.text)) _ _ (λ n. rw same refl))

-- what was read before, and what is still read
abbrev pub with_front : {A : Type 0} → List A → Result (List A × Rest) FileFault → Result (List A × Rest) FileFault
with_front front read = read >>= λ x. Ok (front ++ x.0, x.1)

regroup : {A : Type 0} (front : List A) (x : A) (read : Result (List A × Rest) FileFault) → with_front front (read >>= λ y. Ok (x ∷ y.0, y.1)) ≡ with_front (front ++ x ∷ []) read
regroup front x (Ok y) = ap (λ xs. Ok (xs, y.1)) (simp append_assoc)
regroup front x (Err f) = refl

-- one more of many is read
pub many_from-next : {A S : Type 0} (next : S → A → S) (step : S → Rest → Result (A × Rest) FileFault) (front : List A) (s : S) (count fewer : ℕ) (r : Rest) (x : A) (after : Rest) (total : Result (List A × Rest) FileFault)
    → count ≡ suc fewer → step s r ≡ Ok (x, after) → with_front front (many_from next step s count r) ≡ total → with_front (front ++ x ∷ []) (many_from next step (next s x) fewer after) ≡ total
unfolding many_from
many_from-next next step front s count fewer r x after total one_more read so_far =
    let now : with_front front (many_from next step s count r) ≡ with_front (front ++ x ∷ []) (many_from next step (next s x) fewer after) = rw (one_more, read) (regroup front x (many_from next step (next s x) fewer after)) in
    sym now ∙ so_far

-- the next of many has a fault
pub many_from-fails : {A S : Type 0} (next : S → A → S) (step : S → Rest → Result (A × Rest) FileFault) (front : List A) (s : S) (count fewer : ℕ) (r : Rest) (e : FormFault) (total : Result (List A × Rest) FileFault)
    → count ≡ suc fewer → FailsAs e (step s r) → with_front front (many_from next step s count r) ≡ total → FailsAs e total
unfolding many_from
many_from-fails next step front s count fewer r form.NoMemory total one_more read so_far = tt
many_from-fails next step front s count fewer r (form.File f) total one_more read so_far =
    let now : with_front front (many_from next step s count r) ≡ Err f = rw (one_more, read) refl in
    sym so_far ∙ now

-- all of many are read
pub many_from-done : {A S : Type 0} (next : S → A → S) (step : S → Rest → Result (A × Rest) FileFault) (front : List A) (s : S) (count : ℕ) (r : Rest) (total : Result (List A × Rest) FileFault)
    → count ≡ 0 → with_front front (many_from next step s count r) ≡ total → total ≡ Ok (front, r)
unfolding many_from
many_from-done next step front s count r total none so_far =
    let now : with_front front (many_from next step s count r) ≡ Ok (front, r) = rw none (ap (λ xs. Ok (xs, r)) (append-nil front)) in
    sym so_far ∙ now

-- the same where the things are numbered
pub many_at-next : {A : Type 0} (step : ℕ → Rest → Result (A × Rest) FileFault) (front : List A) (k count fewer : ℕ) (r : Rest) (x : A) (after : Rest) (total : Result (List A × Rest) FileFault)
    → count ≡ suc fewer → step k r ≡ Ok (x, after) → with_front front (many_at step k count r) ≡ total → with_front (front ++ x ∷ []) (many_at step (k + 1) fewer after) ≡ total
many_at-next step = many_from-next (λ number _. number + 1) step

pub many_at-fails : {A : Type 0} (step : ℕ → Rest → Result (A × Rest) FileFault) (front : List A) (k count fewer : ℕ) (r : Rest) (e : FormFault) (total : Result (List A × Rest) FileFault)
    → count ≡ suc fewer → FailsAs e (step k r) → with_front front (many_at step k count r) ≡ total → FailsAs e total
many_at-fails step = many_from-fails (λ number _. number + 1) step

pub many_at-done : {A : Type 0} (step : ℕ → Rest → Result (A × Rest) FileFault) (front : List A) (k count : ℕ) (r : Rest) (total : Result (List A × Rest) FileFault)
    → count ≡ 0 → with_front front (many_at step k count r) ≡ total → total ≡ Ok (front, r)
many_at-done step = many_from-done (λ number _. number + 1) step

-- nothing is read yet
pub many_at-start : {A : Type 0} (read : Result (List A × Rest) FileFault) → with_front [] read ≡ read
many_at-start (Ok x) = refl
many_at-start (Err f) = refl
