-- Reading the words of a text in order, with the first fault that is met. Forms of files are defined by these.
use Rattle.std.specs.Prelude.{◌≡◌, ◌==◌, ℕ, zero, suc, ◌+◌, ◌/◌, ◌%◌, Bool, ◌&&◌, List, [], ◌∷◌, Result, Ok, Err, nat_eq, nat_le, if◌then◌else◌}
use Rattle.std.specs.List.{starts_with}
use Rattle.fixed_cost.specs.Amount.{amount_of}
use Rattle.number_words.specs.Words.{PlacedWord, end_of}
use Rattle.fixed_cost.specs.Faults.{kind_of, fault_at}
use Rattle.fixed_cost.specs.declared.amount.AmountFault.{AmountFault}
use Rattle.fixed_cost.specs.declared.fault.FileKind.{FileKind}
use Rattle.fixed_cost.specs.declared.fault.FileKind.TheVariants.{Ended, Trailing}
use Rattle.fixed_cost.specs.declared.fault.FileFault.{FileFault}
use Rattle.fixed_cost.specs.declared.fault.FormFault.{FormFault}
use Rattle.fixed_cost.specs.declared.fault.FormFault.TheVariants as form

-- the words of a text that are left, and the place behind the last word of the text: its line and one past its place
pub record Rest : Type 0 where
  pub left : List PlacedWord
  pub end : ℕ × ℕ

-- a text of which nothing is read yet
abbrev pub all_of : List PlacedWord → Rest
all_of ws = record { left = ws; end = end_of ws }

-- one step and then the next, up to the first fault
infixl 10 ◌>>=◌
abbrev pub ◌>>=◌ : {A B : Type 0} → Result A FileFault → (A → Result B FileFault) → Result B FileFault
(Ok x) >>= next = next x
(Err fault) >>= next = Err fault

-- the first of the words, and the others; a text that has none ends too soon
abbrev pub first_of : ℕ × ℕ → List PlacedWord → Result (PlacedWord × Rest) FileFault
first_of end [] = Err (record { kind = Ended; line = end.0; word = end.1 })
first_of end (w ∷ ws) = Ok (w, record { left = ws; end = end })

-- the next word
unfoldable pub word_at : Rest → Result (PlacedWord × Rest) FileFault
word_at r = first_of r.end r.left

-- a number that a word spells, or its fault at the place of the word
abbrev pub in_word : PlacedWord → Result ℕ AmountFault → Result ℕ FileFault
in_word w (Ok n) = Ok n
in_word w (Err fault) = Err (fault_at (kind_of fault) w)

-- the next word as an amount
unfoldable pub amount_at : Rest → Result (ℕ × Rest) FileFault
amount_at r = do
  w ← word_at r
  n ← in_word w.0 (amount_of w.0.text)
  Ok (n, w.1)

-- an amount as a size: a whole number of units that passes a test, or the fault of this kind at the place of the word
abbrev pub size_in : FileKind → (ℕ → Bool) → PlacedWord → ℕ → Result ℕ FileFault
size_in kind test w n = if n % 1000000 == 0 && test (n / 1000000) then Ok (n / 1000000) else Err (fault_at kind w)

-- the next word as a size
unfoldable pub size_at : FileKind → (ℕ → Bool) → Rest → Result (ℕ × Rest) FileFault
size_at kind test r = do
  w ← word_at r
  n ← in_word w.0 (amount_of w.0.text)
  size ← size_in kind test w.0 n
  Ok (size, w.1)

-- a number from low to high
abbrev pub is_within : ℕ → ℕ → ℕ → Bool
is_within low high n = nat_le low n && nat_le n high

-- as many things as this, one behind the other, where a state goes on from each to the next
unfoldable pub many_from : {A S : Type 0} → (S → A → S) → (S → Rest → Result (A × Rest) FileFault) → S → ℕ → Rest → Result (List A × Rest) FileFault
many_from next step s zero r = Ok ([], r)
many_from next step s (suc n) r = do
  first ← step s r
  others ← many_from next step (next s first.0) n first.1
  Ok (first.0 ∷ others.0, others.1)

-- the same where the state is the number of the thing, from k on
abbrev pub many_at : {A : Type 0} → (ℕ → Rest → Result (A × Rest) FileFault) → ℕ → ℕ → Rest → Result (List A × Rest) FileFault
many_at step k n r = many_from (λ number _. number + 1) step k n r

-- what was read, where no word is left
abbrev pub if_done : {A : Type 0} → A → List PlacedWord → Result A FileFault
if_done x [] = Ok x
if_done x (w ∷ ws) = Err (fault_at Trailing w)

unfoldable pub finished : {A : Type 0} → A → Rest → Result A FileFault
finished x r = if_done x r.left

-- the words behind those of a line
abbrev pub behind_line : ℕ → List PlacedWord → List PlacedWord
behind_line line [] = []
behind_line line (w ∷ ws) = if w.line == line then behind_line line ws else w ∷ ws

unfoldable pub behind : ℕ → Rest → Rest
behind line r = record { left = behind_line line r.left; end = r.end }

-- the words without those of the first word's line, where that word begins so
abbrev pub without_line : List ℕ → List PlacedWord → List PlacedWord
without_line start [] = []
without_line start (w ∷ ws) = if starts_with nat_eq w.text start then behind_line w.line ws else w ∷ ws

unfoldable pub untitled : List ℕ → Rest → Rest
untitled start r = record { left = without_line start r.left; end = r.end }

-- what a reader answered, as view shows it, and left is what the definition gives; behind a fault nothing is said of what is left
abbrev pub Reads : {X Y : Type 0} → (X → Y) → Result X FileFault → Rest → Result (Y × Rest) FileFault → Type 0
Reads view (Ok x) rest read = read ≡ Ok (view x, rest)
Reads view (Err fault) rest read = read ≡ Err fault

-- the same where memory may run out, of which nothing is said
abbrev pub FailsAs : {Y : Type 0} → FormFault → Result Y FileFault → Type 0
FailsAs form.NoMemory read = Unit {0}
FailsAs (form.File fault) read = read ≡ Err fault

abbrev pub ReadsForm : {X Y : Type 0} → (X → Y) → Result X FormFault → Rest → Result (Y × Rest) FileFault → Type 0
ReadsForm view (Ok x) rest read = read ≡ Ok (view x, rest)
ReadsForm view (Err fault) rest read = FailsAs fault read

-- what was read of the whole text is what the definition gives
abbrev pub Means : {X Y : Type 0} → (X → Y) → Result X FormFault → Result Y FileFault → Type 0
Means view (Ok x) read = read ≡ Ok (view x)
Means view (Err fault) read = FailsAs fault read

-- the place behind the last of the words, or this one where there is none
abbrev pub end_after : ℕ × ℕ → List PlacedWord → ℕ × ℕ
end_after end [] = end
end_after end (w ∷ ws) = end_after (w.line, w.place + 1) ws
