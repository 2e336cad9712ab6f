-- The words of a line, and its plain form.
use Rattle.std.proofs.Common.{◌≡◌, ℕ, suc, ◌+◌, ◌<◌, ◌≤◌, Bool, true, false, cond, ◌&&◌, not, ◌==◌, List, [], ◌∷◌, ◌++◌, length, length-append, get_or, take, drop, ◌-◌, ◌⊎◌, sym, refl, ap, ◌∙◌, subst, arith, inl, inr, ◌/◌, ◌%◌}
use Rattle.std.specs.Prelude.{ℤ, pos, negsuc, filter, All}
use Rattle.std.specs.Char.{is_ascii_digit}
use Rattle.std.specs.List.{slice_split, onto_first, list_all, position_or_len, before_first}
use Rattle.std.specs.Str.{all_ascii_digits}
use Rattle.std.proofs.lemmas.Bool.{cases_Bool, cases_lt, and_parts, and_from, and_left, and_right, ne_eqb, not-true, not_from_false}
use Rattle.std.proofs.lemmas.Bool.Decides.{nat_tests, same_from_decides}
use Rattle.std.proofs.lemmas.List.{append-nil, at_drop_more, at_drop_all, take-append-drop, take_rest, drop_more, drop_all}
use Rattle.std.proofs.lemmas.List.Folds.{list_all-append}
use Rattle.std.proofs.lemmas.List.Splits.{slice_split_none, slice_split_at}
use Rattle.std.proofs.lemmas.List.Sums.{AllPass-from_list_all}
use Rattle.std.proofs.lemmas.Slice.Eq.{bytes_eq-Decides}
use Rattle.number_words.specs.Line.{is_blank, words_of_line, is_word, spaced, is_spaced}
use Rattle.number_words.specs.Number.{digits_text, number_text}
use Rattle.number_words.specs.Cost.{micro_text}
use Rattle.number_words.proofs.Digits.{spells-digits_text, digit_value-of}
use Rattle.number_words.proofs.Costs.{six, micro_text-is, all_ascii_digits-six}

-- no byte is a blank
abbrev pub unbroken : List ℕ → Bool
unbroken run = list_all (λ b. not (is_blank b)) run

-- the space and the words behind a first word
abbrev pub behind : List (List ℕ) → List ℕ
behind [] = []
behind (w ∷ ws) = 32 ∷ spaced (w ∷ ws)

spaced-first : (w : List ℕ) (ws : List (List ℕ)) → spaced (w ∷ ws) ≡ w ++ behind ws
spaced-first w [] = sym (append-nil w)
spaced-first w (v ∷ vs) = refl

pub is_word-parts : (w : List ℕ) → is_word w ≡ true → (0 < length w) × (unbroken w ≡ true)
is_word-parts w word =
    let both = and_parts (not (length w == 0)) (unbroken w) word in
    (grind (arith, nat_tests, both.0), both.1)

pub is_word-from : (w : List ℕ) → 0 < length w → unbroken w ≡ true → is_word w ≡ true
is_word-from w some whole = and_from _ _ (grind (arith, nat_tests)) whole

-- a blank in front of a line changes none of its words
pub words_of_line-blank : (b : ℕ) (l : List ℕ) → is_blank b ≡ true → words_of_line (b ∷ l) ≡ words_of_line l
words_of_line-blank b l blank = rw blank refl

-- a run ends at a blank, or with its line
no_blanks : (run : List ℕ) → unbroken run ≡ true → All (λ b. is_blank b ≡ false) run
no_blanks run whole = λ k d inside. not-true _ (AllPass-from_list_all (λ b. not (is_blank b)) run whole k d inside)

words_of_line-word : (w : List ℕ) → is_word w ≡ true → words_of_line w ≡ w ∷ []
words_of_line-word w word =
    let parts = is_word-parts w word in
    let full : length w == 0 ≡ false = grind (arith, nat_tests) in
    rw (slice_split_none is_blank w (no_blanks w parts.1), full) refl

words_of_line-word_blank : (w l : List ℕ) (b : ℕ) → is_word w ≡ true → is_blank b ≡ true → words_of_line (w ++ b ∷ l) ≡ w ∷ words_of_line l
words_of_line-word_blank w l b word blank =
    let parts = is_word-parts w word in
    let full : length w == 0 ≡ false = grind (arith, nat_tests) in
    rw (slice_split_at is_blank w b l (no_blanks w parts.1) blank, full) refl

-- the words of a line of spaced words
pub words_of_line-spaced : (ws : List (List ℕ)) → list_all is_word ws ≡ true → words_of_line (spaced ws) ≡ ws
words_of_line-spaced [] words = refl
words_of_line-spaced (w ∷ []) words = words_of_line-word w (and_parts (is_word w) true words).0
words_of_line-spaced (w ∷ v ∷ vs) words =
    let both = and_parts (is_word w) (list_all is_word (v ∷ vs)) words in
    words_of_line-word_blank w (spaced (v ∷ vs)) 32 both.0 refl ∙ ap (λ xs. w ∷ xs) (words_of_line-spaced (v ∷ vs) both.1)

-- the parts of a line between its blanks, and its words, have no blank
unbroken-parts : (line : List ℕ) → list_all unbroken (slice_split is_blank line) ≡ true
unbroken-parts [] = refl
unbroken-parts (b ∷ bs) =
    elim (cases_Bool (is_blank b)) [
      | inl blank ↦ rw blank (unbroken-parts bs)
      | inr part ↦ rw part (onto b (slice_split is_blank bs) part (unbroken-parts bs))
    ]
  where
    onto : (x : ℕ) (parts : List (List ℕ)) → is_blank x ≡ false → list_all unbroken parts ≡ true → list_all unbroken (onto_first x parts) ≡ true
    onto x [] part whole = rw part refl
    onto x (p ∷ ps) part whole = rw part whole

words-filter : (parts : List (List ℕ)) → list_all unbroken parts ≡ true → list_all is_word (filter (λ run. not (length run == 0)) parts) ≡ true
words-filter [] whole = refl
words-filter (p ∷ ps) whole =
    let both = and_parts (unbroken p) (list_all unbroken ps) whole in
    elim (cases_Bool (length p == 0)) [
      | inl empty ↦ rw empty (words-filter ps both.1)
      | inr full ↦ rw full (and_from _ _ (and_from _ _ (not_from_false _ full) both.0) (words-filter ps both.1))
    ]

pub words-words_of_line : (line : List ℕ) → list_all is_word (words_of_line line) ≡ true
words-words_of_line line = words-filter (slice_split is_blank line) (unbroken-parts line)

-- whether a line goes on as words parted by single spaces, within a word or before one
abbrev pub spaced_from : Bool → List ℕ → Bool
spaced_from in_word [] = in_word
spaced_from in_word (b ∷ bs) = cond (is_blank b) ((in_word && b == 32) && spaced_from false bs) (spaced_from true bs)

pub spaced_from-blank : (in_word : Bool) (b : ℕ) (bs : List ℕ) → is_blank b ≡ true → spaced_from in_word (b ∷ bs) ≡ (in_word && b == 32) && spaced_from false bs
spaced_from-blank in_word b bs blank = rw blank refl

pub spaced_from-part : (in_word : Bool) (b : ℕ) (bs : List ℕ) → is_blank b ≡ false → spaced_from in_word (b ∷ bs) ≡ spaced_from true bs
spaced_from-part in_word b bs part = rw part refl

-- one step along a line: a byte of a word, a space behind a word, and any other blank
pub spaced_from-drop_part : (in_word : Bool) (line : List ℕ) (i : ℕ) → i < length line → is_blank (get_or line i 0) ≡ false → spaced_from in_word (drop i line) ≡ spaced_from true (drop (i + 1) line)
spaced_from-drop_part in_word line i inside part = at_drop_more (spaced_from in_word) line i 0 inside ∙ spaced_from-part in_word (get_or line i 0) (drop (i + 1) line) part

pub spaced_from-drop_space : (in_word : Bool) (line : List ℕ) (i : ℕ) → i < length line → in_word ≡ true → get_or line i 0 ≡ 32 → spaced_from in_word (drop i line) ≡ spaced_from false (drop (i + 1) line)
spaced_from-drop_space in_word line i inside behind_word space =
    let blank : is_blank (get_or line i 0) ≡ true = ap is_blank space in
    at_drop_more (spaced_from in_word) line i 0 inside ∙ spaced_from-blank in_word (get_or line i 0) (drop (i + 1) line) blank
    ∙ ap (λ b. (b && get_or line i 0 == 32) && spaced_from false (drop (i + 1) line)) behind_word
    ∙ ap (λ b. b == 32 && spaced_from false (drop (i + 1) line)) space

pub spaced_from-drop_other : (in_word : Bool) (line : List ℕ) (i : ℕ) → i < length line → is_blank (get_or line i 0) ≡ true → (in_word ≡ false) ⊎ (get_or line i 0 ≡ 32 → ⊥) → spaced_from in_word (drop i line) ≡ false
spaced_from-drop_other in_word line i inside blank other =
    at_drop_more (spaced_from in_word) line i 0 inside ∙ spaced_from-blank in_word (get_or line i 0) (drop (i + 1) line) blank
    ∙ and_left _ _ (no_space other)
  where
    no_space : (in_word ≡ false) ⊎ (get_or line i 0 ≡ 32 → ⊥) → in_word && get_or line i 0 == 32 ≡ false
    no_space (inl no_word) = and_left _ _ no_word
    no_space (inr other_blank) = and_right _ _ (ne_eqb _ 32 other_blank)

-- spaced words go on so
spaced_from-run : (run zs : List ℕ) → unbroken run ≡ true → spaced_from true (run ++ zs) ≡ spaced_from true zs
spaced_from-run [] zs whole = refl
spaced_from-run (x ∷ run) zs whole =
    let both = and_parts (not (is_blank x)) (unbroken run) whole in
    spaced_from-part true x (run ++ zs) (not-true (is_blank x) both.0) ∙ spaced_from-run run zs both.1

spaced_from-word : (w zs : List ℕ) → is_word w ≡ true → spaced_from false (w ++ zs) ≡ spaced_from true zs
spaced_from-word [] zs word = cc
spaced_from-word (x ∷ run) zs word =
    let both = and_parts (not (is_blank x)) (unbroken run) (is_word-parts (x ∷ run) word).1 in
    spaced_from-part false x (run ++ zs) (not-true (is_blank x) both.0) ∙ spaced_from-run run zs both.1

spaced_from-spaced : (w : List ℕ) (ws : List (List ℕ)) → list_all is_word (w ∷ ws) ≡ true → spaced_from false (spaced (w ∷ ws)) ≡ true
spaced_from-spaced w [] words = ap (spaced_from false) (spaced-first w []) ∙ spaced_from-word w [] (and_parts (is_word w) true words).0
spaced_from-spaced w (v ∷ vs) words =
    let both = and_parts (is_word w) (list_all is_word (v ∷ vs)) words in
    spaced_from-word w (32 ∷ spaced (v ∷ vs)) both.0 ∙ spaced_from-spaced v vs both.1

-- what goes on so is spaced words
record IsTail (bs : List ℕ) : Type 0 where
  rest : List ℕ
  words : List (List ℕ)
  whole : unbroken rest ≡ true
  all : list_all is_word words ≡ true
  is : bs ≡ rest ++ behind words

record IsWhole (bs : List ℕ) : Type 0 where
  first : List ℕ
  others : List (List ℕ)
  all : list_all is_word (first ∷ others) ≡ true
  is : bs ≡ spaced (first ∷ others)

spaced_from-parts : (bs : List ℕ) → (spaced_from true bs ≡ true → IsTail bs) × (spaced_from false bs ≡ true → IsWhole bs)
spaced_from-parts [] = (λ on. record { rest = []; words = []; whole = refl; all = refl; is = refl }, λ on. cc)
spaced_from-parts (b ∷ bs) =
    let later = spaced_from-parts bs in
    elim (cases_Bool (is_blank b)) [
      | inl blank ↦ (
        λ on.
            let both = and_parts (b == 32) (spaced_from false bs) (sym (spaced_from-blank true b bs blank) ∙ on) in
            let whole = later.1 both.1 in
            let space : b ≡ 32 = grind (arith, nat_tests, both.0) in
            record { rest = []; words = whole.first ∷ whole.others; whole = refl; all = whole.all; is = ap (λ c. c ∷ bs) space ∙ ap (λ ys. 32 ∷ ys) whole.is },
        λ on. absurd (false_true (sym (spaced_from-blank false b bs blank) ∙ on)),
      )
      | inr part ↦ (
        λ on.
            let tail = later.0 (sym (spaced_from-part true b bs part) ∙ on) in
            record { rest = b ∷ tail.rest; words = tail.words; whole = and_from _ _ (not_from_false _ part) tail.whole; all = tail.all; is = ap (λ ys. b ∷ ys) tail.is },
        λ on.
            let tail = later.0 (sym (spaced_from-part false b bs part) ∙ on) in
            record {
              first = b ∷ tail.rest;
              others = tail.words;
              all = and_from _ _ (is_word-from (b ∷ tail.rest) (omega arith) (and_from _ _ (not_from_false _ part) tail.whole)) tail.all;
              is = ap (λ ys. b ∷ ys) tail.is ∙ sym (spaced-first (b ∷ tail.rest) tail.words);
            },
      )
    ]
  where
    false_true : false ≡ true → ⊥
    false_true e = cc

-- one pass over a line that is not empty tells whether it is its words parted by single spaces
pub is_spaced-spaced_from : (line : List ℕ) → 0 < length line → is_spaced line ≡ spaced_from false line
is_spaced-spaced_from line some =
    same_from_decides (is_spaced line) (spaced_from false line) (bytes_eq-Decides line (spaced (words_of_line line))) (to, from (words_of_line line) refl)
  where
    to : spaced_from false line ≡ true → line ≡ spaced (words_of_line line)
    to on =
        let whole = (spaced_from-parts line).1 on in
        whole.is ∙ ap spaced (sym (ap words_of_line whole.is ∙ words_of_line-spaced (whole.first ∷ whole.others) whole.all))

    from : (ws : List (List ℕ)) → words_of_line line ≡ ws → line ≡ spaced (words_of_line line) → spaced_from false line ≡ true
    from [] words same = absurd (omega (arith, ap length (same ∙ ap spaced words)))
    from (w ∷ ws) words same = ap (spaced_from false) (same ∙ ap spaced words) ∙ spaced_from-spaced w ws (sym (ap (list_all is_word) words) ∙ words-words_of_line line)

-- at the end of a line
pub is_spaced-in_word : (line : List ℕ) (i : ℕ) → length line ≤ i → spaced_from true (drop i line) ≡ spaced_from false line → true ≡ is_spaced line
is_spaced-in_word [] i past same = refl
is_spaced-in_word (b ∷ bs) i past same = sym (at_drop_all (spaced_from true) (b ∷ bs) i past) ∙ same ∙ sym (is_spaced-spaced_from (b ∷ bs) (omega arith))

pub is_spaced-blank : (line : List ℕ) (i : ℕ) → length line ≤ i → spaced_from false (drop i line) ≡ spaced_from false line → length line == 0 ≡ is_spaced line
is_spaced-blank [] i past same = refl
is_spaced-blank (b ∷ bs) i past same =
    let full : length (b ∷ bs) == 0 ≡ false = grind (arith, nat_tests) in
    full ∙ sym (at_drop_all (spaced_from false) (b ∷ bs) i past) ∙ same ∙ sym (is_spaced-spaced_from (b ∷ bs) (omega arith))

-- nothing, or a blank and what follows it
abbrev pub StartsBlank : List ℕ → Type 0
StartsBlank [] = Unit {0}
StartsBlank (y ∷ ys) = is_blank y ≡ true

pub parts_at : (xs : List ℕ) → (unbroken (before_first is_blank xs) ≡ true) × StartsBlank (drop (position_or_len is_blank xs) xs)
parts_at [] = (refl, tt)
parts_at (x ∷ xs) =
    elim (cases_Bool (is_blank x)) [
      | inl blank ↦ rw blank (refl, blank)
      | inr part ↦
          let more : 1 + position_or_len is_blank xs ≡ suc (position_or_len is_blank xs) = omega arith in
          let rest = parts_at xs in
          rw (part, more) (and_from _ _ (not_from_false _ part) rest.0, rest.1)
    ]

pub words_of_line-run : (w rest : List ℕ) → is_word w ≡ true → StartsBlank rest → words_of_line (w ++ rest) ≡ w ∷ words_of_line rest
words_of_line-run w [] word starts = ap words_of_line (append-nil w) ∙ words_of_line-word w word
words_of_line-run w (y ∷ ys) word starts = words_of_line-word_blank w ys y word starts ∙ ap (λ xs. w ∷ xs) (sym (words_of_line-blank y ys starts))

-- the word at the front is the first of a line
pub words_of_line-first : (xs : List ℕ) → 0 < length (before_first is_blank xs) → words_of_line xs ≡ before_first is_blank xs ∷ words_of_line (drop (position_or_len is_blank xs) xs)
words_of_line-first xs some =
    let parts = parts_at xs in
    subst (λ ys. words_of_line ys ≡ before_first is_blank xs ∷ words_of_line (drop (position_or_len is_blank xs) xs)) (take-append-drop (position_or_len is_blank xs) xs)
    (words_of_line-run (before_first is_blank xs) (drop (position_or_len is_blank xs) xs) (is_word-from (before_first is_blank xs) some parts.0) parts.1)

-- a byte that is no blank begins a word
byte_begins : (b : ℕ) (xs : List ℕ) → is_blank b ≡ false → 0 < length (before_first is_blank (b ∷ xs))
byte_begins b xs part =
    let more : 1 + position_or_len is_blank xs ≡ suc (position_or_len is_blank xs) = omega arith in
    rw (part, more) (omega arith)

-- where no word stands at the front, and no blank, nothing is left
pub nothing_left : (line : List ℕ) (len : ℕ) → (len < length line → is_blank (get_or line len 0) ≡ false) → length (before_first is_blank (drop len line)) ≡ 0 → drop len line ≡ []
nothing_left line len stops none =
    elim (cases_lt len (length line)) [
      | inl inside ↦ absurd (omega (arith, byte_begins (get_or line len 0) (drop (len + 1) line) (stops inside), ap (λ xs. length (before_first is_blank xs)) (drop_more line len 0 inside)))
      | inr past ↦ drop_all len line past
    ]

-- what is split off before a blank, and what stands behind it
pub front-split : (line word : List ℕ) (len p : ℕ) → p ≡ position_or_len is_blank (take (length line - len) (drop len line)) → word ≡ take p (take (length line - len) (drop len line)) → word ≡ before_first is_blank (drop len line)
front-split line word len p at split = split ∙ ap (λ n. take n (take (length line - len) (drop len line))) at ∙ ap (before_first is_blank) (take_rest line len)

pub back-split : (line rest : List ℕ) (len p : ℕ) → p ≡ position_or_len is_blank (take (length line - len) (drop len line)) → rest ≡ drop p (take (length line - len) (drop len line)) → rest ≡ drop (position_or_len is_blank (drop len line)) (drop len line)
back-split line rest len p at split =
    split ∙ ap (λ n. drop n (take (length line - len) (drop len line))) at ∙ ap (λ xs. drop (position_or_len is_blank xs) xs) (take_rest line len)

-- digits are no blanks
unbroken-digits : (ds : List ℕ) → all_ascii_digits ds ≡ true → unbroken ds ≡ true
unbroken-digits [] digits = refl
unbroken-digits (c ∷ cs) digits =
    let both = and_parts (is_ascii_digit c) (all_ascii_digits cs) digits in
    let digit = digit_value-of c both.0 in
    let part : is_blank c ≡ false = grind (arith, nat_tests) in
    and_from _ _ (not_from_false _ part) (unbroken-digits cs both.1)

-- printed numbers and costs are words
pub is_word-number_text : (z : ℤ) → is_word (number_text z) ≡ true
is_word-number_text (pos n) = let spells = spells-digits_text n in is_word-from (digits_text n) spells.nonempty (unbroken-digits (digits_text n) spells.digits)
is_word-number_text (negsuc n) = is_word-from (45 ∷ digits_text (suc n)) (omega arith) (and_from _ _ refl (unbroken-digits (digits_text (suc n)) (spells-digits_text (suc n)).digits))

pub is_word-micro_text : (n : ℕ) → is_word (micro_text n) ≡ true
is_word-micro_text n =
    let units = spells-digits_text (n / 1000000) in
    let ds = digits_text (n / 1000000) in
    let zs = six (n % 1000000) in
    ap is_word (micro_text-is n) ∙ is_word-from (ds ++ 46 ∷ zs) (omega (arith, length-append ds (46 ∷ zs)))
    (list_all-append (λ b. not (is_blank b)) ds (46 ∷ zs) ∙ and_from _ _ (unbroken-digits ds units.digits) (and_from _ _ refl (unbroken-digits zs (all_ascii_digits-six (n % 1000000)))))
