-- What a scanner has left, step by step, and the words of a text of spaced lines.
use Rattle.std.proofs.Common.{◌≡◌, ℕ, ◌+◌, ◌<◌, Bool, true, false, not, List, [], ◌∷◌, ◌++◌, map, length, get_or, drop, sym, refl, ap, ◌∙◌, subst, arith, inl, inr, append_assoc}
use Rattle.std.specs.Prelude.{All}
use Rattle.std.specs.List.{slice_split, onto_first, position_or_len, before_first, list_all}
use Rattle.std.proofs.lemmas.Bool.{cases_Bool, and_parts, and_from, not-true}
use Rattle.std.proofs.lemmas.Bool.Decides.{nat_tests}
use Rattle.std.proofs.lemmas.List.{take-append-drop, at_drop_more}
use Rattle.std.proofs.lemmas.List.Folds.{list_all-append}
use Rattle.std.proofs.lemmas.List.Splits.{slice_split_at}
use Rattle.std.proofs.lemmas.List.Sums.{AllPass-from_list_all}
use Rattle.number_words.specs.Line.{is_line_feed, is_blank, words_of_line, is_word, spaced}
use Rattle.number_words.specs.Words.{words_in_line, words_in_lines, words_of, spaced_lines}
use Rattle.number_words.specs.Scan.{words_after, words_left}
use Rattle.number_words.proofs.Lines.{unbroken, is_word-parts, is_word-from, StartsBlank, words_of_line-blank, words_of_line-run, words_of_line-spaced, parts_at}

-- numbered from the front of a line, a first line is like the others
words_in_lines-is : (line : ℕ) (parts : List (List ℕ)) → words_in_lines line (map words_of_line parts) ≡ words_after line 1 parts
words_in_lines-is line [] = refl
words_in_lines-is line (l ∷ ls) = refl

-- all words of a text are left at its front
pub words_left-start : (bytes : List ℕ) → words_left 1 1 bytes ≡ words_of bytes
unfolding words_left words_of
words_left-start bytes = sym (words_in_lines-is 1 (slice_split is_line_feed bytes))

-- nothing is left at the end
pub words_left-end : (line place : ℕ) → words_left line place [] ≡ []
unfolding words_left
words_left-end line place = refl

-- a line feed ends a line
words_left-line_feed : (line place : ℕ) (bs : List ℕ) → words_left line place (10 ∷ bs) ≡ words_left (line + 1) 1 bs
unfolding words_left
words_left-line_feed line place bs = words_in_lines-is (line + 1) (slice_split is_line_feed bs)

-- a blank that ends no line is passed over
words_left-blank : (line place b : ℕ) (bs : List ℕ) → is_blank b ≡ true → is_line_feed b ≡ false → words_left line place (b ∷ bs) ≡ words_left line place bs
unfolding words_left
words_left-blank line place b bs blank same_line = rw same_line (onto (slice_split is_line_feed bs))
  where
    onto : (parts : List (List ℕ)) → words_after line place (onto_first b parts) ≡ words_after line place parts
    onto [] = rw blank refl
    onto (l ∷ ls) = ap (λ ws. words_in_line line place ws ++ words_in_lines (line + 1) (map words_of_line ls)) (words_of_line-blank b l blank)

-- one step of a scanner over blanks: at a line feed, and at another blank
pub words_left-drop_line_feed : (line place : ℕ) (bs : List ℕ) (i : ℕ) → i < length bs → get_or bs i 0 ≡ 10 → words_left line place (drop i bs) ≡ words_left (line + 1) 1 (drop (i + 1) bs)
words_left-drop_line_feed line place bs i inside ends =
    at_drop_more (words_left line place) bs i 0 inside ∙ ap (λ b. words_left line place (b ∷ drop (i + 1) bs)) ends ∙ words_left-line_feed line place (drop (i + 1) bs)

pub words_left-drop_blank : (line place : ℕ) (bs : List ℕ) (i : ℕ) → i < length bs → is_blank (get_or bs i 0) ≡ true → (get_or bs i 0 ≡ 10 → ⊥) → words_left line place (drop i bs) ≡ words_left line place (drop (i + 1) bs)
words_left-drop_blank line place bs i inside blank on =
    at_drop_more (words_left line place) bs i 0 inside ∙ words_left-blank line place (get_or bs i 0) (drop (i + 1) bs) blank (grind (arith, nat_tests))

-- a run without a blank goes to the first line
run_in_line : (run zs l : List ℕ) (ls : List (List ℕ)) → unbroken run ≡ true → slice_split is_line_feed zs ≡ l ∷ ls → slice_split is_line_feed (run ++ zs) ≡ (run ++ l) ∷ ls
run_in_line [] zs l ls whole e = e
run_in_line (x ∷ run) zs l ls whole e =
    let both = and_parts (not (is_blank x)) (unbroken run) whole in
    let on : is_line_feed x ≡ false = grind (arith, nat_tests, both.0) in
    rw (on, run_in_line run zs l ls both.1 e) refl

-- the first line of a text
first_line : (zs : List ℕ) → StartsBlank zs → (l : List ℕ) × (ls : List (List ℕ)) × (slice_split is_line_feed zs ≡ l ∷ ls) × StartsBlank l
first_line [] starts = ([], [], refl, tt)
first_line (y ∷ ys) starts =
    elim (cases_Bool (is_line_feed y)) [
      | inl ends ↦ ([], slice_split is_line_feed ys, rw ends refl, tt)
      | inr on ↦ let first = onto (slice_split is_line_feed ys) in (y ∷ first.0, first.1, rw on first.2, starts)
    ]
  where
    onto : (parts : List (List ℕ)) → (l : List ℕ) × (ls : List (List ℕ)) × (onto_first y parts ≡ (y ∷ l) ∷ ls)
    onto [] = ([], [], refl)
    onto (l ∷ ls) = (l, ls, refl)

-- the word at the front is the first that is left
words_left-run : (line place : ℕ) (run rest : List ℕ) → is_word run ≡ true → StartsBlank rest → words_left line place (run ++ rest) ≡ record { text = run; line = line; place = place } ∷ words_left line (place + 1) rest
unfolding words_left
words_left-run line place run rest word starts =
    let first = first_line rest starts in
    rw (run_in_line run rest first.0 first.1 (is_word-parts run word).1 first.2, words_of_line-run run first.0 word first.3, first.2) refl

pub words_left-word : (line place : ℕ) (xs : List ℕ) → 0 < length (before_first is_blank xs) → words_left line place xs ≡ record { text = before_first is_blank xs; line = line; place = place } ∷ words_left line (place + 1) (drop (position_or_len is_blank xs) xs)
words_left-word line place xs some =
    let parts = parts_at xs in
    subst (λ ys. words_left line place ys ≡ record { text = before_first is_blank xs; line = line; place = place } ∷ words_left line (place + 1) (drop (position_or_len is_blank xs) xs))
    (take-append-drop (position_or_len is_blank xs) xs)
    (words_left-run line place (before_first is_blank xs) (drop (position_or_len is_blank xs) xs) (is_word-from (before_first is_blank xs) some parts.0) parts.1)

-- spaced words are one line
abbrev in_line : ℕ → Bool
in_line b = not (is_line_feed b)

word_in_line : (w : List ℕ) → unbroken w ≡ true → list_all in_line w ≡ true
word_in_line [] whole = refl
word_in_line (x ∷ xs) whole = let both = and_parts (not (is_blank x)) (unbroken xs) whole in and_from _ _ (grind (arith, nat_tests, both.0)) (word_in_line xs both.1)

spaced_in_line : (ws : List (List ℕ)) → list_all is_word ws ≡ true → list_all in_line (spaced ws) ≡ true
spaced_in_line [] words = refl
spaced_in_line (w ∷ []) words = word_in_line w (is_word-parts w (and_parts (is_word w) true words).0).1
spaced_in_line (w ∷ v ∷ vs) words =
    let both = and_parts (is_word w) (list_all is_word (v ∷ vs)) words in
    list_all-append in_line w (32 ∷ spaced (v ∷ vs)) ∙ and_from _ _ (word_in_line w (is_word-parts w both.0).1) (spaced_in_line (v ∷ vs) both.1)

-- the words of a text of spaced lines are those of the lines
pub words_of-spaced_lines : (lines : List (List (List ℕ))) → list_all (list_all is_word) lines ≡ true → words_of (spaced_lines lines) ≡ words_in_lines 1 lines
unfolding words_of
words_of-spaced_lines = from 1
  where
    from : (line : ℕ) (lines : List (List (List ℕ))) → list_all (list_all is_word) lines ≡ true → words_in_lines line (map words_of_line (slice_split is_line_feed (spaced_lines lines))) ≡ words_in_lines line lines
    from line [] words = refl
    from line (ws ∷ lines) words =
        let both = and_parts (list_all is_word ws) (list_all (list_all is_word) lines) words in
        let one : All (λ b. is_line_feed b ≡ false) (spaced ws) = λ k d inside. not-true _ (AllPass-from_list_all in_line (spaced ws) (spaced_in_line ws both.0) k d inside) in
        ap (λ bytes. words_in_lines line (map words_of_line (slice_split is_line_feed bytes))) (append_assoc (spaced ws) (10 ∷ []) (spaced_lines lines))
        ∙ ap (λ parts. words_in_lines line (map words_of_line parts)) (slice_split_at is_line_feed (spaced ws) 10 (spaced_lines lines) one refl)
        ∙ ap (λ vs. words_in_line line 1 vs ++ words_in_lines (line + 1) (map words_of_line (slice_split is_line_feed (spaced_lines lines)))) (words_of_line-spaced ws both.0)
        ∙ ap (λ rest. words_in_line line 1 ws ++ rest) (from (line + 1) lines both.1)
