-- The lines of a text and its pieces; a line that is read has no line feed in it.
use Rattle.std.proofs.Common.{◌≡◌, ℕ, true, false, ◌==◌, not, List, [], ◌∷◌, ◌++◌, length, Some, refl, sym, ap, ◌∙◌, subst, inl, inr, append_assoc}
use Rattle.std.specs.Prelude.{All, ℤ, codes, Ok}
use Rattle.std.specs.List.{list_all, join_with_byte, slice_split}
use Rattle.std.proofs.lemmas.Bool.{cases_Bool, and_parts, eqb-true, not-true, true≢false}
use Rattle.std.proofs.lemmas.List.{append-nil}
use Rattle.std.proofs.lemmas.List.Elements.{All-nil, All-cons, All-head, All-tail, All-append}
use Rattle.std.proofs.lemmas.List.Splits.{join_with_byte-slice_split, slice_split_at}
use Rattle.number_words.specs.Line.{is_blank, is_line_feed, is_word, spaced}
use Rattle.location_terms.specs.declared.claim.Claim.{Claim}
use Rattle.location_terms.specs.Instance.{Instance}
use Rattle.location_terms.specs.Box.{Path, must_open, must_close}
use Rattle.certificate_lines.specs.Shape.{Shape, row, any_count, just, even_count, words_of_shape}
use Rattle.certificate_lines.specs.Text.{claim_words, text_of_lines}
use Rattle.certificate_lines.specs.Due.{Due, HeaderDue, SizesDue, MustOpenDue, MustClosedDue, ClaimDue, OpenDue, ServeDue, NodeDue, ValuesDue, PricesDue, EndDue, NothingDue, Shown, NothingShown}
use Rattle.certificate_lines.specs.Lines.{Said, then_due, read_shape, header_shape, sizes_shape, sizes_said, status_said, open_said, serve_said, site_shape, lane_shape, leaf_shape, site_said, lane_said, leaf_said, values_said, pairs_of, prices_said, whole_shape, whole_said, read_line}
use Rattle.certificate_lines.specs.Follow.{follow}
use Rattle.certificate_lines.proofs.Shapes.{IsText, has_words, words-of_shape, shape_text, text_or}
use Rattle.certificate_lines.proofs.ClaimWords.{are_words, claim-is}
use Rattle.certificate_lines.proofs.LineSpelling.{header-words}
use Rattle.certificate_lines.proofs.Following.{first_read}

-- bytes without a line feed
abbrev pub IsLine : List ℕ → Type 0
IsLine bytes = All (λ b. is_line_feed b ≡ false) bytes

-- each line feed of a text ends a line
text_and_rest : (lines : List (List ℕ)) (rest : List ℕ) → join_with_byte 10 (lines ++ rest ∷ []) ≡ text_of_lines lines ++ rest
text_and_rest [] rest = refl
text_and_rest (line ∷ []) rest = sym (append_assoc line (10 ∷ []) rest) ∙ ap (λ bs. bs ++ rest) (sym (append-nil (line ++ 10 ∷ [])))
text_and_rest (line ∷ next ∷ lines) rest =
    ap (λ bs. line ++ 10 ∷ bs) (text_and_rest (next ∷ lines) rest)
    ∙ sym (append_assoc line (10 ∷ text_of_lines (next ∷ lines)) rest)
    ∙ ap (λ bs. bs ++ rest) (sym (append_assoc line (10 ∷ []) (text_of_lines (next ∷ lines))))

-- bytes are the text of the pieces in front of their line feeds, and what is behind the last
pub text_of_pieces : (bytes : List ℕ) (lines : List (List ℕ)) (rest : List ℕ) → slice_split is_line_feed bytes ≡ lines ++ rest ∷ [] → bytes ≡ text_of_lines lines ++ rest
text_of_pieces bytes lines rest parts = sym (join_with_byte-slice_split 10 bytes) ∙ ap (join_with_byte 10) parts ∙ text_and_rest lines rest

-- the pieces of a text are its lines, and nothing behind the last line feed
pub pieces_of_text : (lines : List (List ℕ)) → All IsLine lines → slice_split is_line_feed (text_of_lines lines) ≡ lines ++ [] ∷ []
pieces_of_text [] are = refl
pieces_of_text (line ∷ lines) are =
    ap (slice_split is_line_feed) (append_assoc line (10 ∷ []) (text_of_lines lines))
    ∙ slice_split_at is_line_feed line 10 (text_of_lines lines) (All-head IsLine line lines are) refl
    ∙ ap (λ ps. line ∷ ps) (pieces_of_text lines (All-tail IsLine line lines are))

-- a byte that is no blank is no line feed
part_of_word : (b : ℕ) → not (is_blank b) ≡ true → is_line_feed b ≡ false
part_of_word b part =
    elim (cases_Bool (b == 10)) [
      | inl feed ↦ absurd (true≢false (sym (ap is_blank (eqb-true b 10 feed)) ∙ not-true (is_blank b) part))
      | inr other ↦ other
    ]

parts_of_word : (w : List ℕ) → list_all (λ b. not (is_blank b)) w ≡ true → IsLine w
parts_of_word [] parts = All-nil (λ b. is_line_feed b ≡ false)
parts_of_word (b ∷ w) parts =
    let both = and_parts (not (is_blank b)) (list_all (λ x. not (is_blank x)) w) parts in
    All-cons (λ x. is_line_feed x ≡ false) b w (part_of_word b both.0) (parts_of_word w both.1)

-- words parted by single spaces are a line
words_are_line : (ws : List (List ℕ)) → list_all is_word ws ≡ true → IsLine (spaced ws)
words_are_line [] words = All-nil (λ b. is_line_feed b ≡ false)
words_are_line (w ∷ []) words = parts_of_word w (and_parts _ _ (and_parts (is_word w) true words).0).1
words_are_line (w ∷ v ∷ ws) words =
    let both = and_parts (is_word w) (list_all is_word (v ∷ ws)) words in
    All-append (λ b. is_line_feed b ≡ false) w (32 ∷ spaced (v ∷ ws)) (parts_of_word w (and_parts _ _ both.0).1) (All-cons (λ b. is_line_feed b ≡ false) 32 (spaced (v ∷ ws)) refl (words_are_line (v ∷ ws) both.1))

-- the text of a shape's numbers is a line
text_is_line : (shape : Shape) (line : List ℕ) (say : List ℤ → Said) (read : Due × Shown) → has_words shape ≡ true → IsText shape line say read → IsLine line
text_is_line shape line say read words t = subst IsLine (sym t.text) (words_are_line (words_of_shape shape t.zs) (words-of_shape shape t.zs words))

shape_is_line : (shape : Shape) (line : List ℕ) (say : List ℤ → Said) (read : Due × Shown) → has_words shape ≡ true → read_shape shape line say ≡ Ok read → IsLine line
shape_is_line shape line say read words e = text_is_line shape line say read words (shape_text shape line say read e)

node_is_line : (I : Instance) (claim : Claim) (path : Path) (line : List ℕ) (read : Due × Shown) → read_line I (NodeDue claim path) line ≡ Ok read → IsLine line
node_is_line I claim path line read e =
    elim (text_or site_shape line (site_said I claim path) _ read e) [
      | inl t ↦ text_is_line site_shape line (site_said I claim path) read refl t
      | inr other ↦ elim (text_or lane_shape line (lane_said I claim path) _ read other) [
        | inl t ↦ text_is_line lane_shape line (lane_said I claim path) read refl t
        | inr last ↦ shape_is_line leaf_shape line (leaf_said claim path) read refl last
      ]
    ]

third_is_line : (I : Instance) (claim : Claim) (path : Path) (q : ℕ) (nu : ℤ) (v : List ℤ) (line : List ℕ) (read : Due × Shown) → read_line I (PricesDue claim path q nu v) line ≡ Ok read → IsLine line
third_is_line I claim path q nu v line read e =
    elim (text_or whole_shape line (λ zs. whole_said I claim path q nu v) _ read e) [
      | inl t ↦ text_is_line whole_shape line (λ zs. whole_said I claim path q nu v) read refl t
      | inr other ↦ shape_is_line (row (codes "u") even_count) line (λ zs. prices_said I claim path q nu v (pairs_of zs)) read refl other
    ]

read_is_line : (I : Instance) (due : Due) (line : List ℕ) (read : Due × Shown) → read_line I due line ≡ Ok read → IsLine line
read_is_line I HeaderDue line read e = shape_is_line (header_shape I) line _ read (header-words I) e
read_is_line I SizesDue line read e = shape_is_line sizes_shape line (sizes_said I) read refl e
read_is_line I MustOpenDue line read e = shape_is_line (row (codes "must-open") any_count) line (status_said I must_open MustClosedDue) read refl e
read_is_line I MustClosedDue line read e = shape_is_line (row (codes "must-closed") any_count) line (status_said I must_close ClaimDue) read refl e
read_is_line I ClaimDue line read e =
    let spells = claim-is line read e in
    subst IsLine (sym spells.2) (words_are_line (codes "claim" ∷ claim_words spells.0) (are_words spells.0))
read_is_line I (OpenDue claim) line read e = shape_is_line (row (codes "open") any_count) line (open_said I claim) read refl e
read_is_line I (ServeDue claim sites) line read e = shape_is_line (row (codes "serve") (just (length I.customers))) line (serve_said I claim sites) read refl e
read_is_line I (NodeDue claim path) line read e = node_is_line I claim path line read e
read_is_line I (ValuesDue claim path q nu) line read e = shape_is_line (row (codes "v") (just (length I.customers))) line (values_said claim path q nu) read refl e
read_is_line I (PricesDue claim path q nu v) line read e = third_is_line I claim path q nu v line read e
read_is_line I (EndDue claim) line read e = shape_is_line (row (codes "end") (just 0)) line (λ zs. then_due (NothingDue claim) NothingShown) read refl e
read_is_line I (NothingDue claim) line read e = absurd (cc)

-- no line that is followed has a line feed in it
pub followed_are_lines : (I : Instance) (due end : Due) (lines : List (List ℕ)) (all : List Shown) → follow I due lines ≡ Some (end, all) → All IsLine lines
followed_are_lines I due end [] all e = All-nil IsLine
followed_are_lines I due end (line ∷ lines) all e =
    let first = first_read I due line lines end all e in
    All-cons IsLine line lines (read_is_line I due line (first.next, first.shown) first.reads) (followed_are_lines I first.next end lines first.rest first.follows)
