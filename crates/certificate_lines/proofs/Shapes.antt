-- Lines of a shape: the text of numbers is read as these, and a line that is read is the text of its numbers.
use Rattle.std.proofs.Common.{◌≡◌, ℕ, refl, sym, ap, ◌∙◌, subst, inl, inr, ◌⊎◌, Bool, true, false, ◌&&◌, List, [], ◌∷◌, length, map, drop, Option, Some, None}
use Rattle.std.specs.Prelude.{Ok, Err, ℤ, bytes_eq, option_map, if◌then◌else◌}
use Rattle.std.specs.List.{list_all}
use Rattle.std.proofs.lemmas.Bool.{and_parts, and_from, cond-true, false≢true}
use Rattle.std.proofs.lemmas.List.{length-map}
use Rattle.std.proofs.lemmas.Slice.Eq.{bytes_eq-Decides}
use Rattle.number_words.specs.Line.{words_of_line, is_word, spaced, is_spaced}
use Rattle.number_words.specs.Number.{is_number, is_plain_number, number_of, number_text}
use Rattle.number_words.proofs.Numbers.{is_number-number_text, is_plain_number-number_text, number_of-number_text, number_text-number_of}
use Rattle.number_words.proofs.Lines.{words_of_line-spaced, words-words_of_line, is_word-number_text}
use Rattle.certificate_lines.specs.declared.kind.CertKind.{CertKind}
use Rattle.certificate_lines.specs.declared.kind.CertKind.TheVariants.{BadLine, NotCanonical}
use Rattle.certificate_lines.specs.Due.{Due, Shown}
use Rattle.certificate_lines.specs.Head.{numbers, numbers_at, plain_in}
use Rattle.certificate_lines.specs.Lines.{Said, unless, said_of, read_or, read_shape}
use Rattle.certificate_lines.specs.Shape.{Shape, Numbers, Word, Number, row, words_of_shape, text_of_shape, numbers_in}

-- a test that a line without a fault passes, and one that passes or fails
pub passes : (ok : Bool) (kind : CertKind) (rest : Said) (read : Due × Shown) → unless ok kind rest ≡ Ok read → (ok ≡ true) × (rest ≡ Ok read)
passes true kind rest read e = (refl, e)
passes false kind rest read e = absurd (cc)

pub unless-holds : (ok : Bool) (kind : CertKind) (rest : Said) → ok ≡ true → unless ok kind rest ≡ rest
unless-holds ok kind rest holds = ap (λ b. unless b kind rest) holds

pub unless-fails : (ok : Bool) (kind : CertKind) (rest : Said) → ok ≡ false → unless ok kind rest ≡ Err kind
unless-fails ok kind rest fails = ap (λ b. unless b kind rest) fails

pub equal_bytes : (xs ys : List ℕ) → bytes_eq xs ys ≡ true → xs ≡ ys
equal_bytes xs ys e = (bytes_eq-Decides xs ys).0 e

pub bytes_of_itself : (w : List ℕ) → bytes_eq w w ≡ true
bytes_of_itself w = (bytes_eq-Decides w w).1 refl

-- the fixed words of a shape are words
abbrev pub has_words : Shape → Bool
has_words (Numbers many) = true
has_words (Word word shape) = is_word word && has_words shape
has_words (Number shape) = has_words shape

-- numbers are as many as a shape has
abbrev pub fits : Shape → List ℤ → Bool
fits (Numbers many) zs = many (length zs)
fits (Word word shape) zs = fits shape zs
fits (Number shape) [] = false
fits (Number shape) (z ∷ zs) = fits shape zs

-- the texts of numbers
texts-words : (zs : List ℤ) → list_all is_word (map number_text zs) ≡ true
texts-words [] = refl
texts-words (z ∷ zs) = and_from _ _ (is_word-number_text z) (texts-words zs)

texts-numbers : (zs : List ℤ) → list_all is_number (map number_text zs) ≡ true
texts-numbers [] = refl
texts-numbers (z ∷ zs) = and_from _ _ (is_number-number_text z) (texts-numbers zs)

texts-plain : (zs : List ℤ) → list_all is_plain_number (map number_text zs) ≡ true
texts-plain [] = refl
texts-plain (z ∷ zs) = and_from _ _ (is_plain_number-number_text z) (texts-plain zs)

texts-values : (zs : List ℤ) → numbers (map number_text zs) ≡ zs
texts-values [] = refl
texts-values (z ∷ zs) = ap (λ y. y ∷ numbers (map number_text zs)) (number_of-number_text z) ∙ ap (λ ys. z ∷ ys) (texts-values zs)

plain-texts : (ws : List (List ℕ)) → list_all is_plain_number ws ≡ true → map number_text (numbers ws) ≡ ws
plain-texts [] e = refl
plain-texts (w ∷ ws) e =
    let both = and_parts (is_plain_number w) (list_all is_plain_number ws) e in
    ap (λ x. x ∷ map number_text (numbers ws)) (number_text-number_of w both.0) ∙ ap (λ xs. w ∷ xs) (plain-texts ws both.1)

-- the words of a line of a shape are words
pub words-of_shape : (shape : Shape) (zs : List ℤ) → has_words shape ≡ true → list_all is_word (words_of_shape shape zs) ≡ true
words-of_shape (Numbers many) zs has = texts-words zs
words-of_shape (Word word shape) zs has =
    let both = and_parts (is_word word) (has_words shape) has in
    and_from _ _ both.0 (words-of_shape shape zs both.1)
words-of_shape (Number shape) [] has = refl
words-of_shape (Number shape) (z ∷ zs) has = and_from _ _ (is_word-number_text z) (words-of_shape shape zs has)

-- among them stand the numbers
numbers_in-words : (shape : Shape) (zs : List ℤ) → fits shape zs ≡ true → numbers_in shape (words_of_shape shape zs) ≡ Some zs
numbers_in-words (Numbers many) zs fit = cond-true _ _ _ (and_from _ _ (texts-numbers zs) (ap many (length-map zs number_text) ∙ fit)) ∙ ap Some (texts-values zs)
numbers_in-words (Word word shape) zs fit = cond-true _ _ _ (bytes_of_itself word) ∙ numbers_in-words shape zs fit
numbers_in-words (Number shape) [] fit = absurd (false≢true fit)
numbers_in-words (Number shape) (z ∷ zs) fit =
    cond-true _ _ _ (is_number-number_text z)
    ∙ ap (option_map (λ ys. number_of (number_text z) ∷ ys)) (numbers_in-words shape zs fit)
    ∙ ap (λ y. Some (y ∷ zs)) (number_of-number_text z)

pub shape_read : (shape : Shape) (zs : List ℤ) (say : List ℤ → Said) (otherwise : Said) → has_words shape ≡ true → fits shape zs ≡ true → read_or shape (text_of_shape shape zs) say otherwise ≡ say zs
shape_read shape zs say otherwise words fit =
    ap (said_of shape (text_of_shape shape zs) say otherwise) (ap (numbers_in shape) (words_of_line-spaced (words_of_shape shape zs) (words-of_shape shape zs words)) ∙ numbers_in-words shape zs fit)
    ∙ unless-holds _ _ _ (bytes_of_itself (text_of_shape shape zs))

-- the text of another shape's numbers is read otherwise
pub other_read : (shape other : Shape) (zs : List ℤ) (say : List ℤ → Said) (otherwise : Said) → has_words other ≡ true → numbers_in shape (words_of_shape other zs) ≡ None → read_or shape (text_of_shape other zs) say otherwise ≡ otherwise
other_read shape other zs say otherwise words none =
    ap (said_of shape (text_of_shape other zs) say otherwise) (ap (numbers_in shape) (words_of_line-spaced (words_of_shape other zs) (words-of_shape other zs words)) ∙ none)

-- what a test gives, and what a function gives
pub given_if : {X : Type 0} (b : Bool) (o : Option X) (x : X) → (if b then o else None) ≡ Some x → (b ≡ true) × (o ≡ Some x)
given_if true o x e = (refl, e)
given_if false o x e = absurd (cc)

given_map : {X Y : Type 0} (f : X → Y) (o : Option X) (y : Y) → option_map f o ≡ Some y → (x : X) × (o ≡ Some x) × (f x ≡ y)
given_map f None y e = absurd (cc)
given_map f (Some x) y e = (x, refl, cc)

numbers_in-fit : (shape : Shape) (ws : List (List ℕ)) (zs : List ℤ) → numbers_in shape ws ≡ Some zs → fits shape zs ≡ true
numbers_in-fit (Numbers many) ws zs e =
    let given = given_if (list_all is_number ws && many (length ws)) (Some (numbers ws)) zs e in
    let are : numbers ws ≡ zs = cc (given.1) in
    subst (λ ys. many (length ys) ≡ true) are (ap many (length-map ws number_of) ∙ (and_parts (list_all is_number ws) (many (length ws)) given.0).1)
numbers_in-fit (Word word shape) [] zs e = absurd (cc)
numbers_in-fit (Word word shape) (w ∷ ws) zs e = numbers_in-fit shape ws zs (given_if (bytes_eq w word) (numbers_in shape ws) zs e).1
numbers_in-fit (Number shape) [] zs e = absurd (cc)
numbers_in-fit (Number shape) (w ∷ ws) zs e =
    let given = given_map (λ ys. number_of w ∷ ys) (numbers_in shape ws) zs (given_if (is_number w) (option_map (λ ys. number_of w ∷ ys) (numbers_in shape ws)) zs e).1 in
    subst (λ ys. fits (Number shape) ys ≡ true) given.2 (numbers_in-fit shape ws given.0 given.1)

-- numbers of a shape whose text the line is, with what they say
pub record IsText (shape : Shape) (line : List ℕ) (say : List ℤ → Said) (read : Due × Shown) : Type 0 where
  pub zs : List ℤ
  pub fit : fits shape zs ≡ true
  pub text : line ≡ text_of_shape shape zs
  pub said : say zs ≡ Ok read

text_among : (shape : Shape) (line : List ℕ) (say : List ℤ → Said) (otherwise : Said) (read : Due × Shown) (o : Option (List ℤ)) → numbers_in shape (words_of_line line) ≡ o → said_of shape line say otherwise o ≡ Ok read → IsText shape line say read ⊎ (otherwise ≡ Ok read)
text_among shape line say otherwise read None is e = inr e
text_among shape line say otherwise read (Some zs) is e =
    let both = passes _ _ _ _ e in
    inl (record { zs = zs; fit = numbers_in-fit shape (words_of_line line) zs is; text = equal_bytes line (text_of_shape shape zs) both.0; said = both.1 })

-- a line that is read is the text of its numbers, or it is read otherwise
pub text_or : (shape : Shape) (line : List ℕ) (say : List ℤ → Said) (otherwise : Said) (read : Due × Shown) → read_or shape line say otherwise ≡ Ok read → IsText shape line say read ⊎ (otherwise ≡ Ok read)
text_or shape line say otherwise read e = text_among shape line say otherwise read (numbers_in shape (words_of_line line)) refl e

pub shape_text : (shape : Shape) (line : List ℕ) (say : List ℤ → Said) (read : Due × Shown) → read_shape shape line say ≡ Ok read → IsText shape line say read
shape_text shape line say read e = elim (text_or shape line say (Err BadLine) read e) [
  | inl text ↦ text
  | inr fault ↦ absurd (cc (fault))
]

-- words that are of a shape have their numbers at its places
if_map : {X Y : Type 0} (b : Bool) (f : X → Y) (p : Option Y) (o : Option X) → p ≡ option_map f o → (if b then p else None) ≡ option_map f (if b then o else None)
if_map true f p o e = e
if_map false f p o e = refl

map_twice : {X : Type 0} (b : Bool) (z : X) (zs : List X) (o : Option Bool) → option_map (λ ys. z ∷ ys) (option_map (λ plain. zs) o) ≡ option_map (λ plain. z ∷ zs) (option_map (λ plain. b && plain) o)
map_twice b z zs None = refl
map_twice b z zs (Some plain) = refl

numbers_in-places : (shape : Shape) (ws : List (List ℕ)) → numbers_in shape ws ≡ option_map (λ plain. numbers_at shape ws) (plain_in shape ws)
numbers_in-places (Numbers many) ws = if_map (list_all is_number ws && many (length ws)) (λ plain. numbers ws) (Some (numbers ws)) (Some (list_all is_plain_number ws)) refl
numbers_in-places (Word word shape) [] = refl
numbers_in-places (Word word shape) (w ∷ ws) = if_map (bytes_eq w word) (λ plain. numbers_at shape ws) (numbers_in shape ws) (plain_in shape ws) (numbers_in-places shape ws)
numbers_in-places (Number shape) [] = refl
numbers_in-places (Number shape) (w ∷ ws) =
    if_map (is_number w) (λ plain. number_of w ∷ numbers_at shape ws) (option_map (λ zs. number_of w ∷ zs) (numbers_in shape ws)) (option_map (λ plain. is_plain_number w && plain) (plain_in shape ws))
    (ap (option_map (λ zs. number_of w ∷ zs)) (numbers_in-places shape ws) ∙ map_twice (is_plain_number w) (number_of w) (numbers_at shape ws) (plain_in shape ws))

-- each of them is plain just where the words are those of the numbers' text
record SamePlain (shape : Shape) (ws : List (List ℕ)) (plain : Bool) : Type 0 where
  same : plain ≡ true → words_of_shape shape (numbers_at shape ws) ≡ ws
  is_plain : words_of_shape shape (numbers_at shape ws) ≡ ws → plain ≡ true
  words : list_all is_word ws ≡ true → has_words shape ≡ true

rest_same : {X : Type 0} (x y : X) (xs ys : List X) → x ∷ xs ≡ y ∷ ys → (x ≡ y) × (xs ≡ ys)
rest_same x y xs ys e = (cc, cc)

plain_in-same : (shape : Shape) (ws : List (List ℕ)) (plain : Bool) → plain_in shape ws ≡ Some plain → SamePlain shape ws plain
plain_in-same (Numbers many) ws plain e =
    let given = given_if (list_all is_number ws && many (length ws)) (Some (list_all is_plain_number ws)) plain e in
    let are : list_all is_plain_number ws ≡ plain = cc (given.1) in
    record {
      same = λ is. plain-texts ws (are ∙ is);
      is_plain = λ same. sym are ∙ subst (λ us. list_all is_plain_number us ≡ true) same (texts-plain (numbers ws));
      words = λ all. refl;
    }
plain_in-same (Word word shape) [] plain e = absurd (cc)
plain_in-same (Word word shape) (w ∷ ws) plain e =
    let given = given_if (bytes_eq w word) (plain_in shape ws) plain e in
    let rest = plain_in-same shape ws plain given.1 in
    let word_is = equal_bytes w word given.0 in
    record {
      same = λ is. ap (λ x. x ∷ words_of_shape shape (numbers_at shape ws)) (sym word_is) ∙ ap (λ xs. w ∷ xs) (rest.same is);
      is_plain = λ same. rest.is_plain (rest_same word w _ ws same).1;
      words = λ all. let both = and_parts (is_word w) (list_all is_word ws) all in and_from _ _ (ap is_word (sym word_is) ∙ both.0) (rest.words both.1);
    }
plain_in-same (Number shape) [] plain e = absurd (cc)
plain_in-same (Number shape) (w ∷ ws) plain e =
    let given = given_map (λ p. is_plain_number w && p) (plain_in shape ws) plain (given_if (is_number w) (option_map (λ p. is_plain_number w && p) (plain_in shape ws)) plain e).1 in
    let rest = plain_in-same shape ws given.0 given.1 in
    record {
      same = λ is.
          let both = and_parts (is_plain_number w) given.0 (given.2 ∙ is) in
          ap (λ x. x ∷ words_of_shape shape (numbers_at shape ws)) (number_text-number_of w both.0) ∙ ap (λ xs. w ∷ xs) (rest.same both.1);
      is_plain = λ same.
          let both = rest_same (number_text (number_of w)) w _ ws same in
          sym given.2 ∙ and_from _ _ (subst (λ x. is_plain_number x ≡ true) both.0 (is_plain_number-number_text (number_of w))) (rest.is_plain both.1);
      words = λ all. rest.words (and_parts (is_word w) (list_all is_word ws) all).1;
    }

same_truth : (a b : Bool) → (a ≡ true → b ≡ true) → (b ≡ true → a ≡ true) → a ≡ b
same_truth true b there back = sym (there refl)
same_truth false true there back = back refl
same_truth false false there back = refl

-- a line is the text of its numbers just where they are plain and its words are parted by single spaces
canonical : (shape : Shape) (line : List ℕ) (plain : Bool) → plain_in shape (words_of_line line) ≡ Some plain → bytes_eq line (text_of_shape shape (numbers_at shape (words_of_line line))) ≡ (plain && is_spaced line)
canonical shape line plain e =
    let ws = words_of_line line in
    let of = words_of_shape shape (numbers_at shape ws) in
    let are = plain_in-same shape ws plain e in
    same_truth (bytes_eq line (spaced of)) (plain && is_spaced line)
    (λ same.
    let text = equal_bytes line (spaced of) same in
    let words : ws ≡ of = ap words_of_line text ∙ words_of_line-spaced of (words-of_shape shape (numbers_at shape ws) (are.words (words-words_of_line line))) in
    and_from _ _ (are.is_plain (sym words)) (ap (λ us. bytes_eq line (spaced us)) words ∙ same))
    (λ both.
    let parts = and_parts plain (is_spaced line) both in
    ap (λ us. bytes_eq line (spaced us)) (are.same parts.0) ∙ parts.1)

-- what a line says, by whether its numbers are plain
abbrev said_plain : Option Bool → Bool → Said → Said
said_plain None spaced rest = Err BadLine
said_plain (Some plain) spaced rest = unless (plain && spaced) NotCanonical rest

pub shape-said : (shape : Shape) (line : List ℕ) (say : List ℤ → Said) (o : Option Bool) → plain_in shape (words_of_line line) ≡ o → read_shape shape line say ≡ said_plain o (is_spaced line) (say (numbers_at shape (words_of_line line)))
shape-said shape line say None e = ap (said_of shape line say (Err BadLine)) (numbers_in-places shape (words_of_line line) ∙ ap (option_map (λ plain. numbers_at shape (words_of_line line))) e)
shape-said shape line say (Some plain) e =
    ap (said_of shape line say (Err BadLine)) (numbers_in-places shape (words_of_line line) ∙ ap (option_map (λ plain. numbers_at shape (words_of_line line))) e)
    ∙ ap (λ ok. unless ok NotCanonical (say (numbers_at shape (words_of_line line)))) (canonical shape line plain e)

-- what is known of the words of a row
pub record IsRow (many : ℕ → Bool) (ws : List (List ℕ)) : Type 0 where
  pub are_numbers : list_all is_number ws ≡ true
  pub are_plain : list_all is_plain_number ws ≡ true
  pub count : many (length ws) ≡ true

pub row-words : (word : List ℕ) (many : ℕ → Bool) (ws : List (List ℕ)) → plain_in (row word many) ws ≡ Some true → IsRow many (drop 1 ws)
row-words word many [] e = absurd (cc)
row-words word many (w ∷ ws) e =
    let given = given_if (list_all is_number ws && many (length ws)) (Some (list_all is_plain_number ws)) true (given_if (bytes_eq w word) (plain_in (Numbers many) ws) true e).1 in
    let both = and_parts (list_all is_number ws) (many (length ws)) given.0 in
    record { are_numbers = both.0; are_plain = cc (given.1); count = both.1 }
