-- Walks over the words of a row, in which tests are gathered.
use Rattle.std.proofs.Common.{◌≡◌, ℕ, suc, ◌+◌, refl, sym, ap, ◌∙◌, arith, Bool, true, false, ◌&&◌, not, List, [], ◌∷◌, length, map, drop, is_some, Option, Some, None}
use Rattle.std.specs.Prelude.{ℤ, codes, bytes_eq, option_map, if◌then◌else◌}
use Rattle.std.specs.List.{list_all}
use Rattle.std.proofs.lemmas.Bool.{and_parts, and_right, false≢true}
use Rattle.location_terms.specs.declared.limits.TheConstants.{MAX_MULTIPLIER}
use Rattle.location_terms.specs.Instance.{Instance}
use Rattle.number_words.specs.Number.{is_number, is_plain_number, number_of, is_rising}
use Rattle.certificate_lines.specs.declared.row.Count.{Count}
use Rattle.certificate_lines.specs.declared.row.Walk.{Walk}
use Rattle.certificate_lines.specs.Head.{allows, still_allows, is_above, plain_ahead, plain_in}
use Rattle.certificate_lines.specs.Lines.{Price, is_id, is_up_to, is_same, lacks_cap, is_in_range, sizes_shape}
use Rattle.certificate_lines.specs.Shape.{Numbers, just}

-- a word that is a number
pub given_number : (w : List ℕ) (plain : Bool) → Some plain ≡ (if is_number w then Some (is_plain_number w) else None) → (is_number w ≡ true) × (plain ≡ is_plain_number w)
given_number w plain e = go (is_number w) e
  where
    go : (b : Bool) → Some plain ≡ (if b then Some (is_plain_number w) else None) → (b ≡ true) × (plain ≡ is_plain_number w)
    go true e = (refl, cc)
    go false e = absurd (cc)

-- a walk over numbers goes past one more word
also : (a b q enough : Bool) → option_map (λ r. (a && b) && r) (if enough then Some q else None) ≡ option_map (λ r. a && r) (if enough then Some (b && q) else None)
also a b q false = refl
also true b q true = refl
also false b q true = refl

numbers-more : (now : Count) (behind : Option Count) (w : List ℕ) (ws : List (List ℕ)) → ((n : ℕ) → allows now (n + 1) ≡ still_allows behind n) → is_number w ≡ true
    → plain_in (Numbers (allows now)) (w ∷ ws) ≡ (if list_all is_number ws && still_allows behind (length ws) then Some (is_plain_number w && list_all is_plain_number ws) else None)
numbers-more now behind w ws step number =
    let one : suc (length ws) ≡ length ws + 1 = omega arith in
    let plain = Some (is_plain_number w && list_all is_plain_number ws) in
    ap (λ b. if (b && list_all is_number ws) && allows now (suc (length ws)) then plain else None) number
    ∙ ap (λ b. if list_all is_number ws && b then plain else None) (ap (allows now) one ∙ step (length ws))

pub past_last : (walk : Walk) (w : List ℕ) (ws : List (List ℕ)) → ((n : ℕ) → allows walk.left (n + 1) ≡ false) → is_number w ≡ true → None ≡ plain_ahead (Some walk) (w ∷ ws)
past_last walk w ws step number =
    sym (ap (option_map (λ r. walk.plain && r)) (numbers-more walk.left None w ws step number ∙ ap (λ b. if b then Some (is_plain_number w && list_all is_plain_number ws) else None) (and_right (list_all is_number ws) false refl)))

pub past_number : (walk : Walk) (left : Count) (plain : Bool) (w : List ℕ) (ws : List (List ℕ)) → ((n : ℕ) → allows walk.left (n + 1) ≡ allows left n) → is_number w ≡ true → plain ≡ (walk.plain && is_plain_number w)
    → plain_ahead (Some (record { plain = plain; left = left })) ws ≡ plain_ahead (Some walk) (w ∷ ws)
past_number walk left plain w ws step number is =
    ap (λ m. option_map (λ r. m && r) (plain_in (Numbers (allows left)) ws)) is
    ∙ also walk.plain (is_plain_number w) (list_all is_plain_number ws) (list_all is_number ws && allows left (length ws))
    ∙ sym (ap (option_map (λ r. walk.plain && r)) (numbers-more walk.left (Some left) w ws step number))

-- what all words pass, the first and those behind it pass
pub first_and_rest : (p : List ℕ → Bool) (w : List ℕ) (ws vs : List (List ℕ)) → vs ≡ w ∷ ws → list_all p vs ≡ true → (p w ≡ true) × (list_all p ws ≡ true)
first_and_rest p w ws vs steps all = and_parts (p w) (list_all p ws) (ap (list_all p) (sym steps) ∙ all)

-- numbers behind the last one, if there is one
abbrev pub behind : Option (List ℕ) → List ℤ → List ℤ
behind None zs = zs
behind (Some w) zs = number_of w ∷ zs

-- a test of one more element, with those of the rest
pub more-tested : {X : Type 0} (p : X → Bool) (x : X) (xs : List X) (seen now : Bool) → now ≡ (seen && p x) → now && list_all p xs ≡ seen && list_all p (x ∷ xs)
more-tested p x xs true now is = ap (λ b. b && list_all p xs) is
more-tested p x xs false now is = ap (λ b. b && list_all p xs) is

pub more-rising : (last : Option (List ℕ)) (w : List ℕ) (zs : List ℤ) (seen now : Bool) → now ≡ (seen && is_above last w) → now && is_rising (number_of w ∷ zs) ≡ seen && is_rising (behind last (number_of w ∷ zs))
more-rising None w zs true now is = ap (λ b. b && is_rising (number_of w ∷ zs)) is
more-rising None w zs false now is = ap (λ b. b && is_rising (number_of w ∷ zs)) is
more-rising (Some v) w zs true now is = ap (λ b. b && is_rising (number_of w ∷ zs)) is
more-rising (Some v) w zs false now is = ap (λ b. b && is_rising (number_of w ∷ zs)) is

-- the tests of one more price
in_turn : (s a b c : Bool) → ((s && a) && b) && c ≡ s && ((a && b) && c)
in_turn true a b c = refl
in_turn false a b c = refl

apart : (s a n r t : Bool) → ((s && a) && n) && (r && t) ≡ s && ((a && r) && (n && t))
apart false a n r t = refl
apart true false n r t = refl
apart true true true r t = refl
apart true true false true t = refl
apart true true false false t = refl

rising-last : (last : Option (List ℕ)) (w : List ℕ) (zs : List ℤ) → is_rising (behind last (number_of w ∷ zs)) ≡ (is_above last w && is_rising (number_of w ∷ zs))
rising-last None w zs = refl
rising-last (Some v) w zs = refl

pub more-canonical : (last : Option (List ℕ)) (site price : List ℕ) (ps : List Price) (seen one now : Bool) → one ≡ (seen && is_above last site) → now ≡ (one && not (is_same (number_of price) 0))
    → now && (is_rising (number_of site ∷ map (λ p. p.0) ps) && list_all (λ p. not (is_same p.1 0)) ps) ≡ seen && (is_rising (behind last (number_of site ∷ map (λ p. p.0) ps)) && (not (is_same (number_of price) 0) && list_all (λ p. not (is_same p.1 0)) ps))
more-canonical last site price ps seen one now first second =
    let up = is_rising (number_of site ∷ map (λ p. p.0) ps) in
    let some = list_all (λ (p : Price). not (is_same p.1 0)) ps in
    let here = not (is_same (number_of price) 0) in
    ap (λ b. b && (up && some)) (second ∙ ap (λ b. b && here) first)
    ∙ apart seen (is_above last site) here up some
    ∙ ap (λ b. seen && (b && (here && some))) (sym (rising-last last site (map (λ p. p.0) ps)))

pub more-in_range : (I : Instance) (z p : ℤ) (ps : List Price) (seen one now : Bool) → one ≡ (seen && is_id z) → now ≡ (one && is_up_to MAX_MULTIPLIER p && not (lacks_cap I z)) → now && list_all (is_in_range I) ps ≡ seen && list_all (is_in_range I) ((z, p) ∷ ps)
more-in_range I z p ps seen one now first second = more-tested (is_in_range I) (z, p) ps seen now (second ∙ ap (λ b. b && is_up_to MAX_MULTIPLIER p && not (lacks_cap I z)) first ∙ in_turn seen (is_id z) (is_up_to MAX_MULTIPLIER p) (not (lacks_cap I z)))

-- the words of sizes are numbers at their places
all_hold : (p q r s v n : Bool) → is_some (if p then (if q then option_map (λ plain. n && plain) (if r then (if s then Some v else None) else None) else None) else None) ≡ true → (q ≡ true) × (s ≡ true)
all_hold true true true true v n e = (refl, refl)
all_hold true true true false v n e = absurd (false≢true e)
all_hold true true false s v n e = absurd (false≢true e)
all_hold true false r s v n e = absurd (false≢true e)
all_hold false q r s v n e = absurd (false≢true e)

sizes-first : (a m b n : List ℕ) (ws : List (List ℕ)) → is_some (plain_in sizes_shape (a ∷ m ∷ b ∷ n ∷ ws)) ≡ true → (is_number m ≡ true) × (is_number n ≡ true)
sizes-first a m b n ws e =
    let are = list_all is_number (n ∷ ws) in
    let both = all_hold (bytes_eq a (codes "sites")) (is_number m) (bytes_eq b (codes "customers")) (are && just 1 (length (n ∷ ws))) (list_all is_plain_number (n ∷ ws)) (is_plain_number m) e in
    (both.0, (and_parts (is_number n) (list_all is_number ws) (and_parts are (just 1 (length (n ∷ ws))) both.1).0).0)

pub sizes-numbers : (us : List (List ℕ)) (m b n : List ℕ) (ws : List (List ℕ)) → is_some (plain_in sizes_shape us) ≡ true → drop 1 us ≡ m ∷ b ∷ n ∷ ws → (is_number m ≡ true) × (is_number n ≡ true)
sizes-numbers [] m b n ws e same = absurd (cc)
sizes-numbers (a ∷ us) m b n ws e same = sizes-first a m b n ws (ap (λ vs. is_some (plain_in sizes_shape (a ∷ vs))) (sym same) ∙ e)
