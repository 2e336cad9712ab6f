-- The text of an answer's value: nothing in it is escaped, and no number is a floating one.
use Rattle.std.proofs.Common.{◌≡◌, ℕ, zero, suc, ◌+◌, ◌/◌, ◌%◌, ◌<◌, ◌≤◌, ◌^◌, Bool, true, false, cond, ◌||◌, List, [], ◌∷◌, ◌++◌, map, length, get_or, Option, None, Some, codes, refl, sym, ap, ◌∙◌, subst, append_assoc, arith}
use Rattle.std.specs.Prelude.{All, Contains, IfSome, ◌==◌, flat_map, decimal, slice_index}
use Rattle.std.specs.List.{join_with_byte}
use Rattle.std.specs.Str.{IsAscii, IsUtf8}
use Rattle.std.proofs.lemmas.Bool.{ne_eqb}
use Rattle.std.proofs.lemmas.Bool.Decides.{nat_tests}
use Rattle.std.proofs.lemmas.List.Elements.{All-head, All-tail, All-weaker, All-contains}
use Rattle.std.proofs.lemmas.Str.{IsUtf8-from_ascii}
use Rattle.json.specs.Print.{escape_letter, escape_byte, escape, quoted}
use Rattle.serde_json.specs.Data.{Data, null, number, unsigned, string, array, object, Items, no_items, item, member, no_members}
use Rattle.serde_json.specs.View.{items_of}
use Rattle.serde_json.specs.Written.{has_float, items_have_float, compact_text, items_text, comma_if}
use Rattle.location_terms.specs.declared.limits.TheConstants.{MAX_ID}
use Rattle.location_terms.specs.declared.claim.Claim.{Claim}
use Rattle.location_terms.specs.declared.claim.Claim.TheVariants.{Optimal, Infeasible, Bracket}
use Rattle.location_terms.specs.Instance.{Instance, IsValid, site_ids, customer_ids, fixed_of}
use Rattle.location_terms.specs.Plan.{Plan, IsFeasible, served}
use Rattle.number_words.specs.Cost.{micro_text, decimals_text}
use Rattle.number_words.specs.Number.{digits_text}
use Rattle.number_words.proofs.Digits.{digits_text_by_steps, digits_text-decimal}
use Rattle.report.specs.SiteTable.{customers_of}
use Rattle.report.specs.Json.{json_list, json_amount, json_maybe, json_site, json_sites, json_answer}
use Rattle.report.specs.Values.{ids_data, amount_data, maybe_data, site_data, open_data, sites_data, answer_data}
use Rattle.report.proofs.ServedRows.{all_from}

-- Texts of digits and points.

-- from the point to the digit 9
abbrev IsPlain : ℕ → Type 0
IsPlain b = (46 ≤ b) × (b ≤ 57)

abbrev ArePlain : List ℕ → Type 0
ArePlain [] = Unit {0}
ArePlain (b ∷ bs) = IsPlain b × ArePlain bs

plain_append : (xs ys : List ℕ) → ArePlain xs → ArePlain ys → ArePlain (xs ++ ys)
plain_append [] ys xs_plain ys_plain = ys_plain
plain_append (x ∷ xs) ys xs_plain ys_plain = (xs_plain.0, plain_append xs ys xs_plain.1 ys_plain)

plain_digits : (n : ℕ) → ArePlain (digits_text n)
plain_digits =
    digits_text_by_steps (λ n text. ArePlain text) (λ n low. ((omega arith, omega arith), tt))
    (λ n text high before. plain_append text ((48 + n % 10) ∷ []) before ((omega arith, omega arith), tt))

a_digit : (m : ℕ) → IsPlain (48 + m % 10)
a_digit m = (omega arith, omega arith)

plain_decimals : (n : ℕ) → ArePlain (decimals_text n)
plain_decimals n =
    ((omega arith, omega arith), (a_digit (n / 100000), (a_digit (n / 10000), (a_digit (n / 1000), (a_digit (n / 100), (a_digit (n / 10), (a_digit (n / 1), tt)))))))

plain_amount : (n : ℕ) → ArePlain (micro_text n)
unfolding micro_text
plain_amount n = plain_append (digits_text (n / 1000000)) (decimals_text (n % 1000000)) (plain_digits (n / 1000000)) (plain_decimals (n % 1000000))

ascii_from_plain : (bs : List ℕ) → ArePlain bs → IsAscii bs
ascii_from_plain [] plain i = omega arith
ascii_from_plain (b ∷ bs) plain zero = omega (arith, plain.0.1)
ascii_from_plain (b ∷ bs) plain (suc i) = ascii_from_plain bs plain.1 i

-- an amount's text is UTF-8
pub amount_is_utf8 : (n : ℕ) → IsUtf8 (micro_text n)
amount_is_utf8 n = IsUtf8-from_ascii (micro_text n) (ascii_from_plain (micro_text n) (plain_amount n))

escape_plain_byte : (b : ℕ) → IsPlain b → escape_byte b ≡ b ∷ []
unfolding escape_byte
escape_plain_byte b plain = let low = plain.0 in let high = plain.1 in grind (arith, nat_tests)

escape_plain : (bs : List ℕ) → ArePlain bs → escape bs ≡ bs
escape_plain [] plain = refl
escape_plain (b ∷ bs) plain = ap (λ (xs : List ℕ). xs ++ escape bs) (escape_plain_byte b plain.0) ∙ ap (λ (xs : List ℕ). b ∷ xs) (escape_plain bs plain.1)

text_of_amount : (n : ℕ) → compact_text (amount_data n) ≡ json_amount n
text_of_amount n = ap (λ (xs : List ℕ). 34 ∷ (xs ++ 34 ∷ [])) (escape_plain (micro_text n) (plain_amount n))

-- Arrays.

module _ {X : Type 0} (data_of : X → Data) (text_of : X → List ℕ) where
  -- each element has this text, and is no floating number
  pub record IsTold (x : X) : Type 0 where
    pub text : compact_text (data_of x) ≡ text_of x
    pub whole : has_float (data_of x) ≡ false

  no_floats : (xs : List X) → All IsTold xs → items_have_float (items_of (map data_of xs)) ≡ false
  no_floats [] told = refl
  no_floats (x ∷ xs) told = ap (λ b. b || items_have_float (items_of (map data_of xs))) (All-head IsTold x xs told).whole ∙ no_floats xs (All-tail IsTold x xs told)

  rest_text : (x : X) (xs : List X) → All IsTold (x ∷ xs) → compact_text (data_of x) ++ items_text true (items_of (map data_of xs)) ≡ join_with_byte 44 (map text_of (x ∷ xs)) ++ 93 ∷ []
  rest_text x [] told = ap (λ (t : List ℕ). t ++ 93 ∷ []) (All-head IsTold x [] told).text
  rest_text x (y ∷ xs) told =
      ap (λ (t : List ℕ). t ++ 44 ∷ (compact_text (data_of y) ++ items_text true (items_of (map data_of xs)))) (All-head IsTold x (y ∷ xs) told).text
      ∙ ap (λ (t : List ℕ). text_of x ++ 44 ∷ t) (rest_text y xs (All-tail IsTold x (y ∷ xs) told))
      ∙ sym (append_assoc (text_of x) (44 ∷ join_with_byte 44 (map text_of (y ∷ xs))) (93 ∷ []))

  text_of_list : (xs : List X) → All IsTold xs → compact_text (array (items_of (map data_of xs))) ≡ json_list (map text_of xs)
  text_of_list [] told = refl
  text_of_list (x ∷ xs) told = ap (λ (t : List ℕ). 91 ∷ t) (rest_text x xs told)

told_each : {X : Type 0} (data_of : X → Data) (text_of : X → List ℕ) (P : X → Type 0) (each : (x : X) → P x → IsTold data_of text_of x) (xs : List X) → All P xs → All (IsTold data_of text_of) xs
told_each data_of text_of P each xs all = All-weaker P (IsTold data_of text_of) each xs all

-- Ids.

abbrev IsId : ℕ → Type 0
IsId n = n < 10 ^ 64

told_id : (n : ℕ) → IsId n → IsTold (λ n. number (unsigned n)) digits_text n
told_id n small = record { text = sym (digits_text-decimal n small); whole = refl }

-- Objects.

seven : (a x b f c d e : List ℕ) → a ++ x ++ b ++ f ++ c ++ d ++ e ≡ a ++ (x ++ (b ++ (f ++ (c ++ (d ++ e)))))
seven a x b f c d e = simp append_assoc

five : (a x b f c : List ℕ) → a ++ x ++ b ++ f ++ c ≡ a ++ (x ++ (b ++ (f ++ c)))
five a x b f c = simp append_assoc

site_form : List ℕ → List ℕ → List ℕ → List ℕ
site_form custs fixed id = codes "{\"customers\":" ++ (custs ++ (codes ",\"fixed\":" ++ (fixed ++ (codes ",\"id\":" ++ (id ++ codes "}")))))

-- the ids of a plan are short
pub record HasIds (P : Plan) : Type 0 where
  pub sites : All IsId P.sites
  pub customers : All IsId (served P)

module _ (I : Instance) (P : Plan) (ids : All IsId (served P)) where
  told_ids : (s : ℕ) → All (IsTold (λ n. number (unsigned n)) digits_text) (customers_of P s)
  told_ids s = told_each (λ n. number (unsigned n)) digits_text IsId told_id (customers_of P s) (all_from IsId s P.serves ids)

  site_text : (s : ℕ) → compact_text (open_data I P s) ≡ site_form (compact_text (ids_data (customers_of P s))) (compact_text (amount_data (fixed_of I s))) (decimal s)
  unfolding escape_byte site_form
  site_text s = refl

  told_site : (s : ℕ) → IsId s → IsTold (open_data I P) (json_site I P) s
  unfolding site_form
  told_site s small = record {
    text = site_text s
        ∙ ap (λ t. site_form t (compact_text (amount_data (fixed_of I s))) (decimal s)) (text_of_list (λ n. number (unsigned n)) digits_text (customers_of P s) (told_ids s))
        ∙ ap (λ t. site_form (json_list (map digits_text (customers_of P s))) t (decimal s)) (text_of_amount (fixed_of I s))
        ∙ ap (λ t. site_form (json_list (map digits_text (customers_of P s))) (json_amount (fixed_of I s)) t) (sym (digits_text-decimal s small))
        ∙ sym (seven (codes "{\"customers\":") (json_list (map digits_text (customers_of P s))) (codes ",\"fixed\":") (json_amount (fixed_of I s)) (codes ",\"id\":") (digits_text s) (codes "}"));
    whole = ap (λ b. b || false) (no_floats (λ n. number (unsigned n)) digits_text (customers_of P s) (told_ids s));
  }

  told_sites : All IsId P.sites → All (IsTold (open_data I P) (json_site I P)) P.sites
  told_sites small = told_each (open_data I P) (json_site I P) IsId told_site P.sites small

-- Answers.

short_below : (next n : ℕ) → next ≤ MAX_ID + 1 → n < next → IsId n
short_below next n small below = omega (arith, small, below)

feasible_ids : (I : Instance) (P : Plan) → IsValid I → IsFeasible I P → HasIds P
feasible_ids I P valid feasible =
    let some_sites : All IsId (site_ids I) = All-weaker (λ n. n < I.next_site) IsId (λ n below. short_below I.next_site n valid.sites_named.next_small below) (site_ids I) valid.sites_named.below_next in
    record {
      sites = All-weaker (Contains (site_ids I)) IsId (λ s known. All-contains IsId (site_ids I) s some_sites known) P.sites feasible.sites_known;
      customers = subst (All IsId) (sym feasible.each_once)
          (All-weaker (λ n. n < I.next_customer) IsId (λ n below. short_below I.next_customer n valid.customers_named.next_small below) (customer_ids I) valid.customers_named.below_next);
    }

module _ (I : Instance) where
  -- the ids of the plan, where there is one, are short
  abbrev pub HasShortIds : Option Plan → Type 0
  HasShortIds None = Unit {0}
  HasShortIds (Some P) = HasIds P

  text_of_sites : (plan : Option Plan) → HasShortIds plan → compact_text (sites_data I plan) ≡ json_sites I plan
  text_of_sites None ids = refl
  text_of_sites (Some P) ids = text_of_list (open_data I P) (json_site I P) P.sites (told_sites I P ids.customers ids.sites)

  whole_sites : (plan : Option Plan) → HasShortIds plan → has_float (sites_data I plan) ≡ false
  whole_sites None ids = refl
  whole_sites (Some P) ids = no_floats (open_data I P) (json_site I P) P.sites (told_sites I P ids.customers ids.sites)

  text_of_maybe : (amount : Option ℕ) → compact_text (maybe_data amount) ≡ json_maybe amount
  text_of_maybe None = refl
  text_of_maybe (Some n) = text_of_amount n

  whole_maybe : (amount : Option ℕ) → has_float (maybe_data amount) ≡ false
  whole_maybe None = refl
  whole_maybe (Some n) = refl

  optimal_form : List ℕ → List ℕ → List ℕ
  optimal_form cost sites = codes "{\"answer\":\"optimal\",\"cost\":" ++ (cost ++ (codes ",\"sites\":" ++ (sites ++ codes "}")))

  bracket_form : List ℕ → List ℕ → List ℕ → List ℕ
  bracket_form cost low sites = codes "{\"answer\":\"bracket\",\"cost\":" ++ (cost ++ (codes ",\"low\":" ++ (low ++ (codes ",\"sites\":" ++ (sites ++ codes "}")))))

  optimal_text : (cost : ℕ) (plan : Option Plan) → compact_text (answer_data I (Optimal cost) plan) ≡ optimal_form (compact_text (amount_data cost)) (compact_text (sites_data I plan))
  unfolding escape_byte optimal_form
  optimal_text cost plan = refl

  bracket_text : (low : ℕ) (high : Option ℕ) (plan : Option Plan)
      → compact_text (answer_data I (Bracket low high) plan) ≡ bracket_form (compact_text (maybe_data high)) (compact_text (amount_data low)) (compact_text (sites_data I plan))
  unfolding escape_byte bracket_form
  bracket_text low high plan = refl

  text_of_answer : (claim : Claim) (plan : Option Plan) → HasShortIds plan → compact_text (answer_data I claim plan) ≡ json_answer I claim plan
  unfolding escape_byte optimal_form bracket_form
  text_of_answer (Optimal cost) plan ids =
      optimal_text cost plan
      ∙ ap (λ t. optimal_form t (compact_text (sites_data I plan))) (text_of_amount cost)
      ∙ ap (λ t. optimal_form (json_amount cost) t) (text_of_sites plan ids)
      ∙ sym (five (codes "{\"answer\":\"optimal\",\"cost\":") (json_amount cost) (codes ",\"sites\":") (json_sites I plan) (codes "}"))
  text_of_answer Infeasible plan ids = refl
  text_of_answer (Bracket low high) plan ids =
      bracket_text low high plan
      ∙ ap (λ t. bracket_form t (compact_text (amount_data low)) (compact_text (sites_data I plan))) (text_of_maybe high)
      ∙ ap (λ t. bracket_form (json_maybe high) t (compact_text (sites_data I plan))) (text_of_amount low)
      ∙ ap (λ t. bracket_form (json_maybe high) (json_amount low) t) (text_of_sites plan ids)
      ∙ sym (seven (codes "{\"answer\":\"bracket\",\"cost\":") (json_maybe high) (codes ",\"low\":") (json_amount low) (codes ",\"sites\":") (json_sites I plan) (codes "}"))

  whole_answer : (claim : Claim) (plan : Option Plan) → HasShortIds plan → has_float (answer_data I claim plan) ≡ false
  whole_answer (Optimal cost) plan ids = ap (λ b. b || false) (whole_sites plan ids)
  whole_answer Infeasible plan ids = refl
  whole_answer (Bracket low high) plan ids = ap (λ b. b || (has_float (sites_data I plan) || false)) (whole_maybe high) ∙ ap (λ b. b || false) (whole_sites plan ids)

  short_ids : (plan : Option Plan) → IsValid I → IfSome plan (IsFeasible I) → HasShortIds plan
  short_ids None valid feasible = tt
  short_ids (Some P) valid feasible = feasible_ids I P valid feasible

  -- what a value of the answer prints
  pub printed : (claim : Claim) (plan : Option Plan) (d : Data) (bytes : List ℕ) → IsValid I → IfSome plan (IsFeasible I) → d ≡ answer_data I claim plan → (has_float d ≡ false → bytes ≡ compact_text d) → bytes ≡ json_answer I claim plan
  printed claim plan d bytes valid feasible is prints =
      let ids : HasShortIds plan = short_ids plan valid feasible in
      prints (ap has_float is ∙ whole_answer claim plan ids) ∙ ap compact_text is ∙ text_of_answer claim plan ids
