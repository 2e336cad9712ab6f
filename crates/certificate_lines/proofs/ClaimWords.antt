-- The words of a claim: which are read as a claim, and that those of a claim are read as it.
use Rattle.std.proofs.Common.{◌≡◌, ℕ, ◌≤◌, ◌&&◌, ◌||◌, not, Bool, true, false, List, [], ◌∷◌, drop, Some, None, refl, sym, ap, ◌∙◌, subst}
use Rattle.std.specs.Prelude.{Option, Ok, codes, nat_le, bytes_eq, if◌then◌else◌}
use Rattle.std.specs.List.{list_all}
use Rattle.std.proofs.lemmas.Bool.{and_parts, and_from, or_right, leb-true, le-leb, false≢true, false_from_ne_true}
use Rattle.location_terms.specs.declared.claim.Claim.{Claim}
use Rattle.location_terms.specs.declared.claim.Claim.TheVariants.{Optimal, Infeasible, Bracket}
use Rattle.location_terms.specs.declared.limits.TheConstants.{MAX_COST}
use Rattle.number_words.specs.Cost.{micro_text, is_cost, is_plain_cost, spelled_cost}
use Rattle.number_words.specs.Line.{words_of_line, is_word, spaced, is_spaced}
use Rattle.number_words.proofs.Costs.{is_cost-micro_text, is_plain_cost-micro_text, spelled_cost-micro_text, micro_text-spelled_cost}
use Rattle.number_words.proofs.Lines.{words_of_line-spaced, is_word-micro_text}
use Rattle.certificate_lines.specs.Text.{claim_words, claim_line}
use Rattle.certificate_lines.specs.Due.{Due, Shown, NothingShown, behind_claim}
use Rattle.certificate_lines.specs.Lines.{then_due, claim_in, claimed, has_plain_costs, has_small_costs, begins, behind_first, read_claim}
use Rattle.certificate_lines.specs.Follow.{HasSmallCosts}
use Rattle.certificate_lines.proofs.Shapes.{passes, unless-holds, equal_bytes, bytes_of_itself, given_if}

-- words of which each cost is plain and small
abbrev Pass : List (List ℕ) → Type 0
Pass ws = (has_plain_costs ws ≡ true) × (has_small_costs ws ≡ true)

behind : (w : List ℕ) (ws : List (List ℕ)) → Pass (w ∷ ws) → Pass ws
behind w ws pass = ((and_parts (not (is_cost w) || is_plain_cost w) (has_plain_costs ws) pass.0).1, (and_parts (not (is_cost w) || nat_le (spelled_cost w) MAX_COST) (has_small_costs ws) pass.1).1)

implied : (c p : Bool) → (not c || p) ≡ true → c ≡ true → p ≡ true
implied true p e holds = e
implied false p e holds = absurd (false≢true holds)

-- a cost among them is the text of its value
cost_word : (w : List ℕ) (ws : List (List ℕ)) → is_cost w ≡ true → Pass (w ∷ ws) → (w ≡ micro_text (spelled_cost w)) × (spelled_cost w ≤ MAX_COST)
cost_word w ws cost pass =
    let plain : is_plain_cost w ≡ true = implied _ _ (and_parts (not (is_cost w) || is_plain_cost w) (has_plain_costs ws) pass.0).0 cost in
    let small : nat_le (spelled_cost w) MAX_COST ≡ true = implied _ _ (and_parts (not (is_cost w) || nat_le (spelled_cost w) MAX_COST) (has_small_costs ws) pass.1).0 cost in
    (sym (micro_text-spelled_cost w plain), leb-true (spelled_cost w) MAX_COST small)

-- words that are those of a claim with small costs
abbrev pub AreOf : List (List ℕ) → Claim → Type 0
AreOf ws claim = (ws ≡ claim_words claim) × HasSmallCosts claim

of_same : (ws : List (List ℕ)) (x claim : Claim) → Some x ≡ Some claim → AreOf ws x → AreOf ws claim
of_same ws x claim e are = let same : x ≡ claim = cc in subst (AreOf ws) same are

of_bracket : (a low high : List ℕ) (claim : Claim) (b none is_high : Bool) → (if not b then None else (if none then Some (Bracket (spelled_cost low) None) else (if is_high then Some (Bracket (spelled_cost low) (Some (spelled_cost high))) else None))) ≡ Some claim
    → (b ≡ true → (a ≡ codes "bracket") × (is_cost low ≡ true)) → (none ≡ true → high ≡ codes "none") → (is_high ≡ true → is_cost high ≡ true) → Pass (a ∷ low ∷ high ∷ []) → AreOf (a ∷ low ∷ high ∷ []) claim
of_bracket a low high claim false none is_high e first no_high some_high pass = absurd (cc)
of_bracket a low high claim true false false e first no_high some_high pass = absurd (cc)
of_bracket a low high claim true true is_high e first no_high some_high pass =
    let cost = cost_word low (high ∷ []) (first refl).1 (behind a (low ∷ high ∷ []) pass) in
    of_same _ _ claim e (ap (λ w. w ∷ low ∷ high ∷ []) (first refl).0 ∙ ap (λ w. codes "bracket" ∷ w ∷ high ∷ []) cost.0 ∙ ap (λ w. codes "bracket" ∷ micro_text (spelled_cost low) ∷ w ∷ []) (no_high refl), (cost.1, tt))
of_bracket a low high claim true false true e first no_high some_high pass =
    let rest = behind a (low ∷ high ∷ []) pass in
    let cost = cost_word low (high ∷ []) (first refl).1 rest in
    let top = cost_word high [] (some_high refl) (behind low (high ∷ []) rest) in
    of_same _ _ claim e (ap (λ w. w ∷ low ∷ high ∷ []) (first refl).0 ∙ ap (λ w. codes "bracket" ∷ w ∷ high ∷ []) cost.0 ∙ ap (λ w. codes "bracket" ∷ micro_text (spelled_cost low) ∷ w ∷ []) top.0, (cost.1, top.1))

pub words_of_claim : (ws : List (List ℕ)) (claim : Claim) → claim_in ws ≡ Some claim → has_plain_costs ws ≡ true → has_small_costs ws ≡ true → AreOf ws claim
words_of_claim [] claim e plain small = absurd (cc)
words_of_claim (a ∷ []) claim e plain small =
    let is = given_if (bytes_eq a (codes "infeasible")) (Some Infeasible) claim e in
    of_same _ _ claim is.1 (ap (λ w. w ∷ []) (equal_bytes a (codes "infeasible") is.0), tt)
words_of_claim (a ∷ c ∷ []) claim e plain small =
    let is = given_if (bytes_eq a (codes "optimal") && is_cost c) (Some (Optimal (spelled_cost c))) claim e in
    let shape = and_parts (bytes_eq a (codes "optimal")) (is_cost c) is.0 in
    let cost = cost_word c [] shape.1 (behind a (c ∷ []) (plain, small)) in
    of_same _ _ claim is.1 (ap (λ w. w ∷ c ∷ []) (equal_bytes a (codes "optimal") shape.0) ∙ ap (λ w. codes "optimal" ∷ w ∷ []) cost.0, cost.1)
words_of_claim (a ∷ low ∷ high ∷ []) claim e plain small =
    of_bracket a low high claim (bytes_eq a (codes "bracket") && is_cost low) (bytes_eq high (codes "none")) (is_cost high) e
    (λ both. let parts = and_parts (bytes_eq a (codes "bracket")) (is_cost low) both in (equal_bytes a (codes "bracket") parts.0, parts.1)) (equal_bytes high (codes "none")) (λ cost. cost) (plain, small)
words_of_claim (a ∷ b ∷ c ∷ d ∷ ws) claim e plain small = absurd (cc)

begins-words : (word : List ℕ) (ws : List (List ℕ)) → begins word ws ≡ true → ws ≡ word ∷ drop 1 ws
begins-words word [] e = absurd (cc)
begins-words word (w ∷ ws) e = ap (λ x. x ∷ ws) (equal_bytes w word e)

claimed-is : (line : List ℕ) (o : Option Claim) (read : Due × Shown) → words_of_line line ≡ codes "claim" ∷ behind_first line → claim_in (behind_first line) ≡ o → claimed line o ≡ Ok read
    → (claim : Claim) × HasSmallCosts claim × (line ≡ claim_line claim) × (then_due (behind_claim claim) NothingShown ≡ Ok read)
claimed-is line None read words is e = absurd (cc)
claimed-is line (Some claim) read words is e =
    let plain = passes _ _ _ _ e in
    let small = passes _ _ _ _ plain.1 in
    let form = and_parts (is_spaced line) (has_plain_costs (behind_first line)) plain.0 in
    let are = words_of_claim (behind_first line) claim is form.1 small.0 in
    (claim, are.1, equal_bytes line (spaced (words_of_line line)) form.0 ∙ ap spaced (words ∙ ap (λ ws. codes "claim" ∷ ws) are.0), small.1)

-- a line that is read as a claim
pub claim-is : (line : List ℕ) (read : Due × Shown) → read_claim line ≡ Ok read → (claim : Claim) × HasSmallCosts claim × (line ≡ claim_line claim) × (then_due (behind_claim claim) NothingShown ≡ Ok read)
claim-is line read e =
    let first = passes _ _ _ _ e in
    claimed-is line (claim_in (behind_first line)) read (begins-words (codes "claim") (words_of_line line) first.0) refl first.1

-- a cost is no other word of a claim
cost-other : (n : ℕ) (word : List ℕ) → is_cost word ≡ false → bytes_eq (micro_text n) word ≡ false
cost-other n word other = false_from_ne_true _ (λ same. false≢true (sym other ∙ ap is_cost (sym (equal_bytes (micro_text n) word same)) ∙ is_cost-micro_text n))

claim_in-words : (claim : Claim) → claim_in (claim_words claim) ≡ Some claim
claim_in-words (Optimal cost) = rw (is_cost-micro_text cost, spelled_cost-micro_text cost) refl
claim_in-words Infeasible = refl
claim_in-words (Bracket low None) = rw (is_cost-micro_text low, spelled_cost-micro_text low) refl
claim_in-words (Bracket low (Some high)) = rw (is_cost-micro_text low, spelled_cost-micro_text low, cost-other high (codes "none") refl, is_cost-micro_text high, spelled_cost-micro_text high) refl

cost_pass : (n : ℕ) (ws : List (List ℕ)) → n ≤ MAX_COST → Pass ws → Pass (micro_text n ∷ ws)
cost_pass n ws small pass = (
  and_from _ _ (or_right _ _ (is_plain_cost-micro_text n)) pass.0,
  and_from _ _ (or_right _ _ (ap (λ m. nat_le m MAX_COST) (spelled_cost-micro_text n) ∙ le-leb n MAX_COST small)) pass.1,
)

claim_pass : (claim : Claim) → HasSmallCosts claim → Pass (claim_words claim)
claim_pass (Optimal cost) small = cost_pass cost [] small (refl, refl)
claim_pass Infeasible small = (refl, refl)
claim_pass (Bracket low None) small = cost_pass low (codes "none" ∷ []) small.0 (refl, refl)
claim_pass (Bracket low (Some high)) small = cost_pass low (micro_text high ∷ []) small.0 (cost_pass high [] small.1 (refl, refl))

pub are_words : (claim : Claim) → list_all is_word (claim_words claim) ≡ true
are_words (Optimal cost) = and_from _ _ (is_word-micro_text cost) refl
are_words Infeasible = refl
are_words (Bracket low None) = and_from _ _ (is_word-micro_text low) refl
are_words (Bracket low (Some high)) = and_from _ _ (is_word-micro_text low) (and_from _ _ (is_word-micro_text high) refl)

-- the line of a claim is read as it
pub claim-read : (claim : Claim) → HasSmallCosts claim → read_claim (claim_line claim) ≡ then_due (behind_claim claim) NothingShown
claim-read claim small =
    let ws = codes "claim" ∷ claim_words claim in
    let back : words_of_line (claim_line claim) ≡ ws = words_of_line-spaced ws (are_words claim) in
    let spaced_is : is_spaced (claim_line claim) ≡ true = ap (λ us. bytes_eq (claim_line claim) (spaced us)) back ∙ bytes_of_itself (claim_line claim) in
    let pass = claim_pass claim small in
    unless-holds _ _ _ (ap (begins (codes "claim")) back)
    ∙ ap (λ us. claimed (claim_line claim) (claim_in (drop 1 us))) back
    ∙ ap (claimed (claim_line claim)) (claim_in-words claim)
    ∙ unless-holds _ _ _ (and_from _ _ spaced_is (ap (λ us. has_plain_costs (drop 1 us)) back ∙ pass.0))
    ∙ unless-holds _ _ _ (ap (λ us. has_small_costs (drop 1 us)) back ∙ pass.1)
