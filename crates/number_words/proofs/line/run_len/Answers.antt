use Rattle.std.proofs.Common.{◌≡◌, ℕ, ◌≤◌, true, false, not, cond, nat_lt, Some, None, length, refl, ap, ◌∙◌, inl, inr, arith, rules, tests}
use Rattle.std.proofs.lemmas.Bool.{cases_lt}
use Rattle.std.specs.List.{position_or_len}
use Rattle.std.specs.Option.{unwrap_or}
use Rattle.std.proofs.lemmas.Bool.Decides.{nat_tests}
use Rattle.std.proofs.lemmas.List.Sums.{prefix_len-le-length}
use Rattle.std.proofs.lemmas.Iterator.{YieldsList-from_slice}
use Rattle.std.proofs.lemmas.Iterator.Search.{position_from_yields_List}
use Rattle.number_words.specs.Line.{is_blank}
use Rattle.number_words.proofs.line.run_len.Goals as goal

first_or_len : (n len : ℕ) → n ≤ len → unwrap_or (cond (nat_lt n len) (Some n) None) len ≡ n
first_or_len n len le =
    elim (cases_lt n len) [
      | inl lt ↦ let yes : nat_lt n len ≡ true = grind (arith, nat_tests) in rw yes refl
      | inr ge ↦ let no : nat_lt n len ≡ false = grind (arith, nat_tests) in rw no (omega arith)
    ]

pub returns : goal.returns
returns c =
    let bytes = c.args.bytes.now in
    let found : c.position.result ≡ cond (nat_lt (position_or_len is_blank bytes) (length bytes)) (Some (position_or_len is_blank bytes)) None = position_from_yields_List is_blank _ _ c.position.result c.position.ensures.ran (YieldsList-from_slice bytes cc) (λ x b q k. search (rules, tests)) in
    c.unwrap_or.ensures ∙ ap (λ r. unwrap_or r (length bytes)) found ∙ first_or_len (position_or_len is_blank bytes) (length bytes) (prefix_len-le-length (λ b. not (is_blank b)) bytes)
