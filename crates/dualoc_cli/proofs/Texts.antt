-- Texts that are put together of pieces.
use Rattle.std.proofs.Common.{◌≡◌, ℕ, List, ◌++◌, ◌∙◌, ap, append_assoc, sym}

pub five : (a b c d e : List ℕ) → a ++ (b ++ (c ++ (d ++ e))) ≡ (((a ++ b) ++ c) ++ d) ++ e
five a b c d e = sym (simp append_assoc)

-- three pieces, one more behind them, and three behind that
pub three_one_three : (a b c d e f g s t u : List ℕ) → s ≡ a ++ (b ++ c) → t ≡ s ++ d → u ≡ t ++ (e ++ (f ++ g))
    → u ≡ (((((a ++ b) ++ c) ++ d) ++ e) ++ f) ++ g
three_one_three a b c d e f g s t u p q r =
    r ∙ ap (λ x. x ++ (e ++ (f ++ g))) (q ∙ ap (λ x. x ++ d) p) ∙ simp append_assoc
