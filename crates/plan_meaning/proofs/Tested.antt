-- What a loop over a list that tests each element answers.
use Rattle.std.proofs.Common.{ℕ, ◌<◌, ◌↔◌, List, length, get_or, All, IsTrue, true, false, refl}
use Rattle.std.proofs.lemmas.List.Elements.{All-from_get_or}

module _ {X : Type 0} (P : X → Type 0) (xs : List X) (d : X) where
  -- each element passed
  pub all_pass : ((k : ℕ) → k < length xs → P (get_or xs k d)) → IsTrue true ↔ All P xs
  all_pass each = (λ _. All-from_get_or P xs d each, λ _. refl)

  -- the one at k failed
  pub one_fails : (k : ℕ) → k < length xs → (¬ P (get_or xs k d)) → IsTrue false ↔ All P xs
  one_fails k within fails = (λ e. cc, λ all. absurd (fails (all k d within)))
