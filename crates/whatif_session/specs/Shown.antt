-- The reply to a line, and whether the session ends with it.
use Rattle.std.specs.Prelude.{ℕ, Bool, List, refl}
use Rattle.std.specs.Coded.{Coded, code_by, coded×, coded_ℕ, coded_bool, coded_list}

pub record Replied : Type 0 where
  pub text : List ℕ
  pub ended : Bool

-- it is stored as the pair of its fields
abbrev pub replied_code : Coded Replied
replied_code = code_by (List ℕ × Bool) (coded× (coded_list coded_ℕ) coded_bool) (λ r. (r.text, r.ended)) (λ p. record { text = p.0; ended = p.1 }) (λ _. refl)
