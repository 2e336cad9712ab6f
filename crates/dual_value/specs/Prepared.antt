-- A box of an instance, as it is prepared before its lanes are walked.
use Rattle.std.specs.Prelude.{◌≡◌, ℕ, ◌⊎◌, refl}
use Rattle.std.proofs.Common.{inl, inr}
use Rattle.std.specs.Coded.{Coded, code_by, coded_ℕ, coded_list, coded×, coded⊎}
use Rattle.location_terms.specs.declared.decision.Decision.{Decision}
use Rattle.location_terms.specs.declared.decision.Decision.TheVariants.{Opened, Closed, Yes, No}
use Rattle.location_terms.specs.Instance.{Instance, instance_code}
use Rattle.location_terms.specs.Box.{Path}

-- the instance, and the path to the box
pub record Prepared : Type 0 where
  pub instance : Instance
  pub path : Path

-- a decision as the parts that it is stored by, on a site or on a lane
abbrev pub decision_parts : Decision → (ℕ ⊎ ℕ) ⊎ ((ℕ × ℕ) ⊎ (ℕ × ℕ))
decision_parts (Opened s) = inl (inl s)
decision_parts (Closed s) = inl (inr s)
decision_parts (Yes s c) = inr (inl (s, c))
decision_parts (No s c) = inr (inr (s, c))

abbrev pub decision_from : (ℕ ⊎ ℕ) ⊎ ((ℕ × ℕ) ⊎ (ℕ × ℕ)) → Decision
decision_from (inl (inl s)) = Opened s
decision_from (inl (inr s)) = Closed s
decision_from (inr (inl p)) = Yes p.0 p.1
decision_from (inr (inr p)) = No p.0 p.1

pub decision_from-parts : (d : Decision) → decision_from (decision_parts d) ≡ d
decision_from-parts (Opened s) = refl
decision_from-parts (Closed s) = refl
decision_from-parts (Yes s c) = refl
decision_from-parts (No s c) = refl

abbrev pub decision_code : Coded Decision
decision_code = code_by ((ℕ ⊎ ℕ) ⊎ ((ℕ × ℕ) ⊎ (ℕ × ℕ))) (coded⊎ (coded⊎ coded_ℕ coded_ℕ) (coded⊎ (coded× coded_ℕ coded_ℕ) (coded× coded_ℕ coded_ℕ))) decision_parts decision_from decision_from-parts

-- the code by which a struct can have a prepared box as its value
abbrev pub prepared_code : Coded Prepared
prepared_code = code_by (Instance × Path) (coded× instance_code (coded_list decision_code)) (λ b. (b.instance, b.path)) (λ p. record { instance = p.0; path = p.1 }) (λ _. refl)
