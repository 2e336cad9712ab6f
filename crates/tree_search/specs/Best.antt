-- For private functions alone: no public contract cites this page.
-- The best plan that a search knows of an instance.
use Rattle.std.specs.Prelude.{◌≡◌, ℕ, Bool, Option, None, Some, IfSome, nat_lt, true, refl}
use Rattle.std.specs.Coded.{Coded, code_by, coded_option, coded×}
use Rattle.location_terms.specs.Instance.{Instance, instance_code}
use Rattle.location_terms.specs.Plan.{Plan, plan_code, IsFeasible}
use Rattle.plan_search.specs.InBox.{IsNoWorse}
use Rattle.tree_search.specs.Answer.{cost_in}

pub record Best : Type 0 where
  pub instance : Instance
  pub plan : Option Plan

-- the code by which a struct can have the best plan as its value
abbrev pub best_code : Coded Best
best_code = code_by (Instance × Option Plan) (coded× instance_code (coded_option plan_code)) (λ b. (b.instance, b.plan)) (λ p. record { instance = p.0; plan = p.1 }) (λ _. refl)

-- of the same instance, and no worse
pub record Improves (old new : Best) : Type 0 where
  pub same : new.instance ≡ old.instance
  pub no_worse : IsNoWorse old.instance new.plan old.plan

-- the plan, where there is one, is feasible and costs this
pub record IsKnown (I : Instance) (plan : Option Plan) (cost : Option ℕ) : Type 0 where
  pub feasible : IfSome plan (IsFeasible I)
  pub exact : cost ≡ cost_in I plan

-- whether the cost is below the other one, or there is no other
abbrev pub is_below : ℕ → Option ℕ → Bool
is_below cost None = true
is_below cost (Some other) = nat_lt cost other
