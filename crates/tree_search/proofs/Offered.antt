-- What offers to the incumbent come to.
use Rattle.std.proofs.Common.{◌≡◌, ℕ, zero, suc, ◌*◌, ◌≤◌, ap, subst, ◌∙◌, inl, inr, arith, List, Option, Some, None, Result, Ok, Err, pos, ◌-ℤ◌, ◌*ℤ◌, ◌≤ℤ◌, ◌<ℤ◌}
use Rattle.std.specs.Prelude.{OnOk, IfOk, IsSomeAnd}
use Rattle.std.proofs.lemmas.Int.{ints}
use Rattle.std.proofs.lemmas.Bool.{cases_lt}
use Rattle.std.proofs.lemmas.Nat.{mul-le}
use Rattle.location_terms.specs.Instance.{Instance, IsValid}
use Rattle.location_terms.specs.Plan.{Plan, cost_of}
use Rattle.location_terms.specs.Box.{Path}
use Rattle.location_terms.specs.Bound.{Duals, AreDualsOf}
use Rattle.location_terms.specs.Fit.{BoundCloses}
use Rattle.location_terms.specs.Leaf.{leaf_bound}
use Rattle.location_terms.proofs.Duality.{leaf_bound_within_cost}
use Rattle.dual_adjust.specs.Slackness.{tight_sites}
use Rattle.plan_search.specs.InBox.{IsPathOf, IsNoWorse}
use Rattle.plan_search.specs.Packed.{packed}
use Rattle.plan_search.proofs.Feasible.{packed_feasible, packed_in_box}
use Rattle.tree_search.specs.Answer.{cost_in}
use Rattle.tree_search.specs.Best.{Best, Improves}
use Rattle.tree_search.specs.Working.{ClosesWith, IsSoughtAt}
use Rattle.tree_search.proofs.Closer.{no_worse_again, some_within}

pub on_ok : {T E : Type 0} (r : Result T E) (A B : Type 0) → (A → B) → OnOk r A → OnOk r B
on_ok (Ok x) A B f h = f h
on_ok (Err e) A B f h = tt

pub if_ok : {T E : Type 0} (r : Result T E) (A B : T → Type 0) → ((x : T) → A x → B x) → IfOk r A → IfOk r B
if_ok (Ok x) A B f h = f x h
if_ok (Err e) A B f h = tt

pub if_ok_both : {T E : Type 0} (r : Result T E) (A B C : T → Type 0) → ((x : T) → A x → B x → C x) → IfOk r A → IfOk r B → IfOk r C
if_ok_both (Ok x) A B C f a b = f x a b
if_ok_both (Err e) A B C f a b = tt

pub improves_again : (old mid new : Best) → Improves old mid → Improves mid new → Improves old new
improves_again old mid new first second = record {
  same = second.same ∙ first.same;
  no_worse = no_worse_again old.instance new.plan mid.plan old.plan (subst (λ I. IsNoWorse I new.plan mid.plan) first.same second.no_worse) first.no_worse;
}

module _ (I : Instance) where
  pub improved_in : (old new : Best) → old.instance ≡ I → Improves old new → IsNoWorse I new.plan old.plan
  improved_in old new same improves = subst (λ J. IsNoWorse J new.plan old.plan) same improves.no_worse

  module _ (path : Path) (d : Duals) where
    -- what was offered at the tight sites
    pub offered_sought : (plan : Option Plan) (hint : List ℕ) → hint ≡ tight_sites I path d → IsNoWorse I plan (packed I path hint) → IsSoughtAt I plan path d
    offered_sought plan hint is offered P at = some_within I plan (packed I path hint) P offered (ap (packed I path) is ∙ at)

    -- where the box closes, no plan of it costs less
    closed_within : (q cost : ℕ) (plan : Option Plan) → 1 ≤ q → BoundCloses (leaf_bound I path d) q (cost_in I plan) → leaf_bound I path d ≤ℤ pos (q * cost) → IsSomeAnd plan (λ Q. cost_of I Q ≤ cost)
    closed_within q cost plan some (inl ray) within = absurd (omega (arith, ray.0, some))
    closed_within q cost None some (inr scaled) within = absurd scaled.1
    closed_within q cost (Some Q) some (inr scaled) within = no_more q (cost_of I Q) cost (omega (arith, ints, scaled.1, within))
      where
        no_more : (q a b : ℕ) → (pos q *ℤ (pos a -ℤ pos 1)) <ℤ pos (q * b) → a ≤ b
        no_more q zero b less = omega arith
        no_more q (suc a) b less = elim (cases_lt a b) [
          | inl below ↦ omega (arith, below)
          | inr above ↦
              let one_less : (pos (suc a) -ℤ pos 1) ≡ pos a = omega (arith, ints) in
              let product = mul-le q b q a (omega arith) above in
              absurd (omega (arith, ints, product, subst (λ x. (pos q *ℤ x) <ℤ pos (q * b)) one_less less))
        ]

    pub closed_sought : (plan : Option Plan) → IsValid I → IsPathOf I path → AreDualsOf I d → ClosesWith I plan path d → 1 ≤ d.q → IsSoughtAt I plan path d
    closed_sought plan valid known duals closes some P is =
        closed_within d.q (cost_of I P) plan some closes
        (leaf_bound_within_cost I path d P valid (packed_feasible I path (tight_sites I path d) valid P is) duals (packed_in_box I path (tight_sites I path d) valid P is known))
