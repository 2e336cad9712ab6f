-- What a search may start from, and what it comes to.
use Rattle.std.proofs.Common.{◌≡◌, ◌↔◌, ℕ, zero, suc, ◌+◌, ◌^◌, ◌<◌, ◌≤◌, false, [], ◌∷◌, Option, None, Some, refl, sym, subst, inl, inr, arith}
use Rattle.std.specs.Prelude.{ℤ, Result, Ok, Err, IfOk, IfSome, IsTrue, slice_get}
use Rattle.std.proofs.Math.Nat.{min-le_left}
use Rattle.std.proofs.lemmas.List.Elements.{All-nil, All-cons}
use Rattle.location_terms.specs.Instance.{Instance, IsValid}
use Rattle.location_terms.specs.Plan.{Plan, IsFeasible}
use Rattle.location_terms.specs.Box.{Path}
use Rattle.location_terms.specs.Bound.{Duals}
use Rattle.location_terms.specs.Fit.{BoundCloses}
use Rattle.location_terms.specs.Leaf.{LeafFits, LeafCloses, leaf_bound}
use Rattle.location_terms.specs.Tree.{Tree, leaves_of, nodes_of}
use Rattle.location_terms.specs.Certificate.{Certificate}
use Rattle.location_terms.proofs.Claims.{claim_holds}
use Rattle.dual_value.specs.Zeros.{zeros}
use Rattle.dual_value.proofs.Zeros.{zeros_fit}
use Rattle.branch_tree.specs.Made.{leaf_of}
use Rattle.tree_search.specs.Answer.{IsSearchStart, AreHeld, most_decisions, IsWithin, IsAnswerTo, plan_in, tree_in, made_in, claim_in, certificate_in}
use Rattle.tree_search.specs.Grown.{IsGrownFrom}
use Rattle.tree_search.proofs.Decided.{grown_within}
use Rattle.tree_search.specs.declared.answer.Answer.{Answer}
use Rattle.tree_search.specs.declared.answer.Answer.TheVariants.{Optimal, Infeasible, Bracket}
use Rattle.tree_search.specs.Budget.{max_budget, budget_in}
use Rattle.tree_search.specs.declared.budget.TheConstants.{DEFAULT_BUDGET}
use Rattle.tree_laws.proofs.Once.{leaf_once}
use Rattle.tree_laws.proofs.Standing.{small_costs, short_text_of}
use Rattle.dualoc_cli.specs.Command.{ResultFiles, Job, SolveLong}
use Rattle.shelf_port.specs.Ports.{ShelfState}
use Rattle.dualoc_cli.specs.declared.reply.Reply.{Reply}
use Rattle.dualoc_cli.specs.Run.{Run, HasTask}
use Rattle.dualoc_cli.specs.Search.{budget_given, HasLargeBudget, HasSearch, IsEnd, IsFound}
use Rattle.dualoc_cli.specs.Due.{IsCause}
use Rattle.dualoc_cli.specs.Step.{Covers}

-- a leaf of zeros at scale 1 doesn't close without a target
open_bound : (bound : ℤ) → BoundCloses bound 1 None → ⊥
open_bound bound (inl ray) = absurd (omega (arith, ray.0))
open_bound bound (inr scaled) = scaled.1

open_at_zeros : (I : Instance) → LeafCloses I [] (zeros I 1) None → ⊥
open_at_zeros I closes = open_bound (leaf_bound I [] (zeros I 1)) closes.closed

zeros_leaf_fits : (I : Instance) → LeafFits I (zeros I 1)
zeros_leaf_fits I = record { numbers = zeros_fit I 1 (omega arith); prices = tt; knapsacks = tt }

not_held : (I : Instance) → IsTrue false ↔ LeafCloses I [] (zeros I 1) None
not_held I = (λ wrong. absurd cc, λ closes. absurd (open_at_zeros I closes))

at_zeros_told : (I : Instance) → AreHeld I (leaf_of I (zeros I 1)) None (false ∷ [])
at_zeros_told I = record { len = refl; each = by }
  where
    by : (k : ℕ) → IfSome (slice_get (false ∷ []) k) (λ h. IfSome (slice_get (leaves_of (leaf_of I (zeros I 1))) k) (λ l. IsTrue h ↔ LeafCloses I l.0 l.1 None))
    by zero = not_held I
    by (suc k) = tt

-- a tree that grew from there is small
pub tree_small : (I : Instance) (cost : Option ℕ) (tree : Tree) → IsGrownFrom I None cost (leaf_of I (zeros I 1)) tree → nodes_of tree + 1 ≤ 2 ^ (most_decisions I + 1)
tree_small I cost tree grown = omega (arith, grown_within I (leaf_of I (zeros I 1)) None cost tree (false ∷ []) (at_zeros_told I) grown)

-- A search may start from there.
module _ (I : Instance) (budget : ℕ) (within : IsWithin I budget) where
  at_zeros : IsSearchStart I (leaf_of I (zeros I 1)) (false ∷ []) None budget
  at_zeros = record {
    stands = record { sites = refl; customers = refl };
    fit = All-cons (λ (l : Path × Duals). LeafFits I l.1) ([], zeros I 1) [] (zeros_leaf_fits I) (All-nil (λ (l : Path × Duals). LeafFits I l.1));
    few = inr refl;
    feasible = tt;
    each_told = at_zeros_told I;
    within = within;
  }

  pub start : (tree : Tree) → tree ≡ leaf_of I (zeros I 1) → IsSearchStart I tree (false ∷ []) None budget
  start tree is = subst (λ t. IsSearchStart I t (false ∷ []) None budget) (sym is) at_zeros

-- what a search from a leaf of zeros answers, as the certificate of a result
module _ (I : Instance) (valid : IsValid I) (budget : ℕ) (within : IsWithin I budget) where
  found_by : (a : Answer) → IsAnswerTo I (leaf_of I (zeros I 1)) None budget a → IsEnd I budget (claim_in I a) (plan_in a) (tree_in a) (made_in a) → IsFound I budget (certificate_in I a)
  found_by a is end =
      let root = leaf_of I (zeros I 1) in
      record {
        holds = claim_holds I valid (claim_in I a) (plan_in a) (tree_in a) is.accepted.shows;
        deserved = record {
          accepted = is.accepted;
          small = small_costs I root None budget a valid is;
          within = short_text_of I root None budget a valid (inr refl) within (leaf_once I (zeros I 1)) is;
        };
        grown = is.grown;
        made = made_in a;
        nodes_are = is.made;
        within = is.within;
        sought = is.sought;
        end = end;
      }

  pub found_at_zeros : (a : Answer) → IsAnswerTo I (leaf_of I (zeros I 1)) None budget a → IsFound I budget (certificate_in I a)
  found_at_zeros (Optimal plan cost tree made) is = found_by (Optimal plan cost tree made) is tt
  found_at_zeros (Infeasible tree made) is = found_by (Infeasible tree made) is tt
  found_at_zeros (Bracket low plan tree made) is = found_by (Bracket low plan tree made) is is.cause

  pub found : (tree : Tree) → tree ≡ leaf_of I (zeros I 1) → (a : Answer) → IsAnswerTo I tree None budget a → (cert : Certificate) → cert ≡ certificate_in I a → IsFound I budget cert
  found tree at_zeros a is cert of_answer = subst (IsFound I budget) (sym of_answer) (found_at_zeros a (subst (λ t. IsAnswerTo I t None budget a) at_zeros is))

-- the plan of an answer is feasible
pub feasible_plan : (I : Instance) (old : Tree) (handed : Option Plan) (budget : ℕ) (a : Answer) → IsAnswerTo I old handed budget a → IfSome (plan_in a) (IsFeasible I)
feasible_plan I old handed budget (Optimal plan cost tree made) is = is.accepted.shows.0.0
feasible_plan I old handed budget (Infeasible tree made) is = tt
feasible_plan I old handed budget (Bracket low None tree made) is = tt
feasible_plan I old handed budget (Bracket low (Some P) tree made) is = is.accepted.shows.0.0

-- a budget in force that is past the greatest was given
pub large_for : (r : Run) (job : Job) (given : Option ℕ) (I : Instance) → HasTask r job I → budget_given job ≡ given → max_budget I < budget_in I given → HasLargeBudget r
large_for r job None I task gives large = absurd (omega (arith, large, min-le_left (max_budget I) DEFAULT_BUDGET))
large_for r job (Some budget) I task gives large = record { instance = I; job = job; budget = budget; task = task; gives = gives; large = large }

pub large_given : (r : Run) (into : ResultFiles) (given : Option ℕ) (I : Instance) → HasTask r (SolveLong into given) I → max_budget I < budget_in I given → HasLargeBudget r
large_given r into given I task large = large_for r (SolveLong into given) given I task refl large

-- a reply has its cause for each run that asks for a search with this budget in force, and so for each that asks for the task
pub asked_cause : {E : Type 0} (result : Result Reply E) (into : ResultFiles) (given : Option ℕ) (I : Instance) (budget : ℕ) (old new : ShelfState) → budget ≡ budget_in I given → budget ≤ max_budget I
    → IfOk result (λ reply. (r : Run) → HasSearch r into I budget → Covers r old new → IsCause r reply)
    → IfOk result (λ reply. (r : Run) → HasTask r (SolveLong into given) I → Covers r old new → IsCause r reply)
asked_cause (Ok reply) into given I budget old new in_force within cause = λ r task part. cause r (record { given = given; task = task; in_force = in_force; within = within }) part
asked_cause (Err fault) into given I budget old new in_force within cause = tt
