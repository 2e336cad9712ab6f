-- A solve behind another one starts from its tree and its plan.
use Rattle.std.proofs.Common.{◌≡◌, ℕ, ◌+◌, ◌≤◌, false, Option, None, Some, refl, sym, ap, subst, ◌∙◌, inl, inr}
use Rattle.std.specs.Prelude.{All, option_map, option_and_then, unwrap_or}
use Rattle.std.proofs.lemmas.List.Elements.{All-weaker}
use Rattle.location_terms.specs.Instance.{Instance, IsValid}
use Rattle.location_terms.specs.Plan.{Plan, IsFeasible}
use Rattle.location_terms.specs.Box.{Path}
use Rattle.location_terms.specs.Bound.{Duals}
use Rattle.location_terms.specs.Carried.{IsHanded, carried_plan}
use Rattle.location_terms.specs.Leaf.{LeafFits, LeafCloses}
use Rattle.location_terms.specs.Tree.{Tree, leaves_of}
use Rattle.dual_value.specs.Zeros.{zeros}
use Rattle.branch_tree.specs.Made.{leaf_of}
use Rattle.leaf_repair.specs.CarriedTree.{carried_tree, is_too_large}
use Rattle.plan_search.specs.InBox.{IsNoWorse}
use Rattle.tree_search.specs.Answer.{IsAnswerTo, claim_in}
use Rattle.tree_search.specs.declared.answer.Answer.TheVariants.{Bracket}
use Rattle.whatif_session.specs.State.{SessionState, Solved, last_serial, present_plan, starting_tree}
use Rattle.whatif_session.specs.Step.{IsSolvedBy, solved}
use Rattle.session_laws.specs.Session.{AreCounted}
use Rattle.session_laws.proofs.Carried.{tree_same, plan_same}
use Rattle.session_laws.proofs.Raised.{feasible_in, goes_higher}
use Rattle.session_laws.proofs.States.{solve_is}

-- a feasible plan is handed on as it is
handed_is : (I : Instance) (plan handed : Option Plan) → IsValid I → ((P : Plan) → plan ≡ Some P → IsFeasible I P) → IsHanded I plan handed → handed ≡ plan
handed_is I None handed valid feasible is = is
handed_is I (Some P) handed valid feasible (inl carried) = carried.1 ∙ ap Some (plan_same I valid P (feasible P refl))
handed_is I (Some P) handed valid feasible (inr other) =
    let same : P ≡ carried_plan I P = sym (plan_same I valid P (feasible P refl)) in
    absurd (other.0 (subst (IsFeasible I) same (feasible P refl)))

module _ (I : Instance) (state : SessionState) (first second : ℕ) (low made : ℕ) (plan : Option Plan) (tree : Tree) (later_low later_made : ℕ) (later_plan : Option Plan) (later_tree : Tree) (valid : IsValid I) (counted : AreCounted state)
    (small : is_too_large I tree ≡ false) (is : IsSolvedBy state I first (Bracket low plan tree made)) (goes_on : IsSolvedBy (solved state I (Bracket low plan tree made)) I second (Bracket later_low later_plan later_tree later_made)) where
  abbrev now : SessionState
  now = solved state I (Bracket low plan tree made)

  abbrev solve_now : Solved
  solve_now = record { serial = last_serial state + 1; tree = tree; plan = plan }

  fits : All (λ l. LeafFits I l.1) (leaves_of tree)
  fits = All-weaker (λ (l : Path × Duals). LeafCloses I l.0 l.1 (Some low)) (λ (l : Path × Duals). LeafFits I l.1) (λ l closes. closes.fit) (leaves_of tree) is.found.accepted.shows.1

  from_tree : starting_tree now I ≡ tree
  from_tree =
      ap (λ (o : Option Solved). unwrap_or (option_map (λ s. carried_tree I s.tree) o) (leaf_of I (zeros I 1))) (solve_is state (claim_in I (Bracket low plan tree made)) tree plan counted)
      ∙ tree_same I valid tree is.found.accepted.tree is.found.accepted.stands fits small

  from_plan : present_plan now ≡ plan
  from_plan = ap (λ (o : Option Solved). option_and_then (λ s. s.plan) o) (solve_is state (claim_in I (Bracket low plan tree made)) tree plan counted)

  handed_on : goes_on.handed ≡ plan
  handed_on = handed_is I plan goes_on.handed valid (λ P found. feasible_in I low plan tree P is.found.accepted.shows found) (subst (λ p. IsHanded I p goes_on.handed) from_plan goes_on.is_handed)

  found_on : IsAnswerTo I tree plan second (Bracket later_low later_plan later_tree later_made)
  found_on =
      subst (λ t. IsAnswerTo I t plan second (Bracket later_low later_plan later_tree later_made)) from_tree
      (subst (λ h. IsAnswerTo I (starting_tree now I) h second (Bracket later_low later_plan later_tree later_made)) handed_on goes_on.found)

  pub solves_rise : (low ≤ later_low) × IsNoWorse I later_plan plan
  solves_rise = goes_higher I valid (starting_tree state I) tree later_tree is.handed plan later_plan first second low later_low made later_made is.found found_on
