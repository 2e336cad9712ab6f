-- The certificate of a search's answer has a text within the checker's limit.
use Rattle.std.proofs.Common.{◌≡◌, ◌⊎◌, ℕ, ◌+◌, ◌*◌, ◌≤◌, ◌==◌, List, [], ◌∷◌, length, min, get_or, Option, None, Some, sym, ap, subst, ◌∙◌, inl, inr, arith}
use Rattle.std.specs.Prelude.{All, IfSome, fold, filter, find, unwrap_or, option_map, nat_lt, Contains}
use Rattle.std.proofs.Math.Nat.{min-le_left}
use Rattle.std.proofs.lemmas.Bool.{cond_both}
use Rattle.std.proofs.lemmas.Nat.{mul-le}
use Rattle.std.proofs.lemmas.List.{length-map}
use Rattle.std.proofs.lemmas.List.Sums.{sum_by-le}
use Rattle.std.proofs.lemmas.List.Elements.{All-head, All-tail, All-weaker, All-contains}
use Rattle.location_terms.specs.declared.limits.TheConstants.{MAX_AMOUNT, MAX_COST, MAX_SITES, MAX_CUSTOMERS}
use Rattle.location_terms.specs.declared.claim.Claim.{Claim}
use Rattle.location_terms.specs.declared.claim.Claim.TheVariants as claim
use Rattle.location_terms.specs.Instance.{Instance, Site, IsValid, lane, fixed_of, site_ids}
use Rattle.location_terms.specs.Plan.{Plan, IsFeasible, cost_of}
use Rattle.location_terms.specs.Box.{Path}
use Rattle.location_terms.specs.Bound.{Duals}
use Rattle.location_terms.specs.Leaf.{leaf_bound}
use Rattle.location_terms.specs.Tree.{Tree, AllClose, leaves_of, nodes_of, low_end, low_of}
use Rattle.location_terms.specs.Certificate.{Certificate, Costs, Shows, IsAccepted, cost_claimed, target_of}
use Rattle.tree_search.specs.Answer.{IsWithin, IsAnswerTo, cost_in, plan_in, tree_in, made_in, claim_in, certificate_in}
use Rattle.tree_search.specs.declared.answer.Answer.{Answer}
use Rattle.tree_search.specs.declared.answer.Answer.TheVariants.{Optimal, Infeasible, Bracket}
use Rattle.certificate_lines.specs.Follow.{HasSmallCosts, IsSpellable, HasPlanWhere, HasText}
use Rattle.certificate_lines.specs.Length.{DecidesOnce}
use Rattle.certificate_lines.specs.Text.{certificate_text}
use Rattle.certificate_lines.specs.declared.limits.TheConstants.{MAX_CERTIFICATE_BYTES}
use Rattle.certificate_lines.proofs.Lengths.{short_text}
use Rattle.certificate_lines.proofs.Once.{few_where_once}
use Rattle.branch_tree.specs.declared.limits.TheConstants.{MAX_TREE_NUMBERS}
use Rattle.tree_laws.proofs.Once.{grown_once}

-- The costs of plans and low ends are within their limit.
found_small : (s : ℕ) (sites : List Site) → All (λ x. x.fixed ≤ MAX_AMOUNT) sites → unwrap_or (option_map (λ x. x.fixed) (find (λ x. x.id == s) sites)) 0 ≤ MAX_AMOUNT
found_small s [] small = omega arith
found_small s (x ∷ sites) small =
    cond_both (x.id == s) (Some x) (find (λ x. x.id == s) sites) (λ o. unwrap_or (option_map (λ x. x.fixed) o) 0 ≤ MAX_AMOUNT)
    (λ _. All-head (λ x. x.fixed ≤ MAX_AMOUNT) x sites small) (λ _. found_small s sites (All-tail (λ x. x.fixed ≤ MAX_AMOUNT) x sites small))

lane_small : (cost : Option ℕ) → IfSome cost (λ c. c ≤ MAX_AMOUNT) → unwrap_or cost 0 ≤ MAX_AMOUNT
lane_small None small = omega arith
lane_small (Some c) small = small

fold_small : {X : Type 0} (f : X → ℕ) (a : ℕ) (xs : List X) → fold (λ m x. min m (f x)) a xs ≤ a
fold_small f a [] = omega arith
fold_small f a (x ∷ xs) = omega (arith, fold_small f (min a (f x)) xs, min-le_left a (f x))

low_small : (I : Instance) (t : Tree) → low_of I t ≤ MAX_COST
low_small I t = fold_small (λ (l : Path × Duals). low_end (leaf_bound I l.0 l.1) l.1.q) MAX_COST (filter (λ (l : Path × Duals). nat_lt 0 l.1.q) (leaves_of t))

module _ (I : Instance) (valid : IsValid I) where
  cost_small : (P : Plan) → IsFeasible I P → cost_of I P ≤ MAX_COST
  cost_small P feasible =
      let opening = sum_by-le (fixed_of I) MAX_AMOUNT P.sites (λ k d b. found_small (get_or P.sites k d) I.sites valid.fixed_small) in
      let serving = sum_by-le (λ (v : ℕ × ℕ). unwrap_or (lane I v.1 v.0) 0) MAX_AMOUNT P.serves
      (λ k d b. lane_small (lane I (get_or P.serves k d).1 (get_or P.serves k d).0) (valid.lanes_small (get_or P.serves k d).1 (get_or P.serves k d).0)) in
      let each : length P.serves ≡ length I.customers = sym (length-map P.serves (λ v. v.0)) ∙ ap length feasible.each_once ∙ length-map I.customers (λ c. c.id) in
      omega (arith, opening, serving, each, feasible.at_most, valid.count_small, valid.sizes.few_customers)

  claimed_small : (P : Plan) (cost : ℕ) → Costs I (Some P) cost → cost ≤ MAX_COST
  claimed_small P cost shown = subst (λ c. c ≤ MAX_COST) shown.1 (cost_small P shown.0)

  bracket_small : (low : ℕ) (plan : Option Plan) (tree : Tree) → low ≡ low_of I tree → Shows I (claim_in I (Bracket low plan tree 0)) plan tree → HasSmallCosts (claim_in I (Bracket low plan tree 0))
  bracket_small low None tree shown shows = (subst (λ l. l ≤ MAX_COST) (sym shown) (low_small I tree), tt)
  bracket_small low (Some P) tree shown shows = (subst (λ l. l ≤ MAX_COST) (sym shown) (low_small I tree), claimed_small P (cost_of I P) shows.0)

pub small_costs : (I : Instance) (old : Tree) (handed : Option Plan) (budget : ℕ) (a : Answer) → IsValid I → IsAnswerTo I old handed budget a → HasSmallCosts (claim_in I a)
small_costs I old handed budget (Optimal plan cost tree made) valid is = claimed_small I valid plan cost is.accepted.shows.0
small_costs I old handed budget (Infeasible tree made) valid is = tt
small_costs I old handed budget (Bracket low plan tree made) valid is = bracket_small I valid low plan tree is.cause.shown is.accepted.shows

-- An accepted certificate has a text, where its costs are small.
spellable : (I : Instance) (P : Plan) → IsFeasible I P → IsSpellable I P
spellable I P feasible =
    record {
      plan = feasible.plan;
      sites_known = feasible.sites_known;
      each_once = feasible.each_once;
      servers_known = All-weaker (λ v. Contains P.sites v.1) (λ v. Contains (site_ids I) v.1) (λ v opened. All-contains (Contains (site_ids I)) P.sites v.1 feasible.sites_known opened) P.serves feasible.by_open;
    }

costed : (I : Instance) (cost : ℕ) (plan : Option Plan) → Costs I plan cost → HasPlanWhere I (Some cost) plan
costed I cost None costs = absurd costs
costed I cost (Some P) costs = spellable I P costs.0

plan_shown : (I : Instance) (claim : Claim) (plan : Option Plan) (t : Tree) → Shows I claim plan t → HasPlanWhere I (cost_claimed claim) plan
plan_shown I (claim.Optimal cost) plan t shows = costed I cost plan shows.0
plan_shown I claim.Infeasible plan t shows = shows.0
plan_shown I (claim.Bracket low None) plan t shows = shows.0
plan_shown I (claim.Bracket low (Some high)) plan t shows = costed I high plan shows.0

all_close : (I : Instance) (claim : Claim) (plan : Option Plan) (t : Tree) → Shows I claim plan t → AllClose I t (target_of claim)
all_close I (claim.Optimal cost) plan t shows = shows.1
all_close I claim.Infeasible plan t shows = shows.1
all_close I (claim.Bracket low high) plan t shows = shows.1

has_text : (I : Instance) (cert : Certificate) → IsAccepted I cert → HasSmallCosts cert.claim → HasText I cert
has_text I cert accepted small = record {
  tree = accepted.tree;
  stands = accepted.stands;
  fit = λ k d within. (all_close I cert.claim cert.plan cert.tree accepted.shows k d within).fit;
  costs = small;
  plan = plan_shown I cert.claim cert.plan cert.tree accepted.shows;
}

-- The nodes that a search starts with and those that it makes are within the limit together.
few_numbers : (m n old budget made new : ℕ) → m ≤ MAX_SITES → n ≤ MAX_CUSTOMERS → (2 * old * (m + n) ≤ MAX_TREE_NUMBERS) ⊎ (old ≡ 1) → 2 * budget * (m + n) ≤ MAX_TREE_NUMBERS → new ≡ old + made → made ≤ budget → new * (m + n) ≤ MAX_TREE_NUMBERS
few_numbers m n old budget made new sites customers (inl few) within is spent =
    let product : made * (m + n) ≤ budget * (m + n) = mul-le made (m + n) budget (m + n) spent (omega arith) in
    omega (arith, few, within, product, ap (λ k. k * (m + n)) is)
few_numbers m n old budget made new sites customers (inr one) within is spent =
    let product : made * (m + n) ≤ budget * (m + n) = mul-le made (m + n) budget (m + n) spent (omega arith) in
    omega (arith, sites, customers, one, within, product, ap (λ k. k * (m + n)) (is ∙ ap (λ k. k + made) one))

pub short_text_of : (I : Instance) (old : Tree) (handed : Option Plan) (budget : ℕ) (a : Answer) → IsValid I → IsWithin I (nodes_of old) ⊎ (nodes_of old ≡ 1) → IsWithin I budget → DecidesOnce old → IsAnswerTo I old handed budget a
    → length (certificate_text I (certificate_in I a)) ≤ MAX_CERTIFICATE_BYTES
short_text_of I old handed budget a valid few within once is =
    let numbers = few_numbers (length I.sites) (length I.customers) (nodes_of old) budget (made_in a) (nodes_of (tree_in a)) valid.sizes.few_sites valid.sizes.few_customers few within is.made is.within in
    let cert : Certificate = certificate_in I a in
    short_text I cert valid (has_text I cert is.accepted (small_costs I old handed budget a valid is))
    (few_where_once I (tree_in a) valid is.accepted.tree is.accepted.stands (grown_once I (cost_in I handed) (cost_in I (plan_in a)) old (tree_in a) once is.grown) numbers)
