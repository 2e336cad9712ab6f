-- A search that starts from a tree whose leaves all close.
use Rattle.std.proofs.Common.{◌≡◌, ℕ, ◌+◌, ◌≤◌, [], ◌∷◌, ◌++◌, Option, None, Some, refl, sym, ap, subst, ◌∙◌, inl, inr, arith}
use Rattle.std.specs.Prelude.{All, Contains}
use Rattle.std.proofs.lemmas.List.Elements.{All-head, All-contains}
use Rattle.location_terms.specs.declared.claim.Claim.TheVariants as claims
use Rattle.location_terms.specs.Instance.{Instance, IsValid}
use Rattle.location_terms.specs.Plan.{Plan, cost_of}
use Rattle.location_terms.specs.Box.{Path}
use Rattle.location_terms.specs.Split.{first_step, second_step}
use Rattle.location_terms.specs.Bound.{Duals}
use Rattle.location_terms.specs.Leaf.{leaf_bound, LeafCloses}
use Rattle.location_terms.specs.Tree.{Node, Leaf, Fork, Tree, AllClose, leaves_below, leaves_of, nodes_of}
use Rattle.location_terms.specs.Carried.{IsHanded}
use Rattle.location_terms.proofs.LowEnds.{shows_low_end, shows_impossible}
use Rattle.tree_search.specs.Grown.{IsGrownBelow}
use Rattle.tree_search.specs.Answer.{cost_in, plan_in, tree_in, made_in, claim_in, IsAnswerTo, IsDecided}
use Rattle.tree_search.specs.declared.answer.Answer.{Answer}
use Rattle.tree_search.specs.declared.answer.Answer.TheVariants.{Optimal, Infeasible, Bracket}
use Rattle.session_laws.specs.Session.{closed_claim}
use Rattle.session_laws.proofs.Parts.{both}
use Rattle.session_laws.proofs.Closes.{closes_no_worse}

-- what a search is handed is one plan or none
pub handed_once : (I : Instance) (plan first second : Option Plan) → IsHanded I plan first → IsHanded I plan second → first ≡ second
handed_once I None first second a b = a ∙ sym b
handed_once I (Some P) first second (inl a) (inl b) = a.1 ∙ sym b.1
handed_once I (Some P) first second (inl a) (inr b) = absurd (b.0 a.0)
handed_once I (Some P) first second (inr a) (inl b) = absurd (a.0 b.0)
handed_once I (Some P) first second (inr a) (inr b) = a.1 ∙ sym b.1

abbrev Closes : Instance → Option ℕ → Path × Duals → Type 0
Closes I target l = LeafCloses I l.0 l.1 target

-- where each leaf closes, nothing grows
same_below : (I : Instance) (target cost : Option ℕ) (path : Path) (old new : Node) → All (Closes I target) (leaves_below path old) → IsGrownBelow I target cost path old new → new ≡ old
same_below I target cost path (Leaf d) new closed (inl stays) = stays.1
same_below I target cost path (Leaf d) new closed (inr worked) = absurd (worked.0 (All-head (Closes I target) (path, d) [] closed))
same_below I target cost path (Fork split first second) (Leaf d) closed grown = absurd grown
same_below I target cost path (Fork split first second) (Fork split_now first_now second_now) closed grown =
    let below_first = path ++ first_step split ∷ [] in
    let below_second = path ++ second_step split ∷ [] in
    let parts = both (Closes I target) (leaves_below below_first first) (leaves_below below_second second) closed in
    ap (λ s. Fork s first_now second_now) (sym grown.0)
    ∙ ap (λ x. Fork split x second_now) (same_below I target cost below_first first first_now parts.0 grown.1)
    ∙ ap (λ x. Fork split first x) (same_below I target cost below_second second second_now parts.1 grown.2)

module _ (I : Instance) (valid : IsValid I) (old : Tree) (budget : ℕ) where
  module _ (handed : Option Plan) (a : Answer) (closed : AllClose I old (cost_in I handed)) (is : IsAnswerTo I old handed budget a) where
    tree_same : tree_in a ≡ old
    tree_same =
        let root : (tree_in a).root ≡ old.root = same_below I (cost_in I handed) (cost_in I (plan_in a)) [] old.root (tree_in a).root closed is.grown.root in
        λ i. let e : Tree = record { sites = is.grown.sites i; customers = is.grown.customers i; root = root i } in e

    none_made : made_in a ≡ 0
    none_made =
        let nodes : nodes_of (tree_in a) ≡ nodes_of old = ap nodes_of tree_same in
        let sum : nodes_of (tree_in a) ≡ nodes_of old + made_in a = is.made in
        omega (arith, nodes, sum)

  -- no leaf is open at the end
  no_bracket : (handed : Option Plan) (low : ℕ) (plan : Option Plan) (tree : Tree) (made : ℕ) → AllClose I old (cost_in I handed) → IsAnswerTo I old handed budget (Bracket low plan tree made) → ⊥
  no_bracket handed low plan tree made closed is =
      let unfinished = is.cause.unfinished in
      let same : tree ≡ old = tree_same handed (Bracket low plan tree made) closed is in
      let there : Contains (leaves_of old) (unfinished.path, unfinished.duals) = subst (λ t. Contains (leaves_of t) (unfinished.path, unfinished.duals)) same unfinished.leaf in
      let closes : LeafCloses I unfinished.path unfinished.duals (cost_in I handed) = All-contains (Closes I (cost_in I handed)) (leaves_of old) (unfinished.path, unfinished.duals) closed there in
      unfinished.unclosed (record { fit = closes.fit; closed = closes_no_worse I (leaf_bound I unfinished.path unfinished.duals) unfinished.duals.q plan handed is.kept closes.closed })

  claim_same : (handed : Option Plan) (a : Answer) → AllClose I old (cost_in I handed) → IsAnswerTo I old handed budget a → IsDecided a × (claim_in I a ≡ closed_claim I handed)
  claim_same None (Optimal plan cost tree made) closed is = absurd (shows_impossible I valid old closed plan is.accepted.shows.0.0)
  claim_same (Some P) (Optimal plan cost tree made) closed is =
      let below : cost_of I P ≤ cost_of I plan = shows_low_end I valid old (cost_of I P) closed plan is.accepted.shows.0.0 in
      let costs : cost_of I plan ≡ cost = is.accepted.shows.0.1 in
      let kept : cost_of I plan ≤ cost_of I P = is.kept in
      let same : cost ≡ cost_of I P = omega (arith, below, costs, kept) in
      (tt, ap claims.Optimal same)
  claim_same None (Infeasible tree made) closed is = (tt, refl)
  claim_same (Some P) (Infeasible tree made) closed is = absurd is.kept
  claim_same handed (Bracket low plan tree made) closed is = absurd (no_bracket handed low plan tree made closed is)

  pub closed_answer : (handed : Option Plan) (a : Answer) → AllClose I old (cost_in I handed) → IsAnswerTo I old handed budget a
      → IsDecided a × (claim_in I a ≡ closed_claim I handed) × (tree_in a ≡ old) × (made_in a ≡ 0)
  closed_answer handed a closed is = let claims = claim_same handed a closed is in (claims.0, claims.1, tree_same handed a closed is, none_made handed a closed is)
