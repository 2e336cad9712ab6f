-- What a tree shows whose leaves have ended, and an open leaf among them.
use Rattle.std.proofs.Common.{◌≡◌, ℕ, suc, ◌+◌, ◌<◌, ◌≤◌, refl, sym, subst, inl, inr, arith, List, [], ◌∷◌, Option, Some, None, pos, ◌-ℤ◌, ◌*ℤ◌, ◌<ℤ◌, ℤ}
use Rattle.std.specs.Prelude.{◌⊎◌, All, Contains, IfSome, IsSome, IsNone, MatchOption}
use Rattle.std.proofs.lemmas.Int.{by_lt_z, ints}
use Rattle.std.proofs.lemmas.Bool.{cases_eq}
use Rattle.std.proofs.lemmas.List.Elements.{All-cons, All-nil, All-weaker}
use Rattle.location_terms.specs.Instance.{Instance}
use Rattle.location_terms.specs.Plan.{Plan, IsFeasible}
use Rattle.location_terms.specs.Box.{Path}
use Rattle.location_terms.specs.Bound.{Duals}
use Rattle.location_terms.specs.Fit.{BoundCloses}
use Rattle.location_terms.specs.Leaf.{leaf_bound, LeafFits, LeafCloses}
use Rattle.location_terms.specs.Tree.{Tree, IsTree, StandsOn, AllClose, leaves_of, low_of}
use Rattle.location_terms.specs.Certificate.{Costs}
use Rattle.plan_search.specs.InBox.{HasNoCaps}
use Rattle.branch_tree.proofs.LowEnd.{closes_against_low}
use Rattle.tree_search.specs.declared.answer.Answer.TheVariants.{Bracket}
use Rattle.tree_search.specs.Answer.{HasFreeCount, cost_in}
use Rattle.tree_search.specs.Regrown.{HasEnded, HaveEnded, Answers}

closes_scaled : (bound : ℤ) (q : ℕ) (target : Option ℕ) → 1 ≤ q → BoundCloses bound q target ⊎ (BoundCloses bound q target → ⊥)
closes_scaled bound q None some = inr (λ closes. elim closes [ inl ray ↦ absurd (omega (arith, some, ray.0)) | inr scaled ↦ scaled.1 ])
closes_scaled bound q (Some T) some =
    by_lt_z (pos q *ℤ (pos T -ℤ pos 1)) bound (λ above. inl (inr (some, above)))
    (λ below. inr (λ closes. elim closes [ inl ray ↦ absurd (omega (arith, some, ray.0)) | inr scaled ↦ absurd (omega (arith, ints, below, scaled.1)) ]))

module _ (I : Instance) (plan : Option Plan) (budget made : ℕ) where
  -- an ended leaf closes or is open, and then it has a scale and the budget is spent
  ended_or_open : (path : Path) (d : Duals) → HasEnded I plan budget made path d → LeafCloses I path d (cost_in I plan) ⊎ ((LeafCloses I path d (cost_in I plan) → ⊥) × (1 ≤ d.q))
  ended_or_open path d ended =
      elim (cases_eq d.q 0) [
        | inl unscaled ↦ inl (record { fit = ended.fit; closed = inl (unscaled, ended.ray unscaled) })
        | inr scaled ↦ elim (closes_scaled (leaf_bound I path d) d.q (cost_in I plan) (omega (arith, scaled))) [
          | inl closed ↦ inl (record { fit = ended.fit; closed = closed })
          | inr fails ↦ inr ((λ closes. fails closes.closed), omega (arith, scaled))
        ]
      ]

  record IsOpenAmong (leaves : List (Path × Duals)) : Type 0 where
    path : Path
    duals : Duals
    leaf : Contains leaves (path, duals)
    unclosed : LeafCloses I path duals (cost_in I plan) → ⊥
    spent : budget < made + 2
    some : HasNoCaps I → HasFreeCount I → IsSome plan

  later : (l : Path × Duals) (ls : List (Path × Duals)) → IsOpenAmong ls → IsOpenAmong (l ∷ ls)
  later l ls found = record {
    path = found.path;
    duals = found.duals;
    leaf = (suc found.leaf.0, omega (arith, found.leaf.1), found.leaf.2);
    unclosed = found.unclosed;
    spent = found.spent;
    some = found.some;
  }

  spent_at : (path : Path) (d : Duals) → HasEnded I plan budget made path d → (LeafCloses I path d (cost_in I plan) → ⊥) → budget < made + 2
  spent_at path d ended unclosed = elim ended.ends [ inl closes ↦ absurd (unclosed (record { fit = ended.fit; closed = closes })) | inr spent ↦ spent ]

  open_among : (ls : List (Path × Duals)) → All (λ l. HasEnded I plan budget made l.0 l.1) ls → (All (λ l. LeafCloses I l.0 l.1 (cost_in I plan)) ls → ⊥) → IsOpenAmong ls
  open_among [] ended fails = absurd (fails (All-nil (λ l. LeafCloses I l.0 l.1 (cost_in I plan))))
  open_among (l ∷ ls) ended fails =
      let here : HasEnded I plan budget made l.0 l.1 = ended 0 l (omega arith) in
      elim (ended_or_open l.0 l.1 here) [
        | inl closes ↦ later l ls (open_among ls (λ k d b. ended (suc k) d (omega (arith, b))) (λ all. fails (All-cons (λ l. LeafCloses I l.0 l.1 (cost_in I plan)) l ls closes all)))
        | inr open_here ↦ record { path = l.0; duals = l.1; leaf = (0, omega arith, refl); unclosed = open_here.0; spent = spent_at l.0 l.1 here open_here.0; some = here.some open_here.1 }
      ]

  costs : (plan : Option Plan) → IfSome plan (IsFeasible I) → MatchOption (cost_in I plan) (IsNone plan) (Costs I plan)
  costs None feasible = refl
  costs (Some P) feasible = (feasible, refl)

  module _ (t : Tree) (tree : IsTree t) (stands : StandsOn t I) (ended : HaveEnded I plan budget made t) where
    pub ended_fit : All (λ l. LeafFits I l.1) (leaves_of t)
    ended_fit = All-weaker (λ l. HasEnded I plan budget made l.0 l.1) (λ l. LeafFits I l.1) (λ l e. e.fit) (leaves_of t) ended

    closes_at_low : AllClose I t (Some (low_of I t))
    closes_at_low =
        closes_against_low I t ended_fit
        (All-weaker (λ l. HasEnded I plan budget made l.0 l.1) (λ l. l.1.q ≡ 0 → BoundCloses (leaf_bound I l.0 l.1) 0 None) (λ l e none. inl (refl, e.ray none)) (leaves_of t) ended)
        (All-weaker (λ l. HasEnded I plan budget made l.0 l.1) (λ l. 1 ≤ l.1.q → (pos 0 -ℤ pos l.1.q) <ℤ leaf_bound I l.0 l.1) (λ l e scaled. e.above scaled) (leaves_of t) ended)

    pub bracket_answers : (low : ℕ) → low ≡ low_of I t → IfSome plan (IsFeasible I) → (AllClose I t (cost_in I plan) → ⊥) → Answers I t plan made budget (Bracket low plan t made)
    bracket_answers low is feasible fails =
        let found : IsOpenAmong (leaves_of t) = open_among (leaves_of t) ended fails in
        record {
          tree_is = refl;
          plan_is = refl;
          made_is = refl;
          accepted = record { tree = tree; stands = stands; shows = (costs plan feasible, subst (λ n. AllClose I t (Some n)) (sym is) closes_at_low) };
          cause = record {
            spent = found.spent;
            unfinished = record { path = found.path; duals = found.duals; leaf = found.leaf; unclosed = found.unclosed };
            shown = is;
            planless = found.some;
          };
        }
