-- A search that goes on in a box, step after step.
use Rattle.std.proofs.Common.{◌≡◌, ℕ, ◌≤◌, inl, inr, refl, sym, ap, subst, ◌∙◌, arith}
use Rattle.std.proofs.lemmas.Int.{ints}
use Rattle.location_terms.specs.Instance.{Instance}
use Rattle.location_terms.specs.Box.{Path}
use Rattle.dual_value.specs.Prepared.{Prepared}
use Rattle.lane_order.specs.Order.{Order, IsOrderOf}
use Rattle.tree_search.specs.Made.{IsMadeScale}
use Rattle.tree_search.specs.Making.{Making, IsMakerFor, Makes, StaysMaking}
use Rattle.tree_search.specs.Best.{Best, Improves}
use Rattle.tree_search.specs.Searching.{Searching, IsSearch, IsSearchAt, GoesOn}
use Rattle.location_terms.specs.Fit.{BoundCloses}
use Rattle.location_terms.specs.Leaf.{leaf_bound}
use Rattle.tree_search.specs.Answer.{cost_in}
use Rattle.tree_search.specs.Working.{ClosesWith}
use Rattle.tree_search.proofs.Closer.{no_worse_same}
use Rattle.tree_search.proofs.MadeLeaf.{by_prices}
use Rattle.tree_search.proofs.Comparing.{at_least_trans}
use Rattle.tree_search.proofs.Offered.{improves_again}
use Rattle.tree_search.proofs.ZeroBound.{plain_scale_fits}

made_scale : (I : Instance) (q : ℕ) → IsMadeScale I q → 1 ≤ q
made_scale I q (inl plain) = subst (λ x. 1 ≤ x) (sym plain) (plain_scale_fits I).0
made_scale I q (inr fine) = omega (arith, fine.1)

module _ (I : Instance) (path : Path) where
  pub makes_still : (a b : Making) → Makes I path a → StaysMaking I path a b → Makes I path b
  makes_still a b (old_path, old, making) stays = (old_path, old, stays.making old_path old making)

  pub stays_same : (a : Making) → StaysMaking I path a a
  stays_same a = record { making = λ old_path old making. making; risen = omega (arith, ints) }

  pub stays_again : (a b c : Making) → Makes I path b → StaysMaking I path a b → StaysMaking I path b c → StaysMaking I path a c
  stays_again a b c (old_path, old, making) first second = record {
    making = λ above replaced m. second.making above replaced (first.making above replaced m);
    risen = at_least_trans _ _ _ _ _ _ (made_scale I b.best.duals.q making.scale) second.risen first.risen;
  }

pub improves_same : (a b : Best) → b ≡ a → Improves a b
improves_same a b is = subst (Improves a) (sym is) (record { same = refl; no_worse = no_worse_same a.instance a.plan })

module _ (b : Prepared) where
  pub at_same : (s t : Searching) → IsSearchAt b s → t ≡ s → IsSearchAt b t
  at_same s t at is = subst (IsSearchAt b) (sym is) at

  pub goes_same : (s t : Searching) → IsSearchAt b s → t ≡ s → GoesOn b s t
  goes_same s t at is = subst (GoesOn b s) (sym is) (record { at = at; plan = improves_same s.best s.best refl; leaf = stays_same b.instance b.path s.leaf })

  pub goes_again : (s t u : Searching) → GoesOn b s t → GoesOn b t u → GoesOn b s u
  goes_again s t u first second = record {
    at = second.at;
    plan = improves_again s.best t.best u.best first.plan second.plan;
    leaf = stays_again b.instance b.path s.leaf t.leaf u.leaf first.at.making first.leaf second.leaf;
  }

  -- a plan was offered
  pub goes_on_plan : (s t : Searching) → IsSearchAt b s → Improves s.best t.best → t.leaf ≡ s.leaf → GoesOn b s t
  goes_on_plan s t at improves same = record {
    at = record { instance = improves.same ∙ at.instance; path = at.path; making = subst (Makes b.instance b.path) (sym same) at.making };
    plan = improves;
    leaf = subst (StaysMaking b.instance b.path s.leaf) (sym same) (stays_same b.instance b.path s.leaf);
  }

  -- the leaf was made stronger
  pub goes_on_leaf : (s t : Searching) → IsSearchAt b s → t.best ≡ s.best → StaysMaking b.instance b.path s.leaf t.leaf → GoesOn b s t
  goes_on_leaf s t at same stays = record {
    at = record { instance = ap (λ (x : Best). x.instance) same ∙ at.instance; path = at.path; making = makes_still b.instance b.path s.leaf t.leaf at.making stays };
    plan = improves_same s.best t.best same;
    leaf = stays;
  }

  bound_is : (s : Searching) → IsSearchAt b s → s.leaf.bound ≡ leaf_bound b.instance b.path s.leaf.best.duals
  bound_is s at = at.making.2.bound ∙ sym (by_prices b.instance b.path s.leaf.best.duals at.making.2.form)

  -- what is kept of the best duals closes the box where these do
  pub closes_at : (s : Searching) → IsSearchAt b s → BoundCloses s.leaf.bound s.leaf.best.duals.q (cost_in s.best.instance s.best.plan) → ClosesWith b.instance s.best.plan b.path s.leaf.best.duals
  closes_at s at closes =
      subst (λ I. BoundCloses (leaf_bound b.instance b.path s.leaf.best.duals) s.leaf.best.duals.q (cost_in I s.best.plan)) at.instance
      (subst (λ x. BoundCloses x s.leaf.best.duals.q (cost_in s.best.instance s.best.plan)) (bound_is s at) closes)

  pub at_closes : (s : Searching) → IsSearchAt b s → ClosesWith b.instance s.best.plan b.path s.leaf.best.duals → BoundCloses s.leaf.bound s.leaf.best.duals.q (cost_in s.best.instance s.best.plan)
  at_closes s at closes =
      subst (λ x. BoundCloses x s.leaf.best.duals.q (cost_in s.best.instance s.best.plan)) (sym (bound_is s at))
      (subst (λ I. BoundCloses (leaf_bound b.instance b.path s.leaf.best.duals) s.leaf.best.duals.q (cost_in I s.best.plan)) (sym at.instance) closes)

-- What an opened search has: the parts of its value are those of s.
module _ (I : Instance) (s : Searching) (same : s.best.instance ≡ I) (order : Order) (best : Best) (leaf : Making) (lent : Instance) (has : IsSearch order best leaf lent) (is : (let t : Searching = record { best = best; leaf = leaf } in t) ≡ s) where
  pub instance_in : best.instance ≡ I
  instance_in = ap (λ (x : Searching). x.best.instance) is ∙ same

  pub order_in : IsOrderOf order I
  order_in = subst (IsOrderOf order) instance_in has.order

  pub maker_in : IsMakerFor I leaf
  maker_in = subst (λ (J : Instance). IsMakerFor J leaf) instance_in has.maker

  pub bounds_in : lent ≡ I
  bounds_in = has.bounds ∙ instance_in

-- The same of the box at work.
module _ (b : Prepared) (s : Searching) (at : IsSearchAt b s) (best : Best) (leaf : Making) (is : (let t : Searching = record { best = best; leaf = leaf } in t) ≡ s) where
  pub makes_in : Makes b.instance b.path leaf
  makes_in = subst (λ (x : Searching). Makes b.instance b.path x.leaf) (sym is) at.making

  -- a plan was offered
  pub goes_with_plan : (t : Searching) → Improves best t.best → t.leaf ≡ leaf → GoesOn b s t
  goes_with_plan t improves same =
      subst (λ (x : Searching). GoesOn b x t) is (goes_on_plan b (let u : Searching = record { best = best; leaf = leaf } in u) t (at_same b s (let u : Searching = record { best = best; leaf = leaf } in u) at is) improves same)

  -- its leaf was made stronger
  pub goes_with : (now : Making) → StaysMaking b.instance b.path leaf now → GoesOn b s (let t : Searching = record { best = best; leaf = now } in t)
  goes_with now stays =
      goes_on_leaf b s (let t : Searching = record { best = best; leaf = now } in t) at (ap (λ (x : Searching). x.best) is) (subst (λ (x : Searching). StaysMaking b.instance b.path x.leaf now) is stays)

-- with another plan for the same instance
pub search_still : (order : Order) (best best' : Best) (leaf : Making) (lent : Instance) → IsSearch order best leaf lent → best'.instance ≡ best.instance → IsSearch order best' leaf lent
search_still order best best' leaf lent has same = record {
  order = subst (IsOrderOf order) (sym same) has.order;
  maker = subst (λ (I : Instance). IsMakerFor I leaf) (sym same) has.maker;
  bounds = has.bounds ∙ sym same;
}
