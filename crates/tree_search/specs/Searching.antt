-- For private functions alone: no public contract cites this page.
-- What a search has in hand from box to box.
use Rattle.std.specs.Prelude.{◌≡◌, refl}
use Rattle.std.specs.Coded.{Coded, code_by, coded×}
use Rattle.location_terms.specs.Instance.{Instance}
use Rattle.dual_value.specs.Prepared.{Prepared}
use Rattle.lane_order.specs.Order.{Order, IsOrderOf}
use Rattle.plan_search.specs.InBox.{IsPathOf}
use Rattle.tree_search.specs.Best.{Best, best_code, Improves}
use Rattle.tree_search.specs.Making.{Making, making_code, IsMakerFor, Makes, StaysMaking}

-- the best plan, and what is found of the leaf at work
pub record Searching : Type 0 where
  pub best : Best
  pub leaf : Making

-- the code by which a struct can have this as its value
abbrev pub searching_code : Coded Searching
searching_code = code_by (Best × Making) (coded× best_code making_code) (λ s. (s.best, s.leaf)) (λ p. record { best = p.0; leaf = p.1 }) (λ _. refl)

-- what a search works with is for the instance of its plan
pub record IsSearch (o : Order) (best : Best) (leaf : Making) (lent : Instance) : Type 0 where
  pub order : IsOrderOf o best.instance
  pub maker : IsMakerFor best.instance leaf
  pub bounds : lent ≡ best.instance

-- the search is at work in this box
pub record IsSearchAt (b : Prepared) (s : Searching) : Type 0 where
  pub instance : s.best.instance ≡ b.instance
  pub path : IsPathOf b.instance b.path
  pub making : Makes b.instance b.path s.leaf

-- it still is at work there, with a plan that is no worse and a leaf that is no weaker
pub record GoesOn (b : Prepared) (old new : Searching) : Type 0 where
  pub at : IsSearchAt b new
  pub plan : Improves old.best new.best
  pub leaf : StaysMaking b.instance b.path old.leaf new.leaf
