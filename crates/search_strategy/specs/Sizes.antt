-- For private functions alone: no public contract cites this page.
-- When the helpers of a strategy are made for the instance of a leaf at work.
use Rattle.std.specs.Prelude.{◌≡◌, Bool, List, length}
use Rattle.dual_steps.specs.Sizes.{Sizes, sizes_of}
use Rattle.strategy_port.specs.declared.scene.Scene.{Scene}
use Rattle.strategy_port.specs.Scene.{IsScene}

-- the steps are for as many sites and customers as the leaf's instance has, and the flags for its sites
pub record Suits (s : Scene) (steps : Sizes) (flags : List Bool) : Type 0 where
  pub scene : IsScene s
  pub steps_fit : steps ≡ sizes_of s.boxed.now.instance
  pub flags_fit : length flags ≡ length s.boxed.now.instance.sites
