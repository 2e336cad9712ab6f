-- Which part of suiting a leaf fails first.
use Rattle.location_terms.specs.Instance.{Instance}
use Rattle.location_terms.specs.Bound.{Duals}
use Rattle.location_terms.specs.Fit.{DualsFit}
use Rattle.location_terms.specs.Leaf.{PricesSuit, KnapsacksSuit}
use Rattle.dual_value.specs.RangeFault.{IsFirstRangeFault}
use Rattle.leaf_bounds.specs.declared.fit.LeafFault.{LeafFault}
use Rattle.leaf_bounds.specs.declared.fit.LeafFault.TheVariants.{Range, Priced, LargeKnapsacks}

-- the fault's part fails, and each part before it holds
abbrev pub IsFirstLeafFault : Instance → Duals → LeafFault → Type 0
IsFirstLeafFault I d (Range fault) = IsFirstRangeFault I d fault
IsFirstLeafFault I d Priced = DualsFit I d × (PricesSuit d.form d.u → ⊥)
IsFirstLeafFault I d LargeKnapsacks = DualsFit I d × PricesSuit d.form d.u × (KnapsacksSuit d.form I → ⊥)
