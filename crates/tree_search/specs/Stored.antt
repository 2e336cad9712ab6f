-- For private functions alone: no public contract cites this page.
-- How what is found of a leaf is stored.
use Rattle.std.specs.Prelude.{◌≡◌, ◌≤◌, length, unsigned_abs}
use Rattle.location_terms.specs.Bound.{Duals}
use Rattle.location_terms.specs.declared.limits.TheConstants.{MAX_SCALE}
use Rattle.dual_value.specs.declared.bounds.TheConstants.{MAX_BOUND}
use Rattle.tree_search.specs.Making.{Making}
use Rattle.tree_search.specs.declared.leaf_maker.LeafMaker.TheInside.{Inside}

abbrev pub making_of : Inside → Making
making_of a = record { zeros = a.zeros; plain = a.plain; plain_bound = a.plain_bound; hint = a.hint.items; best = a.best; bound = a.bound }

-- duals for as many customers and sites
pub record AreAsLong (d e : Duals) : Type 0 where
  pub customers : length e.v ≡ length d.v
  pub sites : length e.u ≡ length d.u

-- all duals and arrays are for the customers and sites of the zeros, and bounds and scales are within their limits
pub record AreAlike (a : Inside) : Type 0 where
  pub plain : AreAsLong a.zeros a.plain
  pub best : AreAsLong a.zeros a.best.duals
  pub slacks : length a.best.work.slacks ≡ length a.zeros.u
  pub blockers : length a.best.work.blockers ≡ length a.zeros.v
  pub scaled : 1 ≤ a.best.duals.q
  pub scale : a.best.duals.q ≤ MAX_SCALE
  pub plain_bound : unsigned_abs a.plain_bound ≤ MAX_BOUND
  pub bound : unsigned_abs a.bound ≤ MAX_BOUND
