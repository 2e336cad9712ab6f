-- For private functions alone: no public contract cites this page.
-- What the rows of a book follow.
use Rattle.std.specs.Prelude.{◌≡◌, ◌≤◌}
use Rattle.location_terms.specs.declared.limits.TheConstants.{MAX_SITES}
use Rattle.location_terms.specs.Instance.{site_ids, customer_ids}
use Rattle.location_terms.specs.Tree.{IsTree}
use Rattle.leaf_repair.specs.Placed.{places_of}
use Rattle.leaf_book.specs.declared.rows.Course.{Course}
use Rattle.leaf_book.specs.Book.{AreLeafPlaces}

-- the places are those of the tree's leaves, and of the instance's sites and customers among its ids
pub record IsBookCourse (c : Course) : Type 0 where
  pub tree : IsTree c.tree.now
  pub places : AreLeafPlaces c.tree.now c.places.now
  pub sites : c.sites.now ≡ places_of c.tree.now.sites (site_ids c.inst.now)
  pub customers : c.custs.now ≡ places_of c.tree.now.customers (customer_ids c.inst.now)
  pub low : c.count.0 ≤ MAX_SITES
  pub high : c.count.1 ≤ MAX_SITES
