-- How a book is stored.
use Rattle.std.specs.Prelude.{◌≡◌, ◌≤◌, map, take, length, All, vec_capacity}
use Rattle.location_terms.specs.declared.limits.TheConstants.{MAX_SITES}
use Rattle.leaf_book.specs.Book.{Book}
use Rattle.leaf_book.specs.declared.book.LeafBook.TheInside.{Inside}

abbrev pub stored_book : Inside → Book
stored_book a = record {
  places = a.places.items;
  leaves = map (λ row. row.sums) (take a.used a.rows.items);
  lo = a.lo;
  hi = a.hi;
  site_room = a.site_room;
  customer_room = a.cust_room;
}

-- there is a row for each leaf of the tree, and all that is kept by site or customer has its room
pub record IsStored (a : Inside) : Type 0 where
  pub rows : length a.rows.items ≡ length a.places.items
  pub used : a.used ≤ length a.rows.items
  pub row_room : All (λ row. a.site_room ≤ row.room) a.rows.items
  pub sites : a.site_room ≤ vec_capacity a.sites
  pub customers : a.cust_room ≤ vec_capacity a.custs
  pub low : a.lo ≤ MAX_SITES
  pub high : a.hi ≤ MAX_SITES
