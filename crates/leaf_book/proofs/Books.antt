-- What a book's fields say of the book.
use Rattle.std.proofs.Common.{◌≡◌, ℕ, ◌<◌, ◌≤◌, ◌+◌, refl, ap, sym, subst, ◌∙◌, arith, List, [], map, ◌++◌, length, get_or, take, drop}
use Rattle.std.specs.Prelude.{All, not, vec_capacity}
use Rattle.std.proofs.lemmas.List.{length-map, get_or-map}
use Rattle.std.proofs.lemmas.List.Filters.{length-filter_both}
use Rattle.location_terms.specs.Instance.{Instance}
use Rattle.location_terms.specs.Tree.{Tree, leaves_of}
use Rattle.branch_tree.proofs.Flat.{leaves_and_splits}
use Rattle.lane_order.proofs.Lists.{written_whole}
use Rattle.leaf_book.specs.declared.book.LeafBook.TheInside.{Inside}
use Rattle.leaf_book.specs.declared.change.Change.{Change}
use Rattle.leaf_book.specs.Book.{Book, AreLeafPlaces, IsBookOf, HasRoomFor, sums_at}
use Rattle.leaf_book.specs.BookDue.{IsBookDue, AreRowsDue}
use Rattle.leaf_book.specs.Kept.{keeps}
use Rattle.leaf_book.specs.Rows.{Held}
use Rattle.leaf_book.specs.Stored.{stored_book, IsStored}
use Rattle.leaf_book.proofs.Dues.{in_use, row_sums, rows_due}
use Rattle.leaf_book.proofs.Placed.{places_count}
use Rattle.leaf_book.proofs.Widened.{sums_stay}

module _ (a : Inside) (stored : IsStored a) (b : Book) (view : stored_book a ≡ b) where
  rows_are : map (λ row. row.sums) (take a.used a.rows.items) ≡ b.leaves
  rows_are = ap (λ (x : Book). x.leaves) view

  pub used_are : length b.leaves ≡ a.used
  used_are = in_use a.rows.items a.used b.leaves rows_are stored.used

  pub leaf_within : (k : ℕ) → k < length b.leaves → k < length a.rows.items
  leaf_within k h = let used = stored.used in omega (arith, h, used, used_are)

  -- the row at a place has the sums of the leaf
  pub leaf_is : (k : ℕ) (row : Held) → k < length b.leaves → row ≡ get_or a.rows.items k row → row.sums ≡ sums_at b k
  leaf_is k row h is = ap (λ (r : Held). r.sums) is ∙ row_sums a.rows.items a.used b.leaves rows_are stored.used k row h

  module _ (I : Instance) (t : Tree) (are : AreLeafPlaces t b.places) (room : HasRoomFor b I) where
    many : length a.rows.items ≡ length (leaves_of t)
    many = stored.rows ∙ ap (λ (x : Book). length x.places) view ∙ places_count t b.places are

    pub site_space : length I.sites ≤ vec_capacity a.sites
    site_space = let own = room.sites in let has = stored.sites in omega (arith, own, has, ap (λ (x : Book). x.site_room) view)

    pub customer_space : length I.customers ≤ vec_capacity a.custs
    customer_space = let own = room.customers in let has = stored.customers in omega (arith, own, has, ap (λ (x : Book). x.customer_room) view)

    pub all_due : (change : Change) → IsBookDue change I t b → AreRowsDue change a.lo a.hi I t a.rows.items
    all_due change due =
        let count = leaves_and_splits t.root [] in
        let kept = length-filter_both (λ l. keeps I l.0) (λ l. not (keeps I l.0)) (λ l. refl) (leaves_of t) in
        let enough : All (λ r. length I.sites ≤ r.room) a.rows.items = λ k r h. let own = room.sites in let has = stored.row_room k r h in omega (arith, own, has, ap (λ (x : Book). x.site_room) view) in
        let all = rows_due I t b a.rows.items a.used stored.used rows_are (omega (arith, count, many)) (omega (arith, kept, many)) enough change due in
        subst (λ (x : Book). AreRowsDue change x.lo x.hi I t a.rows.items) (sym view) all

-- rows whose room stays
pub room_stays : (n : ℕ) (old new : List Held) → map (λ row. row.room) new ≡ map (λ row. row.room) old → All (λ row. n ≤ row.room) old → All (λ row. n ≤ row.room) new
room_stays n old new same all = λ k r h.
    let many : length new ≡ length old = sym (length-map new (λ row. row.room)) ∙ ap length same ∙ length-map old (λ row. row.room) in
    let inside : k < length old = omega (arith, h, many) in
    let is : (get_or new k r).room ≡ (get_or old k r).room =
    sym (get_or-map (λ (row : Held). row.room) new k r 0 h) ∙ ap (λ (xs : List ℕ). get_or xs k 0) same ∙ get_or-map (λ (row : Held). row.room) old k r 0 inside in
    let enough = all k r inside in
    omega (arith, is, enough)

pub rows_stay : (old new : List Held) → map (λ row. row.room) new ≡ map (λ row. row.room) old → length new ≡ length old
rows_stay old new same = sym (length-map new (λ row. row.room)) ∙ ap length same ∙ length-map old (λ row. row.room)

-- a book that has what another has is of the same
pub same_book : (old new : Book) (I : Instance) (t : Tree) → new.places ≡ old.places → new.leaves ≡ old.leaves → new.lo ≡ old.lo → new.hi ≡ old.hi → IsBookOf old I t → IsBookOf new I t
same_book old new I t places leaves lo hi is = record {
  by_prices = is.by_prices;
  places = subst (AreLeafPlaces t) (sym places) is.places;
  leaves = leaves ∙ is.leaves;
  lo = lo ∙ is.lo;
  hi = hi ∙ is.hi;
}

-- room for one site and one customer more
pub room_behind : (b : Book) (I J : Instance) → (length J.sites ≤ length I.sites + 1) × (length J.customers ≤ length I.customers + 1) → length I.sites + 1 ≤ b.site_room → length I.customers + 1 ≤ b.customer_room → HasRoomFor b J
room_behind b I J size sites customers = let first = size.0 in let second = size.1 in record { sites = omega (arith, first, sites); customers = omega (arith, second, customers) }

-- rows that are written whole
pub written_rows : (old start new : List Held) (n : ℕ) → start ≡ old → length start ≡ n → length new ≡ length start → take n (new ++ drop (length new) old) ≡ new
written_rows old start new n is long same = written_whole old new n (sym long ∙ ap length is) (same ∙ ap length is)

-- rows in use that got more room keep their sums
pub widened_leaves : (used n : ℕ) (old start new : List Held) → start ≡ old → length start ≡ n → map (λ row. row.sums) new ≡ map (λ row. row.sums) start → map (λ row. row.sums) (take used (take n (new ++ drop (length new) old))) ≡ map (λ row. row.sums) (take used old)
widened_leaves used n old start new is long same =
    let many : length new ≡ length start = sym (length-map new (λ row. row.sums)) ∙ ap length same ∙ length-map start (λ row. row.sums) in
    ap (λ (rows : List Held). map (λ row. row.sums) (take used rows)) (written_rows old start new n is long many) ∙ sums_stay used old new (same ∙ ap (λ (rows : List Held). map (λ row. row.sums) rows) is)
