use Rattle.std.proofs.Common.{◌≡◌, ℕ, ◌≤◌, ◌++◌, ap, sym, subst, ◌∙◌, arith, List, length, map, take, drop}
use Rattle.std.specs.Prelude.{All}
use Rattle.leaf_book.specs.Book.{Book, AreLeafPlaces}
use Rattle.leaf_book.specs.BookDue.{AreRowsDue}
use Rattle.leaf_book.specs.Rows.{Held}
use Rattle.leaf_book.proofs.Books.{all_due, room_stays, rows_stay, written_rows}
use Rattle.leaf_book.proofs.BookSums.{book_sums}
use Rattle.leaf_book.proofs.book.LeafBook.follow.Goals as goal

pub follow_rows-self-inside-requires-clause-due : goal.follow_rows-self-inside-requires-clause-due
follow_rows-self-inside-requires-clause-due c =
    let a = c.self.inside in
    let I = c.args.inst.now in
    let t = c.args.tree.now in
    subst (AreRowsDue c.args.change a.lo a.hi I t) (sym c.deref_mut.ensures.value) (all_due a c.self.invariant c.args.self.now c.self.view_is I t c.requires.places c.requires.room c.args.change c.requires.due)

pub invariant_of-self : goal.invariant_of-self
invariant_of-self c =
    let a = c.self.inside in
    let start : List Held = c.deref_mut.result.now in
    let new : List Held = c.follow_rows-self-inside.new.rows in
    let e = c.follow_rows-self-inside.ensures in
    let many : length new ≡ length start = rows_stay start new e.room in
    let whole : take a.rows.len (new ++ drop (length new) a.rows.items) ≡ new = written_rows a.rows.items start new a.rows.len c.deref_mut.ensures.value c.deref_mut.ensures.len many in
    let valid = c.sites.ensures.valid in
    let order = valid.count_order in
    let few = valid.count_small in
    record {
      rows = ap length whole ∙ many ∙ ap length c.deref_mut.ensures.value ∙ c.self.invariant.rows;
      used = omega (arith, e.used, ap length whole);
      row_room = subst (All (λ (row : Held). a.site_room ≤ row.room)) (sym whole) (room_stays a.site_room start new e.room (subst (All (λ (row : Held). a.site_room ≤ row.room)) (sym c.deref_mut.ensures.value) c.self.invariant.row_room));
      sites = omega (arith, c.place_sites.ensures.room, c.self.invariant.sites);
      customers = omega (arith, c.place_custs.ensures.room, c.self.invariant.customers);
      low = omega (arith, ap (λ (p : ℕ × ℕ). p.0) c.count-lo.ensures, order, few);
      high = omega (arith, ap (λ (p : ℕ × ℕ). p.1) c.count-lo.ensures, few);
    }

pub returns-clause-book : goal.returns-clause-book
returns-clause-book c =
    let a = c.self.inside in
    let I = c.args.inst.now in
    let t = c.args.tree.now in
    let start : List Held = c.deref_mut.result.now in
    let new : List Held = c.follow_rows-self-inside.new.rows in
    let e = c.follow_rows-self-inside.ensures in
    let whole : take a.rows.len (new ++ drop (length new) a.rows.items) ≡ new = written_rows a.rows.items start new a.rows.len c.deref_mut.ensures.value c.deref_mut.ensures.len (rows_stay start new e.room) in
    record {
      by_prices = c.requires.by_prices;
      places = subst (λ (b : Book). AreLeafPlaces t b.places) (sym c.self.view_is) c.requires.places;
      leaves = ap (λ (rows : List Held). map (λ row. row.sums) (take c.follow_rows-self-inside.result rows)) whole ∙ e.sums ∙ sym (book_sums I t);
      lo = ap (λ (p : ℕ × ℕ). p.0) c.count-lo.ensures;
      hi = ap (λ (p : ℕ × ℕ). p.1) c.count-lo.ensures;
    }
