use Rattle.std.proofs.Common.{ap, ◌∙◌}
use Rattle.leaf_book.specs.Book.{Book}
use Rattle.leaf_book.proofs.Books.{widened_leaves}
use Rattle.leaf_book.proofs.book.LeafBook.widen.Goals as goal

pub returns-in_err-widen_rows-clause-leaves : goal.returns-in_err-widen_rows-clause-leaves
returns-in_err-widen_rows-clause-leaves c =
    widened_leaves c.self.inside.used c.self.inside.rows.len c.self.inside.rows.items c.deref_mut.result.now c.widen_rows.new.rows c.deref_mut.ensures.value c.deref_mut.ensures.len c.in_err-widen_rows.ensures.same ∙ ap (λ (b : Book). b.leaves) c.self.view_is

pub returns-in_err-widen_places-clause-leaves : goal.returns-in_err-widen_places-clause-leaves
returns-in_err-widen_places-clause-leaves c =
    widened_leaves c.self.inside.used c.self.inside.rows.len c.self.inside.rows.items c.deref_mut.result.now c.widen_rows.new.rows c.deref_mut.ensures.value c.deref_mut.ensures.len c.in_ok-widen_rows.ensures.same ∙ ap (λ (b : Book). b.leaves) c.self.view_is

pub returns-in_err-widen_places-2-clause-leaves : goal.returns-in_err-widen_places-2-clause-leaves
returns-in_err-widen_places-2-clause-leaves c =
    widened_leaves c.self.inside.used c.self.inside.rows.len c.self.inside.rows.items c.deref_mut.result.now c.widen_rows.new.rows c.deref_mut.ensures.value c.deref_mut.ensures.len c.in_ok-widen_rows.ensures.same ∙ ap (λ (b : Book). b.leaves) c.self.view_is

pub returns-clause-leaves : goal.returns-clause-leaves
returns-clause-leaves c =
    widened_leaves c.self.inside.used c.self.inside.rows.len c.self.inside.rows.items c.deref_mut.result.now c.widen_rows.new.rows c.deref_mut.ensures.value c.deref_mut.ensures.len c.in_ok-widen_rows.ensures.same ∙ ap (λ (b : Book). b.leaves) c.self.view_is
