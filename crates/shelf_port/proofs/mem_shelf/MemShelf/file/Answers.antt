use Rattle.std.proofs.Common.{arith, ap, sym, ◌∙◌}
use Rattle.std.specs.Prelude.{Some}
use Rattle.shelf_port.proofs.Entries.{first_of, first_within, get_first, get_missing}
use Rattle.shelf_port.proofs.mem_shelf.MemShelf.file.Goals as goal

pub returns-in_err-place : goal.returns-in_err-place
returns-in_err-place c = rw c.from_residual.ensures (sym (get_missing _ _ _ c.in_err-place.ensures c.deref.ensures.value))

pub index-requires : goal.index-requires
index-requires c =
    omega (arith, first_within _ _ _ (first_of _ _ _ _ c.in_ok-place.ensures c.deref.ensures.value))

pub returns : goal.returns
returns c =
    ap Some c.deref-2.ensures.value
    ∙ sym (get_first _ _ _ _ (first_of _ _ _ _ c.in_ok-place.ensures c.deref.ensures.value) c.index.ensures)
