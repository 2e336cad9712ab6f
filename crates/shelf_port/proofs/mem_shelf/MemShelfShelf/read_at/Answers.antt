use Rattle.std.proofs.Common.{◌≡◌, arith, ap, sym, inr, ◌∙◌}
use Rattle.std.specs.Prelude.{Some}
use Rattle.std.specs.FinMap.{get}
use Rattle.shelf_port.specs.Memory.{files_of_list}
use Rattle.shelf_port.proofs.Entries.{first_of, first_within, get_first, get_missing}
use Rattle.shelf_port.proofs.mem_shelf.MemShelfShelf.read_at.Goals as goal

pub index-requires : goal.index-requires
index-requires c =
    omega (arith, first_within _ _ _ (first_of _ _ _ _ c.in-Some.ensures c.deref.ensures.value))

pub returns-in-Some-clause-bytes : goal.returns-in-Some-clause-bytes
returns-in-Some-clause-bytes c =
    let there : get (files_of_list c.args.self.now.files.items) c.args.name.now ≡ Some c.deref-in-Some.result.now =
    get_first _ _ _ _ (first_of _ _ _ _ c.in-Some.ensures c.deref.ensures.value) c.index.ensures
    ∙ ap Some (sym c.deref-in-Some.ensures.value) in
    rw there c.copy_from.ensures.reads

pub returns-in-Some-clause-missing : goal.returns-in-Some-clause-missing
returns-in-Some-clause-missing c = λ missing.
    let there : get (files_of_list c.args.self.now.files.items) c.args.name.now ≡ Some c.index.result.now.1.items =
    get_first _ _ _ _ (first_of _ _ _ _ c.in-Some.ensures c.deref.ensures.value) c.index.ensures in
    cc

pub returns-in-None-clause-only : goal.returns-in-None-clause-only
returns-in-None-clause-only c = inr (get_missing _ _ _ c.in-None.ensures c.deref.ensures.value)
