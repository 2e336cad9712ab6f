use Rattle.std.proofs.Common.{arith}
use Rattle.shelf_port.proofs.Entries.{first_of, first_within, changed_there, added_new}
use Rattle.shelf_port.proofs.mem_shelf.make_empty.Goals as goal

pub index_mut-file-requires : goal.index_mut-file-requires
index_mut-file-requires c =
    omega (arith, first_within _ _ _ (first_of _ _ _ _ c.in-Some.ensures c.deref.ensures.value))

pub returns-in-Some-clause-ok : goal.returns-in-Some-clause-ok
returns-in-Some-clause-ok c =
    changed_there _ _ _ _ _ _ (first_of _ _ _ _ c.in-Some.ensures c.deref.ensures.value) c.index_mut-file.ensures.value c.clear.ensures.items

pub returns-in_ok-push-in-None-clause-ok : goal.returns-in_ok-push-in-None-clause-ok
returns-in_ok-push-in-None-clause-ok c =
    added_new _ _ _ _ _ _ _ c.in-None.ensures c.deref.ensures.value c.in_ok-from_str-in-None.ensures.ok c.new.ensures.items c.in_ok-push-in-None.ensures.items
