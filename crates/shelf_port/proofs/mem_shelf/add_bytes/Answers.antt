use Rattle.std.proofs.Common.{◌≡◌, [], ◌++◌, arith, ap, sym, ◌∙◌, rules}
use Rattle.shelf_port.proofs.Results.{OnErr-holds}
use Rattle.std.specs.Prelude.{unwrap_or}
use Rattle.shelf_port.proofs.Entries.{first_of, first_within, get_first, get_missing, changed_there, same_there, added_new}
use Rattle.shelf_port.proofs.mem_shelf.add_bytes.Goals as goal

pub index_mut-file-requires : goal.index_mut-file-requires
index_mut-file-requires c =
    omega (arith, first_within _ _ _ (first_of _ _ _ _ c.in-Some.ensures c.deref.ensures.value))

pub returns-in_err-extend_from_slice-in-Some-clause-err :
    goal.returns-in_err-extend_from_slice-in-Some-clause-err
returns-in_err-extend_from_slice-in-Some-clause-err c =
    OnErr-holds c.from_residual.result (same_there _ _ _ _ c.index_mut-file.ensures.value c.in_err-extend_from_slice-in-Some.ensures.items)

pub returns-in_ok-extend_from_slice-in-Some-clause-ok :
    goal.returns-in_ok-extend_from_slice-in-Some-clause-ok
returns-in_ok-extend_from_slice-in-Some-clause-ok c =
    let first = first_of _ _ _ _ c.in-Some.ensures c.deref.ensures.value in
    let had = get_first _ _ _ _ first c.index_mut-file.ensures.value in
    changed_there _ _ _ _ _ _ first c.index_mut-file.ensures.value
    (c.in_ok-extend_from_slice-in-Some.ensures.items ∙ ap (λ found. unwrap_or found [] ++ c.args.bytes.now) (sym had))

pub returns-in_ok-push-in-None-clause-ok : goal.returns-in_ok-push-in-None-clause-ok
returns-in_ok-push-in-None-clause-ok c =
    let copied : c.in_ok-to_vec-in-None.field-0.items ≡ c.args.bytes.now = search rules in
    let none = get_missing _ _ _ c.in-None.ensures c.deref.ensures.value in
    added_new _ _ _ _ _ _ _ c.in-None.ensures c.deref.ensures.value c.in_ok-from_str-in-None.ensures.ok
    (copied ∙ ap (λ found. unwrap_or found [] ++ c.args.bytes.now) (sym none))
    c.in_ok-push-in-None.ensures.items
