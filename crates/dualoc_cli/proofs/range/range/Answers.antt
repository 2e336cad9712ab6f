use Rattle.std.proofs.Common.{◌≤◌, length, refl, arith}
use Rattle.shelf_port.specs.Ports.{ShelfState, shelf_state}
use Rattle.shelf_port.specs.MemShelf.{files_of}
use Rattle.certificate_lines.specs.declared.limits.TheConstants.{MAX_CERTIFICATE_BYTES}
use Rattle.dualoc_cli.proofs.Proving.{in_runs, long_proof, unread_proof}
use Rattle.dualoc_cli.proofs.range.range.Goals as goal

pub returns-in_ok-kept-in-Ok-clause-cause : goal.returns-in_ok-kept-in-Ok-clause-cause
returns-in_ok-kept-in-Ok-clause-cause g c =
    let old : ShelfState = shelf_state (g.H.Shelf.files c.args.shelf.now) (g.H.Shelf.read_faults c.args.shelf.now) (g.H.Shelf.write_faults c.args.shelf.now) in
    let new : ShelfState = shelf_state (g.H.Shelf.files c.read_whole.new.shelf) (g.H.Shelf.read_faults c.read_whole.new.shelf) (g.H.Shelf.write_faults c.read_whole.new.shelf) in
    let short : length c.in-Ok.bytes.items ≤ MAX_CERTIFICATE_BYTES = omega (arith, c.in-Ok.ensures.within, c.in-Ok.bytes.ok) in
    in_runs old new c.args.certificate.now c.args.at c.args.inst.now (files_of c.in_ok-kept-in-Ok.kept) c.in-Ok.bytes.items c.in-Ok.ensures.content short c.in_ok-kept-in-Ok.ensures c.by_file.result
    c.by_file.ensures

pub returns-in-Err-TooLong-clause-cause : goal.returns-in-Err-TooLong-clause-cause
returns-in-Err-TooLong-clause-cause g c =
    let says = rw c.in-Err-TooLong.field-0-is at c.in-Err-TooLong.ensures in
    let old : ShelfState = shelf_state (g.H.Shelf.files c.args.shelf.now) (g.H.Shelf.read_faults c.args.shelf.now) (g.H.Shelf.write_faults c.args.shelf.now) in
    let new : ShelfState = shelf_state (g.H.Shelf.files c.read_whole.new.shelf) (g.H.Shelf.read_faults c.read_whole.new.shelf) (g.H.Shelf.write_faults c.read_whole.new.shelf) in
    λ r task part. long_proof r old new c.args.certificate.now c.args.at c.args.inst.now task part (says.too_long refl)

pub returns-in-Err-Failed-clause-cause : goal.returns-in-Err-Failed-clause-cause
returns-in-Err-Failed-clause-cause g c =
    let says = rw c.in-Err-Failed.field-0-is at c.in-Err-Failed.ensures in
    let old : ShelfState = shelf_state (g.H.Shelf.files c.args.shelf.now) (g.H.Shelf.read_faults c.args.shelf.now) (g.H.Shelf.write_faults c.args.shelf.now) in
    let new : ShelfState = shelf_state (g.H.Shelf.files c.read_whole.new.shelf) (g.H.Shelf.read_faults c.read_whole.new.shelf) (g.H.Shelf.write_faults c.read_whole.new.shelf) in
    λ r task part. unread_proof r old new c.args.certificate.now c.args.at c.args.inst.now task part (says.failed refl)
