use Rattle.std.proofs.Common.{refl}
use Rattle.dualoc_cli.proofs.Causes.{judged, misspelt, long, unread}
use Rattle.shelf_port.specs.Ports.{ShelfState, shelf_state}
use Rattle.dualoc_cli.proofs.check.judge.Goals as goal

pub returns-in-Ok-clause-cause : goal.returns-in-Ok-clause-cause
returns-in-Ok-clause-cause g c =
    let old : ShelfState = shelf_state (g.H.Shelf.files c.args.shelf.now) (g.H.Shelf.read_faults c.args.shelf.now) (g.H.Shelf.write_faults c.args.shelf.now) in
    let new : ShelfState = shelf_state (g.H.Shelf.files c.check.new.shelf) (g.H.Shelf.read_faults c.check.new.shelf) (g.H.Shelf.write_faults c.check.new.shelf) in
    λ r task part. judged r old new c.args.certificate.now c.args.inst.now task part c.in-Ok.verdict c.in-Ok.ensures.answer c.in-Ok.ensures.yes

pub returns-in-Err-Text-clause-cause : goal.returns-in-Err-Text-clause-cause
returns-in-Err-Text-clause-cause g c =
    let says = rw c.in-Err-Text.field-0-is at c.in-Err-Text.ensures in
    let old : ShelfState = shelf_state (g.H.Shelf.files c.args.shelf.now) (g.H.Shelf.read_faults c.args.shelf.now) (g.H.Shelf.write_faults c.args.shelf.now) in
    let new : ShelfState = shelf_state (g.H.Shelf.files c.check.new.shelf) (g.H.Shelf.read_faults c.check.new.shelf) (g.H.Shelf.write_faults c.check.new.shelf) in
    λ r task part. misspelt r old new c.args.certificate.now c.args.inst.now task part c.in-Err-Text.kind c.in-Err-Text.line says.answer

pub returns-in-Err-TooLong-clause-cause : goal.returns-in-Err-TooLong-clause-cause
returns-in-Err-TooLong-clause-cause g c =
    let says = rw c.in-Err-TooLong.field-0-is at c.in-Err-TooLong.ensures in
    let old : ShelfState = shelf_state (g.H.Shelf.files c.args.shelf.now) (g.H.Shelf.read_faults c.args.shelf.now) (g.H.Shelf.write_faults c.args.shelf.now) in
    let new : ShelfState = shelf_state (g.H.Shelf.files c.check.new.shelf) (g.H.Shelf.read_faults c.check.new.shelf) (g.H.Shelf.write_faults c.check.new.shelf) in
    λ r task part. long r old new c.args.certificate.now c.args.inst.now task part says.answer

pub returns-in-Err-ReadFailed-clause-cause : goal.returns-in-Err-ReadFailed-clause-cause
returns-in-Err-ReadFailed-clause-cause g c =
    let says = rw c.in-Err-ReadFailed.field-0-is at c.in-Err-ReadFailed.ensures in
    let old : ShelfState = shelf_state (g.H.Shelf.files c.args.shelf.now) (g.H.Shelf.read_faults c.args.shelf.now) (g.H.Shelf.write_faults c.args.shelf.now) in
    let new : ShelfState = shelf_state (g.H.Shelf.files c.check.new.shelf) (g.H.Shelf.read_faults c.check.new.shelf) (g.H.Shelf.write_faults c.check.new.shelf) in
    λ r task part. unread r old new c.args.certificate.now c.args.inst.now task part (says.failed refl)
