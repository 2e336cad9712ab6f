use Rattle.std.proofs.Common.{refl}
use Rattle.instance_forms.proofs.Held.{too_long}
use Rattle.instance_forms.proofs.reading.open.Goals as goal

pub returns-in-Err-TooLong-clause-reading : goal.returns-in-Err-TooLong-clause-reading
returns-in-Err-TooLong-clause-reading g c =
    let says = rw c.in-Err-TooLong.field-0-is at c.in-Err-TooLong.ensures in
    too_long (g.H.Shelf.files c.args.shelf.now) c.args.file.name.now (says.too_long refl)
