use Rattle.std.proofs.Common.{refl}
use Rattle.shelf_port.specs.MemShelf.{files_of}
use Rattle.certificate_text.specs.Cert.{certificate_of}
use Rattle.dualoc_cli.proofs.Proving.{accepted_back, by_back, said_no, said_text}
use Rattle.dualoc_cli.proofs.range.by_check.Goals as goal

pub by_proof-requires : goal.by_proof-requires
by_proof-requires c =
    let says = rw c.in-Ok-Yes.field-0-is at c.in-Ok-Yes.ensures in
    let back = c.in_ok-cert-in-Ok-Yes in
    accepted_back c.args.inst.now c.args.at (files_of c.args.kept) c.args.name.now c.sites-valid.ensures.valid c.in-Ok-Yes.field-0-0 (says.yes c.in-Ok-Yes.field-0-0 refl) (certificate_of back.cert)
    (files_of c.check.new.shelf) c.check.ensures.unchanged back.ensures.text back.ensures.has_text

pub returns-in-Ok-Yes : goal.returns-in-Ok-Yes
returns-in-Ok-Yes c =
    let says = rw c.in-Ok-Yes.field-0-is at c.in-Ok-Yes.ensures in
    let back = c.in_ok-cert-in-Ok-Yes in
    by_back c.args.inst.now c.args.at (files_of c.args.kept) c.args.name.now c.sites-valid.ensures.valid c.in-Ok-Yes.field-0-0 (says.yes c.in-Ok-Yes.field-0-0 refl) (certificate_of back.cert)
    (files_of c.check.new.shelf) c.check.ensures.unchanged back.ensures.text back.ensures.has_text c.by_proof.result c.by_proof.ensures

pub returns-in-Ok-No : goal.returns-in-Ok-No
returns-in-Ok-No c =
    let says = rw c.in-Ok-No.field-0-is at c.in-Ok-No.ensures in
    said_no c.args.inst.now c.args.at (files_of c.args.kept) c.args.name.now c.in-Ok-No.line c.in-Ok-No.why says.answer

pub returns-in-Err-Text : goal.returns-in-Err-Text
returns-in-Err-Text c =
    let says = rw c.in-Err-Text.field-0-is at c.in-Err-Text.ensures in
    rw (c.in-Err-Text.kind-is, c.in-Err-Text.line-is)
    (said_text c.args.inst.now c.args.at (files_of c.args.kept) c.args.name.now c.in-Err-Text.kind c.in-Err-Text.line says.answer)
