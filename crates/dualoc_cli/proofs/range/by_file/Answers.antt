use Rattle.std.specs.FinMap.{get}
use Rattle.shelf_port.specs.MemShelf.{files_of}
use Rattle.certificate_lines.specs.Text.{certificate_text}
use Rattle.certificate_text.specs.Cert.{certificate_of}
use Rattle.dualoc_cli.proofs.Proving.{text_back, by_read, by_same}
use Rattle.dualoc_cli.proofs.range.by_file.Goals as goal

pub returns-then-branch : goal.returns-then-branch
returns-then-branch c =
    let cert = certificate_of c.in-Ok.cert in
    by_read c.args.inst.now c.args.at (files_of c.args.kept) c.args.name.now cert
    (text_back (get (files_of c.args.kept) c.args.name.now) (certificate_text c.args.inst.now cert) c.in-Ok.ensures.ok)
    c.in-Ok.ensures.has_text (c.in_ok-proves_optimum.ensures c.if-branch.true) c.by_proof.result c.by_proof.ensures

pub returns : goal.returns
returns c = by_same c.args.inst.now c.args.at (files_of c.args.kept) c.args.name.now (files_of c.read_cert.new.shelf) c.read_cert.ensures.unchanged c.by_check.result c.by_check.ensures
