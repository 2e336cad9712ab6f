use Rattle.shelf_port.specs.Files.{NeverFalls}
use Rattle.certificate_text.specs.Cert.{certificate_lent}
use Rattle.certificate_text.proofs.Parts.{IsGathered, text_before}
use Rattle.certificate_text.proofs.write.write_cert.Given as goal

abbrev pub invariant-loop-at : goal.invariant-loop-at
invariant-loop-at g l =
    IsGathered (g.H.Shelf.files l.fn.shelf) (g.H.Shelf.files l.shelf) l.name l.text.items (text_before l.inst (certificate_lent l.cert) l.at)
    × NeverFalls (g.H.Shelf.read_faults l.fn.shelf) (g.H.Shelf.read_faults l.shelf)
    × NeverFalls (g.H.Shelf.write_faults l.fn.shelf) (g.H.Shelf.write_faults l.shelf)
