use Rattle.std.proofs.Common.{sym}
use Rattle.std.proofs.lemmas.Result.{err_from_is_err_and}
use Rattle.pmed_paths.specs.Stored.{edges_in}
use Rattle.pmed_paths.proofs.ReadEdges.{trails, ends}
use Rattle.pmed_paths.proofs.file.network.Goals as goal

pub returns-in_err-finish : goal.returns-in_err-finish
returns-in_err-finish c =
    let p = err_from_is_err_and c.from_residual-in_err-finish.result c.from_residual-in_err-finish.ensures.1 in
    let h = c.in_ok-head.head in
    rw (p.1, p.2) (trails c.args.reader h.vertices h.edges h.medians c.read_head.new.reader (edges_in c.in_ok-edges.edges) c.read_edges.new.reader c.in_ok-head.ensures.read c.in_ok-edges.ensures.read c.in_err-finish.field-0.0 (sym c.in_err-finish.ensures))

pub returns : goal.returns
returns c =
    let h = c.in_ok-head.head in
    rw c.new.ensures (ends c.args.reader h.vertices h.edges h.medians c.read_head.new.reader (edges_in c.in_ok-edges.edges) c.read_edges.new.reader c.in_ok-head.ensures.read c.in_ok-edges.ensures.read (sym c.in_ok-finish.ensures))
