use Rattle.std.proofs.Common.{arith}
use Rattle.std.proofs.lemmas.Result.{err_from_is_err_and}
use Rattle.fixed_cost.specs.declared.fault.FormFault.TheVariants.{File}
use Rattle.pmed_paths.specs.Stored.{edges_in}
use Rattle.pmed_paths.proofs.ReadEdges.{read-start, read-more, read-fails, read-done}
use Rattle.pmed_paths.proofs.file.read_edges.Goals as goal

pub loop-init : goal.loop-init
loop-init c = read-start c.args.last c.args.count c.args.reader.now c.new-edges.result c.new-edges.ensures.empty

pub returns-in_err-edge-clause-read : goal.returns-in_err-edge-clause-read
returns-in_err-edge-clause-read c =
    let p = err_from_is_err_and c.from_residual.result c.from_residual.ensures.1 in
    rw (p.1, p.2) (read-fails c.args.last c.loop.counter c.args.count c.args.reader.now c.loop.reader (edges_in c.loop.edges) (File c.in_err-edge.field-0.0) c.loop-test.true c.in_err-edge.ensures.read c.loop.invariant)

pub loop-preserved : goal.loop-preserved
loop-preserved c =
    let edge = c.in_ok-edge.edge in
    read-more c.args.last c.loop.counter c.args.count c.args.reader.now c.loop.reader c.read_edge.new.reader (edges_in c.loop.edges) (edges_in c.put.new.edges) edge.a edge.b edge.cost c.loop-test.true c.in_ok-edge.ensures.read c.in_ok-edge.ensures.within c.in_ok-put.ensures c.loop.invariant

pub returns-clause-read : goal.returns-clause-read
returns-clause-read c = read-done c.args.last c.loop.counter c.args.count c.args.reader.now c.loop.reader (edges_in c.loop.edges) (omega arith) c.loop.invariant
