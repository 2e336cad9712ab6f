use Rattle.std.proofs.Common.{◌≡◌, ◌==◌, false, arith}
use Rattle.std.proofs.lemmas.Bool.Decides.{nat_tests}
use Rattle.pmed_paths.proofs.Trees.{edges_in-put}
use Rattle.pmed_paths.proofs.file.put.Goals as goal

pub returns : goal.returns
returns c =
    let differ = c.if-a-b.false in
    let apart : (c.args.a == c.args.b) ≡ false = grind (arith, nat_tests, differ) in
    edges_in-put c.args.edges.now c.insert.new.self c.args.a c.args.b c.min.result c.max.result c.args.cost apart c.min.ensures c.max.ensures c.in_ok-insert.ensures.updates
