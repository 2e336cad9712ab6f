use Rattle.std.proofs.Common.{◌≡◌, length, rules, arith}
use Rattle.pmed_paths.proofs.Searches.{written}
use Rattle.pmed_paths.proofs.arcs.arcs_of.Goals as goal

pub returns-clause-arcs : goal.returns-clause-arcs
returns-clause-arcs c =
    let room : length c.in_ok-rows.rows.items ≡ c.in_ok-rows.rows.len = search rules in
    let long : length c.add_edges.new.rows ≡ c.in_ok-rows.rows.len = omega (arith, c.add_edges.auto.rows, c.deref_mut.ensures.len) in
    rw (written c.add_edges.new.rows c.in_ok-rows.rows.items c.in_ok-rows.rows.len long room) c.in_ok-add_edges.ensures
