use Rattle.std.proofs.Common.{◌≡◌, ◌<◌}
use Rattle.std.proofs.lemmas.Option.{MatchOption-at_none}
use Rattle.shelf_port.specs.Ports.{ShelfState, shelf_state}
use Rattle.tree_search.specs.Budget.{max_budget, budget_in}
use Rattle.dualoc_cli.specs.Command.{ResultFiles}
use Rattle.dualoc_cli.specs.Step.{asked_result}
use Rattle.dualoc_cli.proofs.Searching.{large_given, asked_cause}
use Rattle.dualoc_cli.proofs.search.search.Goals as goal

pub returns-in_default-clause-cause : goal.returns-in_default-clause-cause
returns-in_default-clause-cause g c =
    let large : max_budget c.args.inst.now < budget_in c.args.inst.now c.args.given =
    MatchOption-at_none (max_budget c.args.inst.now < budget_in c.args.inst.now c.args.given) (λ budget. budget ≡ budget_in c.args.inst.now c.args.given) c.in_default.is c.budget_in.ensures.exact in
    λ r task part. large_given r (asked_result c.args.into) c.args.given c.args.inst.now task large

pub returns-clause-cause : goal.returns-clause-cause
returns-clause-cause g c =
    let into : ResultFiles = asked_result c.args.into in
    let old : ShelfState = shelf_state (g.H.Shelf.files c.args.shelf.now) (g.H.Shelf.read_faults c.args.shelf.now) (g.H.Shelf.write_faults c.args.shelf.now) in
    let new : ShelfState = shelf_state (g.H.Shelf.files c.leave.new.shelf) (g.H.Shelf.read_faults c.leave.new.shelf) (g.H.Shelf.write_faults c.leave.new.shelf) in
    asked_cause c.leave.result into c.args.given c.args.inst.now c.in-Some.budget old new c.in-Some.ensures.exact c.in-Some.ensures.small c.leave.ensures.cause
