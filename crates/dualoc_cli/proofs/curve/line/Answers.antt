use Rattle.std.proofs.Common.{◌∙◌, ap}
use Rattle.location_terms.specs.Tree.{nodes_of}
use Rattle.dualoc_cli.proofs.Drawn.{line_of}
use Rattle.dualoc_cli.proofs.curve.line.Goals as goal

pub returns : goal.returns
returns c =
    line_of c.args.inst.now c.in_ok-counted.counted c.args.budget c.args.count c.in_ok-counted.ensures c.sites-sites.ensures.valid c.requires.within c.args.answer.now c.requires.answer c.requires.decided
    c.claim.result c.claim.ensures c.nodes.result (c.nodes.ensures.count ∙ ap nodes_of c.tree.ensures) c.in_ok-text.text.items c.in_ok-text.ensures
