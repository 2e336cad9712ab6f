use Rattle.instance_edits.specs.Undo.{suits, put_back}
use Rattle.instance_edits.proofs.ReadyFor.{leads_back, ready}
use Rattle.instance_edits.proofs.undoing.undo.Goals as goal

pub put_back-requires-clause-ready : goal.put_back-requires-clause-ready
put_back-requires-clause-ready c =
    let I = c.args.inst.now in
    let leads = leads_back (suits I c.args.back) (put_back I c.args.back) c.requires in
    ready I c.sites-sites.ensures.valid c.args.back leads.0 leads.1
