use Rattle.instance_edits.specs.Undo.{suits, put_back}
use Rattle.instance_edits.proofs.ReadyFor.{leads_back, ready}
use Rattle.instance_edits.proofs.orders.lead_on.Goals as goal

pub follow-requires-clause-ready : goal.follow-requires-clause-ready
follow-requires-clause-ready c =
    let I = c.args.inst.now in
    let leads = leads_back (suits I c.args.back.now) (put_back I c.args.back.now) c.requires.leads in
    ready I c.sites-sites.ensures.valid c.args.back.now leads.0 leads.1
