use Rattle.instance_text.proofs.ReadRows.{head_gives}
use Rattle.instance_text.proofs.Whole.{to_body}
use Rattle.instance_text.proofs.reading.instance.Goals as goal

pub body-requires : goal.body-requires
body-requires c =
    head_gives c.in_ok-m.m c.in_ok-n.n c.in_ok-count.count c.version.new.reader c.sites_line.new.reader c.customers_line.new.reader c.count_line.new.reader c.in_ok-m.ensures.read c.in_ok-n.ensures c.in_ok-count.ensures

pub returns-clause-meaning : goal.returns-clause-meaning
returns-clause-meaning c =
    rw
    (to_body c.args.reader c.pass.new.reader c.version.new.reader c.sites_line.new.reader c.customers_line.new.reader c.count_line.new.reader c.in_ok-statuses.statuses c.in_ok-m.m c.in_ok-n.n c.in_ok-count.count c.in_ok-pass.ensures c.in_ok-statuses.ensures c.in_ok-m.ensures.read c.in_ok-n.ensures c.in_ok-count.ensures)
    c.body.ensures.meaning
