use Rattle.instance_text.proofs.Lines.{on_ok, head_is}
use Rattle.instance_text.proofs.writing.push_head.Goals as goal

pub returns : goal.returns
returns c =
    on_ok c.push_count_line.result
    (λ last. head_is c.args.inst.now c.args.text.now.items c.push_version.new.text.items c.push_size_line.new.text.items c.push_size_line-2.new.text.items c.push_count_line.new.text.items c.args.unsettled c.sites.result c.custs.result c.next_ids-next.result c.count.result c.requires c.sites.ensures.count c.custs.ensures.count c.next_ids-next.ensures c.count.ensures c.in_ok-push_version.ensures c.in_ok-push_size_line.ensures c.in_ok-push_size_line-2.ensures last)
    c.push_count_line.ensures
