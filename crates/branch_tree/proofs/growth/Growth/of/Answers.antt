use Rattle.std.proofs.Common.{◌∙◌, sym}
use Rattle.location_terms.specs.Instance.{site_ids, customer_ids}
use Rattle.location_terms.proofs.Places.{length-site_ids, length-customer_ids}
use Rattle.branch_tree.proofs.Growing.{begun_kept, begun_seen}
use Rattle.branch_tree.proofs.growth.Growth.of.Goals as goal

pub invariant_of-result : goal.invariant_of-result
invariant_of-result c =
    let I = c.args.inst.now in
    begun_kept (site_ids I) (customer_ids I) c.args.path c.new.result.items c.args.duals c.in_ok-done.done.items c.new.ensures.items c.in_ok-done.ensures.items _ c.in_ok-done.ensures.capacity
    (c.requires.0 ∙ sym (length-site_ids I), c.requires.1 ∙ sym (length-customer_ids I), c.requires.2, c.requires.3)

pub returns : goal.returns
returns c = begun_seen (site_ids c.args.inst.now) (customer_ids c.args.inst.now) c.args.path c.new.result.items c.args.duals c.in_ok-done.done.items c.new.ensures.items c.in_ok-done.ensures.items
