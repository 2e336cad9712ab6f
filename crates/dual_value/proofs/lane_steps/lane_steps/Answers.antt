use Rattle.std.proofs.Common.{◌≡◌, ◌∙◌, ◌++◌, take, drop, length, sym, ap, subst, get_or}
use Rattle.location_terms.specs.Instance.{customer_at}
use Rattle.dual_value.specs.LaneSteps.{AreChains}
use Rattle.dual_value.proofs.Chains.{chain_of_sites}
use Rattle.lane_order.proofs.Lists.{written_whole}
use Rattle.dual_value.proofs.lane_steps.lane_steps.Goals as goal

pub returns-then-is_of_sites : goal.returns-then-is_of_sites
returns-then-is_of_sites c = λ j _. chain_of_sites c.args.path.now c.new-then-is_of_sites.result.items (customer_at c.args.inst.now j).id (get_or c.new.result.items j 0) (c.is_of_sites.ensures.0 c.if-is_of_sites.true) (ap (λ xs. get_or xs j 0) c.new.ensures.items)

pub returns : goal.returns
returns c =
    let old = c.in_ok-lasts.lasts.items in
    let new = c.chained.new.lasts in
    let n = c.in_ok-lasts.lasts.len in
    let written : take n (new ++ drop (length new) old) ≡ new = written_whole old new n c.in_ok-lasts.lasts.ok.0 (c.chained.ensures.long ∙ ap length c.deref_mut.ensures.value) in
    subst (λ xs. AreChains c.args.inst.now c.args.path.now xs c.in_ok-befores.befores.items) (sym written) c.in_ok-befores.ensures.chained
