use Rattle.std.proofs.Common.{◌≡◌, ap, ◌∙◌, arith, length, flat_map}
use Rattle.std.specs.List.{range_with_len}
use Rattle.location_terms.specs.Instance.{Instance, site_at}
use Rattle.location_terms.specs.Bound.{Duals}
use Rattle.binary_knapsack.specs.Loads.{kept}
use Rattle.leaf_bounds.proofs.Gathered.{one_of, items_more, items_all}
use Rattle.leaf_bounds.proofs.gathering.gather.Goals as goal

pub loop-cust-preserved : goal.loop-cust-preserved
loop-cust-preserved c = record {
  loads = items_more c.args.boxed.now.instance c.args.boxed.now.path c.args.duals.now c.args.site (site_at c.args.boxed.now.instance c.args.site).cap c.loop-cust.cust c.loop-cust.items.items c.add.new.items.items c.loop-cust.invariant.loads c.in_ok-add.ensures.exact;
  count = omega (arith, c.in_ok-add.ensures.count, c.loop-cust.invariant.count);
  worths = c.in_ok-add.ensures.worths;
}

pub returns-clause-exact : goal.returns-clause-exact
returns-clause-exact c =
    let I : Instance = c.args.boxed.now.instance in
    let d : Duals = c.args.duals.now in
    let cap = (site_at I c.args.site).cap in
    let same = ap (λ (J : Instance). length J.customers) c.instance-inst.ensures in
    let all : c.loop-cust.cust ≡ length I.customers = omega (arith, c.custs-cust-end.ensures.count, same) in
    c.loop-cust.invariant.loads
    ∙ ap (λ k. kept cap (flat_map (one_of I c.args.boxed.now.path d c.args.site) (range_with_len 0 k))) all
    ∙ ap (kept cap) (items_all I c.args.boxed.now.path d c.args.site)
