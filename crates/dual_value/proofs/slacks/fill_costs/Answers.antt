use Rattle.std.proofs.Common.{ap, arith, length}
use Rattle.std.proofs.lemmas.Int.{ints}
use Rattle.location_terms.specs.Instance.{Instance}
use Rattle.location_terms.specs.Bound.{paid_at}
use Rattle.dual_value.proofs.Sizes.{total_none}
use Rattle.dual_value.proofs.slacks.fill_costs.Goals as goal

pub returns : goal.returns
returns c = record {
  count = c.loop-site.invariant.long;
  each = λ i b. let before = c.loop-site.invariant.each i (omega (arith, b, c.loop-site-test.false, ap (λ (I : Instance). length I.sites) c.instance-inst.ensures, c.sites-site-end.ensures.count)) in omega (arith, ints, before, total_none (paid_at c.args.boxed.now.instance c.args.boxed.now.path c.args.duals.now i));
}
