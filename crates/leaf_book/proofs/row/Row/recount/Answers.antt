use Rattle.std.proofs.Common.{ap, ◌∙◌}
use Rattle.leaf_book.specs.Rows.{Held}
use Rattle.leaf_book.proofs.Moved.{row_recounted, recounted_small}
use Rattle.leaf_book.proofs.row.Row.recount.Goals as goal

pub invariant_of-self : goal.invariant_of-self
invariant_of-self g c =
    let due = c.requires.due in
    let a = c.self.inside in
    record {
      scale = c.self.invariant.scale;
      slacks = c.self.invariant.slacks;
      bound =
          recounted_small c.args.inst.now due.0 due.1 c.args.path.now (g.D.DualsByPlace.numbers c.args.duals.now) c.sites-valid.ensures.valid c.requires.fit c.args.count.0 c.args.count.1 due.2 due.3
          a.q a.slacks.items a.bound (ap (λ (h : Held). h.sums) c.self.view_is ∙ due.4) c.self.invariant.bound
          c.nu-nu.result c.price_of.result c.count_price.result c.nu-nu.ensures c.price_of.ensures.exact c.price_of.ensures.small c.count_price.ensures.exact c.count_price.ensures.small;
    }

pub returns-clause-sums : goal.returns-clause-sums
returns-clause-sums g c =
    let due = c.requires.due in
    let a = c.self.inside in
    row_recounted c.args.inst.now due.0 due.1 c.args.path.now (g.D.DualsByPlace.numbers c.args.duals.now) c.sites-valid.ensures.valid c.requires.fit c.args.count.0 c.args.count.1 due.2 due.3
    a.q a.slacks.items a.bound (ap (λ (h : Held). h.sums) c.self.view_is ∙ due.4) c.self.invariant.bound
    c.nu-nu.result c.price_of.result c.count_price.result c.nu-nu.ensures c.price_of.ensures.exact c.price_of.ensures.small c.count_price.ensures.exact c.count_price.ensures.small
