use Rattle.std.proofs.Common.{length, ap, ◌∙◌, sym, arith, ℕ, Bool}
use Rattle.std.specs.Prelude.{not}
use Rattle.location_terms.specs.Instance.{site_at}
use Rattle.location_terms.specs.Box.{is_closed}
use Rattle.plan_search.proofs.Flagging.{passing_short, passing_no, count_yes}
use Rattle.tree_search.proofs.rays.possible_count.Goals as goal
use Rattle.tree_search.proofs.rays.possible_count.Goals.{then-is_possible, else-is_possible}

pub overflow_add-count : goal.overflow_add-count
overflow_add-count c =
    let possible : ℕ → Bool = λ i. not (is_closed c.args.boxed.now.path (site_at c.args.boxed.now.instance i)) in
    omega (arith, c.loop-site.invariant, passing_short possible c.loop-site.site, c.loop-site-test.true, c.sites-site-end.ensures.count, c.sites-site-end.ensures.valid.sizes.few_sites)

pub loop-site-preserved : goal.loop-site-preserved
loop-site-preserved c =
    let possible : ℕ → Bool = λ i. not (is_closed c.args.boxed.now.path (site_at c.args.boxed.now.instance i)) in
    let i = c.loop-site.site in
    elim c.if-is_possible.branch [
      | then-is_possible w ↦ omega (arith, w.count-is, count_yes possible i (sym c.is_possible.ensures ∙ w.if-is_possible.true), c.loop-site.invariant)
      | else-is_possible w ↦ w.count-is ∙ c.loop-site.invariant ∙ sym (ap length (passing_no possible i (sym c.is_possible.ensures ∙ w.if-is_possible.false)))
    ]
