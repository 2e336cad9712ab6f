use Rattle.std.proofs.Common.{ℕ, ◌+◌, ◌∙◌, sym, ap, subst, length, arith}
use Rattle.std.specs.Prelude.{slice_index, slice_set}
use Rattle.std.proofs.lemmas.List.{length-set}
use Rattle.location_terms.specs.Instance.{Instance, IsValid, customer_at}
use Rattle.tree_search.proofs.ForcedDemands.{AreLoads, loads_kept, loads_more, first_small}
use Rattle.tree_search.proofs.forced.add_forced.Goals as goal
use Rattle.tree_search.proofs.forced.add_forced.Goals.{in-None, in-Some}

pub overflow_add-loads : goal.overflow_add-loads
overflow_add-loads c =
    let I = c.args.boxed.now.instance in
    let valid : IsValid I = subst IsValid c.instance.ensures c.custs-cust-end.ensures.valid in
    let load = c.loop-cust.invariant.exact c.in-Some.site (omega (arith, c.in-Some.ensures.within, c.loop-cust.invariant.long)) in
    let small = first_small I c.args.boxed.now.path valid c.in-Some.site c.loop-cust.cust in
    omega (arith, load, small, c.demand.ensures.small, c.loop-cust-test.true, c.loop-cust.auto.cust-end, c.custs-cust-end.ensures.count, c.custs-cust-end.ensures.valid.sizes.few_customers)

pub loop-cust-preserved : goal.loop-cust-preserved
loop-cust-preserved c =
    let I = c.args.boxed.now.instance in
    let path = c.args.boxed.now.path in
    let n = c.loop-cust.cust in
    let old = c.loop-cust.loads in
    elim c.match-only_server.branch [
      | in-None w ↦ record {
        long = ap length w.loads-is ∙ c.loop-cust.invariant.long;
        exact = subst (AreLoads I path (n + 1)) (sym w.loads-is) (loads_kept I path n c.only_server.result c.only_server.ensures.alone old c.loop-cust.invariant.long c.loop-cust.invariant.exact w.in-None.is);
      }
      | in-Some w ↦ record {
        long = ap length w.loads-is ∙ length-set old w.in-Some.site (slice_index old w.in-Some.site + w.demand.result) ∙ c.loop-cust.invariant.long;
        exact = loads_more I path n c.only_server.result c.only_server.ensures.alone old c.loop-cust.invariant.long c.loop-cust.invariant.exact w.in-Some.site w.in-Some.is w.in-Some.ensures.within w.in-Some.ensures.forced c.match-only_server.loads
            (w.loads-is ∙ ap (λ (d : ℕ). slice_set old w.in-Some.site (slice_index old w.in-Some.site + d)) (w.demand.ensures.exact ∙ ap (λ (J : Instance). (customer_at J n).demand) w.instance-in-Some.ensures));
      }
    ]
