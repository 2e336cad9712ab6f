use Rattle.std.proofs.Common.{refl, sym, subst}
use Rattle.location_terms.specs.Instance.{fixed_of}
use Rattle.instance_store.specs.Changes.{with_fixed}
use Rattle.range_scan.specs.Range.{IsCostRange}
use Rattle.range_scan.proofs.Scans.{fixed_scanned, fixed_optimal}
use Rattle.range_scan.proofs.scanning.fixed_range.Goals as goal

pub range_short-requires : goal.range_short-requires
range_short-requires c =
    let I = c.args.inst.now in
    let s = c.args.site in
    let paid = c.opens-is_open.result in
    (fixed_scanned I c.sites-valid.ensures.valid c.args.tree.now c.args.plan.now c.requires s (c.in-Some.ensures.known.0 refl) paid c.in_ok-lack.lack _ c.opens-is_open.ensures
    (λ k. with_fixed I (c.in-Some.ensures.found.1 k) (c.far_end.ensures.exact k)) c.in_ok-lack.ensures).0

pub returns-clause-range : goal.returns-clause-range
returns-clause-range c =
    let I = c.args.inst.now in
    let s = c.args.site in
    let paid = c.opens-is_open.result in
    subst (IsCostRange (with_fixed I s) (fixed_of I s) c.args.tree.now c.args.plan.now) (sym c.range_short.ensures)
    (fixed_scanned I c.sites-valid.ensures.valid c.args.tree.now c.args.plan.now c.requires s (c.in-Some.ensures.known.0 refl) paid c.in_ok-lack.lack _ c.opens-is_open.ensures
    (λ k. with_fixed I (c.in-Some.ensures.found.1 k) (c.far_end.ensures.exact k)) c.in_ok-lack.ensures).1

pub returns-clause-optimal : goal.returns-clause-optimal
returns-clause-optimal c =
    let I = c.args.inst.now in
    let s = c.args.site in
    let paid = c.opens-is_open.result in
    let range : IsCostRange (with_fixed I s) (fixed_of I s) c.args.tree.now c.args.plan.now c.range_short.result =
    subst (IsCostRange (with_fixed I s) (fixed_of I s) c.args.tree.now c.args.plan.now) (sym c.range_short.ensures)
    (fixed_scanned I c.sites-valid.ensures.valid c.args.tree.now c.args.plan.now c.requires s (c.in-Some.ensures.known.0 refl) paid c.in_ok-lack.lack _ c.opens-is_open.ensures
    (λ k. with_fixed I (c.in-Some.ensures.found.1 k) (c.far_end.ensures.exact k)) c.in_ok-lack.ensures).1 in
    fixed_optimal I c.sites-valid.ensures.valid c.args.tree.now c.args.plan.now c.requires s (c.in-Some.ensures.known.0 refl) c.range_short.result range
