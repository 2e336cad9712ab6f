use Rattle.std.proofs.Common.{◌≡◌, ◌+◌, ◌<◌, [], ap, sym, subst, ◌∙◌, arith, length, take}
use Rattle.std.proofs.lemmas.List.{take_all}
use Rattle.location_terms.specs.Instance.{site_at}
use Rattle.plan_meaning.specs.Plan.{serve_at}
use Rattle.report.specs.Figures.{AreGathered}
use Rattle.report.proofs.ServedRows.{nobody, one_more, server_known}
use Rattle.report.proofs.served.fill_rows.Goals as goal

pub loop-k-init : goal.loop-k-init
loop-k-init c = subst (AreGathered c.args.inst.now []) (sym c.requires.none) (nobody c.args.inst.now)

pub unwrap-i-requires : goal.unwrap-i-requires
unwrap-i-requires c =
    let I = c.args.inst.now in
    let P = c.args.plan.now in
    c.site_at.ensures.known.1 (server_known I P c.loop-k.k _ c.requires.feasible (omega (arith, c.serve_count-k-end.ensures.count)) (ap (λ v. v.1) c.serve-cust.ensures))

pub loop-k-preserved : goal.loop-k-preserved
loop-k-preserved c =
    let I = c.args.inst.now in
    let P = c.args.plan.now in
    let k = c.loop-k.k in
    let within : k < length P.serves = omega (arith, c.serve_count-k-end.ensures.count) in
    let found = rw c.unwrap-i.ensures at c.site_at.ensures.found in
    subst (AreGathered I (take (k + 1) P.serves)) (sym c.in_ok-add_cust.ensures)
    (one_more I c.sites-places.ensures.valid.sites_named.rising P.serves k c.unwrap-i.result _ c.loop-k.rows within found.0
    (found.1 ∙ ap (λ v. v.1) c.serve-cust.ensures) (ap (λ v. v.0) c.serve-cust.ensures) c.loop-k.invariant)

pub returns : goal.returns
returns c =
    let P = c.args.plan.now in
    subst (λ serves. AreGathered c.args.inst.now serves c.loop-k.rows) (take_all c.loop-k.k P.serves (omega (arith, c.serve_count-k-end.ensures.count))) c.loop-k.invariant
