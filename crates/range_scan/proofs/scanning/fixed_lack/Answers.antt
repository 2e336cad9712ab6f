use Rattle.std.proofs.Common.{◌≡◌, ap, subst, ◌∙◌}
use Rattle.std.specs.Prelude.{IfOk}
use Rattle.location_terms.specs.Instance.{Instance, site_at}
use Rattle.location_terms.specs.Plan.{cost_of}
use Rattle.location_terms.specs.Tree.{leaves_of}
use Rattle.instance_store.specs.Changes.{with_fixed}
use Rattle.range_scan.specs.Short.{IsLack}
use Rattle.range_scan.proofs.Scans.{site_known, fixed_ready}
use Rattle.range_scan.proofs.scanning.fixed_lack.Goals as goal

pub lack-requires-clause-feasible : goal.lack-requires-clause-feasible
lack-requires-clause-feasible c =
    let I = c.args.inst.now in
    let is : c.set_fixed.new.self ≡ with_fixed I (site_at I c.args.site).id c.args.cost = c.set_fixed.ensures ∙ ap (λ (J : Instance). with_fixed J (site_at J c.args.site).id c.args.cost) c.in_ok-moved.ensures in
    (fixed_ready I c.sites-valid.ensures.valid c.args.tree.now c.args.plan.now c.requires.proved (site_at I c.args.site).id (site_known I c.args.site c.requires.place) c.args.cost c.set_fixed.new.self is).feasible

pub lack-requires-clause-fit : goal.lack-requires-clause-fit
lack-requires-clause-fit c =
    let I = c.args.inst.now in
    let is : c.set_fixed.new.self ≡ with_fixed I (site_at I c.args.site).id c.args.cost = c.set_fixed.ensures ∙ ap (λ (J : Instance). with_fixed J (site_at J c.args.site).id c.args.cost) c.in_ok-moved.ensures in
    (fixed_ready I c.sites-valid.ensures.valid c.args.tree.now c.args.plan.now c.requires.proved (site_at I c.args.site).id (site_known I c.args.site c.requires.place) c.args.cost c.set_fixed.new.self is).fit

pub returns : goal.returns
returns c =
    let I = c.args.inst.now in
    let is : c.set_fixed.new.self ≡ with_fixed I (site_at I c.args.site).id c.args.cost = c.set_fixed.ensures ∙ ap (λ (J : Instance). with_fixed J (site_at J c.args.site).id c.args.cost) c.in_ok-moved.ensures in
    subst (λ (J : Instance). IfOk c.lack.result (IsLack J (cost_of J c.args.plan.now) (leaves_of c.args.tree.now))) is c.lack.ensures
