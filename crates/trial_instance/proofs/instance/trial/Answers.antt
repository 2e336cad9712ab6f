use Rattle.std.proofs.Common.{◌≡◌, All, None, IsSome, replicate, sym, subst}
use Rattle.instance_store.specs.Numbered.{AreSiteRows}
use Rattle.trial_instance.proofs.Rows.{are_rows, no_caps, all_there, rows_are, meant}
use Rattle.trial_instance.proofs.instance.trial.Goals as goal

pub store-requires-clause-rows : goal.store-requires-clause-rows
store-requires-clause-rows c =
    let is = rows_are c.args.seed c.args.sites c.args.custs _ _ _ _ _ _ _ c.from_seed-draws.ensures c.in_ok-placed.ensures.0 c.in_ok-placed.ensures.1 c.in_ok-places.ensures c.deref.ensures.value c.deref-2.ensures.value c.in_ok-rows.ensures in
    subst (λ rows. AreSiteRows rows (replicate c.args.custs 0)) (sym is) (are_rows c.args.seed c.args.sites c.args.custs c.requires)

pub store-requires-clause-no_caps : goal.store-requires-clause-no_caps
store-requires-clause-no_caps c =
    let is = rows_are c.args.seed c.args.sites c.args.custs _ _ _ _ _ _ _ c.from_seed-draws.ensures c.in_ok-placed.ensures.0 c.in_ok-placed.ensures.1 c.in_ok-places.ensures c.deref.ensures.value c.deref-2.ensures.value c.in_ok-rows.ensures in
    subst (All (λ s. s.site.cap ≡ None)) (sym is) (no_caps c.args.seed c.args.sites c.args.custs)

pub store-requires-clause-there : goal.store-requires-clause-there
store-requires-clause-there c =
    let is = rows_are c.args.seed c.args.sites c.args.custs _ _ _ _ _ _ _ c.from_seed-draws.ensures c.in_ok-placed.ensures.0 c.in_ok-placed.ensures.1 c.in_ok-places.ensures c.deref.ensures.value c.deref-2.ensures.value c.in_ok-rows.ensures in
    subst (All (λ s. All IsSome s.lanes)) (sym is) (all_there c.args.seed c.args.sites c.args.custs)

pub returns-clause-instance : goal.returns-clause-instance
returns-clause-instance c =
    let is = rows_are c.args.seed c.args.sites c.args.custs _ _ _ _ _ _ _ c.from_seed-draws.ensures c.in_ok-placed.ensures.0 c.in_ok-placed.ensures.1 c.in_ok-places.ensures c.deref.ensures.value c.deref-2.ensures.value c.in_ok-rows.ensures in
    meant c.store.result c.in_ok-rows.rows.items c.args.seed c.args.sites c.args.custs is c.store.ensures.instance
