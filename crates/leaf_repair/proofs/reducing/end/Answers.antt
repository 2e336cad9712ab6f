use Rattle.std.proofs.Common.{rules, ◌≡◌, ◌∙◌, sym, ap, subst, Bool, true, length}
use Rattle.std.specs.Prelude.{if◌then◌else◌}
use Rattle.location_terms.specs.Bound.{Duals}
use Rattle.location_terms.specs.Tree.{HasLists}
use Rattle.location_terms.proofs.Places.{length-site_ids, length-customer_ids}
use Rattle.branch_tree.specs.declared.entry.Entry.TheVariants.{End}
use Rattle.branch_tree.specs.Begun.{grown}
use Rattle.leaf_repair.specs.CarriedTree.{carried_duals}
use Rattle.leaf_repair.specs.Placed.{placed_duals}
use Rattle.leaf_repair.proofs.Fitting.{carried_lists, placed_is_carried}
use Rattle.leaf_repair.proofs.reducing.end.Goals as goal

pub leaf-requires-clause-lists : goal.leaf-requires-clause-lists
leaf-requires-clause-lists c =
    let I = c.args.source.now.inst.now in
    let t = c.args.source.now.tree.now in
    let d = c.args.duals.now in
    let over = c.args.over.now in
    let from = c.requires.source in
    let same : c.in_ok-placed.placed ≡ carried_duals I t.sites t.customers d = c.in_ok-placed.ensures ∙ (λ i. placed_duals I (from.sites_are i) (from.customers_are i) d) ∙ placed_is_carried I t.sites t.customers d c.requires.lists in
    let has = carried_lists I t.sites t.customers d c.requires.lists in
    let m : length over.sites ≡ length I.sites = ap length c.requires.sites ∙ length-site_ids I in
    let n : length over.customers ≡ length I.customers = ap length c.requires.customers ∙ length-customer_ids I in
    subst (λ (e : Duals). HasLists (length over.sites) (length over.customers) e) (sym same) (has.0 ∙ sym m, has.1 ∙ sym n, has.2, has.3)

pub returns : goal.returns
returns c =
    let I = c.args.source.now.inst.now in
    let t = c.args.source.now.tree.now in
    let d = c.args.duals.now in
    let over = c.args.over.now in
    let from = c.requires.source in
    let same : c.in_ok-placed.placed ≡ carried_duals I t.sites t.customers d = c.in_ok-placed.ensures ∙ (λ i. placed_duals I (from.sites_are i) (from.customers_are i) d) ∙ placed_is_carried I t.sites t.customers d c.requires.lists in
    let is : c.args.is_wanted ≡ true = search rules in
    c.in_ok-leaf.ensures.ok ∙ ap (λ (e : Duals). grown over (End e)) same
    ∙ sym (ap (λ (b : Bool). if b then grown over (End (carried_duals I t.sites t.customers d)) else over) is)
