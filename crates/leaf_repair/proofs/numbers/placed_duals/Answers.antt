use Rattle.std.proofs.Common.{rules, ◌≡◌, Bool, true, ◌∙◌, sym, ap, subst, pos, map, if◌then◌else◌}
use mir.Syntax.{w128}
use mir.Val.{to_z, of_z}
use Rattle.std.specs.Prelude.{All, replicate, length}
use Rattle.location_terms.specs.declared.form.LeafForm.TheVariants.{Prices, Whole}
use Rattle.location_terms.specs.Knapsack.{has_small_knapsacks}
use Rattle.location_terms.specs.Leaf.{PricesSuit}
use Rattle.location_terms.specs.Bound.{Duals}
use Rattle.leaf_repair.specs.CarriedTree.{form_on}
use Rattle.leaf_repair.specs.Placed.{at_place, prices_at}
use Rattle.leaf_repair.proofs.Placing.{no_prices}
use Rattle.leaf_repair.proofs.numbers.placed_duals.Goals as goal

pub returns-then-is_small : goal.returns-then-is_small
returns-then-is_small c =
    let I = c.args.inst.now in
    let d = c.args.duals.now in
    let is_whole : d.form ≡ Whole = search rules in
    let small : has_small_knapsacks I ≡ true = search rules in
    let nu : to_z w128 (of_z w128 c.nu.result) ≡ d.nu = search rules in
    let v : c.in_ok-values.values.items ≡ map (at_place d.v (pos 0)) c.args.places.now.customers.items = search rules in
    let form : Whole ≡ form_on I d.form = sym (ap (form_on I) is_whole ∙ ap (λ (b : Bool). if b then Whole else Prices) small) in
    let none : All (λ u. u ≡ 0) d.u = subst (λ f. PricesSuit f d.u) is_whole c.requires.prices in
    let u : replicate (length I.sites) 0 ≡ prices_at I c.args.places.now.sites.items d.u = sym (no_prices d.u none I.sites c.args.places.now.sites.items c.requires.sites) in
    c.in_ok-placed.ensures ∙ (λ i. let e : Duals = record { form = form i; q = c.q.ensures i; nu = nu i; v = v i; u = u i } in e)
