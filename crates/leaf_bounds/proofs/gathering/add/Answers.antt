use Rattle.std.proofs.Common.{◌≡◌, ◌≤◌, ◌++◌, sym, ap, subst, ◌∙◌, Some, pos, ◌-ℤ◌, ◌≤ℤ◌}
use mir.Syntax.{w128}
use mir.Val.{to_z, of_z}
use Rattle.std.specs.Int.Signed.{le_z_yes}
use Rattle.std.proofs.lemmas.Float.{T_from_true}
use Rattle.location_terms.specs.Instance.{Instance, site_at, customer_at, lane}
use Rattle.location_terms.specs.Bound.{Duals}
use Rattle.location_terms.specs.declared.limits.TheConstants.{MAX_AMOUNT}
use Rattle.binary_knapsack.specs.Loads.{kept}
use Rattle.instance_store.specs.Small.{IsSmall}
use Rattle.leaf_bounds.specs.Gathered.{item_where_allowed}
use Rattle.leaf_bounds.proofs.Gathered.{none_where_dear}
use Rattle.leaf_bounds.proofs.Surplus.{surplus_is, surplus_small, one_more_at_most, worths_stay_small}
use Rattle.leaf_bounds.proofs.gathering.add.Goals as goal

pub returns-then-worth-le0-clause-exact : goal.returns-then-worth-le0-clause-exact
returns-then-worth-le0-clause-exact c =
    let I : Instance = c.args.boxed.now.instance in
    let d : Duals = c.args.duals.now in
    let there : Some c.in-Some.cost ≡ lane I (site_at I c.args.site).id (customer_at I c.args.cust).id = sym c.in-Some.is ∙ c.requires.lane in
    let few : c.in-Some.cost ≤ MAX_AMOUNT = subst IsSmall c.in-Some.is c.requires.small in
    let surplus = surplus_is I d c.args.site c.args.cust c.in-Some.cost c.from.result c.v.result c.times.result c.requires.fit c.requires.customer c.v.ensures c.times.ensures (c.from.ensures ∙ c.q.ensures) there few in
    let dear : to_z w128 (of_z w128 (to_z w128 (of_z w128 c.v.result) -ℤ to_z w128 (of_z w128 c.times.result))) ≤ℤ pos 0 = le_z_yes (T_from_true _ c.if-worth-le0.true) in
    none_where_dear I c.args.boxed.now.path d c.args.site c.args.cust c.args.items.now.items (rw surplus at dear)

pub returns-clause-exact : goal.returns-clause-exact
returns-clause-exact c =
    let I : Instance = c.args.boxed.now.instance in
    let d : Duals = c.args.duals.now in
    let there : Some c.in-Some.cost ≡ lane I (site_at I c.args.site).id (customer_at I c.args.cust).id = sym c.in-Some.is ∙ c.requires.lane in
    let few : c.in-Some.cost ≤ MAX_AMOUNT = subst IsSmall c.in-Some.is c.requires.small in
    let surplus = surplus_is I d c.args.site c.args.cust c.in-Some.cost c.from.result c.v.result c.times.result c.requires.fit c.requires.customer c.v.ensures c.times.ensures (c.from.ensures ∙ c.q.ensures) there few in
    ap (kept (site_at I c.args.site).cap) (c.in_ok-add_paying.ensures ∙ ap (λ z. c.args.items.now.items ++ item_where_allowed I c.args.boxed.now.path c.args.site c.args.cust z) surplus)

pub returns-clause-count : goal.returns-clause-count
returns-clause-count c = one_more_at_most c.args.boxed.now.instance c.args.boxed.now.path c.args.site c.args.cust _ c.args.items.now.items c.add_paying.new.items.items c.in_ok-add_paying.ensures

pub returns-clause-worths : goal.returns-clause-worths
returns-clause-worths c =
    let I : Instance = c.args.boxed.now.instance in
    let d : Duals = c.args.duals.now in
    let there : Some c.in-Some.cost ≡ lane I (site_at I c.args.site).id (customer_at I c.args.cust).id = sym c.in-Some.is ∙ c.requires.lane in
    let few : c.in-Some.cost ≤ MAX_AMOUNT = subst IsSmall c.in-Some.is c.requires.small in
    let surplus = surplus_is I d c.args.site c.args.cust c.in-Some.cost c.from.result c.v.result c.times.result c.requires.fit c.requires.customer c.v.ensures c.times.ensures (c.from.ensures ∙ c.q.ensures) there few in
    let small = surplus_small I d c.args.site c.args.cust c.in-Some.cost c.from.result c.v.result c.times.result c.requires.fit c.requires.customer c.v.ensures c.times.ensures (c.from.ensures ∙ c.q.ensures) there few in
    worths_stay_small I c.args.boxed.now.path c.args.site c.args.cust _ c.args.items.now.items c.add_paying.new.items.items c.in_ok-add_paying.ensures c.requires.worths (rw surplus small)
