use Rattle.std.proofs.Common.{◌≡◌, ℕ, Ok, length, subst, arith}
use Rattle.location_terms.specs.Instance.{Instance, customer_at}
use Rattle.lane_order.specs.Changed.{HasCustMore}
use Rattle.instance_edits.specs.declared.edit.Edit.{Edit}
use Rattle.instance_edits.specs.declared.edit.Inverse.TheVariants.{AddedCust}
use Rattle.instance_edits.specs.Edits.{edited}
use Rattle.instance_edits.specs.Undo.{put_back}
use Rattle.instance_edits.proofs.OrderChanges.{new_customer_in, customer_made, customer_less}
use Rattle.instance_edits.proofs.orders.cust_comes.Goals as goal

pub returns-in-AddCust : goal.returns-in-AddCust
returns-in-AddCust c =
    let J = c.args.inst.now in
    let last = c.args.last in
    let I = put_back J (AddedCust (customer_at J last).id) in
    let demand = c.in-AddCust.demand in
    let column = c.in-AddCust.lanes in
    let made = customer_made I J demand column (subst (λ (e : Edit). edited I e ≡ Ok J) c.in-AddCust.is c.requires.made) in
    let place : length I.customers ≡ last = omega (arith, c.requires.place, customer_less J c.requires.valid last (omega (arith, c.requires.place))) in
    c.insert_cust.ensures.order I J I.next_customer c.requires.before c.requires.valid c.requires.order
    (subst (λ (p : Instance × ℕ). HasCustMore I p.0 p.1 I.next_customer column) (λ k. (made.0 k, place k)) (new_customer_in I c.requires.before demand column made.1))
