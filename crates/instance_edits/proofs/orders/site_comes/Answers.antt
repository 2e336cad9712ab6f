use Rattle.std.proofs.Common.{ℕ, List, Option, length, insert, sym, ap, subst, arith}
use Rattle.std.specs.List.Sorted.{IsStrictlyIncreasing}
use Rattle.location_terms.specs.Instance.{site_at}
use Rattle.location_terms.proofs.Places.{length-site_ids}
use Rattle.instance_store.specs.Places.{lanes_from}
use Rattle.lane_order.specs.Order.{Order}
use Rattle.lane_order.specs.Changed.{HasSiteMore}
use Rattle.instance_edits.specs.declared.edit.Inverse.TheVariants.{AddedSite}
use Rattle.instance_edits.specs.Undo.{put_back}
use Rattle.instance_edits.proofs.OrderChanges.{site_gone, room_for_site}
use Rattle.instance_edits.proofs.orders.site_comes.Goals as goal

pub insert_site-requires-clause-place : goal.insert_site-requires-clause-place
insert_site-requires-clause-place c =
    let J = c.args.inst.now in
    let x = site_at J c.args.last in
    let I = put_back J (AddedSite x.id) in
    let more = site_gone J c.requires.valid c.args.last c.requires.place in
    omega (arith, more.within, length-site_ids I, ap (λ (ids : List ℕ). length ids) c.requires.order.same_sites)

pub insert_site-requires-clause-few : goal.insert_site-requires-clause-few
insert_site-requires-clause-few c =
    let J = c.args.inst.now in
    let x = site_at J c.args.last in
    (room_for_site c.args.order.now (put_back J (AddedSite x.id)) J c.args.last x.id (lanes_from J x) c.requires.order c.requires.valid
    (site_gone J c.requires.valid c.args.last c.requires.place)).0

pub insert_site-requires-clause-rising : goal.insert_site-requires-clause-rising
insert_site-requires-clause-rising c =
    let J = c.args.inst.now in
    let x = site_at J c.args.last in
    let order : Order = c.args.order.now in
    subst (λ (id : ℕ). IsStrictlyIncreasing (insert order.sites c.args.last id)) (sym c.site_id-id.ensures)
    (room_for_site order (put_back J (AddedSite x.id)) J c.args.last x.id (lanes_from J x) c.requires.order c.requires.valid
    (site_gone J c.requires.valid c.args.last c.requires.place)).1

pub returns : goal.returns
returns c =
    let J = c.args.inst.now in
    let x = site_at J c.args.last in
    let I = put_back J (AddedSite x.id) in
    c.insert_site.ensures.order I J c.requires.before c.requires.valid c.requires.order
    (subst (λ (p : ℕ × List (Option ℕ)). HasSiteMore I J c.args.last p.0 p.1) (λ k. (sym c.site_id-id.ensures k, sym c.lanes.ensures.exact k))
    (site_gone J c.requires.valid c.args.last c.requires.place))
