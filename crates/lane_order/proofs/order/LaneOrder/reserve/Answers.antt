use Rattle.std.proofs.Common.{◌+◌, length, refl, arith}
use Rattle.lane_order.specs.declared.order.LaneOrder.TheInside.{Inside}
use Rattle.lane_order.proofs.Lists.{lanes_kept, room_kept, IsStored-wide, fresh_less}
use Rattle.lane_order.proofs.order.LaneOrder.reserve.Goals as goal

pub returns-in_err-widen-clause-lanes : goal.returns-in_err-widen-clause-lanes
returns-in_err-widen-clause-lanes c = lanes_kept c.self.inside c.self.invariant c.widen.new.lists.items c.in_err-widen.ensures.kept c.self.inside.site_ids.items c.args.self.now refl c.self.view_is

pub invariant_of-self : goal.invariant_of-self
invariant_of-self c =
    let a : Inside = c.self.inside in
    let e = c.in_err-widen.ensures in
    let b : Inside = record { site_ids = a.site_ids; lists = c.widen.new.lists; fresh = a.fresh; spare = a.spare } in
    IsStored-wide a c.self.invariant c.widen.new.lists.items e.kept b refl refl (room_kept a c.self.invariant c.widen.new.lists.items e.kept) c.self.invariant.fresh c.self.invariant.site_room
    (omega (arith, e.len, e.capacity, c.self.invariant.list_room)) c.self.invariant.fresh_room

pub returns-in_err-reserve-clause-lanes : goal.returns-in_err-reserve-clause-lanes
returns-in_err-reserve-clause-lanes c = lanes_kept c.self.inside c.self.invariant c.widen.new.lists.items c.in_ok-widen.ensures.kept c.reserve.new.self.items c.args.self.now c.reserve.ensures.items c.self.view_is

pub invariant_of-self-in_err-reserve : goal.invariant_of-self-in_err-reserve
invariant_of-self-in_err-reserve c =
    let a : Inside = c.self.inside in
    let e = c.in_ok-widen.ensures in
    let b : Inside = record { site_ids = c.reserve.new.self; lists = c.widen.new.lists; fresh = a.fresh; spare = a.spare } in
    IsStored-wide a c.self.invariant c.widen.new.lists.items e.kept b c.reserve.ensures.items refl (room_kept a c.self.invariant c.widen.new.lists.items e.kept) c.self.invariant.fresh
    (omega (arith, c.reserve.ensures.len, c.reserve.ensures.capacity, c.self.invariant.site_room)) (omega (arith, e.len, e.capacity, c.self.invariant.list_room)) c.self.invariant.fresh_room

pub returns-in_err-keep_fresh-clause-lanes : goal.returns-in_err-keep_fresh-clause-lanes
returns-in_err-keep_fresh-clause-lanes c = lanes_kept c.self.inside c.self.invariant c.widen.new.lists.items c.in_ok-widen.ensures.kept c.reserve.new.self.items c.args.self.now c.reserve.ensures.items c.self.view_is

pub invariant_of-self-in_err-keep_fresh : goal.invariant_of-self-in_err-keep_fresh
invariant_of-self-in_err-keep_fresh c =
    let a : Inside = c.self.inside in
    let e = c.in_ok-widen.ensures in
    let b : Inside = record { site_ids = c.reserve.new.self; lists = c.widen.new.lists; fresh = c.keep_fresh.new.fresh; spare = a.spare } in
    IsStored-wide a c.self.invariant c.widen.new.lists.items e.kept b c.reserve.ensures.items refl (room_kept a c.self.invariant c.widen.new.lists.items e.kept)
    (c.in_err-keep_fresh.ensures.kept (length a.site_ids.items + a.spare) (omega (arith, a.site_ids.ok.0, c.reserve.ensures.len, c.len.ensures, c.max-spare.ensures)) c.self.invariant.fresh)
    (omega (arith, c.reserve.ensures.len, c.reserve.ensures.capacity, c.self.invariant.site_room)) (omega (arith, e.len, e.capacity, c.self.invariant.list_room)) (omega (arith, c.keep_fresh.ensures.count, c.self.invariant.fresh_room))

pub invariant_of-self-2 : goal.invariant_of-self-2
invariant_of-self-2 c =
    let a : Inside = c.self.inside in
    let e = c.in_ok-widen.ensures in
    let spare = c.max-spare.result in
    let b : Inside = record { site_ids = c.reserve.new.self; lists = c.widen.new.lists; fresh = c.keep_fresh.new.fresh; spare = spare } in
    let wide = c.in_ok-keep_fresh.ensures.room (fresh_less (length a.site_ids.items + a.spare) 0 a.fresh.items (omega arith) c.self.invariant.fresh) in
    IsStored-wide a c.self.invariant c.widen.new.lists.items e.kept b c.reserve.ensures.items refl e.lanes
    (fresh_less (c.len.result + spare) (length a.site_ids.items + spare) c.keep_fresh.new.fresh.items (omega (arith, a.site_ids.ok.0, c.reserve.ensures.len, c.len.ensures)) wide)
    (omega (arith, c.in_ok-reserve.ensures.ok)) e.room c.in_ok-keep_fresh.ensures.many

pub returns-clause-lanes : goal.returns-clause-lanes
returns-clause-lanes c = lanes_kept c.self.inside c.self.invariant c.widen.new.lists.items c.in_ok-widen.ensures.kept c.reserve.new.self.items c.args.self.now c.reserve.ensures.items c.self.view_is
