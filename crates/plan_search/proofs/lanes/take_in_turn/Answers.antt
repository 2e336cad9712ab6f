use Rattle.std.proofs.Common.{◌≡◌, ◌<◌, [], Some, true, map, length, get_or, sym, ap, subst, ◌∙◌, arith}
use Rattle.std.specs.List.{fold}
use Rattle.std.proofs.lemmas.List.{length-map}
use Rattle.location_terms.specs.Instance.{customer_at}
use Rattle.location_terms.specs.Box.{holds_demand}
use Rattle.plan_search.specs.Packed.{taking}
use Rattle.plan_search.specs.Flags.{flagged}
use Rattle.plan_search.specs.Packing.{room_at}
use Rattle.plan_search.specs.declared.turns.Turn.{Turn}
use Rattle.plan_search.proofs.Ranked.{turns_are, turn_below}
use Rattle.plan_search.proofs.Turning.{none_takes, turn_taken, site_known, site_holds, all_turns, flagged_below, turn_at}
use Rattle.plan_search.proofs.lanes.take_in_turn.Goals as goal

pub cheapest_site-requires-clause-customer : goal.cheapest_site-requires-clause-customer
cheapest_site-requires-clause-customer c = turn_below c.args.boxed.now.instance c.requires.valid c.args.turns.now c.requires.turns c.loop-turn.turn-index _ c.loop-turn-test.true

pub returns-in-None : goal.returns-in-None
returns-in-None c =
    let I = c.args.boxed.now.instance in
    let path = c.args.boxed.now.path in
    let turns = c.args.turns.now in
    let k = c.loop-turn.turn-index in
    let e : Turn = record { short = 0; cust = 0 } in
    none_takes I path (flagged c.args.flags.now) (flagged_below I c.args.flags.now c.requires.long) (map (λ t. t.cust) turns) k (get_or turns k e).cust c.loop-turn.taken.items c.loop-turn.rooms
    (omega (arith, c.loop-turn-test.true, length-map turns (λ t. t.cust))) (turn_at turns k e c.loop-turn-test.true) c.loop-turn.invariant.taken c.loop-turn.invariant.rooms (sym c.in-None.is ∙ c.cheapest_site.ensures)
    ∙ ap (fold (taking I path (flagged c.args.flags.now)) (Some [])) (turns_are I c.requires.valid turns c.requires.turns)

pub demand-requires : goal.demand-requires
demand-requires c =
    let below = turn_below c.args.boxed.now.instance c.requires.valid c.args.turns.now c.requires.turns c.loop-turn.turn-index (record { short = 0; cust = 0 }) c.loop-turn-test.true in
    omega (arith, below, ap (λ J. length J.customers) c.instance-inst.ensures)

pub fill-requires-clause-site : goal.fill-requires-clause-site
fill-requires-clause-site c =
    let I = c.args.boxed.now.instance in
    let turns = c.args.turns.now in
    let k = c.loop-turn.turn-index in
    let e : Turn = record { short = 0; cust = 0 } in
    let known : c.in-Some.site < length I.sites =
    site_known I c.args.boxed.now.path (flagged c.args.flags.now) (flagged_below I c.args.flags.now c.requires.long) (map (λ t. t.cust) turns) k (get_or turns k e).cust c.loop-turn.taken.items c.loop-turn.rooms
    (omega (arith, c.loop-turn-test.true, length-map turns (λ t. t.cust))) (turn_at turns k e c.loop-turn-test.true) c.loop-turn.invariant.taken c.loop-turn.invariant.rooms c.in-Some.site (sym c.in-Some.is ∙ c.cheapest_site.ensures) in
    omega (arith, known, c.loop-turn.invariant.rooms.count)

pub fill-requires-clause-holds : goal.fill-requires-clause-holds
fill-requires-clause-holds c =
    let I = c.args.boxed.now.instance in
    let turns = c.args.turns.now in
    let k = c.loop-turn.turn-index in
    let e : Turn = record { short = 0; cust = 0 } in
    let demand : c.demand.result ≡ (customer_at I (get_or turns k e).cust).demand = c.demand.ensures.exact ∙ ap (λ J. (customer_at J (get_or turns k e).cust).demand) c.instance-inst.ensures in
    subst (λ n. holds_demand (room_at c.loop-turn.rooms c.in-Some.site) n ≡ true) (sym demand)
    (site_holds I c.args.boxed.now.path (flagged c.args.flags.now) (flagged_below I c.args.flags.now c.requires.long) (map (λ t. t.cust) turns) k (get_or turns k e).cust c.loop-turn.taken.items c.loop-turn.rooms
    (omega (arith, c.loop-turn-test.true, length-map turns (λ t. t.cust))) (turn_at turns k e c.loop-turn-test.true) c.loop-turn.invariant.taken c.loop-turn.invariant.rooms c.in-Some.site (sym c.in-Some.is ∙ c.cheapest_site.ensures))

pub loop-turn-preserved : goal.loop-turn-preserved
loop-turn-preserved c =
    let I = c.args.boxed.now.instance in
    let turns = c.args.turns.now in
    let k = c.loop-turn.turn-index in
    let e : Turn = record { short = 0; cust = 0 } in
    let demand : c.demand.result ≡ (customer_at I (get_or turns k e).cust).demand = c.demand.ensures.exact ∙ ap (λ J. (customer_at J (get_or turns k e).cust).demand) c.instance-inst.ensures in
    let both =
    turn_taken I c.args.boxed.now.path (flagged c.args.flags.now) (flagged_below I c.args.flags.now c.requires.long) (map (λ t. t.cust) turns) k (get_or turns k e).cust c.loop-turn.taken.items c.loop-turn.rooms
    (omega (arith, c.loop-turn-test.true, length-map turns (λ t. t.cust))) (turn_at turns k e c.loop-turn-test.true) c.loop-turn.invariant.taken c.loop-turn.invariant.rooms c.in-Some.site (sym c.in-Some.is ∙ c.cheapest_site.ensures)
    c.push.new.self.items c.demand.result c.fill.new.rooms demand c.in_ok-push-in-Some.ensures.items c.fill.ensures in
    record { taken = both.0; rooms = both.1 }

pub returns : goal.returns
returns c =
    let I = c.args.boxed.now.instance in
    let path = c.args.boxed.now.path in
    let turns = c.args.turns.now in
    let sites = flagged c.args.flags.now in
    sym c.loop-turn.invariant.taken
    ∙ all_turns I path sites (flagged_below I c.args.flags.now c.requires.long) (map (λ t. t.cust) turns) c.loop-turn.turn-index (omega (arith, c.loop-turn-test.false, length-map turns (λ t. t.cust)))
    ∙ ap (fold (taking I path sites) (Some [])) (turns_are I c.requires.valid turns c.requires.turns)
