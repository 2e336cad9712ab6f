use Rattle.std.proofs.Common.{sym, ◌∙◌}
use Rattle.dual_ascent.proofs.Seated.{seats_none, seats_set, seats_kept}
use Rattle.dual_ascent.proofs.seating.seat.Goals as goal

pub returns-in_default : goal.returns-in_default
returns-in_default c = sym (seats_none c.args.boxed.now.instance c.args.boxed.now.path c.args.duals.now c.args.cust (sym c.least_level.ensures ∙ c.in_default.is))

pub returns-then-v-level : goal.returns-then-v-level
returns-then-v-level c =
    let is = sym c.least_level.ensures ∙ c.in-Some.is in
    c.set_v.ensures ∙ seats_set c.args.boxed.now.instance c.args.boxed.now.path c.args.duals.now c.args.cust c.requires.valid c.requires.tame.fit c.requires.customer c.in-Some.level c.v.result is c.v.ensures c.if-v-level.true

pub returns-else-v-level : goal.returns-else-v-level
returns-else-v-level c =
    let is = sym c.least_level.ensures ∙ c.in-Some.is in
    seats_kept c.args.boxed.now.instance c.args.boxed.now.path c.args.duals.now c.args.cust c.requires.valid c.requires.tame.fit c.requires.customer c.in-Some.level c.v.result is c.v.ensures c.if-v-level.false
