use Rattle.std.proofs.Common.{sym, subst, ◌∙◌}
use Rattle.dual_ascent.specs.Steps.{IsBlocker, IsReached}
use Rattle.dual_ascent.proofs.Offers.{spent_is}
use Rattle.dual_ascent.proofs.Looked.{blocked_by_spent}
use Rattle.dual_ascent.proofs.climbing.is_still_blocked.Goals as goal

pub is_spent-requires : goal.is_spent-requires
is_spent-requires c =
    let reached : IsReached c.args.boxed.now.instance c.args.boxed.now.path c.args.duals.now c.args.cust c.in-Some.site = subst (IsBlocker c.args.boxed.now.instance c.args.boxed.now.path c.args.duals.now c.args.cust) c.in-Some.is c.requires.blocker in
    reached.within

pub returns-in-Some : goal.returns-in-Some
returns-in-Some c = λ spent.
    let I = c.args.boxed.now.instance in
    let path = c.args.boxed.now.path in
    let d = c.args.duals.now in
    let i = c.in-Some.site in
    let reached : IsReached I path d c.args.cust i = subst (IsBlocker I path d c.args.cust) c.in-Some.is c.requires.blocker in
    let is = spent_is I path d c.requires.valid c.requires.fit i reached.within c.args.slacks.now c.requires.slacks c.is_spent.result c.is_spent.ensures in
    blocked_by_spent I path d c.args.cust i reached (sym is ∙ spent)
