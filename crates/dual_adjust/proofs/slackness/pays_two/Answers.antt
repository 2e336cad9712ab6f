use Rattle.std.proofs.Common.{◌+◌, arith, length, sym, subst, ◌∙◌, true}
use Rattle.dual_adjust.proofs.MoreThanOne.{IsSeen, nothing_seen, seen_next, seen_first}
use Rattle.dual_adjust.proofs.PlacesPaid.{pays, place, second_place, no_second_place}
use Rattle.dual_adjust.proofs.slackness.pays_two.Goals as goal
use Rattle.dual_adjust.proofs.slackness.pays_two.Goals.{then-pays+else-paid, else-pays}

pub loop-site-init : goal.loop-site-init
loop-site-init c =
    nothing_seen (pays c.args.boxed.now.instance c.args.boxed.now.path c.args.duals.now c.args.cust c.args.places.now)
    (place c.args.boxed.now.instance c.args.boxed.now.path c.args.duals.now c.args.cust c.args.places.now)

pub returns-then-paid : goal.returns-then-paid
returns-then-paid c = λ ids of.
    let I = c.args.boxed.now.instance in
    let path = c.args.boxed.now.path in
    let d = c.args.duals.now in
    let places = c.args.places.now in
    let k = c.loop-site.site-index in
    let found : IsSeen (pays I path d c.args.cust places) (place I path d c.args.cust places) k true = subst (IsSeen (pays I path d c.args.cust places) (place I path d c.args.cust places) k) c.if-paid.true c.loop-site.invariant in
    sym (second_place I path d c.args.cust places ids of k c.loop-site-test.true found (sym c.pays.ensures ∙ c.if-pays.true))

pub loop-site-preserved : goal.loop-site-preserved
loop-site-preserved c =
    let I = c.args.boxed.now.instance in
    let path = c.args.boxed.now.path in
    let d = c.args.duals.now in
    let places = c.args.places.now in
    let k = c.loop-site.site-index in
    let passes = pays I path d c.args.cust places in
    let at = place I path d c.args.cust places in
    elim c.if-pays.branch [
      | then-pays+else-paid w ↦ subst (IsSeen passes at (k + 1)) (sym w.paid-is) (seen_first passes at k (subst (IsSeen passes at k) w.if-paid.false c.loop-site.invariant) (sym c.pays.ensures ∙ w.if-pays.true))
      | else-pays w ↦ subst (IsSeen passes at (k + 1)) (sym w.paid-is) (seen_next passes at c.loop-site.paid k c.loop-site.invariant (sym c.pays.ensures ∙ w.if-pays.false))
    ]

pub returns : goal.returns
returns c = λ ids of.
    let I = c.args.boxed.now.instance in
    let path = c.args.boxed.now.path in
    let d = c.args.duals.now in
    let places = c.args.places.now in
    let all_seen : IsSeen (pays I path d c.args.cust places) (place I path d c.args.cust places) (length places) c.loop-site.paid =
    subst (λ n. IsSeen (pays I path d c.args.cust places) (place I path d c.args.cust places) n c.loop-site.paid) (omega arith) c.loop-site.invariant in
    sym (no_second_place I path d c.args.cust places ids of c.loop-site.paid all_seen)
