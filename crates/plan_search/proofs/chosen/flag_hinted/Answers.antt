use Rattle.std.proofs.Common.{◌≡◌, ◌<◌, ◌+◌, take, length, subst, sym}
use Rattle.std.specs.Prelude.{Contains}
use Rattle.std.proofs.lemmas.Bool.{false≢true}
use Rattle.location_terms.specs.Instance.{site_at, site_ids}
use Rattle.plan_search.proofs.Hinted.{AreHinted, none_hinted, hint_flagged, hint_unknown, all_hinted}
use Rattle.plan_search.proofs.chosen.flag_hinted.Goals as goal
use Rattle.plan_search.proofs.chosen.flag_hinted.Goals.{in-Some, in_default}

pub loop-id-init : goal.loop-id-init
loop-id-init c = none_hinted c.args.boxed.now.instance c.args.boxed.now.path c.args.flags.now c.requires.long c.requires.none

pub loop-id-preserved : goal.loop-id-preserved
loop-id-preserved c =
    let I = c.args.boxed.now.instance in
    let path = c.args.boxed.now.path in
    let hint = c.args.hint.now in
    let k = c.loop-id.id-index in
    let id = c.id-item.result in
    let flags = c.loop-id.flags in
    elim c.match-site_at.branch [
      | in-Some w ↦
          let site = w.in-Some.site in
          let found : (site < length I.sites) × ((site_at I site).id ≡ id) = subst (λ J. (site < length J.sites) × ((site_at J site).id ≡ id)) c.instance-inst.ensures w.in-Some.ensures.found in
          subst (AreHinted I path (take (k + 1) hint)) (sym w.flags-is)
          (hint_flagged I path hint k id flags c.loop-id-test.true c.id-item.is c.loop-id.invariant c.requires.valid site w.is_free.result found.0 found.1 w.is_free.ensures)
      | in_default w ↦
          let unknown : Contains (site_ids I) id → ⊥ = λ known. false≢true (w.in_default.ensures.known.1 (subst (λ J. Contains (site_ids J) id) (sym c.instance-inst.ensures) known)) in
          subst (AreHinted I path (take (k + 1) hint)) (sym w.flags-is) (hint_unknown I path hint k id flags c.loop-id-test.true c.id-item.is c.loop-id.invariant unknown)
    ]

pub returns : goal.returns
returns c =
    record {
      long = c.loop-id.auto.flags;
      exact = all_hinted c.args.boxed.now.instance c.args.boxed.now.path c.args.hint.now c.loop-id.id-index c.loop-id.flags c.loop-id-test.false c.loop-id.invariant;
    }
