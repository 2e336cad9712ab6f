use Rattle.std.proofs.Common.{ℕ, Bool, true, ◌-◌, ◌+◌, sym, ◌∙◌, inl, inr, arith}
use Rattle.std.specs.Prelude.{◌&&◌, not}
use Rattle.std.proofs.Math.ListN.{set}
use Rattle.std.proofs.lemmas.Bool.{and_from, and_left, and_right, not_from_true, not_from_false}
use Rattle.location_terms.specs.Instance.{site_at}
use Rattle.location_terms.specs.Box.{is_free}
use Rattle.plan_search.specs.Flags.{is_set}
use Rattle.plan_search.proofs.Flagging.{joined_same, joined_more, joined_as}
use Rattle.plan_search.proofs.chosen.join.Goals as goal
use Rattle.plan_search.proofs.chosen.join.Goals.{then-left-gt0+then-is_free+then-not-flags-site, else-left-gt0, else-left-gt0-via-then-left-gt0+then-is_free+else-not-flags-site, else-left-gt0-via-then-left-gt0+else-is_free, else-left-gt0-via-else-left-gt0}

pub loop-site-preserved : goal.loop-site-preserved
loop-site-preserved c =
    let most = c.args.most in
    let old = c.args.flags.now in
    let new = c.loop-site.flags in
    let i = c.loop-site.site in
    let left = c.loop-site.left in
    let p : ℕ → Bool = λ k. is_free c.args.boxed.now.path (site_at c.args.boxed.now.instance k) && not (is_set old k) in
    elim c.if-left-gt0.branch [
      | then-left-gt0+then-is_free+then-not-flags-site w ↦
          joined_as p most (i + 1) (left - 1) _ old (set new i true) _ w.left-is w.flags-is
          (joined_more p most i left old new c.loop-site.invariant (omega (arith, c.loop-site-test.true, c.loop-site.auto.flags)) w.if-left-gt0.true
          (and_from _ _ (sym w.is_free.ensures ∙ w.if-is_free.true) (not_from_false _ (sym (c.loop-site.invariant.rest i (omega arith)) ∙ w.if-not-flags-site.true))))
      | else-left-gt0 w ↦
          joined_as p most (i + 1) left _ old new _ w.left-is w.flags-is
          (joined_same p most i left old new c.loop-site.invariant
          (elim w.else-left-gt0.branch [
            | else-left-gt0-via-then-left-gt0+then-is_free+else-not-flags-site v ↦ inr (and_right _ _ (not_from_true _ (sym (c.loop-site.invariant.rest i (omega arith)) ∙ v.if-not-flags-site.false)))
            | else-left-gt0-via-then-left-gt0+else-is_free v ↦ inr (and_left _ _ (sym v.is_free.ensures ∙ v.if-is_free.false))
            | else-left-gt0-via-else-left-gt0 v ↦ inl (omega (arith, v.if-left-gt0.false))
          ]))
    ]
