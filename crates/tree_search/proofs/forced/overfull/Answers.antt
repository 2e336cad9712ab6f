use Rattle.std.proofs.Common.{◌≡◌, ℕ, Option, ◌∙◌, sym, ap, subst, inl, inr, arith, true}
use Rattle.std.specs.Prelude.{slice_index}
use Rattle.std.proofs.lemmas.Bool.{both_ways, cases_lt}
use Rattle.location_terms.specs.Instance.{Instance, site_at}
use Rattle.location_terms.specs.Box.{holds_demand, is_opened}
use Rattle.tree_search.proofs.forced.overfull.Goals as goal
use Rattle.tree_search.proofs.forced.overfull.Goals.{else-is_opened-via-then-is_opened+else-not-holds, else-is_opened-via-else-is_opened}

pub loop-site-preserved : goal.loop-site-preserved
loop-site-preserved c = λ i b opens.
    let I = c.args.boxed.now.instance in
    let loads = c.args.loads.now in
    let k = c.loop-site.site in
    elim (cases_lt i k) [
      | inl below ↦ c.loop-site.invariant i below opens
      | inr above ↦
          let same : k ≡ i = omega (arith, above, b) in
          elim c.else-is_opened.branch [
            | else-is_opened-via-then-is_opened+else-not-holds w ↦ subst (λ (n : ℕ). holds_demand (site_at I n).cap (slice_index loads n) ≡ true) same
                (ap (λ (o : Option ℕ). holds_demand o (slice_index loads k)) (sym (w.cap.ensures.exact ∙ ap (λ (J : Instance). (site_at J k).cap) w.instance.ensures)) ∙ sym w.holds.ensures ∙ w.if-not-holds.false)
            | else-is_opened-via-else-is_opened w ↦ absurd (both_ways (is_opened c.args.boxed.now.path (site_at I k)) (sym c.is_opened.ensures ∙ w.if-is_opened.false) (subst (λ (n : ℕ). is_opened c.args.boxed.now.path (site_at I n) ≡ true) (sym same) opens))
          ]
    ]
