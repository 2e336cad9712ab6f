use Rattle.std.proofs.Common.{◌≡◌, ℕ, ◌+◌, ◌-◌, length, ap, ◌∙◌}
use Rattle.plan_search.specs.Packed.{opened_places}
use Rattle.plan_search.specs.Flags.{flagged}
use Rattle.plan_search.proofs.Choosing.{chosen_is}
use Rattle.plan_search.proofs.chosen.choose.Goals as goal

pub returns-clause-exact : goal.returns-clause-exact
returns-clause-exact c =
    let I = c.args.boxed.now.instance in
    let path = c.args.boxed.now.path in
    let opened : c.opened_count-opened.result ≡ length (opened_places I path) = c.opened_count-opened.ensures.exact in
    let lo : c.count-lo.result.0 ≡ I.lo = ap (λ (p : ℕ × ℕ). p.0) c.count-lo.ensures ∙ ap (λ J. J.lo) c.instance.ensures in
    let hi : c.count-lo.result.1 ≡ I.hi = ap (λ (p : ℕ × ℕ). p.1) c.count-lo.ensures ∙ ap (λ J. J.hi) c.instance.ensures in
    let missing : c.saturating_sub-missing.result ≡ I.lo - (length (opened_places I path) + length (flagged c.flag_hinted.new.flags)) = cc (c.saturating_sub-missing.ensures, c.flag_count.ensures.exact) in
    let kept : c.saturating_sub.result ≡ length (flagged c.join.new.flags) - ((length (opened_places I path) + length (flagged c.join.new.flags)) - I.hi) =
    cc (c.saturating_sub.ensures, c.saturating_sub-surplus.ensures, c.flag_count-joined.ensures.exact) in
    chosen_is I path c.args.hint.now c.flag_hinted.new.flags c.flag_hinted.ensures.exact c.saturating_sub-missing.result missing c.join.new.flags c.join.ensures
    c.saturating_sub.result kept c.keep_first.new.flags (c.keep_first.ensures.long ∙ c.join.ensures.long) c.keep_first.ensures.exact c.add_opened.new.flags c.add_opened.ensures
