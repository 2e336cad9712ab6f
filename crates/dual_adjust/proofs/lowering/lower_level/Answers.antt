use Rattle.std.proofs.Common.{◌≡◌, false, true, sym, subst, ◌∙◌, ℤ, Option, Some}
use Rattle.std.specs.Prelude.{MatchOption}
use Rattle.dual_adjust.specs.Slackness.{tight_sites, is_violating}
use Rattle.dual_adjust.specs.Adjustment.{greatest}
use Rattle.dual_adjust.specs.Paid.{levels_below}
use Rattle.dual_adjust.proofs.Lowered.{violating_lowers}
use Rattle.dual_adjust.proofs.lowering.lower_level.Goals as goal

pub returns : goal.returns
returns c =
    let I = c.args.boxed.now.instance in
    let path = c.args.boxed.now.path in
    let d = c.args.duals.now in
    let j = c.args.cust in
    let violating : is_violating I path d (tight_sites I path d) j ≡ true = sym c.pays_two_tight.ensures ∙ c.if-not-pays_two_tight.false in
    let lower = violating_lowers I path d j (tight_sites I path d) violating in
    subst (λ (o : Option ℤ). MatchOption o (is_violating I path d (tight_sites I path d) j ≡ false) (λ level. (is_violating I path d (tight_sites I path d) j ≡ true) × (greatest (levels_below I path d j) ≡ Some level)))
    (sym (c.level_below.ensures ∙ lower.1)) (violating, lower.1)
