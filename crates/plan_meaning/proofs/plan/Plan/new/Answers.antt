use Rattle.std.proofs.Common.{◌≡◌, true}
use Rattle.plan_meaning.proofs.plan.Plan.new.Goals as goal
use Rattle.plan_meaning.proofs.plan.Plan.new.Goals.{else-sites_rise-via-then-sites_rise+else-customers_rise, else-sites_rise-via-else-sites_rise}

pub returns-else-sites_rise : goal.returns-else-sites_rise
returns-else-sites_rise c = λ p. elim c.else-sites_rise.branch [
  | else-sites_rise-via-then-sites_rise+else-customers_rise w ↦
      let rise : w.customers_rise.result ≡ true = w.customers_rise.ensures.1 (rw w.deref-then-sites_rise.ensures.value p.customers_rise) in
      cc
  | else-sites_rise-via-else-sites_rise w ↦
      let rise : c.sites_rise.result ≡ true = c.sites_rise.ensures.1 (rw c.deref.ensures.value p.sites_rise) in
      cc
]
