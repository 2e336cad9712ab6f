use Rattle.plan_meaning.proofs.Rising.{search_finds}
use Rattle.plan_meaning.proofs.plan.Plan.opens.Goals as goal

pub returns : goal.returns
returns c =
    rw (c.is_ok.ensures.value, ← c.self.view_is, ← c.deref.ensures.value) (search_finds _ _ _ (rw c.deref.ensures.value c.self.invariant.sites_rise) c.binary_search.ensures.position)
