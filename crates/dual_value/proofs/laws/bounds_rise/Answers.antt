use Rattle.dual_value.proofs.Further.{bound_rises, bound_rises_closed}
use Rattle.dual_value.proofs.laws.bounds_rise.Goals as goal

pub returns-clause-opened : goal.returns-clause-opened
returns-clause-opened c I path d s = bound_rises I path _ d (λ i b called closes. cc)

pub returns-clause-closed : goal.returns-clause-closed
returns-clause-closed c I path d i valid b free = bound_rises_closed I path d i valid b free

pub returns-clause-without : goal.returns-clause-without
returns-clause-without c I path d s k = bound_rises I path _ d (λ i b called closes. cc)

pub returns-clause-using : goal.returns-clause-using
returns-clause-using c I path d s k = bound_rises I path _ d (λ i b called closes. cc)
