use Rattle.std.proofs.lemmas.List.Sorted.{IsPermutation-map}
use Rattle.pmed_paths.proofs.labels.next.Goals as goal

pub returns-in-Some-clause-some : goal.returns-in-Some-clause-some
returns-in-Some-clause-some c = IsPermutation-map (λ e. e.0) _ _ c.in-Some.ensures.permutation
