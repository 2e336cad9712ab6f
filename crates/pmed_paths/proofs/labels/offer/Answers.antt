use Rattle.std.proofs.Common.{refl, inr, arith}
use Rattle.std.proofs.lemmas.List.Sorted.{IsPermutation-map}
use Rattle.pmed_paths.proofs.labels.offer.Goals as goal

pub returns : goal.returns
returns c = inr (omega arith, refl, IsPermutation-map (λ e. e.0) _ _ c.in_ok-push.ensures.permutation)
