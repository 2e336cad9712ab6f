use Rattle.std.proofs.Common.{◌≡◌, map}
use Rattle.std.specs.Prelude.{filter}
use Rattle.std.specs.List.{range_with_len}
use Rattle.location_terms.specs.Instance.{site_at}
use Rattle.dual_adjust.specs.Slackness.{is_tight}
use Rattle.dual_adjust.proofs.trials.tight.Given as goal

abbrev pub invariant-loop-site : goal.invariant-loop-site
invariant-loop-site l = l.sites.items ≡ map (λ i. (site_at l.boxed.instance i).id) (filter (is_tight l.boxed.instance l.boxed.path l.ascended.duals) (range_with_len 0 l.site))
