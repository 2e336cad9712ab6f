use Rattle.std.proofs.Common.{◌≡◌, ℕ, ◌<◌, ◌≤◌, length}
use Rattle.std.specs.Prelude.{◌||◌}
use Rattle.location_terms.specs.Instance.{site_at}
use Rattle.location_terms.specs.Box.{is_opened}
use Rattle.plan_search.specs.Flags.{is_set}
use Rattle.plan_search.proofs.chosen.add_opened.Given as goal

abbrev pub invariant-loop-site : goal.invariant-loop-site
invariant-loop-site l = record {
  long : length l.flags ≡ length l.fn.flags;
  each : (i : ℕ) → i < l.site → is_set l.flags i ≡ (is_opened l.boxed.path (site_at l.boxed.instance i) || is_set l.fn.flags i);
  rest : (i : ℕ) → l.site ≤ i → is_set l.flags i ≡ is_set l.fn.flags i;
}
