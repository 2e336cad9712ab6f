use Rattle.std.proofs.Common.{◌≡◌, ℕ, ◌<◌, length}
use Rattle.std.specs.Prelude.{slice_index, sum_by}
use Rattle.location_terms.specs.Instance.{customer_at}
use Rattle.plan_search.proofs.Flagging.{passing}
use Rattle.tree_search.specs.Rays.{is_forced}
use Rattle.tree_search.proofs.forced.add_forced.Given as goal

abbrev pub invariant-loop-cust : goal.invariant-loop-cust
invariant-loop-cust l = record {
  long : length l.loads ≡ length l.boxed.instance.sites;
  exact : (i : ℕ) → i < length l.loads → slice_index l.loads i ≡ sum_by (λ j. (customer_at l.boxed.instance j).demand) (passing (is_forced l.boxed.instance l.boxed.path i) l.cust);
}
