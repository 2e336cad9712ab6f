use Rattle.std.proofs.Common.{◌≤◌, ◌∙◌, subst, ℕ}
use Rattle.std.specs.Prelude.{◌↔◌}
use Rattle.location_terms.specs.Instance.{Instance}
use Rattle.location_terms.specs.Box.{Path}
use Rattle.location_terms.specs.Bound.{Duals}
use Rattle.location_terms.specs.Leaf.{LeafFits}
use Rattle.branch_tree.proofs.Judged.{first_has, rest_has, all_have}
use Rattle.range_scan.specs.Short.{LacksAtMost}
use Rattle.range_scan.proofs.lacking.most_lacking.Goals as goal

pub loop-walk-preserved : goal.loop-walk-preserved
loop-walk-preserved c =
    let I = c.args.bounds.now in
    let leaf : Path × Duals = (c.leaf.result.0.now, c.leaf.result.1.now) in
    let both : (w : ℕ) → (c.in_ok-most.most ≤ w) ↔ ((c.loop-walk.most ≤ w) × LacksAtMost I c.args.target w leaf) =
    subst (λ (J : Instance). (w : ℕ) → (c.in_ok-most.most ≤ w) ↔ ((c.loop-walk.most ≤ w) × LacksAtMost J c.args.target w leaf)) c.loop-walk.invariant.bounds c.in_ok-most.ensures.exact in
    record {
      bounds = c.raised.ensures.kept ∙ c.loop-walk.invariant.bounds;
      fit = rest_has (λ (l : Path × Duals). LeafFits I l.1) c.loop-walk.walk c.pass.new.self leaf c.leaf.ensures c.in_ok-pass.ensures c.loop-walk.invariant.fit;
      ahead = λ w most rest.
          let was = (both w).0 most in
          c.loop-walk.invariant.ahead w was.0 (all_have (LacksAtMost I c.args.target w) c.loop-walk.walk c.pass.new.self leaf c.leaf.ensures c.in_ok-pass.ensures was.1 rest);
      back = λ w all.
          let was = c.loop-walk.invariant.back w all in
          ((both w).1 (was.0, first_has (LacksAtMost I c.args.target w) c.loop-walk.walk leaf c.leaf.ensures was.1), rest_has (LacksAtMost I c.args.target w) c.loop-walk.walk c.pass.new.self leaf c.leaf.ensures c.in_ok-pass.ensures was.1);
    }
