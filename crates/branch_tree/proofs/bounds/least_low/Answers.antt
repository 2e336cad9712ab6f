use Rattle.std.proofs.Common.{◌≡◌, ◌∙◌, ap}
use Rattle.location_terms.specs.Instance.{Instance}
use Rattle.location_terms.specs.Box.{Path}
use Rattle.location_terms.specs.Bound.{Duals}
use Rattle.location_terms.specs.Leaf.{LeafFits}
use Rattle.branch_tree.specs.Walk.{lowered, lowered_all}
use Rattle.branch_tree.proofs.Judged.{rest_has, lower_first}
use Rattle.branch_tree.proofs.bounds.least_low.Goals as goal

pub loop-walk-preserved : goal.loop-walk-preserved
loop-walk-preserved c =
    let I = c.args.bounds.now in
    let leaf : Path × Duals = (c.leaf.result.0.now, c.leaf.result.1.now) in
    let least : c.in_ok-least.least ≡ lowered I c.loop-walk.least leaf = c.in_ok-least.ensures.exact ∙ ap (λ (J : Instance). lowered J c.loop-walk.least leaf) c.loop-walk.invariant.bounds in
    record {
      bounds = c.lowered.ensures.kept ∙ c.loop-walk.invariant.bounds;
      fit = rest_has (λ (l : Path × Duals). LeafFits I l.1) c.loop-walk.walk c.pass.new.self leaf c.leaf.ensures c.in_ok-pass.ensures c.loop-walk.invariant.fit;
      low =
          ap (λ n. lowered_all I n c.pass.new.self) least
          ∙ lower_first I c.loop-walk.walk c.pass.new.self leaf c.loop-walk.least c.leaf.ensures c.in_ok-pass.ensures
          ∙ c.loop-walk.invariant.low;
    }
