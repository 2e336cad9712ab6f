use Rattle.std.proofs.Common.{◌∙◌, rules, length}
use Rattle.std.specs.Prelude.{IsTrue}
use Rattle.location_terms.specs.Box.{Path}
use Rattle.location_terms.specs.Bound.{Duals}
use Rattle.location_terms.specs.Leaf.{LeafCloses}
use Rattle.location_terms.specs.Tree.{HasLists}
use Rattle.branch_tree.proofs.Judged.{rest_has, all_have}
use Rattle.branch_tree.proofs.bounds.all_close.Goals as goal

pub loop-target-preserved : goal.loop-target-preserved
loop-target-preserved c =
    let I = c.args.inst.now in
    let h = c.loop-target.invariant in
    let leaf : Path × Duals = (c.leaf.result.0.now, c.leaf.result.1.now) in
    let yes : IsTrue c.in_ok-closes_box.field-0 = search rules in
    record {
      bounds = c.closes_box.ensures.kept ∙ h.bounds;
      lists = rest_has (λ (l : Path × Duals). HasLists (length I.sites) (length I.customers) l.1) c.loop-target.walk c.pass.new.self leaf c.leaf.ensures c.in_ok-pass.ensures h.lists;
      ahead = λ rest. h.ahead (all_have (λ (l : Path × Duals). LeafCloses I l.0 l.1 c.args.target) c.loop-target.walk c.pass.new.self leaf c.leaf.ensures c.in_ok-pass.ensures (c.in_ok-closes_box.ensures.exact.0 yes) rest);
      back = λ all. rest_has (λ (l : Path × Duals). LeafCloses I l.0 l.1 c.args.target) c.loop-target.walk c.pass.new.self leaf c.leaf.ensures c.in_ok-pass.ensures (h.back all);
    }
