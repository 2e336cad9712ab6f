use Rattle.std.proofs.Common.{refl, ◌≡◌, ℕ, ◌<◌, ◌++◌, [], List, sym, ap, ◌∙◌, arith, length, map, Some}
use Rattle.std.specs.Option.{option_copied}
use Rattle.location_terms.specs.Box.{Path}
use Rattle.location_terms.specs.Bound.{Duals}
use Rattle.branch_tree.specs.Preorder.{flat}
use Rattle.branch_tree.specs.Made.{duals_at}
use Rattle.branch_tree.proofs.Flat.{length-flat}
use Rattle.leaf_book.specs.declared.places.LeafPlace.{LeafPlace}
use Rattle.leaf_book.specs.Book.{placed_leaf}
use Rattle.leaf_book.proofs.Placed.{leaf_duals, leaf_ahead, passed_ahead, passed_told, skipped_ahead, all_placed}
use Rattle.leaf_book.proofs.places.leaf_places.Goals.{in-Some+in_ok-path-in-Some+in_ok-push-in-Some+in_ok-pass-in-Some, in-None}
use Rattle.leaf_book.proofs.places.leaf_places.Goals as goal

pub loop-node-init : goal.loop-node-init
loop-node-init c =
    let t = c.args.tree.now in
    record {
      ahead = ap (λ (ls : List (Path × Duals)). map (λ a. a.1) ls) c.in_ok-walk.ensures.leaves ∙ leaf_duals t.root [];
      told = λ k. map (placed_leaf t) (c.in_ok-places.ensures.items k) ++ map (λ a. (a.0, Some a.1)) (c.in_ok-walk.ensures.leaves k);
    }

pub leaf-requires : goal.leaf-requires
leaf-requires c =
    let t = c.args.tree.now in
    let node : ℕ = c.loop-node.node in
    let here : duals_at t.root node ≡ Some c.in-Some.field-0.now = sym c.duals.ensures ∙ ap option_copied c.in-Some.is in
    leaf_ahead t c.loop-node.walk node (omega (arith, length-flat t.root, c.nodes-node-end.ensures.count)) c.loop-node.invariant.ahead c.in-Some.field-0.now here

pub loop-node-preserved : goal.loop-node-preserved
loop-node-preserved c =
    let t = c.args.tree.now in
    let node : ℕ = c.loop-node.node in
    let walk : List (Path × Duals) = c.loop-node.walk in
    let inside : node < length (flat t.root) = omega (arith, length-flat t.root, c.nodes-node-end.ensures.count) in
    let inv = c.loop-node.invariant in
    elim c.match-duals.branch [
      | in-Some+in_ok-path-in-Some+in_ok-push-in-Some+in_ok-pass-in-Some w ↦
          let d : Duals = w.in-Some.field-0.now in
          let found : duals_at t.root node ≡ Some d = sym c.duals.ensures ∙ ap option_copied w.in-Some.is in
          let l : Path × Duals = (w.leaf.result.0.now, w.leaf.result.1.now) in
          let passed = w.walk-is ∙ w.in_ok-pass-in-Some.ensures in
          let p : LeafPlace = record { node = node; path = w.in_ok-path-in-Some.path } in
          record {
            ahead = passed_ahead t walk node inside inv.ahead d found l w.leaf.ensures c.match-duals.walk passed;
            told = passed_told t walk node inside inv.ahead d found l w.leaf.ensures c.match-duals.walk passed c.loop-node.places.items c.match-duals.places.items p (ap (λ x. x.items) w.places-is ∙ w.in_ok-push-in-Some.ensures.items) w.in_ok-path-in-Some.ensures refl ∙ inv.told;
          }
      | in-None w ↦
          record {
            ahead = ap (λ (ls : List (Path × Duals)). map (λ a. a.1) ls) w.walk-is ∙ skipped_ahead t walk node inside inv.ahead (sym c.duals.ensures ∙ ap option_copied w.in-None.is);
            told = (λ k. map (placed_leaf t) (w.places-is k).items ++ map (λ a. (a.0, Some a.1)) (w.walk-is k)) ∙ inv.told;
          }
    ]

pub returns : goal.returns
returns c =
    let t = c.args.tree.now in
    all_placed t c.loop-node.places.items c.loop-node.walk c.loop-node.node (omega (arith, length-flat t.root, c.nodes-node-end.ensures.count)) c.loop-node.invariant.ahead c.loop-node.invariant.told
