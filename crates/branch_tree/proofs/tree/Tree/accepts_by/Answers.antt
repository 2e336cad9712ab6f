use Rattle.std.proofs.Common.{sym, subst}
use Rattle.std.specs.Prelude.{All, IsTrue, ◌↔◌, length}
use Rattle.location_terms.specs.Box.{Path}
use Rattle.location_terms.specs.Bound.{Duals}
use Rattle.location_terms.specs.Leaf.{LeafCloses}
use Rattle.location_terms.specs.Tree.{HasLists, AllClose}
use Rattle.branch_tree.proofs.Judged.{lists_on, low_end_shown, impossible_shown}
use Rattle.branch_tree.proofs.tree.Tree.accepts_by.Goals as goal

pub all_close-requires-clause-lists : goal.all_close-requires-clause-lists
all_close-requires-clause-lists c =
    let I = c.args.inst.now in
    subst (All (λ (l : Path × Duals). HasLists (length I.sites) (length I.customers) l.1)) (sym c.in_ok-leaves.ensures.leaves)
    (lists_on I c.args.self.now c.in_ok-leaves.ensures.tree c.requires.stands)

pub returns : goal.returns
returns c =
    let I = c.args.inst.now in
    let exact : IsTrue c.in_ok-yes.yes ↔ AllClose I c.args.self.now c.args.target =
    subst (λ ls. IsTrue c.in_ok-yes.yes ↔ All (λ (l : Path × Duals). LeafCloses I l.0 l.1 c.args.target) ls) c.in_ok-leaves.ensures.leaves c.in_ok-yes.ensures.exact in
    record {
      kept = c.all_close.ensures.kept;
      exact = exact;
      low_end = λ y. low_end_shown I c.sites-valid.ensures.valid c.args.self.now c.args.target (exact.0 y);
      impossible = λ y. impossible_shown I c.sites-valid.ensures.valid c.args.self.now c.args.target (exact.0 y);
    }
