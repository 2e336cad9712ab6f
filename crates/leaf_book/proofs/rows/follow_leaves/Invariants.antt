use Rattle.location_terms.specs.Tree.{leaves_of}
use Rattle.leaf_book.specs.Kept.{keeps, carried_sums}
use Rattle.leaf_book.proofs.Following.{AreFollowed}
use Rattle.leaf_book.proofs.rows.follow_leaves.Given as goal

abbrev pub invariant-loop-k : goal.invariant-loop-k
invariant-loop-k l = AreFollowed (λ a. keeps l.course.inst.now a.0) (carried_sums l.course.inst.now l.course.tree.now) (leaves_of l.course.tree.now) l.k l.fn.rows l.rows l.used
