use Rattle.std.proofs.Common.{◌≡◌, ap, sym, subst, ◌∙◌}
use Rattle.std.specs.Prelude.{All}
use Rattle.location_terms.specs.declared.limits.TheConstants.{MAX_COST}
use Rattle.location_terms.specs.Instance.{Instance}
use Rattle.location_terms.specs.Optimal.{IsLowEnd}
use Rattle.location_terms.specs.Box.{Path}
use Rattle.location_terms.specs.Bound.{Duals}
use Rattle.location_terms.specs.Leaf.{LeafFits}
use Rattle.location_terms.specs.Tree.{leaves_of, low_of}
use Rattle.location_terms.proofs.LowEnds.{shows_low}
use Rattle.branch_tree.specs.Walk.{lowered_all}
use Rattle.branch_tree.proofs.Judged.{lowered_is, all_of_instance}
use Rattle.branch_tree.proofs.tree.Tree.low_by.Goals as goal

pub least_low-requires : goal.least_low-requires
least_low-requires c =
    subst (λ (I : Instance). All (λ (l : Path × Duals). LeafFits I l.1) c.in_ok-leaves.field-0) (sym c.requires.bounds)
    (subst (All (λ (l : Path × Duals). LeafFits c.args.inst.now l.1)) (sym c.in_ok-leaves.ensures.leaves) c.requires.fit)

pub returns : goal.returns
returns c =
    let I = c.args.inst.now in
    let exact : c.in_ok-low.low ≡ low_of I c.args.self.now =
    c.in_ok-low.ensures.exact
    ∙ ap (λ (J : Instance). lowered_all J MAX_COST c.in_ok-leaves.field-0) c.requires.bounds
    ∙ ap (lowered_all I MAX_COST) c.in_ok-leaves.ensures.leaves
    ∙ sym (lowered_is I MAX_COST (leaves_of c.args.self.now)) in
    record {
      kept = c.least_low.ensures.kept;
      exact = exact;
      low_end = λ rays. subst (IsLowEnd I) (sym exact) (shows_low I c.sites-valid.ensures.valid c.args.self.now (all_of_instance I (leaves_of c.args.self.now) c.requires.fit) rays);
    }
