use Rattle.std.proofs.Common.{◌≡◌, ◌∙◌, sym, subst, true, ◌&&◌}
use Rattle.std.proofs.lemmas.Bool.{and_parts}
use Rattle.location_terms.specs.Split.{IsSplitAmong}
use Rattle.location_terms.specs.Instance.{site_ids}
use Rattle.leaf_repair.specs.CarriedTree.{knows_split}
use Rattle.leaf_repair.proofs.Listed.{known_among}
use Rattle.leaf_repair.proofs.reducing.branch.Goals as goal

pub split-requires-clause-split : goal.split-requires-clause-split
split-requires-clause-split c =
    let I = c.args.inst.now in
    let kept : (c.args.is_wanted && knows_split I c.args.split) ≡ true = sym c.keeps-is_kept.ensures ∙ c.if-is_kept.true in
    let known : knows_split I c.args.split ≡ true = (and_parts c.args.is_wanted (knows_split I c.args.split) kept).1 in
    subst (λ s. IsSplitAmong s c.args.course.now.over.customers c.args.split) (sym c.requires.sites)
    (subst (λ n. IsSplitAmong (site_ids I) n c.args.split) (sym c.requires.customers) (known_among I c.args.split known))
