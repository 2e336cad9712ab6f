use Rattle.std.proofs.Common.{◌+◌, ◌<◌, length, sum_by, subst, ◌∙◌, arith}
use Rattle.pmed_paths.specs.Labels.{offers, IsGone, IsSearch}
use Rattle.pmed_paths.proofs.Offers.{taken-inside, rest-inside, rest-shorter}
use Rattle.pmed_paths.proofs.Searches.{search-passed, search-gone}
use Rattle.pmed_paths.proofs.labels.settle.Goals as goal

pub bounds-labels-vertex : goal.bounds-labels-vertex
bounds-labels-vertex c = taken-inside (length c.loop-cost.labels) (offers c.loop-cost.waiting) (offers c.next.new.waiting) c.in-Some.cost c.in-Some.vertex c.loop-cost.invariant.0 c.in-Some.ensures.some

pub row_at-requires : goal.row_at-requires
row_at-requires c =
    let inside = taken-inside (length c.loop-cost.labels) (offers c.loop-cost.waiting) (offers c.next.new.waiting) c.in-Some.cost c.in-Some.vertex c.loop-cost.invariant.0 c.in-Some.ensures.some in
    omega (arith, inside, c.loop-cost.invariant.1)

pub relax-requires : goal.relax-requires
relax-requires c =
    let inside = taken-inside (length c.loop-cost.labels) (offers c.loop-cost.waiting) (offers c.next.new.waiting) c.in-Some.cost c.in-Some.vertex c.loop-cost.invariant.0 c.in-Some.ensures.some in
    rw c.row_at.ensures (λ k d below. let at = c.requires.rows c.in-Some.vertex (omega (arith, inside, c.loop-cost.invariant.1)) k d below in omega (arith, at, c.loop-cost.invariant.1))

pub loop-cost-smaller-in-Continue-1 : goal.loop-cost-smaller-in-Continue-1
loop-cost-smaller-in-Continue-1 c =
    let shorter = rest-shorter (offers c.loop-cost.waiting) (offers c.next.new.waiting) c.in-Some.cost c.in-Some.vertex c.in-Some.ensures.some in
    let fewer = c.in_ok-relax.ensures.better.fewer in
    let falls : sum_by (λ x. x) c.relax.new.labels + length (offers c.relax.new.waiting) < sum_by (λ x. x) c.loop-cost.labels + length (offers c.loop-cost.waiting) = omega (arith, shorter, fewer) in
    falls

pub loop-cost-preserved-in-Continue-1 : goal.loop-cost-preserved-in-Continue-1
loop-cost-preserved-in-Continue-1 c =
    let H = offers c.loop-cost.waiting in
    let H' = offers c.next.new.waiting in
    let H'' = offers c.relax.new.waiting in
    let inside = taken-inside (length c.loop-cost.labels) H H' c.in-Some.cost c.in-Some.vertex c.loop-cost.invariant.0 c.in-Some.ensures.some in
    let rest = rest-inside (length c.loop-cost.labels) H H' c.in-Some.cost c.in-Some.vertex c.loop-cost.invariant.0 c.in-Some.ensures.some in
    let gone = c.in_ok-relax.ensures in
    let along = subst (λ row. IsGone row c.in-Some.cost (length row) c.loop-cost.labels H' c.relax.new.labels H'') c.row_at.ensures gone in (
      gone.better.inside rest,
      gone.better.same_length ∙ c.loop-cost.invariant.1,
      λ N s net are begun.
          search-gone N s c.args.rows.now c.loop-cost.labels H H' c.in-Some.cost c.in-Some.vertex c.relax.new.labels H'' are inside c.in-Some.ensures.some c.if-cost-labels.true along (c.loop-cost.invariant.2 N s net are begun),
    )

pub loop-cost-smaller : goal.loop-cost-smaller
loop-cost-smaller c =
    let shorter = rest-shorter (offers c.loop-cost.waiting) (offers c.next.new.waiting) c.in-Some.cost c.in-Some.vertex c.in-Some.ensures.some in
    let falls : sum_by (λ x. x) c.loop-cost.labels + length (offers c.next.new.waiting) < sum_by (λ x. x) c.loop-cost.labels + length (offers c.loop-cost.waiting) = omega (arith, shorter) in
    falls

pub loop-cost-preserved : goal.loop-cost-preserved
loop-cost-preserved c =
    let H = offers c.loop-cost.waiting in
    let H' = offers c.next.new.waiting in
    let rest = rest-inside (length c.loop-cost.labels) H H' c.in-Some.cost c.in-Some.vertex c.loop-cost.invariant.0 c.in-Some.ensures.some in (
      rest,
      c.loop-cost.invariant.1,
      λ N s net are begun.
          search-passed N s c.args.rows.now c.loop-cost.labels H H' c.in-Some.cost c.in-Some.vertex c.in-Some.ensures.some c.if-cost-labels.false (c.loop-cost.invariant.2 N s net are begun),
    )

pub returns : goal.returns
returns c = λ N s net are begun. subst (λ H. IsSearch N s c.args.rows.now c.loop-cost.labels H) c.in_default.ensures.none (c.loop-cost.invariant.2 N s net are begun)
