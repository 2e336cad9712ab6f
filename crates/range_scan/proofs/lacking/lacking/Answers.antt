use Rattle.std.proofs.Common.{◌≡◌, ◌*◌, ◌/◌, ◌≤◌, ◌+◌, ap, sym, subst, ◌∙◌, arith, pos, ◌-ℤ◌, ◌+ℤ◌, ◌<ℤ◌}
use Rattle.std.specs.Prelude.{◌↔◌}
use Rattle.range_scan.proofs.Lacks.{lacks_quotient, gap_kept, of_abs}
use Rattle.range_scan.proofs.lacking.lacking.Goals as goal

pub returns : goal.returns
returns c w =
    let q = c.args.q in
    let target = c.args.target in
    let gap = gap_kept c.from.result c.from-2.result c.args.bound q target c.from.ensures c.from-2.ensures (omega (arith, c.ranges.q)) (omega (arith, c.ranges.target)) c.requires.small in
    let left : pos c.unsigned_abs.result ≡ (pos (q * target) -ℤ c.args.bound) = ap pos c.unsigned_abs.ensures.value ∙ of_abs _ c.if-gap-lt0.false ∙ gap in
    subst (λ scale. (c.unsigned_abs.result / scale ≤ w) ↔ (pos (q * target) <ℤ (c.args.bound +ℤ pos (q * (w + 1))))) (sym c.from-3.ensures)
    (lacks_quotient q target c.unsigned_abs.result c.args.bound c.requires.scaled left w)
