use Rattle.std.proofs.Common.{◌≡◌, ◌+◌, ◌*◌, ◌/◌, ◌%◌, ◌^◌, ℕ, ap, ◌∙◌, arith}
use Rattle.dual_value.proofs.Wide.{product_of_parts}
use Rattle.dual_value.proofs.scales.scaled.Goals as goal

pub returns-clause-product : goal.returns-clause-product
returns-clause-product c =
    let s : ℕ = c.from-scale.result in
    let low : ℕ = c.args.size % 2 ^ 64 in
    let parts : 2 ^ 64 * (c.args.size / 2 ^ 64) + low ≡ c.args.size = omega arith in
    let carried : 2 ^ 64 * (low * s / 2 ^ 64) + low * s % 2 ^ 64 ≡ low * s = omega arith in
    product_of_parts c.args.size s (c.args.size / 2 ^ 64) low (low * s / 2 ^ 64) (low * s % 2 ^ 64) parts carried ∙ ap (λ x. x * c.args.size) c.from-scale.ensures
