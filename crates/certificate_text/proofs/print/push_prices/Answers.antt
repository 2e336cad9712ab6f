use Rattle.std.proofs.Common.{arith, refl, ◌<◌, length, ◌∙◌}
use Rattle.std.proofs.lemmas.List.{get_or_default}
use Rattle.certificate_text.proofs.Rows.{counts_added, priced-all, price_next}
use Rattle.certificate_text.proofs.print.push_prices.Goals as goal

pub loop-k-preserved : goal.loop-k-preserved
loop-k-preserved c =
    let site : c.loop-k.k < length c.args.sites.now = omega (arith, c.min-k-end.ensures) in
    let price : c.loop-k.k < length c.args.prices.now = omega (arith, c.min-k-end.ensures) in
    let known = get_or_default c.args.sites.now c.loop-k.k c.index-sites-k.result 0 site in
    price_next c.args.sites.now c.args.prices.now c.loop-k.k site price _ _ _ _ _ (c.index-sites-k.is ∙ known) refl c.loop-k.invariant c.in_ok-push_price.ensures

pub returns : goal.returns
returns c =
    counts_added c.extend_from_slice-2.result _ _ _ c.extend_from_slice-2.ensures.items _ _ c.loop-k.invariant (priced-all c.args.sites.now c.args.prices.now c.loop-k.k (omega (arith, c.min-k-end.ensures)))
