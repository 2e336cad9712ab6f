use Rattle.std.proofs.Common.{◌≡◌, ℕ, ◌++◌, ◌∷◌, [], ◌∙◌, sym, ap, List, Option, None, arith, length, take, get_or}
use Rattle.std.specs.Prelude.{is_some, if◌then◌else◌}
use Rattle.std.proofs.lemmas.List.{take_more, take_all}
use Rattle.location_terms.specs.Instance.{Site}
use Rattle.location_terms.specs.declared.status.SiteStatus.TheVariants.{Free}
use Rattle.leaf_repair.specs.Placed.{at_place, prices_at}
use Rattle.leaf_repair.proofs.Placing.{price_at, count_prices}
use Rattle.leaf_repair.proofs.numbers.prices_at.Goals as goal

abbrev no_site : Site
no_site = record { id = 0; fixed = 0; cap = None; status = Free }

pub loop-site-preserved : goal.loop-site-preserved
loop-site-preserved c =
    let I = c.args.inst.now in
    let all : List ℕ = prices_at I c.args.places.now c.args.prices.now in
    let k = c.loop-site.site in
    let many : length all ≡ length I.sites = count_prices c.args.prices.now I.sites c.args.places.now c.requires in
    c.in_ok-push.ensures.items
    ∙ ap (λ (xs : List ℕ). xs ++ c.price_at.result ∷ []) c.loop-site.invariant
    ∙ ap (λ (x : ℕ). take k all ++ x ∷ []) (c.price_at.ensures ∙ ap (λ (o : Option ℕ). if is_some o then at_place c.args.prices.now 0 (get_or c.args.places.now k None) else 0) c.cap.ensures.exact ∙ sym (price_at c.args.prices.now I.sites c.args.places.now k no_site None (omega arith) (omega (arith, c.requires))))
    ∙ sym (take_more all k 0 (omega (arith, many)))

pub returns : goal.returns
returns c =
    let I = c.args.inst.now in
    let all : List ℕ = prices_at I c.args.places.now c.args.prices.now in
    let many : length all ≡ length I.sites = count_prices c.args.prices.now I.sites c.args.places.now c.requires in
    c.loop-site.invariant ∙ take_all c.loop-site.site all (omega (arith, many))
