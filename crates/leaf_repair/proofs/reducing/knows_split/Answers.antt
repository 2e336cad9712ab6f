use Rattle.std.proofs.Common.{◌≡◌, ◌∙◌, sym, ap, true, false, ◌&&◌, Bool}
use Rattle.location_terms.specs.Instance.{site_ids, customer_ids}
use Rattle.location_terms.specs.Carried.{is_listed}
use Rattle.leaf_repair.specs.CarriedTree.{knows_split}
use Rattle.leaf_repair.proofs.Listed.{found_is_listed}
use Rattle.leaf_repair.proofs.reducing.knows_split.Goals as goal

pub returns-in-Site : goal.returns-in-Site
returns-in-Site c =
    let I = c.args.inst.now in
    c.is_some.ensures ∙ found_is_listed (site_ids I) c.in-Site.site _ c.site_at.ensures.known ∙ ap (knows_split I) (sym c.in-Site.is)

pub returns-then-is_some : goal.returns-then-is_some
returns-then-is_some c =
    let I = c.args.inst.now in
    let site : is_listed (site_ids I) c.in-Lane.site ≡ true = sym (found_is_listed (site_ids I) c.in-Lane.site _ c.site_at-in-Lane.ensures.known) ∙ sym c.is_some-in-Lane.ensures ∙ c.if-is_some.true in
    c.is_some-then-is_some.ensures ∙ found_is_listed (customer_ids I) c.in-Lane.cust _ c.cust_at.ensures.known
    ∙ ap (λ (b : Bool). b && is_listed (customer_ids I) c.in-Lane.cust) (sym site) ∙ ap (knows_split I) (sym c.in-Lane.is)

pub returns-else-is_some : goal.returns-else-is_some
returns-else-is_some c =
    let I = c.args.inst.now in
    let site : is_listed (site_ids I) c.in-Lane.site ≡ false = sym (found_is_listed (site_ids I) c.in-Lane.site _ c.site_at-in-Lane.ensures.known) ∙ sym c.is_some-in-Lane.ensures ∙ c.if-is_some.false in
    c.if-is_some.false ∙ ap (λ (b : Bool). b && is_listed (customer_ids I) c.in-Lane.cust) (sym site) ∙ ap (knows_split I) (sym c.in-Lane.is)
