use Rattle.std.proofs.Common.{ℕ, Bool, ap, sym, ◌∙◌}
use Rattle.std.specs.Prelude.{◌&&◌, is_some}
use Rattle.location_terms.specs.Instance.{customer_at, lane}
use Rattle.plan_meaning.specs.Carried.{IsAt}
use Rattle.plan_meaning.proofs.Carrying.{listed_where_found, found_is}
use Rattle.plan_meaning.proofs.carried.is_served_from.Goals as goal

pub lane_from-requires-clause-at : goal.lane_from-requires-clause-at
lane_from-requires-clause-at c = (found_is (IsAt c.args.inst.now) c.args.opened.now c.args.site c.in-Some.found c.requires.places (sym c.open_site.ensures ∙ c.in-Some.is)).1

pub returns-in-None : goal.returns-in-None
returns-in-None c =
    let has : Bool = is_some (lane c.args.inst.now c.args.site (customer_at c.args.inst.now c.args.j).id) in
    ap (λ b. b && has) (sym (listed_where_found c.args.opened.now c.args.site _ (sym c.open_site.ensures ∙ c.in-None.is)))

pub returns-in-Some : goal.returns-in-Some
returns-in-Some c =
    let has : ℕ → Bool = λ s. is_some (lane c.args.inst.now s (customer_at c.args.inst.now c.args.j).id) in
    c.is_some.ensures
    ∙ ap is_some c.lane_from.ensures
    ∙ ap has (found_is (IsAt c.args.inst.now) c.args.opened.now c.args.site c.in-Some.found c.requires.places (sym c.open_site.ensures ∙ c.in-Some.is)).0
    ∙ ap (λ b. b && has c.args.site) (sym (listed_where_found c.args.opened.now c.args.site _ (sym c.open_site.ensures ∙ c.in-Some.is)))
