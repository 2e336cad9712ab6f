use Rattle.std.proofs.Common.{◌≡◌, ℕ, ◌≤◌, sym, ap, ◌∙◌, arith, subst, not, ◌&&◌, true}
use Rattle.std.proofs.lemmas.Bool.{lt-ltb}
use Rattle.std.specs.List.{list_any}
use Rattle.std.specs.Prelude.{is_some}
use Rattle.location_terms.specs.Instance.{IsValid, site_at, customer_at, lane}
use Rattle.location_terms.specs.Box.{bars_lane, is_closed, is_torn, holds_demand}
use Rattle.location_terms.specs.declared.limits.TheConstants.{MAX_AMOUNT}
use Rattle.dual_value.specs.Prepared.{Prepared}
use Rattle.dual_value.specs.PreparedSites.{AreDemandEnds}
use Rattle.dual_value.proofs.Admitted.{admitted}
use Rattle.dual_value.proofs.prepared.PreparedBox.admits.Goals as goal

pub returns-then-demand-index : goal.returns-then-demand-index
returns-then-demand-index c =
    let b : Prepared = c.args.self.now in
    let ends : AreDemandEnds b.instance b.path c.self.inside.demand_ends.items = subst (λ (x : Prepared). AreDemandEnds x.instance x.path c.self.inside.demand_ends.items) c.self.view_is c.self.invariant.ends in
    let s = site_at b.instance c.args.site in
    let t = customer_at b.instance c.args.cust in
    let valid : IsValid b.instance = subst (λ (x : Prepared). IsValid x.instance) c.self.view_is c.sites-sites.ensures.valid in
    let small : c.args.demand ≤ MAX_AMOUNT = subst (λ n. n ≤ MAX_AMOUNT) (sym c.requires.demand) (valid.demands_small c.args.cust _ c.requires.customer) in
    let within : (not (is_torn b.instance b.path) && not (is_closed b.path s) && holds_demand s.cap c.args.demand) ≡ true =
    sym (ends.each c.args.site c.index.result.now c.requires.site c.args.demand small) ∙ lt-ltb c.args.demand _ (omega (arith, c.index.ensures, c.if-demand-index.true)) in
    ap not c.bars.ensures
    ∙ admitted (is_torn b.instance b.path) (is_some (lane b.instance s.id t.id)) (is_closed b.path s) (list_any (bars_lane s.id t.id) b.path) (holds_demand s.cap t.demand) c.requires.lane
    (subst (λ (d : ℕ). (not (is_torn b.instance b.path) && not (is_closed b.path s) && holds_demand s.cap d) ≡ true) c.requires.demand within)
