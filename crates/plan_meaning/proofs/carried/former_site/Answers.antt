use Rattle.std.proofs.Common.{◌≡◌, ℕ, None, Some, List, map, sym, subst, ◌∙◌}
use Rattle.std.specs.Prelude.{◌==◌, find, option_map, is_some}
use Rattle.location_terms.specs.Instance.{customer_at, lane}
use Rattle.location_terms.specs.Carried.{is_listed}
use Rattle.plan_meaning.proofs.Carrying.{former_is, kept_some, kept_none}
use Rattle.plan_meaning.proofs.carried.former_site.Goals as goal

pub returns-in_err-site : goal.returns-in_err-site
returns-in_err-site c =
    let I = c.args.inst.now in
    let id = (customer_at I c.args.j).id in
    let server : None ≡ option_map (λ v. v.1) (find (λ v. v.0 == id) c.args.plan.now.serves) = sym c.in_err-site.was ∙ subst (λ n. c.server.result ≡ option_map (λ v. v.1) (find (λ v. v.0 == n) c.args.plan.now.serves)) c.cust_id.ensures c.server.ensures.exact in
    c.from_residual.ensures ∙ former_is I c.args.plan.now (map (λ x. x.0) c.args.opened.now) id None c.server.ensures.plan.customers_rise server

pub returns-then-is_served_from : goal.returns-then-is_served_from
returns-then-is_served_from c =
    let I = c.args.inst.now in
    let id = (customer_at I c.args.j).id in
    let site = c.in_ok-site.site in
    let ids : List ℕ = map (λ x. x.0) c.args.opened.now in
    let server : Some site ≡ option_map (λ v. v.1) (find (λ v. v.0 == id) c.args.plan.now.serves) = sym c.in_ok-site.was ∙ subst (λ n. c.server.result ≡ option_map (λ v. v.1) (find (λ v. v.0 == n) c.args.plan.now.serves)) c.cust_id.ensures c.server.ensures.exact in
    kept_some (is_listed ids) (λ s. is_some (lane I s id)) site (sym c.is_served_from.ensures ∙ c.if-is_served_from.true)
    ∙ former_is I c.args.plan.now ids id (Some site) c.server.ensures.plan.customers_rise server

pub returns-else-is_served_from : goal.returns-else-is_served_from
returns-else-is_served_from c =
    let I = c.args.inst.now in
    let id = (customer_at I c.args.j).id in
    let site = c.in_ok-site.site in
    let ids : List ℕ = map (λ x. x.0) c.args.opened.now in
    let server : Some site ≡ option_map (λ v. v.1) (find (λ v. v.0 == id) c.args.plan.now.serves) = sym c.in_ok-site.was ∙ subst (λ n. c.server.result ≡ option_map (λ v. v.1) (find (λ v. v.0 == n) c.args.plan.now.serves)) c.cust_id.ensures c.server.ensures.exact in
    kept_none (is_listed ids) (λ s. is_some (lane I s id)) site (sym c.is_served_from.ensures ∙ c.if-is_served_from.false)
    ∙ former_is I c.args.plan.now ids id (Some site) c.server.ensures.plan.customers_rise server
