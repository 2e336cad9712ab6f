use Rattle.std.proofs.Common.{◌≡◌, ap, sym, subst, ◌∙◌, arith}
use Rattle.std.specs.Prelude.{IfOk, slice_index}
use Rattle.location_terms.specs.Instance.{site_at, fixed_of}
use Rattle.serde_json.specs.View.{view}
use Rattle.report.specs.SiteTable.{customers_of}
use Rattle.report.specs.Values.{site_data, open_data}
use Rattle.report.proofs.ServedRows.{opened_known, row_is}
use Rattle.report.proofs.json_line.open_site.Goals as goal

pub unwrap-i-requires : goal.unwrap-i-requires
unwrap-i-requires c = c.site_at.ensures.known.1 (opened_known c.args.inst.now c.args.plan.now c.args.k _ c.requires.feasible c.requires.place c.site-site.ensures)

pub fixed_cost-fixed-requires-clause-known : goal.fixed_cost-fixed-requires-clause-known
fixed_cost-fixed-requires-clause-known c = opened_known c.args.inst.now c.args.plan.now c.args.k _ c.requires.feasible c.requires.place c.site-site.ensures

pub bounds-rows-i : goal.bounds-rows-i
bounds-rows-i c = let found = rw c.unwrap-i.ensures at c.site_at.ensures.found in omega (arith, found.0, c.requires.served.as_many)

pub returns : goal.returns
returns c =
    let I = c.args.inst.now in
    let P = c.args.plan.now in
    let i = c.unwrap-i.result in
    let found = rw c.unwrap-i.ensures at c.site_at.ensures.found in
    let custs : c.custs.result.now ≡ customers_of P (slice_index P.sites c.args.k) =
    c.custs.ensures ∙ row_is I P c.requires.valid c.requires.feasible c.args.rows.now i c.index-rows-i.result c.requires.served found.0 c.index-rows-i.is
    ∙ ap (customers_of P) (found.1 ∙ c.site-site.ensures) in
    let fixed : c.fixed_cost-fixed.result ≡ fixed_of I (slice_index P.sites c.args.k) = c.fixed_cost-fixed.ensures.exact ∙ ap (fixed_of I) c.site-site.ensures in
    let same : site_data c.custs.result.now c.fixed_cost-fixed.result c.number.result ≡ open_data I P (slice_index P.sites c.args.k) =
    ap (λ xs. site_data xs c.fixed_cost-fixed.result c.number.result) custs
    ∙ ap (λ n. site_data (customers_of P (slice_index P.sites c.args.k)) n c.number.result) fixed
    ∙ ap (site_data (customers_of P (slice_index P.sites c.args.k)) (fixed_of I (slice_index P.sites c.args.k))) (c.number.ensures ∙ c.site-site.ensures) in
    subst (λ d. IfOk c.site_value.result (λ v. view v ≡ d)) same c.site_value.ensures
