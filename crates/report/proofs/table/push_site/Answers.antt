use Rattle.std.proofs.Common.{◌≡◌, ◌++◌, ap, sym, subst, ◌∙◌, arith}
use Rattle.std.specs.Prelude.{All, Contains, OnOk, length, ◌≤◌, slice_index}
use Rattle.location_terms.specs.Instance.{site_at, customer_ids}
use Rattle.location_terms.specs.declared.limits.TheConstants.{MAX_CUSTOMERS}
use Rattle.report.specs.SiteTable.{customers_of, table_line}
use Rattle.report.specs.Figures.{figures_of, figures_line}
use Rattle.report.proofs.ServedRows.{opened_known, row_is, row_known, row_few}
use Rattle.report.proofs.TableLines.{line_is}
use Rattle.report.proofs.table.push_site.Goals as goal

pub unwrap-i-requires : goal.unwrap-i-requires
unwrap-i-requires c = c.site_at.ensures.known.1 (opened_known c.args.inst.now c.args.plan.now c.args.k _ c.requires.feasible c.requires.place c.site-site.ensures)

pub bounds-rows-i : goal.bounds-rows-i
bounds-rows-i c = let found = rw c.unwrap-i.ensures at c.site_at.ensures.found in omega (arith, found.0, c.requires.served.as_many)

pub figures_of-figures-requires-clause-place : goal.figures_of-figures-requires-clause-place
figures_of-figures-requires-clause-place c = let found = rw c.unwrap-i.ensures at c.site_at.ensures.found in found.0

pub figures_of-figures-requires-clause-known : goal.figures_of-figures-requires-clause-known
figures_of-figures-requires-clause-known c =
    let I = c.args.inst.now in
    let found = rw c.unwrap-i.ensures at c.site_at.ensures.found in
    subst (All (Contains (customer_ids I))) (sym c.custs.ensures)
    (row_known I c.args.plan.now c.requires.valid c.requires.feasible c.args.rows.now c.unwrap-i.result c.index-rows-i.result c.requires.served found.0 c.index-rows-i.is)

pub figures_of-figures-requires-clause-few : goal.figures_of-figures-requires-clause-few
figures_of-figures-requires-clause-few c =
    let found = rw c.unwrap-i.ensures at c.site_at.ensures.found in
    subst (λ xs. length xs ≤ MAX_CUSTOMERS) (sym c.custs.ensures)
    (row_few c.args.inst.now c.args.plan.now c.requires.valid c.requires.feasible c.args.rows.now c.unwrap-i.result c.index-rows-i.result c.requires.served found.0 c.index-rows-i.is)

pub returns : goal.returns
returns c =
    let I = c.args.inst.now in
    let P = c.args.plan.now in
    let i = c.unwrap-i.result in
    let found = rw c.unwrap-i.ensures at c.site_at.ensures.found in
    let custs : c.custs.result.now ≡ customers_of P (site_at I i).id =
    c.custs.ensures ∙ row_is I P c.requires.valid c.requires.feasible c.args.rows.now i c.index-rows-i.result c.requires.served found.0 c.index-rows-i.is in
    let line : figures_line c.figures_of-figures.result c.args.whole ≡ table_line I P (slice_index P.sites c.args.k) =
    ap (λ x. figures_line x c.args.whole) (c.figures_of-figures.ensures ∙ ap (figures_of I i) custs) ∙ ap (figures_line (figures_of I i (customers_of P (site_at I i).id))) c.requires.whole
    ∙ line_is I c.requires.valid P i found.0 ∙ ap (table_line I P) (found.1 ∙ c.site-site.ensures) in
    subst (λ t. OnOk c.push_figures.result (c.push_figures.new.text.items ≡ c.args.text.now.items ++ t)) line c.push_figures.ensures
