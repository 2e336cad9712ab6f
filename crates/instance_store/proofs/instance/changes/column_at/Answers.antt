use Rattle.std.proofs.Common.{◌≡◌, ◌++◌, ◌∷◌, [], None, slice_index_or, ◌∙◌, rules, arith}
use Rattle.std.proofs.lemmas.List.{length-map, take_all}
use Rattle.instance_store.specs.declared.instance.StoredSite.{StoredSite}
use Rattle.instance_store.specs.Columns.{column_in}
use Rattle.instance_store.proofs.ColumnChanges.{lanes_at_more}
use Rattle.instance_store.proofs.instance.changes.column_at.Goals as goal

pub loop-site-init : goal.loop-site-init
loop-site-init c = c.in_ok-column.ensures

pub loop-site-preserved : goal.loop-site-preserved
loop-site-preserved c =
    let pushed : c.push.new.self ≡ c.loop-site.column ++ c.get.result ∷ [] = search rules in
    pushed ∙ (λ k. c.loop-site.invariant k ++ c.get.ensures.exact k ∷ []) ∙ lanes_at_more c.args.sites.now c.args.cust c.loop-site.site-index c.site-item.result c.loop-site-test.true c.site-item.is

pub returns : goal.returns
returns c =
    c.loop-site.invariant ∙ take_all c.loop-site.site-index (column_in c.args.sites.now c.args.cust) (omega (arith, c.loop-site-test.false, length-map c.args.sites.now (λ (s : StoredSite). slice_index_or s.row.lanes c.args.cust None)))
