use Rattle.std.proofs.Common.{◌≡◌, ◌<◌, List, Option, ℕ, length, sym, ap, subst, slice_index_or, arith}
use Rattle.instance_store.specs.declared.instance.StoredSite.{StoredSite}
use Rattle.instance_store.specs.Columns.{AreWithout, without_lane}
use Rattle.instance_store.proofs.ColumnChanges.{changed_start, changed_more, all_of_take}
use Rattle.instance_store.proofs.instance.changes.drop_column.Goals as goal

pub loop-i-init : goal.loop-i-init
loop-i-init c = changed_start (λ i s. without_lane c.args.cust s) c.args.sites.now

pub remove-requires : goal.remove-requires
remove-requires c =
    subst (λ (s : StoredSite). c.args.cust < length s.row.lanes) (sym (c.loop-i.invariant.others c.loop-i.i c.index-sites-i.result (omega arith)))
    (all_of_take (λ (s : StoredSite). c.args.cust < length s.row.lanes) c.args.n c.loop-i.i c.args.sites.now c.index-sites-i.result c.requires.place c.loop-i-test.true c.requires.within)

pub loop-i-preserved : goal.loop-i-preserved
loop-i-preserved c =
    let here : StoredSite = slice_index_or c.loop-i.sites c.loop-i.i c.index-sites-i.result in
    changed_more c.loop-i.i (λ i s. without_lane c.args.cust s) c.args.sites.now c.loop-i.sites c.index-sites-i.result _ c.loop-i.invariant (omega (arith, c.loop-i-test.true, c.requires.within))
    (ap (λ (row : List (Option ℕ)). record here { row = record here.row { lanes = row } }) c.remove.ensures.rest)

pub returns : goal.returns
returns c = let at : c.loop-i.i ≡ c.args.n = omega (arith, c.loop-i-test.false, c.loop-i.auto.i-end) in subst (λ n. AreWithout n c.args.cust c.args.sites.now c.loop-i.sites) at c.loop-i.invariant
