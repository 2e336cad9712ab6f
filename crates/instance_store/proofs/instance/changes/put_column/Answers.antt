use Rattle.std.proofs.Common.{◌≡◌, ◌<◌, ◌≤◌, List, Option, None, ℕ, length, take, All, insert, sym, ap, subst, slice_index_or, ◌∙◌, rules, arith}
use Rattle.instance_store.specs.declared.instance.StoredSite.{StoredSite}
use Rattle.instance_store.specs.Columns.{AreWith, AreWithout, with_lane_at}
use Rattle.instance_store.proofs.ColumnChanges.{changed_start, changed_more, not_reached, each_longer, taken_back, unchanged}
use Rattle.instance_store.proofs.instance.changes.put_column.Goals as goal

pub loop-i-init : goal.loop-i-init
loop-i-init c = changed_start (λ i s. with_lane_at c.args.place (slice_index_or c.args.lanes.now i None) s) c.args.sites.now

pub insert-requires-clause-place : goal.insert-requires-clause-place
insert-requires-clause-place c =
    not_reached (λ (s : StoredSite). c.args.place ≤ length s.row.lanes) c.loop-i.i (λ i s. with_lane_at c.args.place (slice_index_or c.args.lanes.now i None) s) c.args.sites.now c.loop-i.sites c.index-sites-i.result
    c.loop-i.invariant c.loop-i-test.true c.requires.place

pub drop_column-requires-clause-place : goal.drop_column-requires-clause-place
drop_column-requires-clause-place c =
    let here : StoredSite = slice_index_or c.loop-i.sites c.loop-i.i c.index-sites-i.result in
    let kept : c.insert.new.self ≡ here.row.lanes = search rules in
    let same = unchanged c.loop-i.sites c.loop-i.i c.index-sites-i.result _ (ap (λ (row : List (Option ℕ)). record here { row = record here.row { lanes = row } }) kept) in
    subst (λ (sites : List StoredSite). All (λ s. c.args.place < length s.row.lanes) (take c.loop-i.i sites)) (sym same)
    (each_longer c.loop-i.i c.args.place c.args.lanes.now c.args.sites.now c.loop-i.sites c.loop-i.invariant (omega (arith, c.loop-i-test.true)) c.requires.place)

pub returns-then-is_err-clause-kept : goal.returns-then-is_err-clause-kept
returns-then-is_err-clause-kept c =
    let here : StoredSite = slice_index_or c.loop-i.sites c.loop-i.i c.index-sites-i.result in
    let kept : c.insert.new.self ≡ here.row.lanes = search rules in
    let same = unchanged c.loop-i.sites c.loop-i.i c.index-sites-i.result _ (ap (λ (row : List (Option ℕ)). record here { row = record here.row { lanes = row } }) kept) in
    taken_back c.loop-i.i c.args.place c.args.lanes.now c.args.sites.now c.loop-i.sites c.loop-i.invariant (omega (arith, c.loop-i-test.true)) c.requires.place c.drop_column.new.sites
    (subst (λ (sites : List StoredSite). AreWithout c.loop-i.i c.args.place sites c.drop_column.new.sites) same c.drop_column.ensures)

pub loop-i-preserved : goal.loop-i-preserved
loop-i-preserved c =
    let here : StoredSite = slice_index_or c.loop-i.sites c.loop-i.i c.index-sites-i.result in
    let inserted : c.insert.new.self ≡ insert here.row.lanes c.args.place c.get.result = search rules in
    changed_more c.loop-i.i (λ i s. with_lane_at c.args.place (slice_index_or c.args.lanes.now i None) s) c.args.sites.now c.loop-i.sites c.index-sites-i.result _ c.loop-i.invariant c.loop-i-test.true
    (ap (λ (row : List (Option ℕ)). record here { row = record here.row { lanes = row } }) (inserted ∙ ap (insert here.row.lanes c.args.place) c.get.ensures.exact))

pub returns-clause-put : goal.returns-clause-put
returns-clause-put c =
    let at : c.loop-i.i ≡ length c.args.sites.now = omega (arith, c.loop-i-test.false, c.loop-i.auto.i-end) in
    subst (λ n. AreWith n c.args.place c.args.lanes.now c.args.sites.now c.loop-i.sites) at c.loop-i.invariant
