use Rattle.std.proofs.Common.{nat_eq, ap, ◌∙◌, arith}
use Rattle.std.proofs.lemmas.List.{length-map, take_all}
use Rattle.instance_store.specs.Parts.{cust_row_ids}
use Rattle.indexmap.specs.IndexSet.{insert_key}
use Rattle.instance_store.proofs.PlaceLemmas.{insert_key-item}
use Rattle.instance_store.proofs.index.cust_places.Goals as goal

pub loop-cust-preserved : goal.loop-cust-preserved
loop-cust-preserved c =
    c.in_ok-insert.ensures.keys
    ∙ ap (insert_key nat_eq c.loop-cust.places.keys) c.number.ensures
    ∙ insert_key-item (λ r. r.id) c.args.custs.now c.loop-cust.cust-index c.cust-item.result c.loop-cust.places.keys c.requires c.loop-cust-test.true c.cust-item.is c.loop-cust.invariant

pub returns : goal.returns
returns c = c.loop-cust.invariant ∙ take_all c.loop-cust.cust-index (cust_row_ids c.args.custs.now) (omega (arith, length-map c.args.custs.now (λ r. r.id)))
