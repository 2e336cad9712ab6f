use Rattle.std.proofs.Common.{nat_eq, ap, ◌∙◌, arith}
use Rattle.std.proofs.lemmas.List.{length-map, take_all}
use Rattle.instance_store.specs.Parts.{site_row_ids}
use Rattle.indexmap.specs.IndexSet.{insert_key}
use Rattle.instance_store.proofs.PlaceLemmas.{insert_key-item}
use Rattle.instance_store.proofs.index.site_places.Goals as goal

pub loop-site-preserved : goal.loop-site-preserved
loop-site-preserved c =
    c.in_ok-insert.ensures.keys
    ∙ ap (insert_key nat_eq c.loop-site.places.keys) c.number.ensures
    ∙ insert_key-item (λ r. r.id) c.args.sites.now c.loop-site.site-index c.site-item.result c.loop-site.places.keys c.requires c.loop-site-test.true c.site-item.is c.loop-site.invariant

pub returns : goal.returns
returns c = c.loop-site.invariant ∙ take_all c.loop-site.site-index (site_row_ids c.args.sites.now) (omega (arith, length-map c.args.sites.now (λ r. r.id)))
