use Rattle.std.proofs.Common.{◌≡◌, [], length, ap, subst, ◌∙◌, arith}
use Rattle.std.proofs.lemmas.List.{length-replicate}
use Rattle.std.proofs.lemmas.Result.{IfOk-weaker}
use Rattle.pmed_paths.specs.declared.labels.TheConstants.{NO_WALK}
use Rattle.pmed_paths.specs.Labels.{offers, IsOffered}
use Rattle.pmed_paths.proofs.Offers.{begun-inside, no_offers}
use Rattle.pmed_paths.proofs.Searches.{search-begins, labels-least}
use Rattle.pmed_paths.proofs.labels.search.Goals as goal

pub settle-requires-clause-waiting : goal.settle-requires-clause-waiting
settle-requires-clause-waiting c =
    let size : length c.args.labels.now ≡ c.args.net.now.vertices = ap length c.requires.none ∙ length-replicate c.args.net.now.vertices NO_WALK in
    let offered = subst (λ h. IsOffered c.args.labels.now h c.args.source 0 c.offer.new.labels (offers c.offer.new.waiting)) (no_offers c.new-waiting.result c.new-waiting.ensures.items) c.in_ok-offer.ensures in
    begun-inside c.args.labels.now c.args.source 0 c.offer.new.labels (offers c.offer.new.waiting) (omega (arith, c.requires.source, size)) offered

pub returns : goal.returns
returns c =
    let N = c.args.net.now in
    let size : length c.args.labels.now ≡ N.vertices = ap length c.requires.none ∙ length-replicate N.vertices NO_WALK in
    let offered = subst (λ h. IsOffered c.args.labels.now h c.args.source 0 c.offer.new.labels (offers c.offer.new.waiting)) (no_offers c.new-waiting.result c.new-waiting.ensures.items) c.in_ok-offer.ensures in
    let begun = search-begins N c.args.source N.vertices c.args.rows.now c.offer.new.labels (offers c.offer.new.waiting) c.requires.source (subst (λ L. IsOffered L [] c.args.source 0 c.offer.new.labels (offers c.offer.new.waiting)) c.requires.none offered) in
    let same : length c.settle.new.labels ≡ length c.args.rows.now = omega (arith, c.settle.auto.labels, c.offer.auto.labels, size, c.requires.rows.count) in
    IfOk-weaker c.settle.result _ _ (λ x goes. labels-least N c.requires.network c.args.source c.args.rows.now c.settle.new.labels c.requires.rows same (goes N c.args.source c.requires.network c.requires.rows begun)) c.settle.ensures
