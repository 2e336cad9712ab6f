use Rattle.std.proofs.Common.{ℕ, ◌≡◌, ◌≤◌, ◌∙◌, ap, arith, Bool, true, false, length, cond, get_or}
use Rattle.std.specs.Prelude.{filter}
use Rattle.std.proofs.lemmas.List.{take_all}
use Rattle.std.proofs.lemmas.List.Filters.{length-filter_more}
use Rattle.leaf_book.specs.declared.places.LeafPlace.{LeafPlace}
use Rattle.leaf_book.specs.Kept.{keeps}
use Rattle.leaf_book.proofs.kept.count_kept.Goals as goal

abbrev as_number : Bool → ℕ
as_number b = cond b 1 0

at_most_one : (b : Bool) → cond b 1 0 ≤ 1
at_most_one true = omega arith
at_most_one false = omega arith

pub loop-k-preserved : goal.loop-k-preserved
loop-k-preserved c =
    let I = c.args.inst.now in
    let k = c.loop-k.k in
    let p : LeafPlace = c.index-places-k.result in
    let more = length-filter_more (λ q. keeps I q.path) c.args.places.now k p (omega arith) in
    let one : c.one_if-kept.result ≡ cond (keeps I (get_or c.args.places.now k p).path) 1 0 =
    c.one_if-kept.ensures ∙ ap as_number (c.keeps.ensures ∙ ap (keeps I) c.deref.ensures) in
    record {
      count = omega (arith, more, one, c.loop-k.invariant.count);
      few = omega (arith, one, at_most_one (keeps I (get_or c.args.places.now k p).path), c.loop-k.invariant.few);
    }

pub returns : goal.returns
returns c =
    c.loop-k.invariant.count ∙ ap (λ (ps : _). length (filter (λ (q : LeafPlace). keeps c.args.inst.now q.path) ps)) (take_all c.loop-k.k c.args.places.now (omega arith))
