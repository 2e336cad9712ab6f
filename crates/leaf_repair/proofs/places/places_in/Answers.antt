use Rattle.std.proofs.Common.{ℕ, ◌<◌, ◌++◌, ◌∷◌, [], ◌∙◌, sym, ap, List, Option, arith, take, slice_index}
use Rattle.std.proofs.lemmas.List.{take_more, map-append}
use Rattle.std.proofs.lemmas.List.Elements.{All-weaker}
use Rattle.std.proofs.lemmas.List.Kept.{AllPairs-from_increasing}
use Rattle.instance_store.specs.Places.{place_of}
use Rattle.leaf_repair.specs.Placed.{places_of}
use Rattle.leaf_repair.proofs.places.places_in.Goals as goal

pub loop-k-preserved : goal.loop-k-preserved
loop-k-preserved c =
    let before = c.args.before.now in
    let now = c.args.now.now in
    let k = c.loop-k.k in
    let id : ℕ = slice_index now k in
    let f : ℕ → Option ℕ = λ x. place_of x before in
    record {
      within = c.pass-passed.ensures.within;
      less = λ j after inside.
          let rises = AllPairs-from_increasing now c.requires k j 0 (omega (arith, after)) inside in
          All-weaker (λ x. x < id) (λ x. x < slice_index now j) (λ x h. omega (arith, h, rises)) (take c.pass-passed.result before) c.pass-passed.ensures.less;
      places =
          c.in_ok-push.ensures.items
          ∙ ap (λ (xs : List (Option ℕ)). xs ++ c.first_place.result ∷ []) c.loop-k.invariant.places
          ∙ ap (λ (o : Option ℕ). places_of before (take k now) ++ o ∷ []) c.first_place.ensures
          ∙ sym (ap (places_of before) (take_more now k 0 (omega arith)) ∙ map-append f (take k now) (id ∷ []));
    }
