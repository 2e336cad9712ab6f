use Rattle.std.proofs.Common.{◌≡◌, ℕ, ◌<◌, List, map, length, get_or, take, option_map, ap, sym, ◌∙◌, rules, arith}
use Rattle.std.proofs.lemmas.List.{get_or_default, get_or-map, length-map, take_all}
use Rattle.location_terms.specs.Instance.{customer_at, lane}
use Rattle.location_terms.specs.Carried.{cheapest_site}
use Rattle.plan_meaning.specs.Carried.{nearer_of}
use Rattle.plan_meaning.proofs.Carrying.{cheapest_with, unpriced}
use Rattle.plan_meaning.proofs.carried.cheapest_site.Goals as goal

pub loop-k-preserved : goal.loop-k-preserved
loop-k-preserved c =
    let I = c.args.inst.now in
    let id = (customer_at I c.args.j).id in
    let vs : List (ℕ × ℕ) = c.args.opened.now in
    let sites : List ℕ = map (λ x. x.0) vs in
    let k : ℕ = c.loop-k.k in
    let inside : k < length vs = c.loop-k-test.true in
    let here : c.index-opened-k.result.0 ≡ get_or sites k 0 = ap (λ (x : ℕ × ℕ). x.0) (c.index-opened-k.is ∙ get_or_default vs k _ (0, 0) inside) ∙ sym (get_or-map (λ x. x.0) vs k (0, 0) 0 inside) in
    let from : c.lane_from.result ≡ lane I (get_or sites k 0) id = c.lane_from.ensures ∙ ap (λ s. lane I s id) here in
    c.nearer_of-best.ensures
    ∙ (λ i. nearer_of (c.loop-k.invariant i) (here i) (from i))
    ∙ cheapest_with I id sites k (omega (arith, inside, length-map vs (λ x. x.0)))

pub returns : goal.returns
returns c =
    let I = c.args.inst.now in
    let id = (customer_at I c.args.j).id in
    let vs : List (ℕ × ℕ) = c.args.opened.now in
    let sites : List ℕ = map (λ x. x.0) vs in
    let is : c.map.result ≡ option_map (λ x. x.0) c.loop-k.best = search rules in
    let all : take c.loop-k.k sites ≡ sites = take_all c.loop-k.k sites (omega (arith, c.loop-k-test.false, length-map vs (λ x. x.0))) in
    is
    ∙ ap (option_map (λ x. x.0)) c.loop-k.invariant
    ∙ unpriced I id (cheapest_site I (take c.loop-k.k sites) id)
    ∙ ap (λ (ids : List ℕ). cheapest_site I ids id) all
