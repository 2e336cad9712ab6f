use Rattle.std.proofs.Common.{◌≡◌, ℕ, ◌+◌, List, Option, map, ◌++◌, ◌∷◌, [], ap, sym, ◌∙◌, arith}
use Rattle.std.specs.List.{range_with_len}
use Rattle.std.proofs.lemmas.List.FromFn.{map-range_with_len_more}
use Rattle.location_terms.specs.Instance.{site_at}
use Rattle.plan_search.proofs.Rooms.{whole_rooms_are}
use Rattle.plan_search.proofs.lanes.whole_rooms.Goals as goal

pub loop-site-preserved : goal.loop-site-preserved
loop-site-preserved c =
    let caps : ℕ → Option ℕ = λ i. (site_at c.args.inst.now i).cap in
    let i = c.loop-site.site in
    let more : map caps (range_with_len 0 i) ++ caps i ∷ [] ≡ map caps (range_with_len 0 (i + 1)) = sym (map-range_with_len_more caps 0 i i (omega arith)) in
    let items : c.loop-site.rooms.items ++ c.cap.result ∷ [] ≡ map caps (range_with_len 0 i) ++ caps i ∷ [] = ap (λ (p : List (Option ℕ) × Option ℕ). p.0 ++ p.1 ∷ []) (λ n. (c.loop-site.invariant n, c.cap.ensures.exact n)) in
    c.in_ok-push.ensures.items ∙ (items ∙ more)

pub returns-clause-exact : goal.returns-clause-exact
returns-clause-exact c = whole_rooms_are c.args.inst.now c.loop-site.site c.loop-site.rooms.items (omega (arith, c.loop-site-test.false, c.loop-site.auto.site-end, c.sites-site-end.ensures.count)) c.loop-site.invariant
