use Rattle.std.proofs.Common.{◌≡◌, ℕ, List, ◌+◌, ◌<◌, ◌++◌, ◌≤◌, map, length, drop, sym, ap, subst, ◌∙◌, arith}
use Rattle.std.specs.Prelude.{zip, unsigned_abs}
use Rattle.std.specs.List.Sorted.{IsStrictlyIncreasing}
use Rattle.std.proofs.lemmas.List.{get_or_default, length-map}
use Rattle.location_terms.specs.Instance.{customer_ids}
use Rattle.location_terms.proofs.Places.{slice_index-customer_ids, length-customer_ids}
use Rattle.number_words.specs.Number.{number_of}
use Rattle.certificate_lines.specs.Head.{numbers}
use Rattle.certificate_lines.specs.Lines.{behind_first}
use Rattle.certificate_lines.proofs.Served.{zip-step, zip-done, map-first-zip}
use Rattle.certificate_lines.proofs.plan_lines.serve_list.Goals as goal

pub loop-j-preserved : goal.loop-j-preserved
loop-j-preserved c =
    let servers = c.in_ok-servers.servers.items in
    let within : c.loop-j.j < length servers = omega (arith, c.len-j-end.ensures, c.in_ok-servers.servers.ok) in
    let as_many : length servers ≡ length c.args.inst.now.customers = ap length c.in_ok-servers.ensures ∙ length-map (numbers (behind_first c.args.line.now)) unsigned_abs ∙ length-map (behind_first c.args.line.now) number_of ∙ c.requires.count in
    let customer : c.loop-j.j < length c.args.inst.now.customers = omega arith in
    let in_ids : c.loop-j.j < length (customer_ids c.args.inst.now) = omega (arith, length-customer_ids c.args.inst.now) in
    ap (λ (front : List (ℕ × ℕ)). front ++ zip (drop (c.loop-j.j + 1) (customer_ids c.args.inst.now)) (drop (c.loop-j.j + 1) servers)) c.in_ok-push.ensures.items
    ∙ zip-step (customer_ids c.args.inst.now) servers c.loop-j.j c.loop-j.serves.items c.cust_id.result c.index.result.now in_ids within
    (c.cust_id.ensures ∙ sym (slice_index-customer_ids c.args.inst.now c.loop-j.j customer))
    (c.index.ensures ∙ get_or_default servers c.loop-j.j c.index.result.now 0 within)
    ∙ c.loop-j.invariant

pub returns-clause-rising : goal.returns-clause-rising
returns-clause-rising c =
    let servers = c.in_ok-servers.servers.items in
    let customers = customer_ids c.args.inst.now in
    let past : length servers ≤ c.loop-j.j = omega (arith, c.len-j-end.ensures, c.in_ok-servers.servers.ok) in
    let as_many : length servers ≡ length c.args.inst.now.customers = ap length c.in_ok-servers.ensures ∙ length-map (numbers (behind_first c.args.line.now)) unsigned_abs ∙ length-map (behind_first c.args.line.now) number_of ∙ c.requires.count in
    let whole = zip-done customers servers c.loop-j.j c.loop-j.serves.items (zip customers servers) past c.loop-j.invariant in
    let first = ap (λ (serves : List (ℕ × ℕ)). map (λ s. s.0) serves) whole ∙ map-first-zip customers servers (omega (arith, length-customer_ids c.args.inst.now)) in
    subst IsStrictlyIncreasing (sym first) c.custs.ensures.valid.customers_named.rising
