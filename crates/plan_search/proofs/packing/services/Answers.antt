use Rattle.std.proofs.Common.{◌≡◌, ℕ, ◌<◌, List, [], ◌∷◌, ◌++◌, length, None, Some, sym, ap, ◌∙◌, arith}
use Rattle.std.proofs.lemmas.List.{get_or_read}
use Rattle.location_terms.specs.Instance.{customer_at}
use Rattle.plan_search.specs.Packing.{server_among}
use Rattle.plan_search.proofs.Served.{first_services, server_known, services_some, services_none}
use Rattle.plan_search.proofs.packing.services.Goals as goal
use Rattle.plan_search.proofs.packing.services.Goals.{in-Some+in_ok-push, in_default}

pub site_id-requires : goal.site_id-requires
site_id-requires c =
    let servers = c.in_ok-servers.servers.items in
    let j = c.loop-cust.cust in
    let b : j < length servers = omega (arith, c.loop-cust-test.true, c.custs-cust-end.ensures.count, c.in_ok-servers.ensures.count) in
    let server : server_among c.args.taken.now j ≡ Some c.in-Some.site =
    sym (c.in_ok-servers.ensures.each j (omega (arith, b, c.in_ok-servers.ensures.count))) ∙ sym (get_or_read servers j c.index.result.now b c.index.ensures None) ∙ c.in-Some.is in
    server_known c.args.inst.now c.args.taken.now c.requires j c.in-Some.site server

pub loop-cust-preserved : goal.loop-cust-preserved
loop-cust-preserved c =
    let I = c.args.inst.now in
    let taken = c.args.taken.now in
    let servers = c.in_ok-servers.servers.items in
    let j = c.loop-cust.cust in
    let b : j < length servers = omega (arith, c.loop-cust-test.true, c.custs-cust-end.ensures.count, c.in_ok-servers.ensures.count) in
    let server : server_among taken j ≡ c.index.result.now = sym (c.in_ok-servers.ensures.each j (omega (arith, b, c.in_ok-servers.ensures.count))) ∙ sym (get_or_read servers j c.index.result.now b c.index.ensures None) in
    elim c.match-index.branch [
      | in-Some+in_ok-push w ↦
          ap (λ v. v.items) w.serves-is ∙ w.in_ok-push.ensures.items ∙ ap (λ (xs : List (ℕ × ℕ)). xs ++ (w.cust_id.result, w.site_id.result) ∷ []) c.loop-cust.invariant
          ∙ ap (λ n. first_services I taken j ++ (n, w.site_id.result) ∷ []) w.cust_id.ensures
          ∙ ap (λ n. first_services I taken j ++ ((customer_at I j).id, n) ∷ []) w.site_id.ensures
          ∙ sym (services_some I taken j w.in-Some.site (server ∙ w.in-Some.is))
      | in_default w ↦ ap (λ v. v.items) w.serves-is ∙ c.loop-cust.invariant ∙ sym (services_none I taken j (server ∙ w.in_default.is))
    ]
