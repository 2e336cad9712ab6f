use Rattle.std.proofs.Common.{◌≡◌, ℕ, ◌+◌, List, [], ◌∷◌, ◌++◌, map, sym, ap, ◌∙◌}
use Rattle.std.proofs.lemmas.List.{map_push}
use Rattle.location_terms.specs.Instance.{site_at}
use Rattle.plan_search.specs.Flags.{is_set}
use Rattle.plan_search.proofs.Flagging.{passing, passing_yes, passing_no}
use Rattle.plan_search.proofs.packing.open_sites.Goals as goal
use Rattle.plan_search.proofs.packing.open_sites.Goals.{then-flags-site+in_ok-push, else-flags-site}

pub loop-site-preserved : goal.loop-site-preserved
loop-site-preserved c =
    let id : ℕ → ℕ = λ i. (site_at c.args.inst.now i).id in
    let set = is_set c.args.flags.now in
    let i = c.loop-site.site in
    elim c.if-flags-site.branch [
      | then-flags-site+in_ok-push w ↦
          let pushed : c.if-flags-site.sites.items ≡ c.loop-site.sites.items ++ w.site_id.result ∷ [] = ap (λ v. v.items) w.sites-is ∙ w.in_ok-push.ensures.items in
          let more : map id (passing set i) ++ id i ∷ [] ≡ map id (passing set (i + 1)) = sym (ap (map id) (passing_yes set i w.if-flags-site.true) ∙ map_push id (passing set i) i) in
          pushed ∙ ap (λ (xs : List ℕ). xs ++ w.site_id.result ∷ []) c.loop-site.invariant ∙ ap (λ n. map id (passing set i) ++ n ∷ []) w.site_id.ensures ∙ more
      | else-flags-site w ↦ ap (λ v. v.items) w.sites-is ∙ c.loop-site.invariant ∙ sym (ap (map id) (passing_no set i w.if-flags-site.false))
    ]
