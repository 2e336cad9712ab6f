use Rattle.std.proofs.Common.{◌∙◌, ap, subst, length, [], ◌+◌, sym}
use Rattle.std.proofs.lemmas.List.{length_push}
use Rattle.location_terms.specs.Instance.{site_at}
use Rattle.dual_value.specs.SiteState.{IsState}
use Rattle.dual_value.proofs.Settling.{state_root, one_more}
use Rattle.dual_value.proofs.preparing.states_by_status.Goals as goal

pub loop-site-preserved : goal.loop-site-preserved
loop-site-preserved c =
    let I = c.args.inst.now in
    let i = c.loop-site.site in
    record {
      count = ap length c.in_ok-push.ensures.items ∙ length_push c.loop-site.states.items c.state_of.result ∙ ap (λ n. n + 1) c.loop-site.invariant.count;
      each =
          one_more (λ k. IsState [] (site_at I k)) c.loop-site.states.items c.push.new.self.items c.state_of.result i c.loop-site.invariant.count c.in_ok-push.ensures.items c.loop-site.invariant.each
          (subst (IsState [] (site_at I i)) (sym c.state_of.ensures) (state_root (site_at I i) c.status.result (sym c.status.ensures)));
    }
