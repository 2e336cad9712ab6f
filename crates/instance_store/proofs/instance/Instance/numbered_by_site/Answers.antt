use Rattle.std.proofs.Common.{sym, ◌∙◌, subst, arith}
use Rattle.std.proofs.lemmas.Result.{IfOk-weaker}
use Rattle.location_terms.specs.Plain.{IsPlain}
use Rattle.instance_store.proofs.NumberedLists.{parts-stored, stored-numbered, plain-by_site}
use Rattle.instance_store.proofs.instance.Instance.numbered_by_site.Goals as goal

pub from_parts-requires : goal.from_parts-requires
from_parts-requires c = parts-stored c.args.sites.items c.args.demands.items _ _ _ _ c.requires (omega arith) (omega arith) c.in_ok-custs.ensures c.in_ok-sites.ensures

pub returns-clause-instance : goal.returns-clause-instance
returns-clause-instance c =
    IfOk-weaker c.from_parts.result _ _ (λ I is. is ∙ stored-numbered c.args.sites.items c.args.demands.items _ _ _ _ (omega arith) (omega arith) c.in_ok-custs.ensures c.in_ok-sites.ensures) c.from_parts.ensures

pub returns-clause-plain : goal.returns-clause-plain
returns-clause-plain c = λ no_caps there.
    IfOk-weaker c.from_parts.result _ IsPlain (λ I is.
    subst IsPlain (sym (is ∙ stored-numbered c.args.sites.items c.args.demands.items _ _ _ _ (omega arith) (omega arith) c.in_ok-custs.ensures c.in_ok-sites.ensures))
    (plain-by_site c.args.sites.items c.args.demands.items c.requires no_caps there)) c.from_parts.ensures
