use Rattle.std.proofs.Common.{ℕ, ◌<◌, Option, length, sym, subst, ◌∙◌}
use Rattle.std.specs.Prelude.{IfSome, IsTrue}
use Rattle.tree_search.specs.Rays.{is_forced}
use Rattle.tree_search.proofs.ForcedDemands.{only_within, only_forced, only_alone}
use Rattle.tree_search.proofs.forced.only_server.Goals as goal

pub returns-clause-within : goal.returns-clause-within
returns-clause-within c =
    subst (λ (o : Option ℕ). IfSome o (λ i. i < length c.args.boxed.now.instance.sites)) (sym c.only_site.ensures) (only_within c.args.boxed.now.instance c.args.boxed.now.path c.args.cust c.service_of.result c.service_of.ensures)

pub returns-clause-forced : goal.returns-clause-forced
returns-clause-forced c =
    subst (λ (o : Option ℕ). IfSome o (λ i. IsTrue (is_forced c.args.boxed.now.instance c.args.boxed.now.path i c.args.cust))) (sym c.only_site.ensures) (only_forced c.args.boxed.now.instance c.args.boxed.now.path c.args.cust c.service_of.result c.service_of.ensures)

pub returns-clause-alone : goal.returns-clause-alone
returns-clause-alone c = λ i b forced. c.only_site.ensures ∙ only_alone c.args.boxed.now.instance c.args.boxed.now.path c.args.cust c.service_of.result c.service_of.ensures i b forced
