use Rattle.std.proofs.Common.{sym, ◌∙◌}
use Rattle.std.proofs.lemmas.Bool.{false≢true}
use Rattle.dual_value.proofs.Torn.{knows_site}
use Rattle.instance_edits.proofs.Restored.{fixed_of-at}
use Rattle.leaf_book.proofs.Differing.{fixed_nowhere}
use Rattle.leaf_book.proofs.change.fixed_of.Goals as goal

pub returns-in-Some : goal.returns-in-Some
returns-in-Some c = c.fixed.ensures.exact ∙ sym (fixed_of-at c.args.inst.now c.sites-valid.ensures.valid c.args.site c.in-Some.place c.in-Some.ensures.found.0 c.in-Some.ensures.found.1)

pub returns-in-None : goal.returns-in-None
returns-in-None c = sym (fixed_nowhere c.args.inst.now c.args.site (λ i b same. false≢true (c.in-None.ensures.known.1 (knows_site c.args.inst.now i c.args.site b (sym same)))))
