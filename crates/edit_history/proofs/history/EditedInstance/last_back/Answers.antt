use Rattle.std.proofs.Common.{◌≡◌, ◌-◌, List, ◌∷◌, [], ◌++◌, Some, length, ap, subst, ◌∙◌}
use Rattle.std.specs.Prelude.{slice_get}
use Rattle.instance_edits.specs.Undo.{put_back, LeadsBack}
use Rattle.edit_history.specs.declared.history.Held.{Held}
use Rattle.edit_history.specs.History.{History, IsBeforeLast}
use Rattle.edit_history.proofs.Chains.{split_last, last_step, leads_before}
use Rattle.edit_history.proofs.history.EditedInstance.last_back.Goals as goal

pub returns-clause-leads : goal.returns-clause-leads
returns-clause-leads c =
    let last : Held = c.in_ok-last.last.now in
    let items : List Held = c.self.inside.held.items in
    let at : Some last ≡ slice_get items (length items - 1) = c.in_ok-last.ensures.value ∙ ap (λ (xs : List Held). slice_get xs (length xs - 1)) c.deref.ensures.value in
    let split = split_last items last at in
    subst (λ (h : History). LeadsBack h.instance last.back) c.self.view_is (last_step c.self.inside.inst c.self.inside.inst split.0 items last split.1 c.self.invariant.chain).back

pub returns-clause-before : goal.returns-clause-before
returns-clause-before c =
    let last : Held = c.in_ok-last.last.now in
    let items : List Held = c.self.inside.held.items in
    let at : Some last ≡ slice_get items (length items - 1) = c.in_ok-last.ensures.value ∙ ap (λ (xs : List Held). slice_get xs (length xs - 1)) c.deref.ensures.value in
    let split = split_last items last at in
    subst (λ (h : History). IsBeforeLast h (put_back h.instance last.back)) c.self.view_is (leads_before c.self.inside.inst split.0 items last split.1 c.self.invariant.chain)
