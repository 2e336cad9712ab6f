use Rattle.std.proofs.Common.{refl, sym, ap, ◌≤◌, ◌∙◌, get_or, pos}
use Rattle.std.specs.Prelude.{vec_len}
use Rattle.std.specs.Int.RustNames.{unsigned_abs}
use Rattle.std.proofs.lemmas.Bool.{false≢true}
use Rattle.std.proofs.lemmas.List.Elements.{All-set}
use Rattle.dual_value.specs.declared.bounds.TheConstants.{MAX_SLACK}
use Rattle.dual_value.proofs.Torn.{knows_site}
use Rattle.leaf_book.specs.Rows.{Held}
use Rattle.leaf_book.proofs.Moved.{bits, bits_small, read_small, old_read, place_within, row_moved, moved_small}
use Rattle.leaf_book.proofs.OneTerm.{touched_by, former_slack}
use Rattle.leaf_book.proofs.Touched.{sums_nowhere}
use Rattle.leaf_book.proofs.row.Row.touch.Goals as goal

pub index-old-requires : goal.index-old-requires
index-old-requires g c =
    let due = touched_by c.args.change c.args.site 0 0 c.args.inst.now c.args.path.now (g.D.DualsByPlace.numbers c.args.duals.now) c.args.self.now c.requires.of_site c.requires.due in
    place_within c.args.inst.now (g.D.DualsByPlace.numbers c.args.duals.now) due.0 due.1 c.args.site due.2 c.args.path.now _ c.in-Some.place (vec_len c.self.inside.slacks) (ap (λ (h : Held). h.sums) c.self.view_is ∙ due.3) (sym c.self.inside.slacks.ok.0) c.in-Some.ensures.found.0

pub slack_behind-new-requires-clause-small : goal.slack_behind-new-requires-clause-small
slack_behind-new-requires-clause-small g c =
    let due = touched_by c.args.change c.args.site 0 0 c.args.inst.now c.args.path.now (g.D.DualsByPlace.numbers c.args.duals.now) c.args.self.now c.requires.of_site c.requires.due in
    let within = place_within c.args.inst.now (g.D.DualsByPlace.numbers c.args.duals.now) due.0 due.1 c.args.site due.2 c.args.path.now _ c.in-Some.place _ (ap (λ (h : Held). h.sums) c.self.view_is ∙ due.3) refl c.in-Some.ensures.found.0 in
    bits_small c.index-old.result.now (read_small c.self.inside.slacks.items c.in-Some.place c.index-old.result.now c.self.invariant.slacks within c.index-old.ensures)

pub slack_behind-new-requires-clause-old : goal.slack_behind-new-requires-clause-old
slack_behind-new-requires-clause-old g c =
    let due = touched_by c.args.change c.args.site 0 0 c.args.inst.now c.args.path.now (g.D.DualsByPlace.numbers c.args.duals.now) c.args.self.now c.requires.of_site c.requires.due in
    let a = c.self.inside in
    let within = place_within c.args.inst.now (g.D.DualsByPlace.numbers c.args.duals.now) due.0 due.1 c.args.site due.2 c.args.path.now _ c.in-Some.place _ (ap (λ (h : Held). h.sums) c.self.view_is ∙ due.3) refl c.in-Some.ensures.found.0 in
    former_slack c.args.change c.args.site 0 0 c.args.inst.now c.args.path.now (g.D.DualsByPlace.numbers c.args.duals.now) c.args.self.now c.requires.of_site c.requires.due c.in-Some.place c.in-Some.ensures.found.0 c.in-Some.ensures.found.1
    (bits c.index-old.result.now)
    (old_read a.slacks.items c.in-Some.place c.index-old.result.now c.self.invariant.slacks within c.index-old.ensures ∙ ap (λ (h : Held). get_or h.sums.slacks c.in-Some.place (pos 0)) c.self.view_is)

pub index_mut-requires : goal.index_mut-requires
index_mut-requires g c =
    let due = touched_by c.args.change c.args.site 0 0 c.args.inst.now c.args.path.now (g.D.DualsByPlace.numbers c.args.duals.now) c.args.self.now c.requires.of_site c.requires.due in
    place_within c.args.inst.now (g.D.DualsByPlace.numbers c.args.duals.now) due.0 due.1 c.args.site due.2 c.args.path.now _ c.in-Some.place (vec_len c.self.inside.slacks) (ap (λ (h : Held). h.sums) c.self.view_is ∙ due.3) (sym c.self.inside.slacks.ok.0) c.in-Some.ensures.found.0

pub share-requires-in-Some-clause-small : goal.share-requires-in-Some-clause-small
share-requires-in-Some-clause-small g c =
    let due = touched_by c.args.change c.args.site 0 0 c.args.inst.now c.args.path.now (g.D.DualsByPlace.numbers c.args.duals.now) c.args.self.now c.requires.of_site c.requires.due in
    let within = place_within c.args.inst.now (g.D.DualsByPlace.numbers c.args.duals.now) due.0 due.1 c.args.site due.2 c.args.path.now _ c.in-Some.place _ (ap (λ (h : Held). h.sums) c.self.view_is ∙ due.3) refl c.in-Some.ensures.found.0 in
    bits_small c.index-old.result.now (read_small c.self.inside.slacks.items c.in-Some.place c.index-old.result.now c.self.invariant.slacks within c.index-old.ensures)

pub invariant_of-self : goal.invariant_of-self
invariant_of-self g c =
    let due = touched_by c.args.change c.args.site 0 0 c.args.inst.now c.args.path.now (g.D.DualsByPlace.numbers c.args.duals.now) c.args.self.now c.requires.of_site c.requires.due in
    let a = c.self.inside in
    record {
      scale = c.self.invariant.scale;
      slacks = All-set (λ x. unsigned_abs x ≤ MAX_SLACK) a.slacks.items c.in-Some.place (bits c.slack_behind-new.result) (bits_small c.slack_behind-new.result c.slack_behind-new.ensures.small) c.self.invariant.slacks;
      bound =
          moved_small c.args.inst.now (g.D.DualsByPlace.numbers c.args.duals.now) due.0 due.1 c.args.site due.2 c.args.path.now c.sites-valid.ensures.valid c.requires.fit c.in-Some.place c.in-Some.ensures.found.0 c.in-Some.ensures.found.1
          a.q a.slacks.items a.bound (ap (λ (h : Held). h.sums) c.self.view_is ∙ due.3) c.self.invariant.slacks c.self.invariant.bound
          c.index-old.result.now c.slack_behind-new.result c.share.result c.share-in-Some.result c.index-old.ensures c.slack_behind-new.ensures.exact c.slack_behind-new.ensures.small c.share.ensures.exact c.share.ensures.small c.share-in-Some.ensures.exact c.share-in-Some.ensures.small;
    }

pub returns-in-Some-clause-sums : goal.returns-in-Some-clause-sums
returns-in-Some-clause-sums g c =
    let due = touched_by c.args.change c.args.site 0 0 c.args.inst.now c.args.path.now (g.D.DualsByPlace.numbers c.args.duals.now) c.args.self.now c.requires.of_site c.requires.due in
    let a = c.self.inside in
    row_moved c.args.inst.now (g.D.DualsByPlace.numbers c.args.duals.now) due.0 due.1 c.args.site due.2 c.args.path.now c.sites-valid.ensures.valid c.requires.fit c.in-Some.place c.in-Some.ensures.found.0 c.in-Some.ensures.found.1
    a.q a.slacks.items a.bound (ap (λ (h : Held). h.sums) c.self.view_is ∙ due.3) c.self.invariant.slacks c.self.invariant.bound
    c.index-old.result.now c.slack_behind-new.result c.share.result c.share-in-Some.result c.index-old.ensures c.slack_behind-new.ensures.exact c.slack_behind-new.ensures.small c.share.ensures.exact c.share.ensures.small c.share-in-Some.ensures.exact c.share-in-Some.ensures.small

pub returns-in-None-clause-sums : goal.returns-in-None-clause-sums
returns-in-None-clause-sums g c =
    let due = touched_by c.args.change c.args.site 0 0 c.args.inst.now c.args.path.now (g.D.DualsByPlace.numbers c.args.duals.now) c.args.self.now c.requires.of_site c.requires.due in
    due.3 ∙ sym (sums_nowhere c.args.inst.now (g.D.DualsByPlace.numbers c.args.duals.now) due.0 due.1 c.args.site due.2 c.args.path.now
    (λ i b same. false≢true (c.in-None.ensures.known.1 (knows_site c.args.inst.now i c.args.site b (sym same)))))
