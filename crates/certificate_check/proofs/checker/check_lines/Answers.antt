use Rattle.std.proofs.Common.{◌≡◌, rules, ◌∙◌, arith, Ok, Err, []}
use Rattle.std.proofs.lemmas.List.Elements.{All-nil}
use Rattle.certificate_check.specs.Judgement.{Stands}
use Rattle.certificate_check.proofs.Answers.{answers_yes, answers_fault, answers_no, stood_more}
use Rattle.certificate_check.proofs.checker.check_lines.Goals as goal

pub next-requires : goal.next-requires
next-requires g c = record { ready = (c.loop-bounds.invariant.stood c.requires.start.0 c.requires.start.1).behind.ready }

pub returns-in-Whole-clause-answer : goal.returns-in-Whole-clause-answer
returns-in-Whole-clause-answer g c = λ limit start.
    answers_yes _ _ limit c.args.inst.now c.loop-bounds.reader c.next.new.self (c.loop-bounds.invariant.stood limit start) c.in-Whole.claim (rw (c.in-Whole.is, c.loop-bounds.invariant.unchanged) at c.in_ok-claim.ensures.step)

pub returns-in_err-claim-clause-answer : goal.returns-in_err-claim-clause-answer
returns-in_err-claim-clause-answer g c = λ limit start.
    let same : c.from_residual.result ≡ Err c.in_err-claim.field-0.0 = search rules in
    rw same (answers_fault _ _ limit c.args.inst.now c.loop-bounds.reader c.next.new.self (c.loop-bounds.invariant.stood limit start) c.in_err-claim.field-0.0 (rw c.loop-bounds.invariant.unchanged at c.in_err-claim.ensures.step))

pub returns-in-Some-clause-answer : goal.returns-in-Some-clause-answer
returns-in-Some-clause-answer g c = λ limit start.
    answers_no _ _ limit c.args.inst.now c.loop-bounds.reader c.next.new.self (c.loop-bounds.invariant.stood limit start) c.in-Line.line c.in-Line.shown (Ok c.in-Some.no) (rw (c.in-Line.is, c.loop-bounds.invariant.unchanged) at c.in_ok-claim.ensures.step) (rw c.in-Line.is at c.in_ok-claim.ensures.sound).0 (rw c.in-Some.is at c.in_ok-no-in-Line.ensures.exact)

pub loop-bounds-init : goal.loop-bounds-init
loop-bounds-init g c = record {
  stood = λ limit start. record { seen = []; behind = start; has = All-nil (Stands c.args.inst.now) };
  bounds = c.of-bounds.ensures;
  unchanged = search rules;
  reads = λ name. omega arith;
  writes = λ name. omega arith;
}

pub loop-bounds-preserved : goal.loop-bounds-preserved
loop-bounds-preserved g c = record {
  stood = λ limit start. stood_more _ _ limit c.args.inst.now c.loop-bounds.reader c.next.new.self (c.loop-bounds.invariant.stood limit start) c.in-Line.line c.in-Line.shown (rw (c.in-Line.is, c.loop-bounds.invariant.unchanged) at c.in_ok-claim.ensures.step) (rw c.in_default.is at c.in_ok-no-in-Line.ensures.exact);
  bounds = c.refusal.ensures.kept ∙ c.loop-bounds.invariant.bounds;
  unchanged = c.in_ok-claim.ensures.unchanged ∙ c.loop-bounds.invariant.unchanged;
  reads = λ name. omega (arith, c.in_ok-claim.ensures.reads name, c.loop-bounds.invariant.reads name);
  writes = λ name. omega (arith, c.in_ok-claim.ensures.writes name, c.loop-bounds.invariant.writes name);
}
