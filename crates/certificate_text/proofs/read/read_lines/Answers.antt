use Rattle.std.proofs.Common.{◌≡◌, rules, ◌∙◌, arith, Err, []}
use Rattle.certificate_text.proofs.Reading.{kept_on, kept_fits, kept_few, ends_whole, comes_whole, fault_comes}
use Rattle.certificate_text.proofs.read.read_lines.Goals as goal

pub next-requires : goal.next-requires
next-requires g c = record { ready = (c.loop-kept.invariant.kept c.requires.start.0 c.requires.start.1).behind.ready }

pub keep-requires-clause-fits : goal.keep-requires-clause-fits
keep-requires-clause-fits g c = kept_fits _ _ _ c.args.inst.now c.loop-kept.reader c.next.new.self c.loop-kept.kept (c.loop-kept.invariant.kept c.requires.start.0 c.requires.start.1) _ (rw c.in-Line.is at c.in_ok-claim.ensures.sound).1

pub keep-requires-clause-few : goal.keep-requires-clause-few
keep-requires-clause-few g c = kept_few _ _ _ c.args.inst.now c.loop-kept.reader c.next.new.self c.loop-kept.kept (c.loop-kept.invariant.kept c.requires.start.0 c.requires.start.1)

pub finish-requires : goal.finish-requires
finish-requires g c =
    (ends_whole _ _ c.requires.start.0 c.args.inst.now c.loop-kept.reader c.next.new.self c.loop-kept.kept (c.loop-kept.invariant.kept c.requires.start.0 c.requires.start.1) c.in-Whole.claim c.sites-sites.ensures.valid (rw (c.in-Whole.is, c.loop-kept.invariant.unchanged) at c.in_ok-claim.ensures.step)).whole

pub returns-in-Whole-clause-comes : goal.returns-in-Whole-clause-comes
returns-in-Whole-clause-comes g c = λ limit start.
    comes_whole _ _ limit c.args.inst.now c.in-Whole.claim c.loop-kept.kept c.finish.result
    (ends_whole _ _ limit c.args.inst.now c.loop-kept.reader c.next.new.self c.loop-kept.kept (c.loop-kept.invariant.kept limit start) c.in-Whole.claim c.sites-sites.ensures.valid (rw (c.in-Whole.is, c.loop-kept.invariant.unchanged) at c.in_ok-claim.ensures.step)) c.finish.ensures

pub returns-in_err-claim-clause-comes : goal.returns-in_err-claim-clause-comes
returns-in_err-claim-clause-comes g c = λ limit start.
    let same : c.from_residual.result ≡ Err c.in_err-claim.field-0.0 = search rules in
    rw same (fault_comes _ _ limit c.args.inst.now c.loop-kept.reader c.next.new.self c.loop-kept.kept (c.loop-kept.invariant.kept limit start) c.in_err-claim.field-0.0 (rw c.loop-kept.invariant.unchanged at c.in_err-claim.ensures.step))

pub loop-kept-init : goal.loop-kept-init
loop-kept-init g c = record {
  kept = λ limit start. record { seen = []; behind = start; has = c.in-Ok.ensures };
  unchanged = search rules;
  reads = λ name. omega arith;
  writes = λ name. omega arith;
}

pub loop-kept-preserved : goal.loop-kept-preserved
loop-kept-preserved g c = record {
  kept = λ limit start. kept_on _ _ limit c.args.inst.now c.loop-kept.reader c.next.new.self c.loop-kept.kept (c.loop-kept.invariant.kept limit start) c.keep.new.self c.in-Line.field-0 c.in-Line.shown (rw (c.in-Line.is, c.loop-kept.invariant.unchanged) at c.in_ok-claim.ensures.step) c.in-Ok-keep.ensures;
  unchanged = c.in_ok-claim.ensures.unchanged ∙ c.loop-kept.invariant.unchanged;
  reads = λ name. omega (arith, c.in_ok-claim.ensures.reads name, c.loop-kept.invariant.reads name);
  writes = λ name. omega (arith, c.in_ok-claim.ensures.writes name, c.loop-kept.invariant.writes name);
}
