use Rattle.std.proofs.Common.{sym, suc}
use Rattle.dual_ascent.specs.Steps.{picked}
use Rattle.dual_ascent.proofs.Again.{no_rounds}
use Rattle.dual_ascent.proofs.Climbed.{one_more, climb_ends, round_tame, round_falls}
use Rattle.dual_ascent.proofs.climbing.climb.Goals as goal

pub rounds-init : goal.rounds-init
rounds-init c =
    record {
      climbed = (0, sym (no_rounds c.args.boxed.now.instance c.args.boxed.now.path (picked c.args.boxed.now.instance c.args.apart) c.args.duals.now));
      tame = c.requires.tame;
      slacks = c.requires.slacks;
      blockers = c.requires.blockers;
    }

pub rounds-preserved : goal.rounds-preserved
rounds-preserved c =
    let held = c.rounds.invariant in
    let did = c.round.ensures in
    record {
      climbed = (suc held.climbed.0, one_more c.args.boxed.now.instance c.args.boxed.now.path c.args.apart c.args.duals.now c.rounds.duals c.round.new.duals held.climbed.0 held.climbed.1 did.exact);
      tame = round_tame c.args.boxed.now.instance c.args.boxed.now.path c.args.apart c.requires.valid c.rounds.duals c.round.new.duals held.tame did.exact;
      slacks = did.slacks;
      blockers = did.blockers;
    }

pub rounds-smaller : goal.rounds-smaller
rounds-smaller c = round_falls c.args.boxed.now.instance c.args.boxed.now.path c.args.apart c.requires.valid c.rounds.duals c.round.new.duals c.rounds.invariant.tame c.round.ensures.exact c.rounds-test.ensures.moved

pub returns : goal.returns
returns c =
    let held = c.rounds.invariant in
    let did = c.round.ensures in
    record {
      climbed = climb_ends c.args.boxed.now.instance c.args.boxed.now.path c.args.apart c.args.duals.now c.rounds.duals c.round.new.duals held.climbed.0 held.climbed.1 did.exact c.rounds-test.ensures.moved;
      slacks = did.slacks;
    }
