use Rattle.std.proofs.Common.{refl}
use Rattle.std.proofs.lemmas.Bool.{false≢true}
use Rattle.plan_meaning.proofs.judging.judge.Goals as goal

pub returns-then-not-serves_each_once-clause-fault : goal.returns-then-not-serves_each_once-clause-fault
returns-then-not-serves_each_once-clause-fault c = (
  c.if-not-knows_sites.ensures.0 refl,
  λ held. false≢true (c.if-not-serves_each_once.ensures.once.1 held),
)

pub returns-then-not-serves_from_open-clause-fault : goal.returns-then-not-serves_from_open-clause-fault
returns-then-not-serves_from_open-clause-fault c = (
  c.if-not-knows_sites.ensures.0 refl,
  c.if-not-serves_each_once.ensures.once.0 refl,
  λ held. false≢true (c.if-not-serves_from_open.ensures.1 held),
)

pub returns-then-not-uses_lanes-clause-fault : goal.returns-then-not-uses_lanes-clause-fault
returns-then-not-uses_lanes-clause-fault c = (
  c.if-not-knows_sites.ensures.0 refl,
  c.if-not-serves_each_once.ensures.once.0 refl,
  c.if-not-serves_from_open.ensures.0 refl,
  λ held. false≢true (c.if-not-uses_lanes.ensures.1 held),
)

pub returns-then-not-keeps_caps-clause-fault : goal.returns-then-not-keeps_caps-clause-fault
returns-then-not-keeps_caps-clause-fault c = (
  c.if-not-knows_sites.ensures.0 refl,
  c.if-not-serves_each_once.ensures.once.0 refl,
  c.if-not-serves_from_open.ensures.0 refl,
  c.if-not-uses_lanes.ensures.0 refl,
  λ held. false≢true (c.if-not-keeps_caps.ensures.1 held),
)

pub returns-then-not-keeps_count-clause-fault : goal.returns-then-not-keeps_count-clause-fault
returns-then-not-keeps_count-clause-fault c = (
  c.if-not-knows_sites.ensures.0 refl,
  c.if-not-serves_each_once.ensures.once.0 refl,
  c.if-not-serves_from_open.ensures.0 refl,
  c.if-not-uses_lanes.ensures.0 refl,
  c.if-not-keeps_caps.ensures.0 refl,
  λ held. false≢true (c.if-not-keeps_count.ensures.1 held),
)

pub returns-then-not-keeps_statuses-clause-fault : goal.returns-then-not-keeps_statuses-clause-fault
returns-then-not-keeps_statuses-clause-fault c = (
  c.if-not-knows_sites.ensures.0 refl,
  c.if-not-serves_each_once.ensures.once.0 refl,
  c.if-not-serves_from_open.ensures.0 refl,
  c.if-not-uses_lanes.ensures.0 refl,
  c.if-not-keeps_caps.ensures.0 refl,
  c.if-not-keeps_count.ensures.0 refl,
  λ held. false≢true (c.if-not-keeps_statuses.ensures.1 held),
)

pub cost-requires-clause-known : goal.cost-requires-clause-known
cost-requires-clause-known c = c.if-not-knows_sites.ensures.0 refl

pub returns-clause-feasible : goal.returns-clause-feasible
returns-clause-feasible c = record {
  plan = c.serves_each_once.ensures.plan;
  sites_known = c.if-not-knows_sites.ensures.0 refl;
  each_once = c.if-not-serves_each_once.ensures.once.0 refl;
  by_open = c.if-not-serves_from_open.ensures.0 refl;
  by_lane = c.if-not-uses_lanes.ensures.0 refl;
  within_cap = c.if-not-keeps_caps.ensures.0 refl;
  at_least = (c.if-not-keeps_count.ensures.0 refl).0;
  at_most = (c.if-not-keeps_count.ensures.0 refl).1;
  statuses = c.if-not-keeps_statuses.ensures.0 refl;
}
