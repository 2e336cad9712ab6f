use Rattle.std.proofs.Common.{◌∙◌}
use Rattle.std.specs.Prelude.{is_some, if◌then◌else◌}
use Rattle.leaf_repair.specs.Placed.{at_place}
use Rattle.leaf_book.proofs.SeenNumbers.{price_seen, seen_prices}
use Rattle.leaf_book.proofs.seen.SeenDualsDualsByPlace.u.Goals as goal

pub cap-requires : goal.cap-requires
cap-requires c = (seen_prices c.args.self.now.inst.now c.args.self.now.duals.now.u c.args.self.now.sites.now c.args.i c.requires).0

pub place_at-requires : goal.place_at-requires
place_at-requires c = (seen_prices c.args.self.now.inst.now c.args.self.now.duals.now.u c.args.self.now.sites.now c.args.i c.requires).1

pub returns : goal.returns
returns c =
    let s = c.args.self.now in
    let within = seen_prices s.inst.now s.duals.now.u s.sites.now c.args.i c.requires in
    c.price_at.ensures ∙ (λ k. if is_some (c.cap.ensures.exact k) then at_place (c.prices.ensures k) 0 (c.place_at.ensures k) else 0) ∙ price_seen s.inst.now s.duals.now.u s.sites.now c.args.i within.0 within.1
