use Rattle.std.proofs.Common.{◌≡◌, ◌<◌, length, arith, ◌∙◌}
use Rattle.std.proofs.lemmas.List.{length-take}
use Rattle.shelf_port.proofs.Reading.{read_further, read_to_end}
use Rattle.shelf_port.proofs.whole.read_whole.Goals as goal

pub returns-then-n-eq0-clause-content : goal.returns-then-n-eq0-clause-content
returns-then-n-eq0-clause-content g c =
    let place : c.len.result ≡ length c.loop-content.content.items = omega arith in
    let room : 0 < length c.read_at.new.into = omega arith in
    read_to_end _ _ _ _ _ _ _ _ c.loop-content.invariant.2 place c.loop-content.invariant.1 c.in_ok-n.ensures.bytes c.if-n-eq0.true room

pub loop-content-preserved : goal.loop-content-preserved
loop-content-preserved g c =
    let place : c.len.result ≡ length c.loop-content.content.items = omega arith in (
      omega (arith, c.in_ok-extend_from_slice.ensures.len, length-take c.in_ok-n.n c.read_at.new.into, c.if-limit-len.false),
      read_further _ _ _ _ _ _ _ _ _ c.loop-content.invariant.2 place c.loop-content.invariant.1 c.in_ok-n.ensures.bytes c.in_ok-n.ensures.bound c.in_ok-extend_from_slice.ensures.items,
      c.in_ok-n.ensures.unchanged ∙ c.loop-content.invariant.2,
      λ name. omega (arith, c.in_ok-n.ensures.reads name, c.loop-content.invariant.3 name),
      λ name. omega (arith, c.in_ok-n.ensures.writes name, c.loop-content.invariant.4 name),
    )
