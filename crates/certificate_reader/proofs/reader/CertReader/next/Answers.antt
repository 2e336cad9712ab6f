use Rattle.std.proofs.Common.{sym, ◌∙◌, inr, arith}
use Rattle.certificate_reader.proofs.Exits.{ends_too_soon, cut_in_line, reads_whole, cut_behind, bytes_behind, line_steps, line_sound, no_read}
use Rattle.certificate_reader.proofs.reader.CertReader.next.Goals as goal

pub returns-in-Ok-Bytes-clause-step : goal.returns-in-Ok-Bytes-clause-step
returns-in-Ok-Bytes-clause-step g c = λ limit seen b.
    rw c.fault.ensures (inr (bytes_behind _ _ limit _ seen c.args.self.now b c.in-Some.claim (sym c.claim.ensures ∙ c.in-Some.is) c.peek.new.self c.in-Ok-Bytes.ensures.rest c.in-Ok-Bytes.ensures.there (c.in-Ok-Bytes.ensures.bytes cc) c.in-Ok-Bytes.ensures.unread))

pub returns-in-Ok-End-clause-step : goal.returns-in-Ok-End-clause-step
returns-in-Ok-End-clause-step g c = λ limit seen b.
    reads_whole _ _ limit _ seen c.args.self.now b c.in-Some.claim (sym c.claim.ensures ∙ c.in-Some.is) c.peek.new.self c.in-Ok-End.ensures.rest (c.in-Ok-End.ensures.end cc) c.in-Ok-End.ensures.same_limit

pub returns-in-Ok-Limit-clause-step : goal.returns-in-Ok-Limit-clause-step
returns-in-Ok-Limit-clause-step g c = λ limit seen b.
    inr (cut_behind _ _ limit _ seen c.args.self.now b c.in-Some.claim (sym c.claim.ensures ∙ c.in-Some.is) c.peek.new.self c.in-Ok-Limit.ensures.rest (c.in-Ok-Limit.ensures.limit cc) c.in-Ok-Limit.ensures.same_limit)

pub returns-in-Ok-End-next-clause-step : goal.returns-in-Ok-End-next-clause-step
returns-in-Ok-End-next-clause-step g c = λ limit seen b.
    rw c.fault-in-Ok-End-next.ensures (inr (ends_too_soon _ _ limit _ seen c.args.self.now b (sym c.claim.ensures ∙ c.in_default.is) c.next.new.self (c.in-Ok-End-next.ensures.end cc) c.in-Ok-End-next.ensures.is_line c.in-Ok-End-next.ensures.same_limit))

pub returns-in-Ok-Limit-next-clause-step : goal.returns-in-Ok-Limit-next-clause-step
returns-in-Ok-Limit-next-clause-step g c = λ limit seen b.
    inr (cut_in_line _ _ limit _ seen c.args.self.now b (sym c.claim.ensures ∙ c.in_default.is) c.next.new.self (c.in-Ok-Limit-next.ensures.limit cc) c.in-Ok-Limit-next.ensures.is_line c.in-Ok-Limit-next.ensures.same_limit)

pub returns-in-Ok-Line-clause-step : goal.returns-in-Ok-Line-clause-step
returns-in-Ok-Line-clause-step g c =
    line_steps _ _ c.args.inst.now c.args.self.now c.take.new.self c.next.new.self
    (record { rest = c.in-Ok-Line.ensures.line cc; is_line = c.in-Ok-Line.ensures.is_line; there = c.in-Ok-Line.ensures.there; takes_off = c.in-Ok-Line.ensures.unread cc; same_limit = c.in-Ok-Line.ensures.same_limit })
    c.take.result c.take.ensures

pub returns-in-Ok-Line-clause-sound : goal.returns-in-Ok-Line-clause-sound
returns-in-Ok-Line-clause-sound g c =
    line_sound (g.H.Shelf.files c.args.shelf.now) c.args.name.now c.args.inst.now c.args.self.now c.take.new.self c.next.new.self
    (record { rest = c.in-Ok-Line.ensures.line cc; is_line = c.in-Ok-Line.ensures.is_line; there = c.in-Ok-Line.ensures.there; takes_off = c.in-Ok-Line.ensures.unread cc; same_limit = c.in-Ok-Line.ensures.same_limit })
    c.take.result c.take.ensures

pub returns-in-Ok-Line-clause-failed : goal.returns-in-Ok-Line-clause-failed
returns-in-Ok-Line-clause-failed g c = no_read c.args.inst.now c.args.self.now c.take.new.self c.next.new.self c.take.result c.take.ensures

pub take-requires-clause-few : goal.take-requires-clause-few
take-requires-clause-few g c = omega (arith, c.requires.ready.few, c.in-Ok-Line.ensures.unread cc)
