use Rattle.std.proofs.Common.{◌≡◌, ◌∙◌, refl, inl}
use Rattle.shelf_port.specs.Ports.{ShelfState, shelf_state}
use Rattle.location_terms.specs.Certificate.{Certificate}
use Rattle.report.specs.PlanText.{plan_text_of}
use Rattle.certificate_text.specs.Cert.{certificate_lent}
use Rattle.dualoc_cli.specs.Command.{ResultFiles}
use Rattle.dualoc_cli.specs.Step.{asked_result}
use Rattle.dualoc_cli.proofs.Storing.{begun_plan, plan_fails, begun_certificate, certificate_fails, stored, begun_whole}
use Rattle.dualoc_cli.proofs.search.leave.Goals as goal

pub returns-in_err-plan-clause-begun : goal.returns-in_err-plan-clause-begun
returns-in_err-plan-clause-begun g c =
    let cert : Certificate = certificate_lent c.args.cert.now in
    let into : ResultFiles = asked_result c.args.into in
    let old : ShelfState = shelf_state (g.H.Shelf.files c.args.shelf.now) (g.H.Shelf.read_faults c.args.shelf.now) (g.H.Shelf.write_faults c.args.shelf.now) in
    λ r asked part. begun_plan r into c.args.inst.now c.args.budget cert asked c.requires old old part (plan_text_of c.args.inst.now cert.claim cert.plan) refl (inl refl)

pub returns-in-Err-Failed-clause-cause : goal.returns-in-Err-Failed-clause-cause
returns-in-Err-Failed-clause-cause g c =
    let cert : Certificate = certificate_lent c.args.cert.now in
    let into : ResultFiles = asked_result c.args.into in
    let text_is : c.deref.result.now ≡ plan_text_of c.args.inst.now cert.claim cert.plan = c.deref.ensures.value ∙ c.in_ok-plan.ensures in
    let old : ShelfState = shelf_state (g.H.Shelf.files c.args.shelf.now) (g.H.Shelf.read_faults c.args.shelf.now) (g.H.Shelf.write_faults c.args.shelf.now) in
    let new : ShelfState = shelf_state (g.H.Shelf.files c.put_whole.new.shelf) (g.H.Shelf.read_faults c.put_whole.new.shelf) (g.H.Shelf.write_faults c.put_whole.new.shelf) in
    let says = rw c.in-Err-Failed.field-0-is at c.in-Err-Failed.ensures in
    λ r asked part. plan_fails r into c.args.inst.now c.args.budget cert asked c.requires old new part c.deref.result.now text_is says.err (says.failed refl)

pub returns-in-Err-Failed-clause-begun : goal.returns-in-Err-Failed-clause-begun
returns-in-Err-Failed-clause-begun g c =
    let cert : Certificate = certificate_lent c.args.cert.now in
    let into : ResultFiles = asked_result c.args.into in
    let text_is : c.deref.result.now ≡ plan_text_of c.args.inst.now cert.claim cert.plan = c.deref.ensures.value ∙ c.in_ok-plan.ensures in
    let old : ShelfState = shelf_state (g.H.Shelf.files c.args.shelf.now) (g.H.Shelf.read_faults c.args.shelf.now) (g.H.Shelf.write_faults c.args.shelf.now) in
    let new : ShelfState = shelf_state (g.H.Shelf.files c.put_whole.new.shelf) (g.H.Shelf.read_faults c.put_whole.new.shelf) (g.H.Shelf.write_faults c.put_whole.new.shelf) in
    λ r asked part. begun_plan r into c.args.inst.now c.args.budget cert asked c.requires old new part c.deref.result.now text_is c.in-Err-Failed.ensures.err

pub returns-in-Err-NoMemory-clause-begun : goal.returns-in-Err-NoMemory-clause-begun
returns-in-Err-NoMemory-clause-begun g c =
    let cert : Certificate = certificate_lent c.args.cert.now in
    let into : ResultFiles = asked_result c.args.into in
    let text_is : c.deref.result.now ≡ plan_text_of c.args.inst.now cert.claim cert.plan = c.deref.ensures.value ∙ c.in_ok-plan.ensures in
    let old : ShelfState = shelf_state (g.H.Shelf.files c.args.shelf.now) (g.H.Shelf.read_faults c.args.shelf.now) (g.H.Shelf.write_faults c.args.shelf.now) in
    let new : ShelfState = shelf_state (g.H.Shelf.files c.put_whole.new.shelf) (g.H.Shelf.read_faults c.put_whole.new.shelf) (g.H.Shelf.write_faults c.put_whole.new.shelf) in
    λ r asked part. begun_plan r into c.args.inst.now c.args.budget cert asked c.requires old new part c.deref.result.now text_is c.in-Err-NoMemory.ensures.err

pub returns-in-Ok-write_cert-clause-cause : goal.returns-in-Ok-write_cert-clause-cause
returns-in-Ok-write_cert-clause-cause g c =
    let cert : Certificate = certificate_lent c.args.cert.now in
    let into : ResultFiles = asked_result c.args.into in
    let text_is : c.deref.result.now ≡ plan_text_of c.args.inst.now cert.claim cert.plan = c.deref.ensures.value ∙ c.in_ok-plan.ensures in
    let old : ShelfState = shelf_state (g.H.Shelf.files c.args.shelf.now) (g.H.Shelf.read_faults c.args.shelf.now) (g.H.Shelf.write_faults c.args.shelf.now) in
    let mid : ShelfState = shelf_state (g.H.Shelf.files c.put_whole.new.shelf) (g.H.Shelf.read_faults c.put_whole.new.shelf) (g.H.Shelf.write_faults c.put_whole.new.shelf) in
    let new : ShelfState = shelf_state (g.H.Shelf.files c.write_cert.new.shelf) (g.H.Shelf.read_faults c.write_cert.new.shelf) (g.H.Shelf.write_faults c.write_cert.new.shelf) in
    λ r asked part. stored r into c.args.inst.now c.args.budget cert asked c.requires old new part c.deref.result.now text_is mid c.in-Ok.ensures.ok c.in-Ok-write_cert.ensures.ok c.nodes.result c.nodes.ensures.count

pub returns-in-Ok-write_cert-clause-begun : goal.returns-in-Ok-write_cert-clause-begun
returns-in-Ok-write_cert-clause-begun g c =
    let cert : Certificate = certificate_lent c.args.cert.now in
    let into : ResultFiles = asked_result c.args.into in
    let text_is : c.deref.result.now ≡ plan_text_of c.args.inst.now cert.claim cert.plan = c.deref.ensures.value ∙ c.in_ok-plan.ensures in
    let old : ShelfState = shelf_state (g.H.Shelf.files c.args.shelf.now) (g.H.Shelf.read_faults c.args.shelf.now) (g.H.Shelf.write_faults c.args.shelf.now) in
    let mid : ShelfState = shelf_state (g.H.Shelf.files c.put_whole.new.shelf) (g.H.Shelf.read_faults c.put_whole.new.shelf) (g.H.Shelf.write_faults c.put_whole.new.shelf) in
    let new : ShelfState = shelf_state (g.H.Shelf.files c.write_cert.new.shelf) (g.H.Shelf.read_faults c.write_cert.new.shelf) (g.H.Shelf.write_faults c.write_cert.new.shelf) in
    λ r asked part. begun_whole r into c.args.inst.now c.args.budget cert asked c.requires old new part c.deref.result.now text_is mid c.in-Ok.ensures.ok c.in-Ok-write_cert.ensures.ok

pub returns-in-Err-Failed-write_cert-clause-cause : goal.returns-in-Err-Failed-write_cert-clause-cause
returns-in-Err-Failed-write_cert-clause-cause g c =
    let cert : Certificate = certificate_lent c.args.cert.now in
    let into : ResultFiles = asked_result c.args.into in
    let text_is : c.deref.result.now ≡ plan_text_of c.args.inst.now cert.claim cert.plan = c.deref.ensures.value ∙ c.in_ok-plan.ensures in
    let old : ShelfState = shelf_state (g.H.Shelf.files c.args.shelf.now) (g.H.Shelf.read_faults c.args.shelf.now) (g.H.Shelf.write_faults c.args.shelf.now) in
    let mid : ShelfState = shelf_state (g.H.Shelf.files c.put_whole.new.shelf) (g.H.Shelf.read_faults c.put_whole.new.shelf) (g.H.Shelf.write_faults c.put_whole.new.shelf) in
    let new : ShelfState = shelf_state (g.H.Shelf.files c.write_cert.new.shelf) (g.H.Shelf.read_faults c.write_cert.new.shelf) (g.H.Shelf.write_faults c.write_cert.new.shelf) in
    let says = rw c.in-Err-Failed-write_cert.field-0-is at c.in-Err-Failed-write_cert.ensures in
    λ r asked part. certificate_fails r into c.args.inst.now c.args.budget cert asked c.requires old new part c.deref.result.now text_is mid c.in-Ok.ensures.ok says.err c.in-Ok.ensures.writes (says.failed refl)

pub returns-in-Err-Failed-write_cert-clause-begun : goal.returns-in-Err-Failed-write_cert-clause-begun
returns-in-Err-Failed-write_cert-clause-begun g c =
    let cert : Certificate = certificate_lent c.args.cert.now in
    let into : ResultFiles = asked_result c.args.into in
    let text_is : c.deref.result.now ≡ plan_text_of c.args.inst.now cert.claim cert.plan = c.deref.ensures.value ∙ c.in_ok-plan.ensures in
    let old : ShelfState = shelf_state (g.H.Shelf.files c.args.shelf.now) (g.H.Shelf.read_faults c.args.shelf.now) (g.H.Shelf.write_faults c.args.shelf.now) in
    let mid : ShelfState = shelf_state (g.H.Shelf.files c.put_whole.new.shelf) (g.H.Shelf.read_faults c.put_whole.new.shelf) (g.H.Shelf.write_faults c.put_whole.new.shelf) in
    let new : ShelfState = shelf_state (g.H.Shelf.files c.write_cert.new.shelf) (g.H.Shelf.read_faults c.write_cert.new.shelf) (g.H.Shelf.write_faults c.write_cert.new.shelf) in
    λ r asked part. begun_certificate r into c.args.inst.now c.args.budget cert asked c.requires old new part c.deref.result.now text_is mid c.in-Ok.ensures.ok c.in-Err-Failed-write_cert.ensures.err

pub returns-clause-begun : goal.returns-clause-begun
returns-clause-begun g c =
    let cert : Certificate = certificate_lent c.args.cert.now in
    let into : ResultFiles = asked_result c.args.into in
    let text_is : c.deref.result.now ≡ plan_text_of c.args.inst.now cert.claim cert.plan = c.deref.ensures.value ∙ c.in_ok-plan.ensures in
    let old : ShelfState = shelf_state (g.H.Shelf.files c.args.shelf.now) (g.H.Shelf.read_faults c.args.shelf.now) (g.H.Shelf.write_faults c.args.shelf.now) in
    let mid : ShelfState = shelf_state (g.H.Shelf.files c.put_whole.new.shelf) (g.H.Shelf.read_faults c.put_whole.new.shelf) (g.H.Shelf.write_faults c.put_whole.new.shelf) in
    let new : ShelfState = shelf_state (g.H.Shelf.files c.write_cert.new.shelf) (g.H.Shelf.read_faults c.write_cert.new.shelf) (g.H.Shelf.write_faults c.write_cert.new.shelf) in
    λ r asked part. begun_certificate r into c.args.inst.now c.args.budget cert asked c.requires old new part c.deref.result.now text_is mid c.in-Ok.ensures.ok c.in-Err-NoMemory-write_cert.ensures.err
