use Rattle.std.proofs.Common.{◌≡◌, ◌∙◌, inl, inr, refl}
use Rattle.shelf_port.specs.Ports.{ShelfState, shelf_state}
use Rattle.instance_text.specs.OwnText.{own_text}
use Rattle.dualoc_cli.proofs.Causes.{changes_none}
use Rattle.dualoc_cli.proofs.Converting.{begun, fails, begun_whole, converted}
use Rattle.dualoc_cli.proofs.convert.convert.Goals as goal

pub returns-in_err-text-clause-keeps : goal.returns-in_err-text-clause-keeps
returns-in_err-text-clause-keeps g c =
    let old : ShelfState = shelf_state (g.H.Shelf.files c.args.shelf.now) (g.H.Shelf.read_faults c.args.shelf.now) (g.H.Shelf.write_faults c.args.shelf.now) in
    λ r task part. inl (changes_none r old old part refl)

pub returns-in-Ok-clause-cause : goal.returns-in-Ok-clause-cause
returns-in-Ok-clause-cause g c =
    let old : ShelfState = shelf_state (g.H.Shelf.files c.args.shelf.now) (g.H.Shelf.read_faults c.args.shelf.now) (g.H.Shelf.write_faults c.args.shelf.now) in
    let new : ShelfState = shelf_state (g.H.Shelf.files c.put_whole.new.shelf) (g.H.Shelf.read_faults c.put_whole.new.shelf) (g.H.Shelf.write_faults c.put_whole.new.shelf) in
    let text_is : c.deref.result.now ≡ own_text c.args.inst.now = c.deref.ensures.value ∙ c.in_ok-text.ensures in
    λ r task part. converted r c.args.new.now c.args.inst.now task old new part c.deref.result.now text_is c.in-Ok.ensures.ok c.sites-sites.result c.custs-custs.result c.sites-sites.ensures.count c.custs-custs.ensures.count

pub returns-in-Ok-clause-keeps : goal.returns-in-Ok-clause-keeps
returns-in-Ok-clause-keeps g c =
    let old : ShelfState = shelf_state (g.H.Shelf.files c.args.shelf.now) (g.H.Shelf.read_faults c.args.shelf.now) (g.H.Shelf.write_faults c.args.shelf.now) in
    let new : ShelfState = shelf_state (g.H.Shelf.files c.put_whole.new.shelf) (g.H.Shelf.read_faults c.put_whole.new.shelf) (g.H.Shelf.write_faults c.put_whole.new.shelf) in
    let text_is : c.deref.result.now ≡ own_text c.args.inst.now = c.deref.ensures.value ∙ c.in_ok-text.ensures in
    λ r task part. inr (begun_whole r c.args.new.now c.args.inst.now task old new part c.deref.result.now text_is c.in-Ok.ensures.ok)

pub returns-in-Err-Failed-clause-cause : goal.returns-in-Err-Failed-clause-cause
returns-in-Err-Failed-clause-cause g c =
    let old : ShelfState = shelf_state (g.H.Shelf.files c.args.shelf.now) (g.H.Shelf.read_faults c.args.shelf.now) (g.H.Shelf.write_faults c.args.shelf.now) in
    let new : ShelfState = shelf_state (g.H.Shelf.files c.put_whole.new.shelf) (g.H.Shelf.read_faults c.put_whole.new.shelf) (g.H.Shelf.write_faults c.put_whole.new.shelf) in
    let text_is : c.deref.result.now ≡ own_text c.args.inst.now = c.deref.ensures.value ∙ c.in_ok-text.ensures in
    let says = rw c.in-Err-Failed.field-0-is at c.in-Err-Failed.ensures in
    λ r task part. fails r c.args.new.now c.args.inst.now task old new part c.deref.result.now text_is says.err (says.failed refl)

pub returns-in-Err-Failed-clause-keeps : goal.returns-in-Err-Failed-clause-keeps
returns-in-Err-Failed-clause-keeps g c =
    let old : ShelfState = shelf_state (g.H.Shelf.files c.args.shelf.now) (g.H.Shelf.read_faults c.args.shelf.now) (g.H.Shelf.write_faults c.args.shelf.now) in
    let new : ShelfState = shelf_state (g.H.Shelf.files c.put_whole.new.shelf) (g.H.Shelf.read_faults c.put_whole.new.shelf) (g.H.Shelf.write_faults c.put_whole.new.shelf) in
    let text_is : c.deref.result.now ≡ own_text c.args.inst.now = c.deref.ensures.value ∙ c.in_ok-text.ensures in
    λ r task part. inr (begun r c.args.new.now c.args.inst.now task old new part c.deref.result.now text_is c.in-Err-Failed.ensures.err)

pub returns-clause-keeps : goal.returns-clause-keeps
returns-clause-keeps g c =
    let old : ShelfState = shelf_state (g.H.Shelf.files c.args.shelf.now) (g.H.Shelf.read_faults c.args.shelf.now) (g.H.Shelf.write_faults c.args.shelf.now) in
    let new : ShelfState = shelf_state (g.H.Shelf.files c.put_whole.new.shelf) (g.H.Shelf.read_faults c.put_whole.new.shelf) (g.H.Shelf.write_faults c.put_whole.new.shelf) in
    let text_is : c.deref.result.now ≡ own_text c.args.inst.now = c.deref.ensures.value ∙ c.in_ok-text.ensures in
    λ r task part. inr (begun r c.args.new.now c.args.inst.now task old new part c.deref.result.now text_is c.in-Err-NoMemory.ensures.err)
