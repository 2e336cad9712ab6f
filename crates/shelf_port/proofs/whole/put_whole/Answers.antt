use Rattle.shelf_port.proofs.Results.{OnOk-then, OnErr-then}
use Rattle.shelf_port.proofs.Told.{put_all, put_some}
use Rattle.shelf_port.proofs.whole.put_whole.Goals as goal

pub returns-clause-ok : goal.returns-clause-ok
returns-clause-ok g c =
    OnOk-then c.append_whole.result (λ all. put_all _ _ _ _ _ c.in_ok-create.ensures.ok all) c.append_whole.ensures.ok

pub returns-clause-err : goal.returns-clause-err
returns-clause-err g c =
    OnErr-then c.append_whole.result (λ some. put_some _ _ _ _ _ c.in_ok-create.ensures.ok some) c.append_whole.ensures.err
