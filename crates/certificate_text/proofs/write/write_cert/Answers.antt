use Rattle.std.proofs.Common.{◌≡◌, ◌+◌, ◌<◌, ◌≤◌, ◌++◌, length, arith, ◌∙◌}
use Rattle.shelf_port.proofs.Results.{OnErr-holds, OnOk-then, OnErr-then}
use Rattle.location_terms.specs.Certificate.{Certificate}
use Rattle.branch_tree.specs.Preorder.{flat}
use Rattle.branch_tree.proofs.Flat.{length-flat}
use Rattle.certificate_text.specs.Cert.{certificate_lent}
use Rattle.certificate_text.proofs.Nodes.{added_at}
use Rattle.certificate_text.proofs.Parts.{gathered_prefix, gathered_some, gathered_all, gathered_last, gathered_anew, head_gathered, node_gathered, end_gathered, text_at, cut}
use Rattle.certificate_text.proofs.write.write_cert.Goals as goal
use Rattle.certificate_text.proofs.write.write_cert.Goals.{then-len-ge-PIECE+in_ok-append_whole, else-len-ge-PIECE}

pub loop-at-init : goal.loop-at-init
loop-at-init g c = (
  head_gathered c.args.inst.now (certificate_lent c.args.cert) _ _ _ _ _ c.in_ok-create.ensures.ok c.in_ok-push_head.ensures c.new-text.ensures.items,
  c.in_ok-create.ensures.reads,
  c.in_ok-create.ensures.writes,
)

pub returns-in_err-push_node-clause-err : goal.returns-in_err-push_node-clause-err
returns-in_err-push_node-clause-err g c =
    OnErr-holds c.from_residual-in_err-push_node.result
    (gathered_prefix _ _ _ _ _ c.loop-at.invariant.0 _ _ (cut c.args.inst.now (certificate_lent c.args.cert) c.loop-at.at))

pub returns-in_err-append_whole-clause-err : goal.returns-in_err-append_whole-clause-err
returns-in_err-append_whole-clause-err g c =
    let cert : Certificate = certificate_lent c.args.cert in
    let within : c.loop-at.at < length (flat cert.tree.root) = omega (arith, c.nodes-at-end.ensures.count, length-flat cert.tree.root) in
    let node : c.deref.result.now ≡ c.loop-at.text.items ++ text_at c.args.inst.now cert c.loop-at.at =
    c.deref.ensures.value ∙ added_at cert.tree.sites _ _ cert.tree.root c.loop-at.at within c.in_ok-push_node.ensures in
    OnErr-holds c.from_residual-in_err-append_whole.result
    (gathered_some _ _ _ _ _ (node_gathered c.args.inst.now cert _ _ _ _ _ c.loop-at.at c.loop-at.invariant.0 within node)
    _ _ (cut c.args.inst.now cert (c.loop-at.at + 1)) _ c.in_err-append_whole.ensures.err)

pub loop-at-preserved : goal.loop-at-preserved
loop-at-preserved g c =
    let cert : Certificate = certificate_lent c.args.cert in
    let within : c.loop-at.at < length (flat cert.tree.root) = omega (arith, c.nodes-at-end.ensures.count, length-flat cert.tree.root) in
    let node : c.push_node.new.text.items ≡ c.loop-at.text.items ++ text_at c.args.inst.now cert c.loop-at.at =
    added_at cert.tree.sites _ _ cert.tree.root c.loop-at.at within c.in_ok-push_node.ensures in
    elim c.if-len-ge-PIECE.branch [
      | then-len-ge-PIECE+in_ok-append_whole w ↦ rw w.shelf-is (rw w.text-is (
        gathered_anew _ _ _ _ _ (node_gathered c.args.inst.now cert _ _ _ _ _ c.loop-at.at c.loop-at.invariant.0 within (w.deref.ensures.value ∙ node)) _ _ w.in_ok-append_whole.ensures.ok w.clear.ensures.items,
        λ name. omega (arith, w.in_ok-append_whole.ensures.reads name, c.loop-at.invariant.1 name),
        λ name. omega (arith, w.in_ok-append_whole.ensures.writes name, c.loop-at.invariant.2 name),
      ))
      | else-len-ge-PIECE w ↦ rw w.shelf-is (rw w.text-is (
        node_gathered c.args.inst.now cert _ _ _ _ _ c.loop-at.at c.loop-at.invariant.0 within node,
        c.loop-at.invariant.1,
        c.loop-at.invariant.2,
      ))
    ]

pub returns-in_err-extend_from_slice-clause-err : goal.returns-in_err-extend_from_slice-clause-err
returns-in_err-extend_from_slice-clause-err g c =
    OnErr-holds c.from_residual-in_err-extend_from_slice.result
    (gathered_prefix _ _ _ _ _ c.loop-at.invariant.0 _ _ (cut c.args.inst.now (certificate_lent c.args.cert) c.loop-at.at))

pub returns-clause-ok : goal.returns-clause-ok
returns-clause-ok g c =
    let cert : Certificate = certificate_lent c.args.cert in
    let past : length (flat cert.tree.root) ≤ c.loop-at.at = omega (arith, c.nodes-at-end.ensures.count, length-flat cert.tree.root) in
    OnOk-then c.append_whole-2.result
    (gathered_all _ _ _ _ _ (end_gathered c.args.inst.now cert _ _ _ _ _ c.loop-at.at c.loop-at.invariant.0 past (c.deref-2.ensures.value ∙ c.in_ok-extend_from_slice.ensures.items)) _)
    c.append_whole-2.ensures.ok

pub returns-clause-err : goal.returns-clause-err
returns-clause-err g c =
    let cert : Certificate = certificate_lent c.args.cert in
    let past : length (flat cert.tree.root) ≤ c.loop-at.at = omega (arith, c.nodes-at-end.ensures.count, length-flat cert.tree.root) in
    OnErr-then c.append_whole-2.result
    (gathered_last _ _ _ _ _ (end_gathered c.args.inst.now cert _ _ _ _ _ c.loop-at.at c.loop-at.invariant.0 past (c.deref-2.ensures.value ∙ c.in_ok-extend_from_slice.ensures.items)) _)
    c.append_whole-2.ensures.err
