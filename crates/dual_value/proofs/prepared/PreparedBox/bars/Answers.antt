use Rattle.std.proofs.Common.{◌≡◌, ◌<◌, ℕ, List, length, sym, ◌∙◌, arith, subst, slice_index_or}
use Rattle.std.proofs.lemmas.List.{get_or_past, get_or_default}
use Rattle.location_terms.specs.Instance.{site_at, customer_at}
use Rattle.dual_value.specs.Prepared.{Prepared}
use Rattle.dual_value.specs.LaneSteps.{AreChains, IsChain}
use Rattle.dual_value.proofs.Chains.{chain_none}
use Rattle.dual_value.proofs.prepared.PreparedBox.bars.Goals as goal
use Rattle.dual_value.proofs.prepared.PreparedBox.bars.Goals.{then-cust-len-via-then-cust-len, then-cust-len-via-else-cust-len+then-index-eq0}

pub returns-then-cust-len : goal.returns-then-cust-len
returns-then-cust-len c =
    let b : Prepared = c.args.self.now in
    let steps = c.self.inside.lane_steps in
    let are : AreChains b.instance b.path steps.lasts.items steps.befores.items = subst (λ (x : Prepared). AreChains x.instance x.path steps.lasts.items steps.befores.items) c.self.view_is c.self.invariant.chains in
    let none : slice_index_or steps.lasts.items c.args.cust 0 ≡ 0 = elim c.then-cust-len.branch [
      | then-cust-len-via-then-cust-len w ↦ get_or_past steps.lasts.items c.args.cust 0 (omega (arith, steps.lasts.ok, c.len.ensures, w.if-cust-len.true))
      | then-cust-len-via-else-cust-len+then-index-eq0 w ↦ get_or_default steps.lasts.items c.args.cust 0 w.index.result.now (omega (arith, steps.lasts.ok, c.len.ensures, w.if-cust-len.false)) ∙ sym w.index.ensures ∙ w.if-index-eq0.true
    ] in
    sym (chain_none b.path steps.befores.items (site_at b.instance c.args.site).id (customer_at b.instance c.args.cust).id _ (are c.args.cust c.requires.customer) none)

pub chain_bars-requires : goal.chain_bars-requires
chain_bars-requires c =
    let a = c.self.inside in
    let lasts = a.lane_steps.lasts in
    let j = c.args.cust in
    let known : j < length a.inst.now.customers = subst (λ (x : Prepared). j < length x.instance.customers) (sym c.self.view_is) c.requires.customer in
    let last : slice_index_or lasts.items j 0 ≡ c.index-2.result.now = get_or_default lasts.items j 0 c.index-2.result.now (omega (arith, lasts.ok, c.len.ensures, c.if-cust-len.false)) ∙ sym c.index-2.ensures in
    subst (λ (p : List ℕ × ℕ × ℕ). IsChain a.path.now p.0 p.1 p.2) (λ i. (sym c.deref.ensures.value i, sym c.cust_id.ensures i, last i)) (c.self.invariant.chains j known)
