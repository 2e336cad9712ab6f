-- The number that the code makes of one site's slack behind a change of one amount.
use Rattle.std.proofs.Common.{◌≡◌, ℕ, ◌<◌, ◌≤◌, ◌+◌, ◌*◌, ◌^◌, ap, sym, subst, ◌∙◌, arith, length, Option, ℤ, pos, ◌+ℤ◌, ◌-ℤ◌}
use Rattle.std.specs.Prelude.{◌≢◌, Contains}
use Rattle.std.specs.Int.RustNames.{unsigned_abs}
use Rattle.std.proofs.lemmas.List.{length-map, get_or-map}
use Rattle.location_terms.specs.declared.limits.TheConstants.{MAX_VALUE}
use Rattle.location_terms.specs.Instance.{Instance, Customer, IsValid, site_at, customer_at, customer_ids, lane}
use Rattle.location_terms.specs.Box.{Path}
use Rattle.location_terms.specs.Bound.{Duals, v_at, u_at, slack_of}
use Rattle.location_terms.specs.Fit.{DualsFit}
use Rattle.dual_value.specs.declared.bounds.TheConstants.{MAX_SLACK}
use Rattle.dual_value.proofs.Sizes.{kept, sum_kept}
use Rattle.leaf_book.specs.declared.change.Change.TheVariants.{Fixed as AtFixed, Lane as AtLane}
use Rattle.leaf_book.specs.OneSite.{over_level, paid_with, IsFormerSlack}
use Rattle.leaf_book.proofs.Moved.{bits, slack_moved}
use Rattle.leaf_book.proofs.OneTerm.{slack_fixed, slack_served, slack_unserved}
use Rattle.leaf_book.proofs.Sized.{slack_small}

pub knows_customer : (I : Instance) (j c : ℕ) → j < length I.customers → c ≡ (customer_at I j).id → Contains (customer_ids I) c
knows_customer I j c b e = let h : j < length (customer_ids I) = rw length-map b in (j, h, get_or-map (λ (x : Customer). x.id) I.customers j _ c b ∙ sym e)

-- by how much a dual is above a level, as the code takes its numbers
pub over_is : (I : Instance) (d : Duals) (i j : ℕ) → DualsFit I d → j < length I.customers → (q price : ℕ) (value : ℤ) (demand : ℕ) (o p : Option ℕ) (x : ℤ) → q ≡ d.q → price ≡ u_at d i → value ≡ v_at d j → demand ≡ (customer_at I j).demand → o ≡ p
    → x ≡ over_level q price (bits value) demand o → x ≡ over_level d.q (u_at d i) (v_at d j) (customer_at I j).demand p
over_is I d i j fit among q price value demand o p x q_is price_is value_is demand_is o_is is =
    let within : unsigned_abs (v_at d j) ≤ MAX_VALUE = fit.in_limits.values j (pos 0) (omega (arith, among, fit.of_instance.customers)) in
    let own : bits value ≡ v_at d j = ap bits value_is ∙ kept (v_at d j) MAX_VALUE within (omega arith) in
    is ∙ (λ k. over_level (q_is k) (price_is k) (own k) (demand_is k) (o_is k))

module _ (I : Instance) (path : Path) (d : Duals) (k : ℕ) (old : ℤ) (small : unsigned_abs old ≤ MAX_SLACK) where
  pub within : IsValid I → DualsFit I d → k < length I.sites → (x : ℤ) → x ≡ slack_of I path d k → unsigned_abs x ≤ MAX_SLACK
  within valid fit inside x is = subst (λ y. unsigned_abs y ≤ MAX_SLACK) (sym is) (slack_small I path d valid fit k inside)

  pub fixed_behind : k < length I.sites → (s cost : ℕ) → IsFormerSlack (AtFixed s cost) I path d k old → (x y : ℤ) → x ≡ pos (d.q * (site_at I k).fixed) → unsigned_abs x ≤ 2 ^ 96 → y ≡ pos (d.q * cost) → unsigned_abs y ≤ 2 ^ 96
      → bits (bits old +ℤ bits (bits x -ℤ bits y)) ≡ slack_of I path d k
  fixed_behind inside s cost was x y x_is x_small y_is y_small =
      slack_moved old x y (2 ^ 96) (2 ^ 96) small x_small y_small (omega arith)
      ∙ (λ z. was.1 z +ℤ (x_is z -ℤ y_is z))
      ∙ sym (slack_fixed I s cost path d k inside was.0)

  module _ (s c : ℕ) (cost : Option ℕ) (was : IsFormerSlack (AtLane s c cost) I path d k old) where
    pub lane_behind : IsValid I → (j : ℕ) → j < length I.customers → (customer_at I j).id ≡ c → (x : ℤ) → x ≡ paid_with I path d k j cost -ℤ paid_with I path d k j (lane I (site_at I k).id (customer_at I j).id) → unsigned_abs x ≤ 2 * MAX_VALUE
        → bits (bits old +ℤ bits x) ≡ slack_of I path d k
    lane_behind valid j among there x x_is x_small =
        sum_kept old x MAX_SLACK (2 * MAX_VALUE) small x_small (omega arith)
        ∙ (λ z. was.1 z +ℤ x_is z)
        ∙ sym (slack_served I s c cost path d k was.0 valid j among there)

    pub unserved_behind : ((j : ℕ) → j < length I.customers → (customer_at I j).id ≢ c) → bits old ≡ slack_of I path d k
    unserved_behind none = kept old MAX_SLACK small (omega arith) ∙ was.1 ∙ sym (slack_unserved I s c cost path d k was.0 none)
