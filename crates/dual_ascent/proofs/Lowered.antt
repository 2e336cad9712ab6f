-- The slacks fall, lane by lane, as a dual rises.
use Rattle.std.proofs.Common.{◌≡◌, ℕ, ◌+◌, ◌*◌, ◌<◌, ◌≤◌, sym, ap, subst, ◌∙◌, inl, inr, arith, false, List, map, length, All, get_or, slice_set, Option, unwrap_or, ℤ, pos, ◌-ℤ◌, ◌≤ℤ◌, ◌<ℤ◌}
use mir.Syntax.{w128}
use mir.Val.{to_z, of_z}
use Rattle.std.specs.Int.RustNames.{unsigned_abs, FitsSigned}
use Rattle.std.proofs.lemmas.Int.{ints}
use Rattle.std.proofs.lemmas.Nat.{mul-le}
use Rattle.std.proofs.lemmas.List.{get_or_default}
use Rattle.location_terms.specs.Instance.{Instance, IsValid, site_at, customer_at, lane}
use Rattle.location_terms.specs.Box.{Path}
use Rattle.location_terms.specs.Bound.{Duals, v_at, u_at, level_at, slack_of}
use Rattle.location_terms.specs.Fit.{AreTame}
use Rattle.lane_order.specs.declared.order.PlacedLane.{PlacedLane}
use Rattle.lane_order.specs.Order.{Order, IsOrderOf, lanes_to}
use Rattle.lane_order.specs.Placed.{named}
use Rattle.lane_order.proofs.Spread.{IsSpread, number_kept, spread_set, spread_past, spread_all}
use Rattle.dual_value.specs.declared.bounds.TheConstants.{MAX_SLACK}
use Rattle.dual_value.specs.Slacks.{AreSlacks}
use Rattle.dual_value.proofs.Sizes.{abs_below, abs_from, difference_kept, difference_fits}
use Rattle.dual_ascent.specs.Ascent.{is_blocked, raised}
use Rattle.dual_ascent.specs.Steps.{IsReached}
use Rattle.dual_ascent.proofs.Fair.{risen}
use Rattle.dual_ascent.proofs.Rise.{rise, rise_positive, rise_leaves}
use Rattle.dual_ascent.proofs.Raised.{raised_free}
use Rattle.dual_ascent.proofs.Measured.{slack_falls, slack_same}
use Rattle.dual_ascent.proofs.Sized.{slack_size}
use Rattle.dual_ascent.specs.Walk.{IsLaneWalk}
use Rattle.dual_ascent.proofs.Walked.{unserved_barred}

past_value : (v : ℤ) (a b c : ℕ) → v <ℤ pos a → a ≤ b → v <ℤ pos (b + c)
past_value v a b c h k = omega (arith, ints)

module _ (I : Instance) (path : Path) (d : Duals) (valid : IsValid I) (tame : AreTame I d) (j : ℕ) (known : j < length I.customers) (free : is_blocked I path d j ≡ false) where
  here : j < length d.v
  here = omega (arith, known, tame.fit.of_instance.customers)

  low : pos 0 ≤ℤ rise I path d j
  low = let up = rise_positive I path d j free in omega (arith, ints, up)

  as_risen : (i : ℕ) → slack_of I path (raised I path d j) i ≡ slack_of I path (risen I path d j (rise I path d j)) i
  as_risen i = ap (λ (f : Duals). slack_of I path f i) (raised_free I path d j free)

  -- the slack of a site that is reached falls by the rise, that of any other stays
  pub reached_falls : (i : ℕ) → IsReached I path d j i → slack_of I path (raised I path d j) i ≡ slack_of I path d i -ℤ rise I path d j
  reached_falls i reached = as_risen i ∙ slack_falls I path d j (rise I path d j) low here known i reached.allowed reached.under

  pub unreached_stays : (i : ℕ) → i < length I.sites → (IsReached I path d j i → ⊥) → slack_of I path (raised I path d j) i ≡ slack_of I path d i
  unreached_stays i b not_reached =
      as_risen i ∙ slack_same I path d j (rise I path d j) low here known i (λ allowed.
      elim (rise_leaves I path d j free i b allowed) [
        | inl over ↦ over
        | inr within ↦ absurd (not_reached (record { within = b; allowed = allowed; under = within.0 }))
      ])

  -- a rise is no more than the slack of a site that is reached
  pub rise_size : (i : ℕ) → IsReached I path d j i → unsigned_abs (rise I path d j) ≤ MAX_SLACK
  rise_size i reached =
      let up = rise_positive I path d j free in
      let most : rise I path d j ≤ℤ slack_of I path d i = elim (rise_leaves I path d j free i reached.within reached.allowed) [ inl over ↦ let under = reached.under in absurd (omega (arith, ints, up, over, under)) | inr within ↦ within.2 ] in
      let size = abs_below (slack_of I path d i) MAX_SLACK (slack_size I path d valid tame.fit i reached.within) in
      abs_from (rise I path d j) MAX_SLACK (omega (arith, ints, most, size)) (omega (arith, ints, up))

  -- what a walk takes off each site's slack
  abbrev pub amount : ℕ → ℤ
  amount i = slack_of I path d i -ℤ slack_of I path (raised I path d j) i

  -- no lane from the first on that alone costs more than the dual is reached
  pub past_unreached : (lanes : List PlacedLane) → IsLaneWalk I j lanes → (k m : ℕ) (e f : PlacedLane) → k ≤ m → m < length lanes → v_at d j <ℤ pos (d.q * (get_or lanes k e).cost) → IsReached I path d j (get_or lanes m f).site → ⊥
  past_unreached lanes walk k m e f later inside over reached =
      let i = (get_or lanes m f).site in
      let cost : unwrap_or (lane I (site_at I i).id (customer_at I j).id) 0 ≡ (get_or lanes m f).cost = ap (λ (o : Option ℕ). unwrap_or o 0) (walk.is_lane m f inside) in
      let first : (get_or lanes k f).cost ≡ (get_or lanes k e).cost = ap (λ (l : PlacedLane). l.cost) (get_or_default lanes k f e (omega (arith, later, inside))) in
      let more : d.q * (get_or lanes k e).cost ≤ d.q * unwrap_or (lane I (site_at I i).id (customer_at I j).id) 0 = mul-le d.q (get_or lanes k e).cost d.q (unwrap_or (lane I (site_at I i).id (customer_at I j).id) 0) (omega arith) (omega (arith, cost, first, walk.rising k m f later inside)) in
      let high : v_at d j <ℤ level_at I d i j = past_value (v_at d j) (d.q * (get_or lanes k e).cost) (d.q * unwrap_or (lane I (site_at I i).id (customer_at I j).id) 0) (u_at d i * (customer_at I j).demand) over more in
      let under = reached.under in
      omega (arith, ints, high, under)

  module _ (order : Order) (of : IsOrderOf order I) (lanes : List PlacedLane) (exact : map (named order.sites) lanes ≡ lanes_to order j) (placed : All (λ l. l.site < length order.sites) lanes) (old : List ℤ) (are : AreSlacks I path d old) where
    abbrev Walk : Type 0
    Walk = IsLaneWalk I j lanes

    not_reached_past : (i : ℕ) → i < length I.sites → (IsReached I path d j i → ⊥) → amount i ≡ pos 0
    not_reached_past i b not_reached = omega (arith, ints, unreached_stays i b not_reached)

    -- where no further lane is reached
    pub lowered_all : Walk → (k : ℕ) (new : List ℤ) → k ≤ length lanes → IsSpread lanes amount k old new → ((m : ℕ) (e : PlacedLane) → k ≤ m → m < length lanes → IsReached I path d j (get_or lanes m e).site → ⊥) → AreSlacks I path (raised I path d j) new
    lowered_all walk k new few spread rest =
        record {
          count = spread.count ∙ are.count;
          each = λ i b.
              let less = spread_all I order of j known lanes exact placed valid.sites_named.rising amount k old new few spread
              (λ m e late inside. not_reached_past (get_or lanes m e).site (walk.within m e inside) (rest m e late inside))
              (λ n c none. not_reached_past n c (λ reached. unserved_barred I path j n none reached.allowed)) i b in
              omega (arith, ints, less, are.each i b);
        }

    module _ (walk : Walk) (k : ℕ) (e : PlacedLane) (inside : k < length lanes) (mid : List ℤ) (spread : IsSpread lanes amount k old mid) where
      abbrev Site : ℕ
      Site = (get_or lanes k e).site

      pub unreached_next : (IsReached I path d j Site → ⊥) → IsSpread lanes amount (k + 1) old mid
      unreached_next not_reached = spread_past I order of j known lanes exact placed amount old mid k e inside spread (not_reached_past Site (walk.within k e inside) not_reached)

      number_is : get_or mid Site (pos 0) ≡ slack_of I path d Site
      number_is = number_kept I order of j known lanes exact placed amount old mid k e inside spread ∙ are.each Site (walk.within k e inside)

      module _ (reached : IsReached I path d j Site) (by : ℤ) (is : rise I path d j ≡ by) where
        slack_small : unsigned_abs (get_or mid Site (pos 0)) ≤ MAX_SLACK
        slack_small = subst (λ x. unsigned_abs x ≤ MAX_SLACK) (sym number_is) (slack_size I path d valid tame.fit Site (walk.within k e inside))

        by_small : unsigned_abs by ≤ MAX_SLACK
        by_small = subst (λ x. unsigned_abs x ≤ MAX_SLACK) is (rise_size Site reached)

        pub lowering_fits : FitsSigned w128 (to_z w128 (of_z w128 (get_or mid Site (pos 0))) -ℤ to_z w128 (of_z w128 by))
        lowering_fits = difference_fits (get_or mid Site (pos 0)) by MAX_SLACK MAX_SLACK slack_small by_small (omega arith)

        pub reached_next : (x : ℤ) → x ≡ to_z w128 (of_z w128 (to_z w128 (of_z w128 (get_or mid Site (pos 0))) -ℤ to_z w128 (of_z w128 by))) → IsSpread lanes amount (k + 1) old (slice_set mid Site x)
        reached_next x e_x =
            let bits : x ≡ get_or mid Site (pos 0) -ℤ by = e_x ∙ difference_kept (get_or mid Site (pos 0)) by MAX_SLACK MAX_SLACK slack_small by_small (omega arith) in
            let less : x ≡ get_or mid Site (pos 0) -ℤ amount Site = omega (arith, ints, bits, is, reached_falls Site reached) in
            spread_set I order of j known lanes exact placed amount old mid k e inside spread x (omega (arith, spread.count, are.count, walk.within k e inside)) less
