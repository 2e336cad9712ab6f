-- What a change of one amount makes of one site's slack.
use Rattle.std.proofs.Common.{◌≡◌, ◌≢◌, ℕ, ◌<◌, refl, ap, sym, subst, ◌∙◌, arith, Bool, true, false, cond, List, map, length, get_or, Option, None, Some, ℤ, pos, ◌+ℤ◌, ◌-ℤ◌}
use Rattle.std.specs.Prelude.{◌+◌, ◌*◌, ◌==◌, ◌&&◌, not, is_some, unwrap_or, if◌then◌else◌}
use Rattle.std.specs.Int.{int_max}
use Rattle.std.specs.List.{list_any}
use Rattle.std.specs.FinMap.{get}
use Rattle.std.specs.Ordering.{eq_by_cmp}
use Rattle.std.proofs.lemmas.Int.{ints}
use Rattle.std.proofs.lemmas.Bool.{eq-eqb}
use Rattle.std.proofs.lemmas.List.{length-map}
use Rattle.std.proofs.lemmas.List.FromFn.{get_or-map-range_with_len}
use Rattle.location_terms.specs.Instance.{Instance, IsValid, Site, Customer, pair_cmp, site_at, customer_at, lane}
use Rattle.location_terms.specs.Box.{Path, is_torn, is_closed, bars_lane, holds_demand}
use Rattle.location_terms.specs.Bound.{Duals, v_at, u_at, total, cap_price, paid_at, slack_of}
use Rattle.location_terms.proofs.Rising.{one_place}
use Rattle.location_terms.proofs.Table.{pair_apart, pair_tied}
use Rattle.location_terms.proofs.Totals.{total_same}
use Rattle.instance_store.specs.Changes.{with_fixed, with_lane_cost}
use Rattle.instance_edits.proofs.LaneEdits.{get-lanes_with}
use Rattle.leaf_book.specs.declared.change.Change.{Change}
use Rattle.leaf_book.specs.declared.change.Change.TheVariants.{Fixed as AtFixed, Lane as AtLane, Site as AtSite, Count, All as Any}
use Rattle.leaf_book.specs.Sums.{LeafSums, sums_of}
use Rattle.leaf_book.specs.Rows.{Held}
use Rattle.leaf_book.specs.Due.{AreTouched, IsDue}
use Rattle.leaf_book.specs.OneSite.{is_open_to, over_level, paid_with, IsOfSite, IsFormerSlack}
use Rattle.leaf_book.proofs.Alike.{IsPaidAlike, paid_alike, torn_alike}
use Rattle.leaf_book.proofs.Differing.{site_is, site_differs, site_turned, lane_differs}
use Rattle.leaf_book.proofs.Touched.{many, same_id, settled, total_but_one}

-- A fixed cost.

pub fixed_touched : (I : Instance) (s cost : ℕ) (d : Duals) → AreTouched I d (with_fixed I s cost) d s
fixed_touched I s cost d = record {
  instances = site_turned (with_fixed I s cost) I s (site_differs I s (λ x. record x { fixed = cost }) (λ _. refl) (λ _. refl));
  q = refl;
  nu = refl;
  v = refl;
  u = λ i b other. refl;
}

module _ (I : Instance) (s cost : ℕ) (path : Path) (d : Duals) (k : ℕ) (inside : k < length I.sites) (here : (site_at I k).id ≡ s) where
  abbrev was : Instance
  was = with_fixed I s cost

  touched : AreTouched I d was d s
  touched = fixed_touched I s cost d

  site_was : site_at was k ≡ record (site_at I k) { fixed = cost }
  site_was = site_is I s (λ x. record x { fixed = cost }) (λ _. refl) (λ _. refl) k inside ∙ ap (λ b. if b then record (site_at I k) { fixed = cost } else site_at I k) (eq-eqb (site_at I k).id s here)

  paid : IsPaidAlike I path d was path d k
  paid =
      let id : (site_at I k).id ≡ (site_at was k).id = same_id I d was d s touched path k inside in
      record {
        cap = sym (ap (λ (x : Site). x.cap) site_was);
        settled = settled I d was d s touched path k inside;
        torn = torn_alike I path was path (many I d was d s touched path) (settled I d was d s touched path);
        customers = refl;
        lanes = λ c. ap (λ x. lane I x c) id;
        bars = λ j b. ap (λ x. list_any (bars_lane x (customer_at I j).id) path) id;
        q = refl;
        v = refl;
        u = refl;
      }

  pub slack_fixed : slack_of I path d k ≡ slack_of was path d k +ℤ (pos (d.q * (site_at I k).fixed) -ℤ pos (d.q * cost))
  slack_fixed =
      omega (arith, ints, paid_alike I path d was path d k paid, ap (λ (x : Site). pos (d.q * x.fixed)) site_was, ap (λ (x : Site). pos (cap_price (u_at d k) x.cap)) site_was)

-- A lane.

pub lane_touched : (I : Instance) (s c : ℕ) (cost : Option ℕ) (d : Duals) → AreTouched I d (with_lane_cost I s c cost) d s
lane_touched I s c cost d = record {
  instances = site_turned (with_lane_cost I s c cost) I s (lane_differs I s c cost);
  q = refl;
  nu = refl;
  v = refl;
  u = λ i b other. refl;
}

-- one of the terms that are taken off changes
taken : (x a b e f : ℤ) → b ≡ a +ℤ (e -ℤ f) → x -ℤ a ≡ (x -ℤ b) +ℤ (e -ℤ f)
taken x a b e f is = omega (arith, ints, is)

nothing : (b : Bool) → (if b then pos 0 else pos 0) ≡ pos 0
nothing true = refl
nothing false = refl

by_lane : (whole unclosed unbarred fits : Bool) (o : Option ℕ) (q price demand : ℕ) (v : ℤ)
    → (if whole && is_some o && unclosed && unbarred && fits then int_max (pos 0) (v -ℤ pos (q * unwrap_or o 0 + price * demand)) else pos 0) ≡ (if whole && unclosed && unbarred && fits then over_level q price v demand o else pos 0)
by_lane true unclosed unbarred fits (Some cost) q price demand v = refl
by_lane false unclosed unbarred fits (Some cost) q price demand v = refl
by_lane true unclosed unbarred fits None q price demand v = sym (nothing (unclosed && unbarred && fits))
by_lane false unclosed unbarred fits None q price demand v = refl

-- what is paid, by the cost of the lane
pub paid_is : (I : Instance) (path : Path) (d : Duals) (i j : ℕ) → paid_at I path d i j ≡ paid_with I path d i j (lane I (site_at I i).id (customer_at I j).id)
paid_is I path d i j =
    let x = site_at I i in
    let y = customer_at I j in
    by_lane (not (is_torn I path)) (not (is_closed path x)) (not (list_any (bars_lane x.id y.id) path)) (holds_demand x.cap y.demand) (lane I x.id y.id) d.q (u_at d i) y.demand (v_at d j)

module _ (I : Instance) (s c : ℕ) (cost : Option ℕ) (path : Path) (d : Duals) (k : ℕ) (here : (site_at I k).id ≡ s) where
  abbrev had : Instance
  had = with_lane_cost I s c cost

  apart : (i j : ℕ) → (customer_at I j).id ≢ c → paid_at had path d i j ≡ paid_at I path d i j
  apart i j other =
      let q : ℕ × ℕ = ((site_at I i).id, (customer_at I j).id) in
      let same : lane had (site_at I i).id (customer_at I j).id ≡ lane I (site_at I i).id (customer_at I j).id =
      get-lanes_with I.lanes s c cost q ∙ ap (λ b. cond b cost (get I.lanes q)) (pair_apart q (s, c) (λ e. other (ap (λ (p : ℕ × ℕ). p.1) e))) in
      paid_is had path d i j ∙ ap (paid_with I path d i j) same ∙ sym (paid_is I path d i j)

  -- what is left of the site before anyone pays
  abbrev unpaid : ℤ
  unpaid = (pos (d.q * (site_at I k).fixed) +ℤ d.nu) -ℤ pos (cap_price (u_at d k) (site_at I k).cap)

  pub slack_unserved : ((j : ℕ) → j < length I.customers → (customer_at I j).id ≢ c) → slack_of I path d k ≡ slack_of had path d k
  slack_unserved none = ap (λ x. unpaid -ℤ x) (sym (total_same (paid_at had path d k) (paid_at I path d k) (length I.customers) (λ j b. apart k j (none j b))))

  module _ (valid : IsValid I) (j : ℕ) (among : j < length I.customers) (there : (customer_at I j).id ≡ c) where
    lane_was : lane had (site_at I k).id (customer_at I j).id ≡ cost
    lane_was = (λ z. lane had (here z) (there z)) ∙ get-lanes_with I.lanes s c cost (s, c) ∙ ap (λ b. cond b cost (get I.lanes (s, c))) (pair_tied (s, c))

    pub slack_served : slack_of I path d k ≡ slack_of had path d k +ℤ (paid_with I path d k j cost -ℤ paid_with I path d k j (lane I (site_at I k).id (customer_at I j).id))
    slack_served =
        let own : paid_at had path d k j ≡ paid_with I path d k j cost = paid_is had path d k j ∙ ap (paid_with I path d k j) lane_was in
        let all : total (paid_at had path d k) (length I.customers) ≡ total (paid_at I path d k) (length I.customers) +ℤ (paid_at had path d k j -ℤ paid_at I path d k j) =
        total_but_one (paid_at had path d k) (paid_at I path d k) (length I.customers) j among (λ i b other. apart k i (λ same. other (one_place (λ x. x.id) I.customers _ valid.customers_named.rising i j b among (same ∙ sym there)))) in
        taken unpaid (total (paid_at I path d k) (length I.customers)) (total (paid_at had path d k) (length I.customers)) (paid_at had path d k j) (paid_at I path d k j) all
        ∙ (λ z. slack_of had path d k +ℤ (own z -ℤ paid_is I path d k j z))

-- A row that is due for a change at a site has the sums before it.

pub touched_by : (change : Change) (s lo hi : ℕ) (I : Instance) (path : Path) (d : Duals) (row : Held) → IsOfSite change s → IsDue change lo hi I path d row → (J : Instance) × (e : Duals) × AreTouched I d J e s × (row.sums ≡ sums_of J (path, e))
touched_by (AtFixed t cost) s lo hi I path d row same due = (with_fixed I t cost, d, subst (AreTouched I d (with_fixed I t cost) d) same (fixed_touched I t cost d), due)
touched_by (AtLane t c cost) s lo hi I path d row same due = (with_lane_cost I t c cost, d, subst (AreTouched I d (with_lane_cost I t c cost) d) same (lane_touched I t c cost d), due)
touched_by (AtSite t) s lo hi I path d row same due = (due.0, due.1, subst (AreTouched I d due.0 due.1) same due.2, due.3)
touched_by Count s lo hi I path d row same due = absurd same
touched_by Any s lo hi I path d row same due = absurd same

read_was : (J : Instance) (path : Path) (d : Duals) (row : Held) (k : ℕ) (old : ℤ) → row.sums ≡ sums_of J (path, d) → k < length J.sites → old ≡ get_or row.sums.slacks k (pos 0) → old ≡ slack_of J path d k
read_was J path d row k old is b read = read ∙ ap (λ (x : LeafSums). get_or x.slacks k (pos 0)) is ∙ get_or-map-range_with_len (slack_of J path d) 0 (length J.sites) k k (pos 0) b (omega arith)

pub former_slack : (change : Change) (s lo hi : ℕ) (I : Instance) (path : Path) (d : Duals) (row : Held) → IsOfSite change s → IsDue change lo hi I path d row
    → (k : ℕ) → k < length I.sites → (site_at I k).id ≡ s → (old : ℤ) → old ≡ get_or row.sums.slacks k (pos 0) → IsFormerSlack change I path d k old
former_slack (AtFixed t cost) s lo hi I path d row same due k b here old read = (here ∙ sym same, read_was (with_fixed I t cost) path d row k old due (omega (arith, b, length-map I.sites (λ (x : Site). if x.id == t then record x { fixed = cost } else x))) read)
former_slack (AtLane t c cost) s lo hi I path d row same due k b here old read = (here ∙ sym same, read_was (with_lane_cost I t c cost) path d row k old due b read)
former_slack (AtSite t) s lo hi I path d row same due k b here old read = tt
former_slack Count s lo hi I path d row same due k b here old read = tt
former_slack Any s lo hi I path d row same due k b here old read = tt

-- What the code makes of two costs of a lane.
module _ (I : Instance) (path : Path) (d : Duals) (i j : ℕ) (o p : Option ℕ) where
  abbrev over : Option ℕ → ℤ
  over cost = over_level d.q (u_at d i) (v_at d j) (customer_at I j).demand cost

  pub paid_alike_over : over o ≡ over p → pos 0 ≡ paid_with I path d i j o -ℤ paid_with I path d i j p
  paid_alike_over e =
      let same : paid_with I path d i j o ≡ paid_with I path d i j p = λ k. if is_open_to I path (site_at I i) (customer_at I j) then e k else pos 0 in
      omega (arith, ints, same)

  pub paid_open : (a b : ℤ) → a ≡ over o → b ≡ over p → is_open_to I path (site_at I i) (customer_at I j) ≡ true → a -ℤ b ≡ paid_with I path d i j o -ℤ paid_with I path d i j p
  paid_open a b a_is b_is open_is = λ k. (if sym open_is k then a_is k else pos 0) -ℤ (if sym open_is k then b_is k else pos 0)
