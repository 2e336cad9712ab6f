-- A walk over a customer's lanes from the cheapest on that takes an amount off each site's number: each site stands among the lanes
-- once at most. Behind any number of lanes (`IsSpread`, `spread_none`, `number_kept`, `spread_set`, `spread_past`), and where the walk ends (`spread_all`).
use Rattle.std.proofs.Common.{◌≡◌, ℕ, ◌+◌, ◌<◌, ◌≤◌, inl, inr, List, map, length, All, Option, None, Some, get_or, slice_set, slice_index_or, sym, ap, subst, ◌∙◌, arith, ℤ, pos, ◌-ℤ◌}
use Rattle.std.proofs.lemmas.Bool.{cases_eq, cases_lt, cases_order}
use Rattle.std.proofs.lemmas.Int.{ints}
use Rattle.std.proofs.lemmas.List.{length-map, get_or-map, get_or_default, length-set, get_or-set_other}
use Rattle.std.proofs.lemmas.Grind.{get_or-set_at}
use Rattle.std.specs.List.Sorted.{IsStrictlyIncreasing}
use Rattle.location_terms.specs.Instance.{Instance, site_at, customer_at, site_ids, lane}
use Rattle.lane_order.specs.declared.order.PlacedLane.{PlacedLane}
use Rattle.lane_order.specs.Order.{Order, IsBefore, IsOrderOf, lanes_to}
use Rattle.lane_order.specs.Placed.{named}
use Rattle.lane_order.proofs.Walks.{placed_is_lane, lane_is_placed}

-- the numbers of all sites by place, behind the first k lanes: off each of these lanes' sites its amount was taken, and the others are as they were
pub record IsSpread (lanes : List PlacedLane) (amount : ℕ → ℤ) (k : ℕ) (old new : List ℤ) : Type 0 where
  pub count : length new ≡ length old
  pub taken : (m : ℕ) (d : PlacedLane) → m < k → slice_index_or new (get_or lanes m d).site (pos 0) ≡ slice_index_or old (get_or lanes m d).site (pos 0) -ℤ amount (get_or lanes m d).site
  pub kept : (i : ℕ) → ((m : ℕ) (d : PlacedLane) → m < k → (get_or lanes m d).site ≡ i → ⊥) → slice_index_or new i (pos 0) ≡ slice_index_or old i (pos 0)

-- before the first lane
pub spread_none : (lanes : List PlacedLane) (amount : ℕ → ℤ) (xs : List ℤ) → IsSpread lanes amount 0 xs xs
spread_none lanes amount xs = record { count = omega arith; taken = λ m d below. absurd (omega (arith, below)); kept = λ i other. ap (λ ys. slice_index_or ys i (pos 0)) (λ _. xs) }

module _ (I : Instance) (order : Order) (of : IsOrderOf order I) (j : ℕ) (within : j < length I.customers) (lanes : List PlacedLane) (exact : map (named order.sites) lanes ≡ lanes_to order j) (known : All (λ l. l.site < length order.sites) lanes) where
  not_twice : (m n : ℕ) (d : PlacedLane) → m < n → n < length lanes → (get_or lanes m d).site ≡ (get_or lanes n d).site → ⊥
  not_twice m n d before b same =
      let first = get_or lanes m d in
      let second = get_or lanes n d in
      let costs : Some first.cost ≡ Some second.cost =
      sym (placed_is_lane I order of j within lanes exact known m d (omega arith)) ∙ ap (λ i. lane I (site_at I i).id (customer_at I j).id) same ∙ placed_is_lane I order of j within lanes exact known n d b in
      let cost : first.cost ≡ second.cost = cc in
      let ids : (named order.sites first).1 ≡ (named order.sites second).1 = ap (λ i. slice_index_or order.sites i 0) same in
      let ordered : IsBefore (named order.sites first) (named order.sites second) =
      subst (λ (p : (ℕ × ℕ) × (ℕ × ℕ)). IsBefore p.0 p.1) (λ i. (at m (omega arith) i, at n b i))
      ((of.each j within).ascending m n (named order.sites d) before (subst (λ ls. n < length ls) exact (omega (arith, b, length-map lanes (named order.sites))))) in
      elim ordered [ inl less ↦ omega (arith, less, cost) | inr tie ↦ omega (arith, tie.1, ids) ]
    where
      at : (k : ℕ) → k < length lanes → get_or (lanes_to order j) k (named order.sites d) ≡ named order.sites (get_or lanes k d)
      at k c = ap (λ ls. get_or ls k (named order.sites d)) (sym exact) ∙ get_or-map (named order.sites) lanes k d (named order.sites d) c

  -- a site stands at one rank
  pub one_rank : (m n : ℕ) (d : PlacedLane) → m < length lanes → n < length lanes → (get_or lanes m d).site ≡ (get_or lanes n d).site → m ≡ n
  one_rank m n d b c same =
      elim (cases_order m n) [
        | inl e ↦ e
        | inr other ↦ elim other [ inl before ↦ absurd (not_twice m n d before c same) | inr after ↦ absurd (not_twice n m d after b (sym same)) ]
      ]

  module _ (amount : ℕ → ℤ) (old mid : List ℤ) (k : ℕ) (e : PlacedLane) (b : k < length lanes) (behind : IsSpread lanes amount k old mid) where
    abbrev site : ℕ
    site = (get_or lanes k e).site

    -- another lane's site isn't the next one's
    apart : (m : ℕ) (d : PlacedLane) → m < k → (get_or lanes m d).site ≡ site → ⊥
    apart m d below same = omega (arith, below, one_rank m k d (omega (arith, below, b)) b (same ∙ ap (λ (l : PlacedLane). l.site) (get_or_default lanes k e d b)))

    -- the number of the next lane's site is as it was
    pub number_kept : slice_index_or mid site (pos 0) ≡ slice_index_or old site (pos 0)
    number_kept = behind.kept site apart

    -- behind the next lane, where its site's number is less its amount, and the others are as they were
    pub spread_more : (new : List ℤ) → length new ≡ length mid → slice_index_or new site (pos 0) ≡ slice_index_or mid site (pos 0) -ℤ amount site
        → ((i : ℕ) → (i ≡ site → ⊥) → slice_index_or new i (pos 0) ≡ slice_index_or mid i (pos 0)) → IsSpread lanes amount (k + 1) old new
    spread_more new long here others = record {
      count = long ∙ behind.count;
      taken = λ m d below. elim (cases_eq m k) [
        | inl same ↦
            let at : site ≡ (get_or lanes m d).site = (λ i. (get_or lanes (sym same i) e).site) ∙ ap (λ (l : PlacedLane). l.site) (get_or_default lanes m e d (omega (arith, same, b))) in
            subst (λ i. slice_index_or new i (pos 0) ≡ slice_index_or old i (pos 0) -ℤ amount i) at (omega (arith, ints, here, number_kept))
        | inr other ↦ let early : m < k = omega (arith, other, below) in others (get_or lanes m d).site (apart m d early) ∙ behind.taken m d early
      ];
      kept = λ i none. others i (λ same. none k e (omega arith) (sym same)) ∙ behind.kept i (λ m d below. none m d (omega (arith, below)));
    }

    pub spread_set : (x : ℤ) → site < length mid → x ≡ slice_index_or mid site (pos 0) -ℤ amount site → IsSpread lanes amount (k + 1) old (slice_set mid site x)
    spread_set x room is = spread_more (slice_set mid site x) (length-set mid site x) (get_or-set_at mid site site x (pos 0) (λ _. site) room ∙ is) (λ i other. get_or-set_other mid site i x (pos 0) other)

    -- behind a lane of which nothing is taken
    pub spread_past : amount site ≡ pos 0 → IsSpread lanes amount (k + 1) old mid
    spread_past nothing = spread_more mid (λ _. length mid) (omega (arith, ints, nothing)) (λ i other. λ _. slice_index_or mid i (pos 0))

  -- where the walk ends, and nothing is taken of the lanes behind nor at sites without a lane, each site's number is less its amount
  pub spread_all : IsStrictlyIncreasing (site_ids I) → (amount : ℕ → ℤ) (k : ℕ) (old new : List ℤ) → k ≤ length lanes → IsSpread lanes amount k old new
      → ((m : ℕ) (d : PlacedLane) → k ≤ m → m < length lanes → amount (get_or lanes m d).site ≡ pos 0)
      → ((i : ℕ) → i < length I.sites → lane I (site_at I i).id (customer_at I j).id ≡ None → amount i ≡ pos 0)
      → (i : ℕ) → i < length I.sites → slice_index_or new i (pos 0) ≡ slice_index_or old i (pos 0) -ℤ amount i
  spread_all rise amount k old new few spread rest none i inside = by (lane I (site_at I i).id (customer_at I j).id) (λ _. lane I (site_at I i).id (customer_at I j).id)
    where
      is_less : Type 0
      is_less = slice_index_or new i (pos 0) ≡ slice_index_or old i (pos 0) -ℤ amount i

      placed : (cost : ℕ) → lane I (site_at I i).id (customer_at I j).id ≡ Some cost → is_less
      placed cost is =
          let wanted : PlacedLane = record { cost = cost; site = i } in
          let m = lane_is_placed I order of j within lanes exact known rise i cost inside is in
          let at : (get_or lanes m.0 wanted).site ≡ i = ap (λ (l : PlacedLane). l.site) m.2 in
          elim (cases_lt m.0 k) [
            | inl early ↦ subst (λ n. slice_index_or new n (pos 0) ≡ slice_index_or old n (pos 0) -ℤ amount n) at (spread.taken m.0 wanted early)
            | inr late ↦
                let nothing : amount i ≡ pos 0 = sym (ap amount at) ∙ rest m.0 wanted late m.1 in
                let as_it_was = spread.kept i (λ n d below same.
                let at_d : (get_or lanes m.0 d).site ≡ i = ap (λ (l : PlacedLane). l.site) (get_or_default lanes m.0 d wanted m.1) ∙ at in
                omega (arith, below, late, one_rank n m.0 d (omega (arith, below, few)) m.1 (same ∙ sym at_d))) in
                omega (arith, ints, nothing, as_it_was)
          ]

      by : (o : Option ℕ) → lane I (site_at I i).id (customer_at I j).id ≡ o → is_less
      by (Some cost) is = placed cost is
      by None is =
          let nothing = none i inside is in
          let as_it_was = spread.kept i (λ m d below same.
          let there = placed_is_lane I order of j within lanes exact known m d (omega (arith, below, few)) in
          let both : None ≡ Some (get_or lanes m d).cost = sym is ∙ ap (λ n. lane I (site_at I n).id (customer_at I j).id) (sym same) ∙ there in
          cc) in
          omega (arith, ints, nothing, as_it_was)
