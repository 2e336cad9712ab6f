-- What a change at one site, or of the numbers of open sites, makes of the sums of a leaf.
use Rattle.std.proofs.Common.{◌≡◌, ◌≢◌, ℕ, ◌<◌, refl, ap, sym, ◌∙◌, inl, inr, arith, List, map, length, get_or, zero, suc, ℤ, pos, negsuc, ◌+ℤ◌, ◌-ℤ◌}
use Rattle.std.specs.Prelude.{◌*◌, ◌*ℤ◌, slice_index_or, slice_set, if◌then◌else◌}
use Rattle.std.specs.List.{range_with_len, list_any}
use Rattle.std.specs.Int.{int_min}
use Rattle.std.proofs.lemmas.Int.{ints}
use Rattle.std.proofs.lemmas.Bool.{cases_eq}
use Rattle.std.proofs.lemmas.List.{length-set, ext_get_or, get_or-set_same, get_or-set_other}
use Rattle.std.proofs.lemmas.List.FromFn.{length-map-range_with_len, get_or-map-range_with_len}
use Rattle.location_terms.specs.Instance.{Instance, IsValid, Site, Customer, site_at, customer_at, lane}
use Rattle.location_terms.specs.Box.{Path, closes_site, opens_site, bars_lane}
use Rattle.location_terms.specs.Bound.{Duals, v_at, total, slack_of, share_of, count_price, bound_of}
use Rattle.location_terms.proofs.Places.{length-site_ids, slice_index-site_ids}
use Rattle.location_terms.proofs.Rising.{one_place}
use Rattle.location_terms.proofs.Totals.{total_same}
use Rattle.dual_value.specs.Paid.{share_with}
use Rattle.leaf_book.specs.Sums.{LeafSums, sums_of}
use Rattle.leaf_book.specs.Changes.{DifferInCount}
use Rattle.leaf_book.specs.Due.{AreTouched}
use Rattle.leaf_book.specs.Counts.{price_of}
use Rattle.leaf_book.proofs.Alike.{IsSettledAlike, IsMadeAlike, torn_alike, opened_alike, free_alike, slack_alike, share_alike}

-- lists of numbers by place that agree
pub mapped_same : (f g : ℕ → ℤ) (m n : ℕ) → m ≡ n → ((i : ℕ) → i < m → f i ≡ g i) → map f (range_with_len 0 m) ≡ map g (range_with_len 0 n)
mapped_same f g m n same h =
    ext_get_or (pos 0) (map f (range_with_len 0 m)) (map g (range_with_len 0 n)) (omega (arith, same, length-map-range_with_len f 0 m, length-map-range_with_len g 0 n))
    (λ i b. let inside : i < m = omega (arith, b, length-map-range_with_len f 0 m) in
    get_or-map-range_with_len f 0 m i i (pos 0) inside (omega arith) ∙ h i inside ∙ sym (get_or-map-range_with_len g 0 n i i (pos 0) (omega (arith, inside, same)) (omega arith)))

-- and where they agree but at one place
pub mapped_but_one : (f g : ℕ → ℤ) (m n k : ℕ) → m ≡ n → k < m → ((i : ℕ) → i < m → i ≢ k → f i ≡ g i) → map f (range_with_len 0 m) ≡ slice_set (map g (range_with_len 0 n)) k (f k)
mapped_but_one f g m n k same kb h =
    let old : List ℤ = map g (range_with_len 0 n) in
    let long : length old ≡ n = length-map-range_with_len g 0 n in
    ext_get_or (pos 0) (map f (range_with_len 0 m)) (slice_set old k (f k)) (omega (arith, same, long, length-map-range_with_len f 0 m, length-set old k (f k)))
    (λ i b. let inside : i < m = omega (arith, b, length-map-range_with_len f 0 m) in
    get_or-map-range_with_len f 0 m i i (pos 0) inside (omega arith)
    ∙ elim (cases_eq i k) [
      | inl e ↦ ap f e ∙ sym (ap (λ x. get_or (slice_set old k (f k)) x (pos 0)) e ∙ get_or-set_same old k (f k) (pos 0) (omega (arith, kb, same, long)))
      | inr other ↦ h i inside other ∙ sym (get_or-set_other old k i (f k) (pos 0) other ∙ get_or-map-range_with_len g 0 n i i (pos 0) (omega (arith, inside, same)) (omega arith))
    ])

-- totals that agree but in one term
pub total_but_one : (f g : ℕ → ℤ) (n k : ℕ) → k < n → ((i : ℕ) → i < n → i ≢ k → f i ≡ g i) → total f n ≡ total g n +ℤ (f k -ℤ g k)
unfolding total
total_but_one f g zero k b h = absurd (omega arith)
total_but_one f g (suc n) k b h =
    elim (cases_eq k n) [
      | inl e ↦ let rest = total_same f g n (λ i c. h i (omega arith) (omega (arith, c, e))) in omega (arith, ints, rest, ap f e, ap g e)
      | inr other ↦ omega (arith, ints, total_but_one f g n k (omega (arith, b, other)) (λ i c ne. h i (omega arith) ne), h n (omega arith) (λ e. other (omega (arith, e))))
    ]

price_same : (I J : Instance) (a b : ℤ) → I.lo ≡ J.lo → I.hi ≡ J.hi → a ≡ b → count_price I a ≡ count_price J b
price_same I J a b lo hi e = ap (count_price I) e ∙ along b
  where
    along : (x : ℤ) → count_price I x ≡ count_price J x
    along (pos n) = ap (λ h. pos (n * h)) hi
    along (negsuc n) = ap (λ l. negsuc n *ℤ pos l) lo

values_same : (I J : Instance) (d e : Duals) → I.customers ≡ J.customers → d.v ≡ e.v → total (v_at d) (length I.customers) ≡ total (v_at e) (length J.customers)
values_same I J d e customers v = λ k. total (λ j. slice_index_or (v k) j (pos 0)) (length (customers k))

-- boxes that are made alike at each site have the same sums
module _ (I : Instance) (p : Path) (d : Duals) (J : Instance) (r : Path) (e : Duals) (many : length I.sites ≡ length J.sites) (made : (i : ℕ) → i < length I.sites → IsMadeAlike I p d J r e i) where
  pub slacks_alike : map (slack_of I p d) (range_with_len 0 (length I.sites)) ≡ map (slack_of J r e) (range_with_len 0 (length J.sites))
  slacks_alike = mapped_same (slack_of I p d) (slack_of J r e) (length I.sites) (length J.sites) many (λ i b. slack_alike I p d J r e i (made i b))

  pub shares_alike : total (share_of I p d) (length I.sites) ≡ total (share_of J r e) (length J.sites)
  shares_alike = total_same (share_of I p d) (share_of J r e) (length I.sites) (λ i b. share_alike I p d J r e i (made i b)) ∙ ap (total (share_of J r e)) many

  pub sums_alike : d.q ≡ e.q → I.customers ≡ J.customers → d.v ≡ e.v → d.nu ≡ e.nu → I.lo ≡ J.lo → I.hi ≡ J.hi → sums_of I (p, d) ≡ sums_of J (r, e)
  sums_alike q customers v nu lo hi =
      let values = values_same I J d e customers v in
      let price = price_same I J d.nu e.nu lo hi nu in
      λ k. let s : LeafSums = record { q = q k; slacks = slacks_alike k; bound = (values k -ℤ price k) +ℤ shares_alike k } in s

module _ (I : Instance) (d : Duals) (J : Instance) (e : Duals) (s : ℕ) (touched : AreTouched I d J e s) (path : Path) where
  pub many : length I.sites ≡ length J.sites
  many = sym (length-site_ids I) ∙ ap length touched.instances.ids ∙ length-site_ids J

  pub same_id : (i : ℕ) → i < length I.sites → (site_at I i).id ≡ (site_at J i).id
  same_id i b = sym (slice_index-site_ids I i b) ∙ ap (λ (ids : List ℕ). get_or ids i 0) touched.instances.ids ∙ slice_index-site_ids J i (omega (arith, b, many))

  pub settled : (i : ℕ) → i < length I.sites → IsSettledAlike I path J path i
  settled i b = record {
    status = touched.instances.statuses i b;
    closes = ap (λ x. list_any (closes_site x) path) (same_id i b);
    opens = ap (λ x. list_any (opens_site x) path) (same_id i b);
  }

  customer_same : (j : ℕ) → customer_at I j ≡ customer_at J j
  customer_same j = ap (λ (cs : List Customer). slice_index_or cs j (record { id = 0; demand = 0 })) touched.instances.customers

  made : (i : ℕ) → i < length I.sites → (site_at I i).id ≢ s → IsMadeAlike I path d J path e i
  made i b other = record {
    site = touched.instances.others i b other;
    settled = settled i b;
    torn = torn_alike I path J path many settled;
    customers = touched.instances.customers;
    lanes = λ c. touched.instances.lanes (site_at I i).id c other ∙ ap (λ x. lane J x c) (same_id i b);
    bars = λ j inside. λ k. list_any (bars_lane (same_id i b k) (customer_same j k).id) path;
    q = touched.q;
    nu = touched.nu;
    v = touched.v;
    u = touched.u i b other;
  }

  -- where no site has the id, nothing changes
  pub sums_nowhere : ((i : ℕ) → i < length I.sites → (site_at I i).id ≢ s) → sums_of I (path, d) ≡ sums_of J (path, e)
  sums_nowhere none = sums_alike I path d J path e many (λ i b. made i b (none i b)) touched.q touched.instances.customers touched.v touched.nu touched.instances.lo touched.instances.hi

  module _ (valid : IsValid I) (k : ℕ) (inside : k < length I.sites) (here : (site_at I k).id ≡ s) where
    elsewhere : (i : ℕ) → i < length I.sites → i ≢ k → IsMadeAlike I path d J path e i
    elsewhere i b other = made i b (λ same. other (one_place (λ x. x.id) I.sites _ valid.sites_named.rising i k b inside (same ∙ sym here)))

    pub slacks_touched : map (slack_of I path d) (range_with_len 0 (length I.sites)) ≡ slice_set (map (slack_of J path e) (range_with_len 0 (length J.sites))) k (slack_of I path d k)
    slacks_touched = mapped_but_one (slack_of I path d) (slack_of J path e) (length I.sites) (length J.sites) k many inside (λ i b other. slack_alike I path d J path e i (elsewhere i b other))

    pub old_share : share_of J path e k ≡ share_with path (site_at I k) (slack_of J path e k)
    old_share = λ x. if sym (opened_alike I path J path k (settled k inside)) x then slack_of J path e k else (if sym (free_alike I path J path k (settled k inside)) x then int_min (pos 0) (slack_of J path e k) else pos 0)

    pub bound_touched : bound_of I path d ≡ bound_of J path e +ℤ (share_with path (site_at I k) (slack_of I path d k) -ℤ share_with path (site_at I k) (slack_of J path e k))
    bound_touched =
        let values = values_same I J d e touched.instances.customers touched.v in
        let price = price_same I J d.nu e.nu touched.instances.lo touched.instances.hi touched.nu in
        let shares = total_but_one (share_of I path d) (share_of J path e) (length I.sites) k inside (λ i b other. share_alike I path d J path e i (elsewhere i b other)) in
        let all : total (share_of J path e) (length I.sites) ≡ total (share_of J path e) (length J.sites) = ap (total (share_of J path e)) many in
        omega (arith, ints, values, price, shares, all, old_share)

    -- what a row that had the sums before has to become
    pub row_touched : (q : ℕ) (slacks : List ℤ) (bound : ℤ) → (let old : LeafSums = record { q = q; slacks = slacks; bound = bound } in old) ≡ sums_of J (path, e)
        → (new own former : ℤ) → new ≡ slack_of I path d k → own ≡ share_with path (site_at I k) new → former ≡ share_with path (site_at I k) (get_or slacks k (pos 0))
        → (let now : LeafSums = record { q = q; slacks = slice_set slacks k new; bound = bound +ℤ (own -ℤ former) } in now) ≡ sums_of I (path, d)
    row_touched q slacks bound is new own former new_is own_is former_is =
        let scale : q ≡ d.q = ap (λ (s : LeafSums). s.q) is ∙ sym touched.q in
        let old : slacks ≡ map (slack_of J path e) (range_with_len 0 (length J.sites)) = ap (λ (s : LeafSums). s.slacks) is in
        let at : get_or slacks k (pos 0) ≡ slack_of J path e k = ap (λ (xs : List ℤ). get_or xs k (pos 0)) old ∙ get_or-map-range_with_len (slack_of J path e) 0 (length J.sites) k k (pos 0) (omega (arith, inside, many)) (omega arith) in
        let list : slice_set slacks k new ≡ map (slack_of I path d) (range_with_len 0 (length I.sites)) = (λ x. slice_set (old x) k (new_is x)) ∙ sym slacks_touched in
        let sum : bound +ℤ (own -ℤ former) ≡ bound_of I path d =
        (λ x. ap (λ (s : LeafSums). s.bound) is x +ℤ ((own_is ∙ ap (share_with path (site_at I k)) new_is) x -ℤ (former_is ∙ ap (share_with path (site_at I k)) at) x)) ∙ sym bound_touched in
        λ x. let s : LeafSums = record { q = scale x; slacks = list x; bound = sum x } in s

module _ (I J : Instance) (differ : DifferInCount I J) (path : Path) (d : Duals) where
  site_same : (i : ℕ) → site_at I i ≡ site_at J i
  site_same i = λ k. site_at (let K : Instance = record I { sites = differ.sites k } in K) i

  settled_count : (i : ℕ) → i < length I.sites → IsSettledAlike I path J path i
  settled_count i b = record {
    status = ap (λ (x : Site). x.status) (site_same i);
    closes = ap (λ (x : Site). list_any (closes_site x.id) path) (site_same i);
    opens = ap (λ (x : Site). list_any (opens_site x.id) path) (site_same i);
  }

  made_count : (i : ℕ) → i < length I.sites → IsMadeAlike I path d J path d i
  made_count i b = record {
    site = site_same i;
    settled = settled_count i b;
    torn = torn_alike I path J path (ap length differ.sites) settled_count;
    customers = differ.customers;
    lanes = λ c. λ k. lane (let K : Instance = record I { lanes = differ.lanes k } in K) (site_same i k).id c;
    bars = λ j inside. λ k. list_any (bars_lane (site_same i k).id (slice_index_or (differ.customers k) j (record { id = 0; demand = 0 })).id) path;
    q = refl;
    nu = refl;
    v = refl;
    u = refl;
  }

  pub slacks_counted : map (slack_of I path d) (range_with_len 0 (length I.sites)) ≡ map (slack_of J path d) (range_with_len 0 (length J.sites))
  slacks_counted = slacks_alike I path d J path d (ap length differ.sites) made_count

  pub bound_counted : (lo hi : ℕ) → J.lo ≡ lo → J.hi ≡ hi → bound_of I path d ≡ bound_of J path d +ℤ (price_of lo hi d.nu -ℤ count_price I d.nu)
  bound_counted lo hi low high =
      let values = values_same I J d d differ.customers refl in
      let shares = shares_alike I path d J path d (ap length differ.sites) made_count in
      let price = along d.nu in
      omega (arith, ints, values, shares, price)
    where
      along : (x : ℤ) → price_of lo hi x ≡ count_price J x
      along (pos n) = ap (λ h. pos (n * h)) (sym high)
      along (negsuc n) = ap (λ l. negsuc n *ℤ pos l) (sym low)

  pub row_counted : (lo hi : ℕ) → J.lo ≡ lo → J.hi ≡ hi → (q : ℕ) (slacks : List ℤ) (bound : ℤ) → (let old : LeafSums = record { q = q; slacks = slacks; bound = bound } in old) ≡ sums_of J (path, d)
      → (former own : ℤ) → former ≡ price_of lo hi d.nu → own ≡ count_price I d.nu → (let now : LeafSums = record { q = q; slacks = slacks; bound = bound +ℤ (former -ℤ own) } in now) ≡ sums_of I (path, d)
  row_counted lo hi low high q slacks bound is former own former_is own_is =
      let list : slacks ≡ map (slack_of I path d) (range_with_len 0 (length I.sites)) = ap (λ (s : LeafSums). s.slacks) is ∙ sym slacks_counted in
      let sum : bound +ℤ (former -ℤ own) ≡ bound_of I path d = (λ x. ap (λ (s : LeafSums). s.bound) is x +ℤ (former_is x -ℤ own_is x)) ∙ sym (bound_counted lo hi low high) in
      λ x. let s : LeafSums = record { q = (is x).q; slacks = list x; bound = sum x } in s
