-- The customers of a site, gathered one by one, are the items of its knapsack, but for those that don't pay.
use Rattle.std.proofs.Common.{◌≡◌, ℕ, zero, suc, ◌+◌, refl, sym, ap, ◌∙◌, arith, Bool, true, false, cond, Option, None, List, [], ◌∷◌, ◌++◌, length, flat_map, ℤ, pos, negsuc, ◌≤ℤ◌}
use Rattle.std.specs.Prelude.{◌&&◌, not, filter, is_some, int_lt}
use Rattle.std.specs.Int.{int_max}
use Rattle.std.specs.List.{list_any, range_with_len}
use Rattle.std.proofs.lemmas.Int.{ints}
use Rattle.std.proofs.lemmas.Bool.{and_left, and_right, cond-false}
use Rattle.std.proofs.lemmas.List.{append-nil, flat_map_more}
use Rattle.std.proofs.lemmas.List.Concat.{flat_map-cons, flat_map-append, flat_map_single}
use Rattle.location_terms.specs.Instance.{Instance, site_at, customer_at, lane}
use Rattle.location_terms.specs.Box.{Path, is_torn, is_closed, is_allowed, bars_lane, holds_demand}
use Rattle.location_terms.specs.Bound.{Duals}
use Rattle.location_terms.specs.Knapsack.{surplus_at, best_set}
use Rattle.location_terms.proofs.Places.{places_more}
use Rattle.binary_knapsack.specs.Knapsack.{best_worth}
use Rattle.binary_knapsack.specs.Loads.{load_in, kept, most_in}
use Rattle.binary_knapsack.specs.Site.{item_at, items_of}
use Rattle.binary_knapsack.specs.declared.item.Item.{Item}
use Rattle.binary_knapsack.proofs.Best.{best_worth_of_loads, best_is_some}
use Rattle.binary_knapsack.proofs.Linked.{best_set_of_items}
use Rattle.leaf_bounds.specs.Gathered.{item_where_allowed}

module _ {X : Type 0} (p : ℕ → Bool) (g : ℕ → List X) where
  one_of_those : (b : Bool) (j : ℕ) (rest : List X) (js : List ℕ) → rest ≡ flat_map g js → cond b (g j) [] ++ rest ≡ flat_map g (cond b (j ∷ js) js)
  one_of_those true j rest js e = ap (λ l. g j ++ l) e ∙ sym (flat_map-cons g j js)
  one_of_those false j rest js e = e

  -- what those that pass give, and the others nothing
  of_those : (js : List ℕ) → flat_map (λ j. cond (p j) (g j) []) js ≡ flat_map g (filter p js)
  of_those [] = refl
  of_those (j ∷ js) = flat_map-cons (λ k. cond (p k) (g k) []) j js ∙ one_of_those (p j) j (flat_map (λ k. cond (p k) (g k) []) js) (filter p js) (of_those js)

second_fails : (a b c d e : Bool) → b ≡ false → (a && b && c && d && e) ≡ false
second_fails a b c d e h = and_left (a && b && c && d) e (and_left (a && b && c) d (and_left (a && b) c (and_right a b h)))

not_above : (z : ℤ) → z ≤ℤ pos 0 → int_lt (pos 0) z ≡ false
not_above (pos zero) h = refl
not_above (pos (suc n)) h = absurd (omega (arith, ints, h))
not_above (negsuc n) h = refl

-- an item that is worth nothing isn't kept
idle_load : (cap : Option ℕ) (x : Item) → x.worth ≤ℤ pos 0 → load_in cap x ≡ []
idle_load cap x h = rw (not_above x.worth h) refl

kept_idle : (cap : Option ℕ) (b : Bool) (x : Item) → x.worth ≤ℤ pos 0 → kept cap (cond b (x ∷ []) []) ≡ []
kept_idle cap true x h = flat_map-cons (load_in cap) x [] ∙ append-nil (load_in cap x) ∙ idle_load cap x h
kept_idle cap false x h = refl

-- what adds nothing to what is kept
adds_nothing : (cap : Option ℕ) (items more : List Item) → kept cap more ≡ [] → kept cap items ≡ kept cap (items ++ more)
adds_nothing cap items more none = sym (flat_map-append (load_in cap) items more ∙ ap (λ l. kept cap items ++ l) none ∙ append-nil (kept cap items))

module _ (I : Instance) (path : Path) (d : Duals) (i : ℕ) where
  -- the customer at a place as an item, where the box lets the site serve it
  abbrev pub one_of : ℕ → List Item
  one_of j = item_where_allowed I path i j (surplus_at I d i j)

  -- without a lane the customer isn't served
  pub none_without_lane : (j : ℕ) (items : List Item) → None ≡ lane I (site_at I i).id (customer_at I j).id → kept (site_at I i).cap items ≡ kept (site_at I i).cap (items ++ one_of j)
  none_without_lane j items none =
      let s = site_at I i in
      let c = customer_at I j in
      let barred : is_allowed I path s c ≡ false =
      second_fails (not (is_torn I path)) (is_some (lane I s.id c.id)) (not (is_closed path s)) (not (list_any (bars_lane s.id c.id) path)) (holds_demand s.cap c.demand) (ap is_some (sym none)) in
      let nothing : one_of j ≡ [] = cond-false (is_allowed I path s c) (item_at I d i j ∷ []) [] barred in
      adds_nothing s.cap items (one_of j) (ap (kept s.cap) nothing)

  -- and one who pays nothing isn't kept
  pub none_where_dear : (j : ℕ) (items : List Item) → surplus_at I d i j ≤ℤ pos 0 → kept (site_at I i).cap items ≡ kept (site_at I i).cap (items ++ one_of j)
  none_where_dear j items dear = adds_nothing (site_at I i).cap items (one_of j) (kept_idle (site_at I i).cap (is_allowed I path (site_at I i) (customer_at I j)) (item_at I d i j) dear)

  -- the items up to one more place
  pub items_more : (cap : Option ℕ) (k : ℕ) (old new : List Item) → kept cap old ≡ kept cap (flat_map one_of (range_with_len 0 k)) → kept cap new ≡ kept cap (old ++ one_of k)
      → kept cap new ≡ kept cap (flat_map one_of (range_with_len 0 (k + 1)))
  items_more cap k old new before more =
      more
      ∙ flat_map-append (load_in cap) old (one_of k)
      ∙ ap (λ l. l ++ kept cap (one_of k)) before
      ∙ sym (flat_map-append (load_in cap) (flat_map one_of (range_with_len 0 k)) (one_of k))
      ∙ ap (kept cap) (flat_map_more one_of [] (range_with_len 0 k) k ∙ ap (flat_map one_of) (sym (places_more k)))

  -- and all of them
  pub items_all : flat_map one_of (range_with_len 0 (length I.customers)) ≡ items_of I path d i
  items_all =
      let allowed : ℕ → Bool = λ j. is_allowed I path (site_at I i) (customer_at I j) in
      let places = range_with_len 0 (length I.customers) in
      of_those allowed (λ j. item_at I d i j ∷ []) places ∙ flat_map_single (item_at I d i) (filter allowed places)

  -- the best set is that of what was kept
  best_of_kept : (items : List Item) → kept (site_at I i).cap items ≡ kept (site_at I i).cap (items_of I path d i) → best_worth (site_at I i).cap items ≡ best_set I path d i
  best_of_kept items same =
      best_worth_of_loads (site_at I i).cap items
      ∙ ap (λ loads. pos (most_in (site_at I i).cap loads)) same
      ∙ sym (best_worth_of_loads (site_at I i).cap (items_of I path d i))
      ∙ sym (best_set_of_items I path d i)

  pub best_found : (cap : Option ℕ) (items lent : List Item) (least best : ℤ) → cap ≡ (site_at I i).cap → lent ≡ items → kept (site_at I i).cap items ≡ kept (site_at I i).cap (items_of I path d i)
      → best ≡ int_max least (best_worth cap lent) → best ≡ int_max least (best_set I path d i)
  best_found cap items lent least best at same all found =
      found
      ∙ ap (λ c. int_max least (best_worth c lent)) at
      ∙ ap (λ l. int_max least (best_worth (site_at I i).cap l)) same
      ∙ ap (int_max least) (best_of_kept items all)

  pub best_set_is_some : pos 0 ≤ℤ best_set I path d i
  best_set_is_some =
      let is = best_set_of_items I path d i in
      let some = best_is_some (site_at I i).cap (items_of I path d i) in
      omega (arith, ints, is, some)
