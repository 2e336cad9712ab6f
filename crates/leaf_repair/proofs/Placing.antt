-- Places of ids in a list from before, and numbers that are read by them.
use Rattle.std.proofs.Common.{◌≡◌, ◌≢◌, ℕ, ◌+◌, ◌<◌, ◌≤◌, ◌==◌, Bool, true, false, cond, not, nat_lt, List, [], ◌∷◌, map, length, get_or, Option, Some, None, option_map, unwrap_or, slice_index, refl, sym, ap, subst, ◌∙◌, inl, inr, arith}
use Rattle.std.specs.Prelude.{◌⊎◌, All, find, zip, slice_get, replicate, is_some, pos, ℤ, if◌then◌else◌}
use Rattle.std.specs.List.{position_or_len}
use Rattle.std.proofs.lemmas.Bool.{cases_lt, ne_eqb, eq-eqb, lt-ltb, le-ltb, ltb-true, ltb-false}
use Rattle.std.proofs.lemmas.List.{length-map, get_or-map}
use Rattle.std.proofs.lemmas.List.Sums.{position_or_len_is}
use Rattle.std.proofs.lemmas.List.Folds.{find_at}
use Rattle.std.proofs.lemmas.Option.{slice_get-get_or, slice_get_past, unwrap_or-slice_get}
use Rattle.std.proofs.lemmas.Slice.Zip.{get_or-zip, length-zip}
use Rattle.location_terms.specs.Instance.{Site, Customer}
use Rattle.instance_store.specs.Places.{place_of}
use Rattle.leaf_repair.specs.CarriedTree.{by_id}
use Rattle.leaf_repair.specs.Placed.{places_of, at_place}

module _ (id : ℕ) (ids : List ℕ) where
  -- the first place at which it stands
  pub placed_at : (k : ℕ) → k < length ids → ((i : ℕ) → i < k → slice_index ids i ≢ id) → slice_index ids k ≡ id → place_of id ids ≡ Some k
  placed_at k within before here =
      let first : position_or_len (λ x. x == id) ids ≡ k =
      position_or_len_is (λ x. x == id) ids k 0 (omega (arith, within)) (λ i less. ne_eqb (slice_index ids i) id (before i less)) (λ _. eq-eqb (slice_index ids k) id here) in
      ap (λ n. cond (nat_lt n (length ids)) (Some n) None) first ∙ ap (λ b. cond b (Some k) None) (lt-ltb k (length ids) within)

  pub unplaced : ((i : ℕ) → i < length ids → slice_index ids i ≢ id) → place_of id ids ≡ None
  unplaced none =
      let n : ℕ = length ids in
      let past : position_or_len (λ x. x == id) ids ≡ n =
      position_or_len_is (λ x. x == id) ids n 0 (omega arith) (λ i less. ne_eqb (slice_index ids i) id (none i less)) (λ more. absurd (omega (arith, more))) in
      ap (λ k. cond (nat_lt k n) (Some k) None) past ∙ ap (λ b. cond b (Some n) None) (le-ltb n n (omega arith))

  -- as far as numbers that go with the ids
  position-zip : {X : Type 0} (numbers : List X) → length numbers ≡ length ids → position_or_len (λ e. e.0 == id) (zip ids numbers) ≡ position_or_len (λ x. x == id) ids
  position-zip numbers same = along ids numbers same
    where
      along : {X : Type 0} (xs : List ℕ) (ns : List X) → length ns ≡ length xs → position_or_len (λ e. e.0 == id) (zip xs ns) ≡ position_or_len (λ x. x == id) xs
      along [] ns e = refl
      along (x ∷ xs) [] e = absurd (omega (arith, e))
      along (x ∷ xs) (n ∷ ns) e = ap (λ k. cond (not (x == id)) (1 + k) 0) (along xs ns (omega (arith, e)))

module _ {X : Type 0} (ids : List ℕ) (numbers : List X) (other : X) (id : ℕ) (same : length numbers ≡ length ids) where
  abbrev place : ℕ
  place = position_or_len (λ x. x == id) ids

  -- a number that is read by its place is that of its id
  pub by_place : at_place numbers other (place_of id ids) ≡ by_id ids numbers other id
  by_place = along (nat_lt place (length ids)) refl
    where
      found : find (λ e. e.0 == id) (zip ids numbers) ≡ slice_get (zip ids numbers) place
      found = find_at (λ e. e.0 == id) (zip ids numbers) ∙ ap (slice_get (zip ids numbers)) (position-zip id ids numbers same)

      along : (b : Bool) → nat_lt place (length ids) ≡ b → at_place numbers other (place_of id ids) ≡ by_id ids numbers other id
      along true less =
          let inside : place < length ids = ltb-true place (length ids) less in
          let here : slice_get (zip ids numbers) place ≡ Some (get_or ids place 0, get_or numbers place other) =
          slice_get-get_or (zip ids numbers) place (0, other) (omega (arith, inside, same, length-zip ids numbers)) ∙ ap Some (get_or-zip ids numbers place (0, other) inside (omega (arith, inside, same))) in
          ap (λ b. at_place numbers other (cond b (Some place) None)) less ∙ unwrap_or-slice_get numbers place other
          ∙ sym (ap (λ o. unwrap_or (option_map (λ e. e.1) o) other) (found ∙ here))
      along false less =
          let past : slice_get (zip ids numbers) place ≡ None = slice_get_past (zip ids numbers) place (let out = ltb-false place (length ids) less in omega (arith, out, same, length-zip ids numbers)) in
          ap (λ b. at_place numbers other (cond b (Some place) None)) less
          ∙ sym (ap (λ o. unwrap_or (option_map (λ e. e.1) o) other) (found ∙ past))

module _ {X : Type 0} (P : X → Type 0) (numbers : List X) (other : X) (all : All P numbers) (rest : P other) where
  -- what is so of each number, and of the other one, is so of what is read
  pub read_has : (o : Option ℕ) → P (at_place numbers other o)
  read_has None = rest
  read_has (Some k) =
      elim (cases_order_of k) [
        | inl inside ↦ subst P (sym (unwrap_or-slice_get numbers k other)) (all k other inside)
        | inr past ↦ subst P (sym (ap (λ o. unwrap_or o other) (slice_get_past numbers k past))) rest
      ]
    where
      cases_order_of : (k : ℕ) → (k < length numbers) ⊎ (length numbers ≤ k)
      cases_order_of k = cases_lt k (length numbers)

-- the values of customers, and the prices of sites
module _ (ids : List ℕ) where
  pub values_are : (numbers : List ℤ) → length numbers ≡ length ids → (customers : List Customer) → map (at_place numbers (pos 0)) (places_of ids (map (λ c. c.id) customers)) ≡ map (λ c. by_id ids numbers (pos 0) c.id) customers
  values_are numbers same [] = refl
  values_are numbers same (c ∷ cs) = λ i. by_place ids numbers (pos 0) c.id same i ∷ values_are numbers same cs i

  pub prices_are : (numbers : List ℕ) → length numbers ≡ length ids → (sites : List Site)
      → map (λ p. if is_some p.0.cap then at_place numbers 0 p.1 else 0) (zip sites (places_of ids (map (λ s. s.id) sites))) ≡ map (λ s. if is_some s.cap then by_id ids numbers 0 s.id else 0) sites
  prices_are numbers same [] = refl
  prices_are numbers same (s ∷ ss) = λ i. (if is_some s.cap then by_place ids numbers 0 s.id same i else 0) ∷ prices_are numbers same ss i

-- a price for each site
module _ (prices : List ℕ) where
  abbrev pub price_of : Site × Option ℕ → ℕ
  price_of p = if is_some p.0.cap then at_place prices 0 p.1 else 0

  pub price_at : (sites : List Site) (places : List (Option ℕ)) (k : ℕ) (s : Site) (o : Option ℕ) → k < length sites → k < length places → get_or (map (λ p. if is_some p.0.cap then at_place prices 0 p.1 else 0) (zip sites places)) k 0 ≡ price_of (get_or sites k s, get_or places k o)
  price_at sites places k s o inside within =
      get_or-map price_of (zip sites places) k (s, o) 0 (omega (arith, inside, within, length-zip sites places)) ∙ ap price_of (get_or-zip sites places k (s, o) inside within)

  pub count_prices : (sites : List Site) (places : List (Option ℕ)) → length places ≡ length sites → length (map (λ p. if is_some p.0.cap then at_place prices 0 p.1 else 0) (zip sites places)) ≡ length sites
  count_prices sites places same = omega (arith, length-map (zip sites places) price_of, length-zip sites places, same)

  -- no price where all are 0
  pub no_prices : All (λ u. u ≡ 0) prices → (sites : List Site) (places : List (Option ℕ)) → length places ≡ length sites → map (λ p. if is_some p.0.cap then at_place prices 0 p.1 else 0) (zip sites places) ≡ replicate (length sites) 0
  no_prices none [] places same = refl
  no_prices none (s ∷ ss) [] same = absurd (omega (arith, same))
  no_prices none (s ∷ ss) (o ∷ os) same = λ i. unpriced (is_some s.cap) i ∷ no_prices none ss os (omega (arith, same)) i
    where
      unpriced : (b : Bool) → (if b then at_place prices 0 o else 0) ≡ 0
      unpriced true = read_has (λ u. u ≡ 0) prices 0 none refl o
      unpriced false = refl
