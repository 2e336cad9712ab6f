-- A table of lane costs has a row for each site and in it an entry for each customer. Here: look-up by ids is look-up by places.
use Rattle.std.proofs.Common.{◌≡◌, ℕ, zero, suc, ◌<◌, Bool, true, false, cond, List, [], ◌∷◌, ◌++◌, map, length, All, AllPairs, Contains, Option, None, Some, IfSome, IsSome, is_some, slice_index, slice_index_or, refl, sym, ap, subst, ◌∙◌, arith}
use Rattle.std.proofs.lemmas.List.{length-map, get_or-map, get_or_default, same_lists}
use Rattle.std.proofs.lemmas.List.Elements.{All-nil, All-cons, All-head, All-tail, All-append, All-contains, Contains-get_or, Contains-append_right, All-map}
use Rattle.std.proofs.lemmas.List.FromFn.{length-map-range_with_len, get_or-map-range_with_len}
use Rattle.std.specs.List.{range_with_len}
use Rattle.std.proofs.lemmas.List.Kept.{AllPairs-from_increasing}
use Rattle.std.proofs.lemmas.Option.{IfSome_then}
use Rattle.std.proofs.lemmas.Map.Lookups.{CmpEqualImpliesEq, exact_pairs, exact_unsigned}
use Rattle.std.proofs.lemmas.Cmp.{nat_cmp_total, on_total, then_total, tied_itself}
use Rattle.std.specs.Cmp.{IsTotalOrder}
use Rattle.std.specs.List.Sorted.{IsStrictlyIncreasing}
use Rattle.std.specs.Ordering.{nat_cmp, is_eq, eq_by_cmp}
use Rattle.std.specs.declared.cmp.Ordering.{Ordering}
use Rattle.std.specs.declared.cmp.Ordering.TheVariants.{Less, Equal, Greater}
use Rattle.std.specs.FinMap.{get, find, get-from_entries, same_map}
use Rattle.location_terms.specs.Instance.{Lanes, pair_cmp, row_entries, table_entries, table_lanes, lanes_of, lanes_by_customer}

-- pairs that compare alike are one
pub pair_cmp-exact : CmpEqualImpliesEq pair_cmp
pair_cmp-exact = exact_pairs nat_cmp nat_cmp exact_unsigned exact_unsigned

pub pair_cmp-total : IsTotalOrder pair_cmp
pair_cmp-total = then_total (on_total (λ p. p.0) nat_cmp_total) (on_total (λ p. p.1) nat_cmp_total)

pub tied : (o : Ordering) → is_eq o ≡ true → o ≡ Equal
tied Less e = cc
tied Equal e = refl
tied Greater e = cc

Contains-first : {X : Type 0} (x : X) (xs : List X) → Contains (x ∷ xs) x
Contains-first x xs = Contains-get_or (x ∷ xs) 0 x (omega arith)

Contains-later : {X : Type 0} (x : X) (xs : List X) (y : X) → Contains xs y → Contains (x ∷ xs) y
Contains-later x xs y h = Contains-append_right (x ∷ []) xs y h

none_from_never : (o : Option ℕ) → IfSome o (λ _. ⊥) → o ≡ None
none_from_never None h = refl
none_from_never (Some x) h = absurd h

-- what holds of each entry holds of what is found
find_holds : (P : ℕ × ℕ → ℕ → Type 0) (es : List ((ℕ × ℕ) × ℕ)) (q : ℕ × ℕ) → All (λ e. P e.0 e.1) es → IfSome (find pair_cmp q es) (P q)
find_holds P [] q all = tt
find_holds P (e ∷ es) q all = by (eq_by_cmp pair_cmp q e.0) refl (find_holds P es q (All-tail (λ e. P e.0 e.1) e es all))
  where
    by : (b : Bool) → eq_by_cmp pair_cmp q e.0 ≡ b → IfSome (find pair_cmp q es) (P q) → IfSome (cond b (Some e.1) (find pair_cmp q es)) (P q)
    by true same _ = subst (λ p. P p e.1) (sym (pair_cmp-exact q e.0 (tied _ same))) (All-head (λ e. P e.0 e.1) e es all)
    by false _ rest = rest

row_entries_hold : (P : ℕ × ℕ → ℕ → Type 0) (pair : ℕ → ℕ × ℕ) (cs : List ℕ) (row : List (Option ℕ)) → ((c cost : ℕ) → Contains cs c → Contains row (Some cost) → P (pair c) cost) → All (λ e. P e.0 e.1) (row_entries pair cs row)
row_entries_hold P pair [] row h = All-nil _
row_entries_hold P pair (c ∷ cs) [] h = All-nil _
row_entries_hold P pair (c ∷ cs) (None ∷ row) h = row_entries_hold P pair cs row (λ d cost i k. h d cost (Contains-later c cs d i) (Contains-later None row (Some cost) k))
row_entries_hold P pair (c ∷ cs) (Some cost ∷ row) h =
    All-cons (λ e. P e.0 e.1) (pair c, cost) (row_entries pair cs row) (h c cost (Contains-first c cs) (Contains-first (Some cost) row))
    (row_entries_hold P pair cs row (λ d n i k. h d n (Contains-later c cs d i) (Contains-later (Some cost) row (Some n) k)))

table_entries_hold : (P : ℕ × ℕ → ℕ → Type 0) (pair : ℕ → ℕ → ℕ × ℕ) (ss cs : List ℕ) (rows : List (List (Option ℕ))) → ((s c cost : ℕ) (row : List (Option ℕ)) → Contains ss s → Contains cs c → Contains rows row → Contains row (Some cost) → P (pair s c) cost) → All (λ e. P e.0 e.1) (table_entries pair ss cs rows)
table_entries_hold P pair [] cs rows h = All-nil _
table_entries_hold P pair (s ∷ ss) cs [] h = All-nil _
table_entries_hold P pair (s ∷ ss) cs (row ∷ rows) h =
    All-append (λ e. P e.0 e.1) (row_entries (pair s) cs row) (table_entries pair ss cs rows)
    (row_entries_hold P (pair s) cs row (λ c cost i k. h s c cost row (Contains-first s ss) i (Contains-first row rows) k))
    (table_entries_hold P pair ss cs rows (λ t c cost r i j k l. h t c cost r (Contains-later s ss t i) j (Contains-later row rows r k) l))

find_none : (P : ℕ × ℕ → ℕ → Type 0) (es : List ((ℕ × ℕ) × ℕ)) (q : ℕ × ℕ) → All (λ e. P e.0 e.1) es → ((cost : ℕ) → P q cost → ⊥) → find pair_cmp q es ≡ None
find_none P es q all never = none_from_never _ (IfSome_then _ (find_holds P es q all) never)

table_holds : (P : ℕ × ℕ → ℕ → Type 0) (pair : ℕ → ℕ → ℕ × ℕ) (ss cs : List ℕ) (rows : List (List (Option ℕ))) → ((s c cost : ℕ) (row : List (Option ℕ)) → Contains ss s → Contains cs c → Contains rows row → Contains row (Some cost) → P (pair s c) cost) → (q : ℕ × ℕ) → IfSome (get (table_lanes pair ss cs rows) q) (P q)
table_holds P pair ss cs rows h q = subst (λ o. IfSome o (P q)) (sym (get-from_entries pair_cmp-total (table_entries pair ss cs rows) q)) (find_holds P (table_entries pair ss cs rows) q (table_entries_hold P pair ss cs rows h))

-- a test of equal numbers passes, and one of different numbers fails
pub pair_tied : (p : ℕ × ℕ) → eq_by_cmp pair_cmp p p ≡ true
pair_tied p = ap is_eq (tied_itself pair_cmp-total p)

pub pair_apart : (p q : ℕ × ℕ) → (p ≡ q → ⊥) → eq_by_cmp pair_cmp p q ≡ false
pair_apart p q apart = by (eq_by_cmp pair_cmp p q) refl
  where
    by : (b : Bool) → eq_by_cmp pair_cmp p q ≡ b → b ≡ false
    by true e = absurd (apart (pair_cmp-exact p q (tied _ e)))
    by false e = refl

find-append_none : (es fs : List ((ℕ × ℕ) × ℕ)) (q : ℕ × ℕ) → find pair_cmp q es ≡ None → find pair_cmp q (es ++ fs) ≡ find pair_cmp q fs
find-append_none [] fs q none = refl
find-append_none (e ∷ es) fs q none = by (eq_by_cmp pair_cmp q e.0) none (find-append_none es fs q)
  where
    by : (b : Bool) → cond b (Some e.1) (find pair_cmp q es) ≡ None → (find pair_cmp q es ≡ None → find pair_cmp q (es ++ fs) ≡ find pair_cmp q fs) → cond b (Some e.1) (find pair_cmp q (es ++ fs)) ≡ find pair_cmp q fs
    by true e rest = cc
    by false e rest = rest e

find-none_append : (es fs : List ((ℕ × ℕ) × ℕ)) (q : ℕ × ℕ) → find pair_cmp q fs ≡ None → find pair_cmp q (es ++ fs) ≡ find pair_cmp q es
find-none_append [] fs q none = none
find-none_append (e ∷ es) fs q none = ap (cond (eq_by_cmp pair_cmp q e.0) (Some e.1)) (find-none_append es fs q none)

-- ids that rise differ
All-pairs_head : (x : ℕ) (xs : List ℕ) → AllPairs (λ a b. a < b) (x ∷ xs) → All (λ y. x < y) xs
All-pairs_head x xs pairs k d lt = pairs 0 (suc k) d (omega arith) (omega arith)

All-pairs_tail : (x : ℕ) (xs : List ℕ) → AllPairs (λ a b. a < b) (x ∷ xs) → AllPairs (λ a b. a < b) xs
All-pairs_tail x xs pairs i j d below within = pairs (suc i) (suc j) d (omega arith) (omega arith)

-- ids that rise on both sides, a row for each of the first, and in it an entry for each of the second: sites and customers, or the other way round
pub record IsTable (ss cs : List ℕ) (rows : List (List (Option ℕ))) : Type 0 where
  pub sites_rise : IsStrictlyIncreasing ss
  pub customers_rise : IsStrictlyIncreasing cs
  pub row_each : length rows ≡ length ss
  pub entry_each : All (λ row. length row ≡ length cs) rows

-- a pair is read back as the id of its row and the id of its entry
module _ (pair : ℕ → ℕ → ℕ × ℕ) (row_of entry_of : ℕ × ℕ → ℕ) (row_is : (s c : ℕ) → row_of (pair s c) ≡ s) (entry_is : (s c : ℕ) → entry_of (pair s c) ≡ c) where
  -- a row at an id is the row at the id's place
  find-row_entries : (s : ℕ) (cs : List ℕ) (row : List (Option ℕ)) (j : ℕ) → AllPairs (λ a b. a < b) cs → length row ≡ length cs → j < length cs → find pair_cmp (pair s (slice_index cs j)) (row_entries (pair s) cs row) ≡ slice_index_or row j None
  find-row_entries s [] row j rise same within = absurd (omega arith)
  find-row_entries s (c ∷ cs) [] j rise same within = absurd (omega arith)
  find-row_entries s (c ∷ cs) (None ∷ row) zero rise same within =
      find_none (λ p _. Contains cs (entry_of p)) (row_entries (pair s) cs row) (pair s c)
      (row_entries_hold (λ p _. Contains cs (entry_of p)) (pair s) cs row (λ d _ k _. subst (Contains cs) (sym (entry_is s d)) k))
      (λ _ k. let below = All-contains (λ d. c < d) cs (entry_of (pair s c)) (All-pairs_head c cs rise) k in omega (arith, below, entry_is s c))
  find-row_entries s (c ∷ cs) (Some cost ∷ row) zero rise same within = ap (λ b. cond b (Some cost) (find pair_cmp (pair s c) (row_entries (pair s) cs row))) (pair_tied (pair s c))
  find-row_entries s (c ∷ cs) (None ∷ row) (suc j) rise same within = find-row_entries s cs row j (All-pairs_tail c cs rise) (omega arith) (omega arith)
  find-row_entries s (c ∷ cs) (Some cost ∷ row) (suc j) rise same within =
      let below = All-pairs_head c cs rise j 0 (omega arith) in
      ap (λ b. cond b (Some cost) (find pair_cmp (pair s (slice_index cs j)) (row_entries (pair s) cs row)))
      (pair_apart (pair s (slice_index cs j)) (pair s c) (λ e. let same_id = ap entry_of e in omega (arith, below, same_id, entry_is s (slice_index cs j), entry_is s c)))
      ∙ find-row_entries s cs row j (All-pairs_tail c cs rise) (omega arith) (omega arith)

  find-table_entries : (ss cs : List ℕ) (rows : List (List (Option ℕ))) (i j : ℕ) → AllPairs (λ a b. a < b) ss → AllPairs (λ a b. a < b) cs → length rows ≡ length ss → All (λ row. length row ≡ length cs) rows → i < length ss → j < length cs
      → find pair_cmp (pair (slice_index ss i) (slice_index cs j)) (table_entries pair ss cs rows) ≡ slice_index_or (slice_index_or rows i []) j None
  find-table_entries [] cs rows i j up rise same wide within inside = absurd (omega arith)
  find-table_entries (s ∷ ss) cs [] i j up rise same wide within inside = absurd (omega arith)
  find-table_entries (s ∷ ss) cs (row ∷ rows) zero j up rise same wide within inside =
      find-none_append (row_entries (pair s) cs row) (table_entries pair ss cs rows) (pair s (slice_index cs j))
      (find_none (λ p _. Contains ss (row_of p)) (table_entries pair ss cs rows) (pair s (slice_index cs j))
      (table_entries_hold (λ p _. Contains ss (row_of p)) pair ss cs rows (λ t c cost r k _ _ _. subst (Contains ss) (sym (row_is t c)) k))
      (λ _ k. let below = All-contains (λ t. s < t) ss (row_of (pair s (slice_index cs j))) (All-pairs_head s ss up) k in omega (arith, below, row_is s (slice_index cs j))))
      ∙ find-row_entries s cs row j rise (All-head (λ r. length r ≡ length cs) row rows wide) inside
  find-table_entries (s ∷ ss) cs (row ∷ rows) (suc i) j up rise same wide within inside =
      let below = All-pairs_head s ss up i 0 (omega arith) in
      find-append_none (row_entries (pair s) cs row) (table_entries pair ss cs rows) (pair (slice_index ss i) (slice_index cs j))
      (find_none (λ p _. row_of p ≡ s) (row_entries (pair s) cs row) (pair (slice_index ss i) (slice_index cs j))
      (row_entries_hold (λ p _. row_of p ≡ s) (pair s) cs row (λ c _ _ _. row_is s c)) (λ _ e. omega (arith, below, e, row_is (slice_index ss i) (slice_index cs j))))
      ∙ find-table_entries ss cs rows i j (All-pairs_tail s ss up) rise (omega arith) (All-tail (λ r. length r ≡ length cs) row rows wide) (omega arith) inside

  -- what the map of a table has at two ids is the entry at their places
  get-table : (ss cs : List ℕ) (rows : List (List (Option ℕ))) → IsTable ss cs rows → (i j : ℕ) → i < length ss → j < length cs
      → get (table_lanes pair ss cs rows) (pair (slice_index ss i) (slice_index cs j)) ≡ slice_index_or (slice_index_or rows i []) j None
  get-table ss cs rows table i j within inside =
      get-from_entries pair_cmp-total (table_entries pair ss cs rows) (pair (slice_index ss i) (slice_index cs j))
      ∙ find-table_entries ss cs rows i j (AllPairs-from_increasing ss table.sites_rise) (AllPairs-from_increasing cs table.customers_rise) table.row_each table.entry_each within inside

pub get-lanes_of : (ss cs : List ℕ) (rows : List (List (Option ℕ))) → IsTable ss cs rows → (i j : ℕ) → i < length ss → j < length cs
    → get (lanes_of ss cs rows) (slice_index ss i, slice_index cs j) ≡ slice_index_or (slice_index_or rows i []) j None
get-lanes_of ss cs rows table i j within inside = get-table (λ s c. (s, c)) (λ p. p.0) (λ p. p.1) (λ _ _. refl) (λ _ _. refl) ss cs rows table i j within inside

-- the lanes of the site at a place, in the order of the customers, are its row
pub map-lanes_of : (ss cs : List ℕ) (rows : List (List (Option ℕ))) → IsTable ss cs rows → (i : ℕ) → i < length ss
    → map (λ c. get (lanes_of ss cs rows) (slice_index ss i, c)) cs ≡ slice_index_or rows i []
map-lanes_of ss cs rows table i within =
    let row = slice_index_or rows i [] in
    let at_id = λ (c : ℕ). get (lanes_of ss cs rows) (slice_index ss i, c) in
    let wide : length row ≡ length cs = table.entry_each i [] (omega (arith, table.row_each)) in
    same_lists (map at_id cs) row (length-map cs at_id ∙ sym wide) (λ k d below.
    let inside : k < length cs = omega (arith, length-map cs at_id) in
    get_or-map at_id cs k 0 d inside ∙ get-lanes_of ss cs rows table i k within inside ∙ get_or_default row k None d (omega arith))

-- a table has lanes only between its ids
if_there : {A : Type 0} (o : Option ℕ) → IsSome o → IfSome o (λ _. A) → A
if_there None there h = absurd cc
if_there (Some cost) there h = h

pub lanes_of_known : (ss cs : List ℕ) (rows : List (List (Option ℕ))) (s c : ℕ) → IsSome (get (lanes_of ss cs rows) (s, c)) → Contains ss s × Contains cs c
lanes_of_known ss cs rows s c there = if_there (get (lanes_of ss cs rows) (s, c)) there (table_holds (λ p _. Contains ss p.0 × Contains cs p.1) (λ t d. (t, d)) ss cs rows (λ t d _ _ k l _ _. (k, l)) (s, c))

lanes_by_customer_known : (ss cs : List ℕ) (rows : List (List (Option ℕ))) (s c : ℕ) → IsSome (get (lanes_by_customer ss cs rows) (s, c)) → Contains ss s × Contains cs c
lanes_by_customer_known ss cs rows s c there = if_there (get (lanes_by_customer ss cs rows) (s, c)) there (table_holds (λ p _. Contains ss p.0 × Contains cs p.1) (λ d t. (t, d)) cs ss rows (λ d t _ _ l k _ _. (k, l)) (s, c))

-- what holds of each cost in a table holds of each of its lanes, as a bound
pub lanes_of_all : (P : ℕ → Type 0) (ss cs : List ℕ) (rows : List (List (Option ℕ))) → All (λ row. All (λ x. IfSome x P) row) rows → (s c : ℕ) → IfSome (get (lanes_of ss cs rows) (s, c)) P
lanes_of_all P ss cs rows all s c =
    table_holds (λ _ cost. P cost) (λ t d. (t, d)) ss cs rows (λ _ _ cost row _ _ k l. All-contains (λ x. IfSome x P) row (Some cost) (All-contains (λ r. All (λ x. IfSome x P) r) rows row all k) l) (s, c)

-- the ids between which there are lanes are among these
pub record HasLanesAmong (ss cs : List ℕ) (m : Lanes) : Type 0 where
  pub known : (s c : ℕ) → IsSome (get m (s, c)) → Contains ss s × Contains cs c

-- lanes among the same ids that are the same at each two places are the same
pub same_lanes : (ss cs : List ℕ) (m n : Lanes) → HasLanesAmong ss cs m → HasLanesAmong ss cs n → ((i j : ℕ) → i < length ss → j < length cs → get m (slice_index ss i, slice_index cs j) ≡ get n (slice_index ss i, slice_index cs j)) → m ≡ n
same_lanes ss cs m n of_m of_n same = same_map pair_cmp-total pair_cmp-exact m n (λ q. by q (get m q) (get n q) refl refl)
  where
    at : (s c : ℕ) → Contains ss s × Contains cs c → get m (s, c) ≡ get n (s, c)
    at s c k =
        let site : slice_index ss k.0.0 ≡ s = get_or_default ss k.0.0 0 s k.0.1 ∙ k.0.2 in
        let customer : slice_index cs k.1.0 ≡ c = get_or_default cs k.1.0 0 c k.1.1 ∙ k.1.2 in
        subst (λ (p : ℕ × ℕ). get m p ≡ get n p) (λ i. (site i, customer i)) (same k.0.0 k.1.0 k.0.1 k.1.1)

    by : (q : ℕ × ℕ) (x y : Option ℕ) → get m q ≡ x → get n q ≡ y → get m q ≡ get n q
    by q (Some cost) y e f = at q.0 q.1 (of_m.known q.0 q.1 (ap is_some e))
    by q None (Some cost) e f = at q.0 q.1 (of_n.known q.0 q.1 (ap is_some f))
    by q None None e f = e ∙ sym f

-- lanes among the ids of a table that are its entries at each two places are the lanes of the table
pub lanes_from_places : (ss cs : List ℕ) (rows : List (List (Option ℕ))) → IsTable ss cs rows → (m : Lanes) → HasLanesAmong ss cs m → ((i j : ℕ) → i < length ss → j < length cs → get m (slice_index ss i, slice_index cs j) ≡ slice_index_or (slice_index_or rows i []) j None) → m ≡ lanes_of ss cs rows
lanes_from_places ss cs rows table m of_m at =
    same_lanes ss cs m (lanes_of ss cs rows) of_m (record { known = lanes_of_known ss cs rows }) (λ i j within inside. at i j within inside ∙ sym (get-lanes_of ss cs rows table i j within inside))

-- a table that is read down its columns, of which there are so many
abbrev pub columns : ℕ → List (List (Option ℕ)) → List (List (Option ℕ))
columns m rows = map (λ i. map (λ row. slice_index_or row i None) rows) (range_with_len 0 m)

-- the columns of a table of rows for the customers are rows for the sites
pub table_of_columns : (ss cs : List ℕ) (rows : List (List (Option ℕ))) → IsTable cs ss rows → IsTable ss cs (columns (length ss) rows)
table_of_columns ss cs rows table = record {
  sites_rise = table.customers_rise;
  customers_rise = table.sites_rise;
  row_each = length-map-range_with_len _ 0 (length ss);
  entry_each = All-map (λ row. length row ≡ length cs) (λ i. map (λ row. slice_index_or row i None) rows) (range_with_len 0 (length ss)) (λ _ _ _. length-map rows _ ∙ table.row_each);
}

pub lanes_by_columns : (ss cs : List ℕ) (rows : List (List (Option ℕ))) → IsTable cs ss rows → lanes_by_customer ss cs rows ≡ lanes_of ss cs (columns (length ss) rows)
lanes_by_columns ss cs rows table =
    let column : ℕ → List (Option ℕ) = λ i. map (λ row. slice_index_or row i None) rows in
    lanes_from_places ss cs (columns (length ss) rows) (table_of_columns ss cs rows table) (lanes_by_customer ss cs rows) (record { known = lanes_by_customer_known ss cs rows }) (λ i j within inside.
    get-table (λ c s. (s, c)) (λ p. p.1) (λ p. p.0) (λ _ _. refl) (λ _ _. refl) cs ss rows table j i inside within
    ∙ sym (get_or-map (λ row. slice_index_or row i None) rows j [] None (omega (arith, table.row_each)))
    ∙ ap (λ col. slice_index_or col j None) (sym (get_or-map-range_with_len column 0 (length ss) i i [] within (omega arith))))
