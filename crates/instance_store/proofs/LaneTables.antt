-- A table of lanes in which a row, a column or one lane changes: its lanes are those of the table before with the same change by ids.
use Rattle.std.proofs.Common.{◌≡◌, ◌≢◌, ℕ, zero, suc, ◌+◌, ◌-◌, ◌<◌, ◌≤◌, ◌==◌, inl, inr, Bool, true, false, not, cond, List, [], ◌∷◌, length, All, AllPairs, Contains, Option, None, Some, IfSome, IsSome, slice_index, slice_index_or, set, insert, remove, refl, sym, ap, subst, ◌∙◌, arith}
use Rattle.std.proofs.lemmas.Bool.{cases_eq, cases_order, ne_eqb, eq-eqb}
use Rattle.std.proofs.lemmas.List.{get_or_default, get_or-set_same, get_or-set_other}
use Rattle.std.proofs.lemmas.List.Edits.{length-insert, length-remove, get_or-insert_at, get_or-insert_below, get_or-insert_above, get_or-remove_below, get_or-remove_above}
use Rattle.std.proofs.lemmas.List.Elements.{Contains-get_or, Contains-append_right, All-contains}
use Rattle.std.proofs.lemmas.List.Kept.{AllPairs-from_increasing}
use Rattle.std.specs.Ordering.{eq_by_cmp}
use Rattle.std.specs.List.Sorted.{IsStrictlyIncreasing}
use Rattle.std.specs.FinMap as map_of
use Rattle.std.specs.FinMap.{get, get-insert, get-remove, get-retain_keys}
use Rattle.location_terms.specs.Instance.{Lanes, pair_cmp, row_entries, lanes_of}
use Rattle.location_terms.proofs.Table.{IsTable, pair_cmp-total, pair_cmp-exact, tied, pair_tied, pair_apart, get-lanes_of, lanes_of_known, lanes_from_places}
use Rattle.instance_store.specs.Changes.{lanes_with, lanes_and, with_row, with_column, lanes_without_site, lanes_without_customer}

-- one map after another

insert_same : (m : Lanes) (p : ℕ × ℕ) (cost : ℕ) → get (map_of.insert m p cost) p ≡ Some cost
insert_same m p cost = get-insert pair_cmp-total m p cost p ∙ ap (λ b. cond b (Some cost) (get m p)) (pair_tied p)

insert_other : (m : Lanes) (p : ℕ × ℕ) (cost : ℕ) (q : ℕ × ℕ) → (q ≡ p → ⊥) → get (map_of.insert m p cost) q ≡ get m q
insert_other m p cost q apart = get-insert pair_cmp-total m p cost q ∙ ap (λ b. cond b (Some cost) (get m q)) (pair_apart q p apart)

remove_same : (m : Lanes) (p : ℕ × ℕ) → get (map_of.remove m p) p ≡ None
remove_same m p = get-remove pair_cmp-total m p p ∙ ap (λ b. cond b None (get m p)) (pair_tied p)

remove_other : (m : Lanes) (p q : ℕ × ℕ) → (q ≡ p → ⊥) → get (map_of.remove m p) q ≡ get m q
remove_other m p q apart = get-remove pair_cmp-total m p q ∙ ap (λ b. cond b None (get m q)) (pair_apart q p apart)

with_same : (m : Lanes) (s c : ℕ) (lane : Option ℕ) → get (lanes_with m s c lane) (s, c) ≡ lane
with_same m s c (Some cost) = insert_same m (s, c) cost
with_same m s c None = remove_same m (s, c)

with_other : (m : Lanes) (s c : ℕ) (lane : Option ℕ) (q : ℕ × ℕ) → (q ≡ (s, c) → ⊥) → get (lanes_with m s c lane) q ≡ get m q
with_other m s c (Some cost) q apart = insert_other m (s, c) cost q apart
with_other m s c None q apart = remove_other m (s, c) q apart

pub get-without_site : (m : Lanes) (s : ℕ) (q : ℕ × ℕ) → get (lanes_without_site m s) q ≡ cond (not (q.0 == s)) (get m q) None
get-without_site m s q = get-retain_keys m (λ pair. not (pair.0 == s)) q (λ x e. ap (λ (p : ℕ × ℕ). not (p.0 == s)) (sym (pair_cmp-exact q x e)))

pub get-without_customer : (m : Lanes) (c : ℕ) (q : ℕ × ℕ) → get (lanes_without_customer m c) q ≡ cond (not (q.1 == c)) (get m q) None
get-without_customer m c q = get-retain_keys m (λ pair. not (pair.1 == c)) q (λ x e. ap (λ (p : ℕ × ℕ). not (p.1 == c)) (sym (pair_cmp-exact q x e)))

-- lanes whose costs are within a limit stay so
module _ (P : ℕ → Type 0) (m : Lanes) (each : (q : ℕ × ℕ) → IfSome (get m q) P) where
  pub with_small : (s c : ℕ) (lane : Option ℕ) → IfSome lane P → (q : ℕ × ℕ) → IfSome (get (lanes_with m s c lane) q) P
  with_small s c (Some cost) small q = subst (λ o. IfSome o P) (sym (get-insert pair_cmp-total m (s, c) cost q)) (by (eq_by_cmp pair_cmp q (s, c)))
    where
      by : (b : Bool) → IfSome (cond b (Some cost) (get m q)) P
      by true = small
      by false = each q
  with_small s c None small q = subst (λ o. IfSome o P) (sym (get-remove pair_cmp-total m (s, c) q)) (by (eq_by_cmp pair_cmp q (s, c)))
    where
      by : (b : Bool) → IfSome (cond b None (get m q)) P
      by true = tt
      by false = each q

  if_kept : (q : ℕ × ℕ) (b : Bool) → IfSome (cond b (get m q) None) P
  if_kept q true = each q
  if_kept q false = tt

  pub out_small : (s : ℕ) (q : ℕ × ℕ) → IfSome (get (lanes_without_site m s) q) P
  out_small s q = subst (λ o. IfSome o P) (sym (get-without_site m s q)) (if_kept q (not (q.0 == s)))

  pub less_small : (c : ℕ) (q : ℕ × ℕ) → IfSome (get (lanes_without_customer m c) q) P
  less_small c q = subst (λ o. IfSome o P) (sym (get-without_customer m c q)) (if_kept q (not (q.1 == c)))

-- several lanes more

first_there : (x : ℕ) (xs : List ℕ) → Contains (x ∷ xs) x
first_there x xs = Contains-get_or (x ∷ xs) 0 x (omega arith)

later_there : (x : ℕ) (xs : List ℕ) (y : ℕ) → Contains xs y → Contains (x ∷ xs) y
later_there x xs y h = Contains-append_right (x ∷ []) xs y h

pairs_head : (x : ℕ) (xs : List ℕ) → AllPairs (λ a b. a < b) (x ∷ xs) → All (λ y. x < y) xs
pairs_head x xs pairs k d lt = pairs 0 (suc k) d (omega arith) (omega arith)

pairs_tail : (x : ℕ) (xs : List ℕ) → AllPairs (λ a b. a < b) (x ∷ xs) → AllPairs (λ a b. a < b) xs
pairs_tail x xs pairs i j d below within = pairs (suc i) (suc j) d (omega arith) (omega arith)

-- what holds of the pairs of a map and of those that are put in holds of all pairs
pub and_known : (P : ℕ × ℕ → Type 0) (pair : ℕ → ℕ × ℕ) (ids : List ℕ) (row : List (Option ℕ)) (m : Lanes) → ((c : ℕ) → Contains ids c → P (pair c)) → ((q : ℕ × ℕ) → IsSome (get m q) → P q) → (q : ℕ × ℕ) → IsSome (get (lanes_and m (row_entries pair ids row)) q) → P q
and_known P pair [] row m new old q there = old q there
and_known P pair (c ∷ cs) [] m new old q there = old q there
and_known P pair (c ∷ cs) (None ∷ row) m new old q there = and_known P pair cs row m (λ d k. new d (later_there c cs d k)) old q there
and_known P pair (c ∷ cs) (Some cost ∷ row) m new old q there =
    and_known P pair cs row (map_of.insert m (pair c) cost) (λ d k. new d (later_there c cs d k)) (λ r some. by r (eq_by_cmp pair_cmp r (pair c)) refl (subst IsSome (get-insert pair_cmp-total m (pair c) cost r) some)) q there
  where
    by : (r : ℕ × ℕ) (b : Bool) → eq_by_cmp pair_cmp r (pair c) ≡ b → IsSome (cond b (Some cost) (get m r)) → P r
    by r true e some = subst P (sym (pair_cmp-exact r (pair c) (tied _ e))) (new c (first_there c cs))
    by r false e some = old r some

-- a pair that isn't put in has what it had
pub and_other : (pair : ℕ → ℕ × ℕ) (ids : List ℕ) (row : List (Option ℕ)) (m : Lanes) (q : ℕ × ℕ) → ((c : ℕ) → Contains ids c → q ≡ pair c → ⊥) → get (lanes_and m (row_entries pair ids row)) q ≡ get m q
and_other pair [] row m q apart = refl
and_other pair (c ∷ cs) [] m q apart = refl
and_other pair (c ∷ cs) (None ∷ row) m q apart = and_other pair cs row m q (λ d k. apart d (later_there c cs d k))
and_other pair (c ∷ cs) (Some cost ∷ row) m q apart =
    and_other pair cs row (map_of.insert m (pair c) cost) q (λ d k. apart d (later_there c cs d k)) ∙ insert_other m (pair c) cost q (apart c (first_there c cs))

-- a pair that had no lane has that of the row, where the row's ids rise and make different pairs
pub and_at : (pair : ℕ → ℕ × ℕ) (id_of : ℕ × ℕ → ℕ) → ((c : ℕ) → id_of (pair c) ≡ c) → (ids : List ℕ) (row : List (Option ℕ)) (m : Lanes) (j : ℕ) → AllPairs (λ a b. a < b) ids → length row ≡ length ids → j < length ids → get m (pair (slice_index ids j)) ≡ None
    → get (lanes_and m (row_entries pair ids row)) (pair (slice_index ids j)) ≡ slice_index_or row j None
and_at pair id_of back [] row m j rise same within none = absurd (omega arith)
and_at pair id_of back (c ∷ cs) [] m j rise same within none = absurd (omega arith)
and_at pair id_of back (c ∷ cs) (None ∷ row) m zero rise same within none =
    and_other pair cs row m (pair c) (λ d k e. let below = All-contains (λ y. c < y) cs d (pairs_head c cs rise) k in let ids = ap id_of e in omega (arith, below, ids, back c, back d)) ∙ none
and_at pair id_of back (c ∷ cs) (Some cost ∷ row) m zero rise same within none =
    and_other pair cs row (map_of.insert m (pair c) cost) (pair c) (λ d k e. let below = All-contains (λ y. c < y) cs d (pairs_head c cs rise) k in let ids = ap id_of e in omega (arith, below, ids, back c, back d))
    ∙ insert_same m (pair c) cost
and_at pair id_of back (c ∷ cs) (None ∷ row) m (suc j) rise same within none = and_at pair id_of back cs row m j (pairs_tail c cs rise) (omega arith) (omega arith) none
and_at pair id_of back (c ∷ cs) (Some cost ∷ row) m (suc j) rise same within none =
    let below = pairs_head c cs rise j 0 (omega arith) in
    and_at pair id_of back cs row (map_of.insert m (pair c) cost) j (pairs_tail c cs rise) (omega arith) (omega arith)
    (insert_other m (pair c) cost (pair (slice_index cs j)) (λ e. let ids = ap id_of e in omega (arith, below, ids, back c, back (slice_index cs j))) ∙ none)

-- ids that rise differ at different places
pub ids_differ : (ids : List ℕ) → IsStrictlyIncreasing ids → (i k : ℕ) → i < length ids → k < length ids → i ≢ k → slice_index ids i ≡ slice_index ids k → ⊥
ids_differ ids rise i k b c apart same =
    elim (cases_order i k) [
      | inl e ↦ apart e
      | inr other ↦ elim other [
        | inl before ↦ let h = AllPairs-from_increasing ids rise i k 0 before c in omega (arith, h, same)
        | inr after ↦ let h = AllPairs-from_increasing ids rise k i 0 after b in omega (arith, h, same)
      ]
    ]

-- the place of an id that is there
place_in : (ids : List ℕ) (x : ℕ) → Contains ids x → (k : ℕ) × (k < length ids) × (slice_index ids k ≡ x)
place_in ids x k = (k.0, k.1, get_or_default ids k.0 0 x k.1 ∙ k.2)

stands : (ids : List ℕ) (x k : ℕ) → k < length ids → slice_index ids k ≡ x → Contains ids x
stands ids x k b e = (k, b, get_or_default ids k x 0 b ∙ e)

-- what stays when an id goes, and what is there when one came
pub stays : (ids : List ℕ) (p x : ℕ) → p < length ids → Contains ids x → (x ≡ slice_index ids p → ⊥) → Contains (remove ids p) x
stays ids p x within there apart =
    let at = place_in ids x there in
    let count = length-remove ids p within in
    elim (cases_order at.0 p) [
      | inl e ↦ absurd (apart (sym at.2 ∙ ap (slice_index ids) e))
      | inr other ↦ elim other [
        | inl before ↦ stands (remove ids p) x at.0 (omega (arith, before, within, count)) (get_or-remove_below ids p 0 at.0 before within ∙ at.2)
        | inr after ↦
            let less : at.0 - 1 + 1 ≡ at.0 = omega (arith, after) in
            let b : at.0 < length ids = at.1 in
            stands (remove ids p) x (at.0 - 1) (omega (arith, after, b, count)) (get_or-remove_above ids p 0 (at.0 - 1) (omega (arith, after)) within ∙ ap (slice_index ids) less ∙ at.2)
      ]
    ]

pub was_there : (ids : List ℕ) (p y x : ℕ) → p ≤ length ids → Contains ids x → Contains (insert ids p y) x
was_there ids p y x within there =
    let at = place_in ids x there in
    let b : at.0 < length ids = at.1 in
    let count = length-insert ids p y within in
    elim (cases_order at.0 p) [
      | inl e ↦ stands (insert ids p y) x (at.0 + 1) (omega (arith, b, count)) (get_or-insert_above ids p y 0 at.0 (omega (arith, e)) within ∙ at.2)
      | inr other ↦ elim other [
        | inl before ↦ stands (insert ids p y) x at.0 (omega (arith, b, count)) (get_or-insert_below ids p y 0 at.0 before within ∙ at.2)
        | inr after ↦ stands (insert ids p y) x (at.0 + 1) (omega (arith, b, count)) (get_or-insert_above ids p y 0 at.0 (omega (arith, after)) within ∙ at.2)
      ]
    ]

pub is_there : (ids : List ℕ) (p y : ℕ) → p ≤ length ids → Contains (insert ids p y) y
is_there ids p y within = stands (insert ids p y) y p (omega (arith, length-insert ids p y within, within)) (get_or-insert_at ids p y 0 within)

-- an id that comes among ids that rise was none of them
pub was_apart : (ids : List ℕ) (p y : ℕ) → p ≤ length ids → IsStrictlyIncreasing (insert ids p y) → (k : ℕ) → k < length ids → slice_index ids k ≡ y → ⊥
was_apart ids p y within rise k b same =
    let count = length-insert ids p y within in
    let at = get_or-insert_at ids p y 0 within in
    elim (cases_order k p) [
      | inl e ↦ ids_differ (insert ids p y) rise (k + 1) p (omega (arith, b, count)) (omega (arith, within, count)) (λ f. omega (arith, e, f)) (get_or-insert_above ids p y 0 k (omega (arith, e)) within ∙ same ∙ sym at)
      | inr other ↦ elim other [
        | inl before ↦ ids_differ (insert ids p y) rise k p (omega (arith, b, count)) (omega (arith, within, count)) (λ f. omega (arith, before, f)) (get_or-insert_below ids p y 0 k before within ∙ same ∙ sym at)
        | inr after ↦ ids_differ (insert ids p y) rise (k + 1) p (omega (arith, b, count)) (omega (arith, within, count)) (λ f. omega (arith, after, f)) (get_or-insert_above ids p y 0 k (omega (arith, after)) within ∙ same ∙ sym at)
      ]
    ]

none_unless : (o : Option ℕ) → (IsSome o → ⊥) → o ≡ None
none_unless None h = refl
none_unless (Some x) h = absurd (h cc)

not_some : (o : Option ℕ) → o ≡ None → IsSome o → ⊥
not_some None e there = cc
not_some (Some x) e there = cc

-- the lanes of a table in which one thing changes
module _ (ss cs : List ℕ) (rows : List (List (Option ℕ))) (table : IsTable ss cs rows) where
  abbrev m : Lanes
  m = lanes_of ss cs rows

  abbrev entry : ℕ → ℕ → Option ℕ
  entry i j = slice_index_or (slice_index_or rows i []) j None

  known : (s c : ℕ) → IsSome (get m (s, c)) → Contains ss s × Contains cs c
  known = lanes_of_known ss cs rows

  looked_up : (i j : ℕ) → i < length ss → j < length cs → get m (slice_index ss i, slice_index cs j) ≡ entry i j
  looked_up = get-lanes_of ss cs rows table

  -- one lane
  module _ (i j : ℕ) (lane : Option ℕ) (within : i < length ss) (inside : j < length cs) (rows' : List (List (Option ℕ)))
      (here : slice_index_or rows' i [] ≡ set (slice_index_or rows i []) j lane) (else : (k : ℕ) → k ≢ i → slice_index_or rows' k [] ≡ slice_index_or rows k []) where
    abbrev m_set : Lanes
    m_set = lanes_with m (slice_index ss i) (slice_index cs j) lane

    pub set_known : (s c : ℕ) → IsSome (get m_set (s, c)) → Contains ss s × Contains cs c
    set_known s c there =
        elim (cases_eq s (slice_index ss i)) [
          | inl same ↦ elim (cases_eq c (slice_index cs j)) [
            | inl alike ↦ (stands ss s i within (sym same), stands cs c j inside (sym alike))
            | inr apart ↦ known s c (subst IsSome (with_other m (slice_index ss i) (slice_index cs j) lane (s, c) (λ e. apart (ap (λ (p : ℕ × ℕ). p.1) e))) there)
          ]
          | inr apart ↦ known s c (subst IsSome (with_other m (slice_index ss i) (slice_index cs j) lane (s, c) (λ e. apart (ap (λ (p : ℕ × ℕ). p.0) e))) there)
        ]

    row_wide : length (slice_index_or rows i []) ≡ length cs
    row_wide = table.entry_each i [] (omega (arith, within, table.row_each))

    set_at : (k l : ℕ) → k < length ss → l < length cs → get m_set (slice_index ss k, slice_index cs l) ≡ slice_index_or (slice_index_or rows' k []) l None
    set_at k l b c =
        elim (cases_eq k i) [
          | inl same ↦ elim (cases_eq l j) [
            | inl alike ↦
                ap (λ (p : ℕ × ℕ). get m_set (slice_index ss p.0, slice_index cs p.1)) (λ n. (same n, alike n))
                ∙ with_same m (slice_index ss i) (slice_index cs j) lane
                ∙ sym (ap (λ (p : ℕ × ℕ). slice_index_or (slice_index_or rows' p.0 []) p.1 None) (λ n. (same n, alike n)) ∙ ap (λ row. slice_index_or row j None) here ∙ get_or-set_same (slice_index_or rows i []) j lane None (omega (arith, inside, row_wide)))
            | inr apart ↦
                with_other m (slice_index ss i) (slice_index cs j) lane (slice_index ss k, slice_index cs l) (λ e. ids_differ cs table.customers_rise l j c inside apart (ap (λ (p : ℕ × ℕ). p.1) e))
                ∙ looked_up k l b c
                ∙ ap (λ n. entry n l) same
                ∙ sym (ap (λ n. slice_index_or (slice_index_or rows' n []) l None) same ∙ ap (λ row. slice_index_or row l None) here ∙ get_or-set_other (slice_index_or rows i []) j l lane None apart)
          ]
          | inr apart ↦
              with_other m (slice_index ss i) (slice_index cs j) lane (slice_index ss k, slice_index cs l) (λ e. ids_differ ss table.sites_rise k i b within apart (ap (λ (p : ℕ × ℕ). p.0) e))
              ∙ looked_up k l b c
              ∙ ap (λ row. slice_index_or row l None) (sym (else k apart))
        ]

    pub lane_set : IsTable ss cs rows' → m_set ≡ lanes_of ss cs rows'
    lane_set table' = lanes_from_places ss cs rows' table' m_set (record { known = set_known }) set_at

  -- a row that goes
  module _ (p : ℕ) (within : p < length ss) where
    abbrev s_out : ℕ
    s_out = slice_index ss p

    abbrev m_out : Lanes
    m_out = lanes_without_site m s_out

    pub site_out_known : (s c : ℕ) → IsSome (get m_out (s, c)) → Contains (remove ss p) s × Contains cs c
    site_out_known s c there =
        elim (cases_eq s s_out) [
          | inl same ↦ absurd (not_some _ (get-without_site m s_out (s, c) ∙ ap (λ b. cond (not b) (get m (s, c)) None) (eq-eqb s s_out same)) there)
          | inr apart ↦
              let kept : get m_out (s, c) ≡ get m (s, c) = get-without_site m s_out (s, c) ∙ ap (λ b. cond (not b) (get m (s, c)) None) (ne_eqb s s_out apart) in
              let k = known s c (subst IsSome kept there) in
              (stays ss p s within k.0 apart, k.1)
        ]

    out_at : (i k j : ℕ) → k < length ss → k ≢ p → j < length cs → slice_index (remove ss p) i ≡ slice_index ss k → slice_index_or (remove rows p) i [] ≡ slice_index_or rows k [] → get m_out (slice_index (remove ss p) i, slice_index cs j) ≡ slice_index_or (slice_index_or (remove rows p) i []) j None
    out_at i k j b apart inside id row =
        ap (λ s. get m_out (s, slice_index cs j)) id
        ∙ get-without_site m s_out (slice_index ss k, slice_index cs j)
        ∙ ap (λ b. cond (not b) (get m (slice_index ss k, slice_index cs j)) None) (ne_eqb (slice_index ss k) s_out (ids_differ ss table.sites_rise k p b within apart))
        ∙ looked_up k j b inside
        ∙ ap (λ r. slice_index_or r j None) (sym row)

    each_out : (i j : ℕ) → i < length (remove ss p) → j < length cs → get m_out (slice_index (remove ss p) i, slice_index cs j) ≡ slice_index_or (slice_index_or (remove rows p) i []) j None
    each_out i j b inside =
        let count = length-remove ss p within in
        let among : p < length rows = omega (arith, within, table.row_each) in
        elim (cases_order i p) [
          | inl e ↦ out_at i (i + 1) j (omega (arith, b, count)) (λ f. omega (arith, e, f)) inside (get_or-remove_above ss p 0 i (omega (arith, e)) within) (get_or-remove_above rows p [] i (omega (arith, e)) among)
          | inr other ↦ elim other [
            | inl before ↦ out_at i i j (omega (arith, b, count)) (λ f. omega (arith, before, f)) inside (get_or-remove_below ss p 0 i before within) (get_or-remove_below rows p [] i before among)
            | inr after ↦ out_at i (i + 1) j (omega (arith, b, count)) (λ f. omega (arith, after, f)) inside (get_or-remove_above ss p 0 i (omega (arith, after)) within) (get_or-remove_above rows p [] i (omega (arith, after)) among)
          ]
        ]

    pub row_out : IsTable (remove ss p) cs (remove rows p) → m_out ≡ lanes_of (remove ss p) cs (remove rows p)
    row_out table' = lanes_from_places (remove ss p) cs (remove rows p) table' m_out (record { known = site_out_known }) each_out

  -- a row that comes
  module _ (p s : ℕ) (row : List (Option ℕ)) (within : p ≤ length ss) (table' : IsTable (insert ss p s) cs (insert rows p row)) where
    abbrev m_in : Lanes
    m_in = with_row m s cs row

    in_known : (t c : ℕ) → IsSome (get m_in (t, c)) → Contains (insert ss p s) t × Contains cs c
    in_known t c there =
        and_known (λ q. Contains (insert ss p s) q.0 × Contains cs q.1) (λ c. (s, c)) cs row m (λ d k. (is_there ss p s within, k)) (λ q some. let k = known q.0 q.1 some in (was_there ss p s q.0 within k.0, k.1)) (t, c) there

    new_row : (j : ℕ) → j < length cs → get m_in (s, slice_index cs j) ≡ slice_index_or row j None
    new_row j inside =
        let among : p ≤ length rows = omega (arith, within, table.row_each) in
        let wide : length row ≡ length cs = ap length (sym (get_or-insert_at rows p row [] among)) ∙ table'.entry_each p [] (omega (arith, length-insert rows p row among, among)) in
        and_at (λ c. (s, c)) (λ q. q.1) (λ _. refl) cs row m j (AllPairs-from_increasing cs table.customers_rise) wide inside
        (none_unless _ (λ there. let k = place_in ss s (known s (slice_index cs j) there).0 in was_apart ss p s within table'.sites_rise k.0 k.1 k.2))

    old_row : (i k j : ℕ) → k < length ss → j < length cs → slice_index (insert ss p s) i ≡ slice_index ss k → slice_index_or (insert rows p row) i [] ≡ slice_index_or rows k [] → get m_in (slice_index (insert ss p s) i, slice_index cs j) ≡ slice_index_or (slice_index_or (insert rows p row) i []) j None
    old_row i k j b inside id same =
        ap (λ t. get m_in (t, slice_index cs j)) id
        ∙ and_other (λ c. (s, c)) cs row m (slice_index ss k, slice_index cs j) (λ c _ e. was_apart ss p s within table'.sites_rise k b (ap (λ (q : ℕ × ℕ). q.0) e))
        ∙ looked_up k j b inside
        ∙ ap (λ r. slice_index_or r j None) (sym same)

    each_in : (i j : ℕ) → i < length (insert ss p s) → j < length cs → get m_in (slice_index (insert ss p s) i, slice_index cs j) ≡ slice_index_or (slice_index_or (insert rows p row) i []) j None
    each_in i j b inside =
        let count = length-insert ss p s within in
        let among : p ≤ length rows = omega (arith, within, table.row_each) in
        elim (cases_order i p) [
          | inl e ↦
              ap (λ n. get m_in (slice_index (insert ss p s) n, slice_index cs j)) e
              ∙ ap (λ t. get m_in (t, slice_index cs j)) (get_or-insert_at ss p s 0 within)
              ∙ new_row j inside
              ∙ sym (ap (λ n. slice_index_or (slice_index_or (insert rows p row) n []) j None) e ∙ ap (λ r. slice_index_or r j None) (get_or-insert_at rows p row [] among))
          | inr other ↦ elim other [
            | inl before ↦ old_row i i j (omega (arith, before, within)) inside (get_or-insert_below ss p s 0 i before within) (get_or-insert_below rows p row [] i before among)
            | inr after ↦
                let less : i ≡ i - 1 + 1 = omega (arith, after) in
                old_row i (i - 1) j (omega (arith, b, count, after)) inside
                (ap (slice_index (insert ss p s)) less ∙ get_or-insert_above ss p s 0 (i - 1) (omega (arith, after)) within)
                (ap (λ n. slice_index_or (insert rows p row) n []) less ∙ get_or-insert_above rows p row [] (i - 1) (omega (arith, after)) among)
          ]
        ]

    pub row_in : m_in ≡ lanes_of (insert ss p s) cs (insert rows p row)
    row_in = lanes_from_places (insert ss p s) cs (insert rows p row) table' m_in (record { known = in_known }) each_in

  -- a column that goes: each row is shorter by its entry
  module _ (p : ℕ) (within : p < length cs) (rows' : List (List (Option ℕ))) (each : (i : ℕ) → i < length ss → slice_index_or rows' i [] ≡ remove (slice_index_or rows i []) p) where
    abbrev c_out : ℕ
    c_out = slice_index cs p

    abbrev m_less : Lanes
    m_less = lanes_without_customer m c_out

    pub customer_out_known : (s c : ℕ) → IsSome (get m_less (s, c)) → Contains ss s × Contains (remove cs p) c
    customer_out_known s c there =
        elim (cases_eq c c_out) [
          | inl same ↦ absurd (not_some _ (get-without_customer m c_out (s, c) ∙ ap (λ b. cond (not b) (get m (s, c)) None) (eq-eqb c c_out same)) there)
          | inr apart ↦
              let kept : get m_less (s, c) ≡ get m (s, c) = get-without_customer m c_out (s, c) ∙ ap (λ b. cond (not b) (get m (s, c)) None) (ne_eqb c c_out apart) in
              let k = known s c (subst IsSome kept there) in
              (k.0, stays cs p c within k.1 apart)
        ]

    less_at : (i j k : ℕ) → i < length ss → k < length cs → k ≢ p → slice_index (remove cs p) j ≡ slice_index cs k → slice_index_or (remove (slice_index_or rows i []) p) j None ≡ entry i k → get m_less (slice_index ss i, slice_index (remove cs p) j) ≡ slice_index_or (slice_index_or rows' i []) j None
    less_at i j k b inside apart id same =
        ap (λ c. get m_less (slice_index ss i, c)) id
        ∙ get-without_customer m c_out (slice_index ss i, slice_index cs k)
        ∙ ap (λ b. cond (not b) (get m (slice_index ss i, slice_index cs k)) None) (ne_eqb (slice_index cs k) c_out (ids_differ cs table.customers_rise k p inside within apart))
        ∙ looked_up i k b inside
        ∙ sym same
        ∙ ap (λ r. slice_index_or r j None) (sym (each i b))

    each_less : (i j : ℕ) → i < length ss → j < length (remove cs p) → get m_less (slice_index ss i, slice_index (remove cs p) j) ≡ slice_index_or (slice_index_or rows' i []) j None
    each_less i j b inside =
        let count = length-remove cs p within in
        let row = slice_index_or rows i [] in
        let wide : length row ≡ length cs = table.entry_each i [] (omega (arith, b, table.row_each)) in
        let among : p < length row = omega (arith, within, wide) in
        elim (cases_order j p) [
          | inl e ↦ less_at i j (j + 1) b (omega (arith, inside, count)) (λ f. omega (arith, e, f)) (get_or-remove_above cs p 0 j (omega (arith, e)) within) (get_or-remove_above row p None j (omega (arith, e)) among)
          | inr other ↦ elim other [
            | inl before ↦ less_at i j j b (omega (arith, inside, count)) (λ f. omega (arith, before, f)) (get_or-remove_below cs p 0 j before within) (get_or-remove_below row p None j before among)
            | inr after ↦ less_at i j (j + 1) b (omega (arith, inside, count)) (λ f. omega (arith, after, f)) (get_or-remove_above cs p 0 j (omega (arith, after)) within) (get_or-remove_above row p None j (omega (arith, after)) among)
          ]
        ]

    pub column_out : IsTable ss (remove cs p) rows' → m_less ≡ lanes_of ss (remove cs p) rows'
    column_out table' = lanes_from_places ss (remove cs p) rows' table' m_less (record { known = customer_out_known }) each_less

  -- a column that comes: each row is longer by its entry
  module _ (p c : ℕ) (column : List (Option ℕ)) (within : p ≤ length cs) (full : length column ≡ length ss) (rows' : List (List (Option ℕ))) (table' : IsTable ss (insert cs p c) rows')
      (each : (i : ℕ) → i < length ss → slice_index_or rows' i [] ≡ insert (slice_index_or rows i []) p (slice_index_or column i None)) where
    abbrev m_more : Lanes
    m_more = with_column m c ss column

    more_known : (s d : ℕ) → IsSome (get m_more (s, d)) → Contains ss s × Contains (insert cs p c) d
    more_known s d there =
        and_known (λ q. Contains ss q.0 × Contains (insert cs p c) q.1) (λ s. (s, c)) ss column m (λ t k. (k, is_there cs p c within)) (λ q some. let k = known q.0 q.1 some in (k.0, was_there cs p c q.1 within k.1)) (s, d) there

    new_entry : (i : ℕ) → i < length ss → get m_more (slice_index ss i, c) ≡ slice_index_or column i None
    new_entry i b =
        and_at (λ s. (s, c)) (λ q. q.0) (λ _. refl) ss column m i (AllPairs-from_increasing ss table.sites_rise) full b
        (none_unless _ (λ there. let k = place_in cs c (known (slice_index ss i) c there).1 in was_apart cs p c within table'.customers_rise k.0 k.1 k.2))

    old_entry : (i j k : ℕ) → i < length ss → k < length cs → slice_index (insert cs p c) j ≡ slice_index cs k → slice_index_or (insert (slice_index_or rows i []) p (slice_index_or column i None)) j None ≡ entry i k
        → get m_more (slice_index ss i, slice_index (insert cs p c) j) ≡ slice_index_or (slice_index_or rows' i []) j None
    old_entry i j k b inside id same =
        ap (λ d. get m_more (slice_index ss i, d)) id
        ∙ and_other (λ s. (s, c)) ss column m (slice_index ss i, slice_index cs k) (λ s _ e. was_apart cs p c within table'.customers_rise k inside (ap (λ (q : ℕ × ℕ). q.1) e))
        ∙ looked_up i k b inside
        ∙ sym same
        ∙ ap (λ r. slice_index_or r j None) (sym (each i b))

    each_more : (i j : ℕ) → i < length ss → j < length (insert cs p c) → get m_more (slice_index ss i, slice_index (insert cs p c) j) ≡ slice_index_or (slice_index_or rows' i []) j None
    each_more i j b inside =
        let count = length-insert cs p c within in
        let row = slice_index_or rows i [] in
        let x = slice_index_or column i None in
        let wide : length row ≡ length cs = table.entry_each i [] (omega (arith, b, table.row_each)) in
        let among : p ≤ length row = omega (arith, within, wide) in
        elim (cases_order j p) [
          | inl e ↦
              ap (λ n. get m_more (slice_index ss i, slice_index (insert cs p c) n)) e
              ∙ ap (λ d. get m_more (slice_index ss i, d)) (get_or-insert_at cs p c 0 within)
              ∙ new_entry i b
              ∙ sym (ap (λ n. slice_index_or (slice_index_or rows' i []) n None) e ∙ ap (λ r. slice_index_or r p None) (each i b) ∙ get_or-insert_at row p x None among)
          | inr other ↦ elim other [
            | inl before ↦ old_entry i j j b (omega (arith, before, within)) (get_or-insert_below cs p c 0 j before within) (get_or-insert_below row p x None j before among)
            | inr after ↦
                let less : j ≡ j - 1 + 1 = omega (arith, after) in
                old_entry i j (j - 1) b (omega (arith, inside, count, after))
                (ap (slice_index (insert cs p c)) less ∙ get_or-insert_above cs p c 0 (j - 1) (omega (arith, after)) within)
                (ap (λ n. slice_index_or (insert row p x) n None) less ∙ get_or-insert_above row p x None (j - 1) (omega (arith, after)) among)
          ]
        ]

    pub column_in : m_more ≡ lanes_of ss (insert cs p c) rows'
    column_in = lanes_from_places ss (insert cs p c) rows' table' m_more (record { known = more_known }) each_more
