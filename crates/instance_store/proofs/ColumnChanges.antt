-- Rows that get one lane more or less each, one after another.
use Rattle.std.proofs.Common.{◌≡◌, ℕ, ◌+◌, ◌<◌, ◌≤◌, inl, inr, List, [], ◌∷◌, ◌++◌, map, length, take, set, insert, remove, All, Option, None, slice_index_or, get_or, refl, sym, ap, subst, ◌∙◌, arith}
use Rattle.std.proofs.lemmas.Bool.{cases_eq, cases_order}
use Rattle.std.proofs.lemmas.List.{length-map, length-set, length-take-le, get_or-map, get_or-take, get_or-set_same, get_or-set_other, set-get_or, get_or_default, take_more, same_lists}
use Rattle.std.proofs.lemmas.List.Edits.{length-insert, length-remove, get_or-insert_below, get_or-insert_above, get_or-remove_below, get_or-remove_above}
use Rattle.instance_store.specs.declared.instance.StoredSite.{StoredSite}
use Rattle.instance_store.specs.Columns.{column_in, without_lane, with_lane_at, AreChanged, AreWithout, AreWith}

-- one lane more of a column
pub lanes_at_more : (sites : List StoredSite) (cust k : ℕ) (x : StoredSite) → k < length sites → x ≡ get_or sites k x → take k (column_in sites cust) ++ slice_index_or x.row.lanes cust None ∷ [] ≡ take (k + 1) (column_in sites cust)
lanes_at_more sites cust k x within item =
    let lane : StoredSite → Option ℕ = λ s. slice_index_or s.row.lanes cust None in
    sym (take_more (map lane sites) k (lane x) (omega (arith, within, length-map sites lane)) ∙ ap (λ y. take k (map lane sites) ++ y ∷ []) (get_or-map lane sites k x (lane x) within ∙ ap lane (sym item)))

-- one row more
pub changed_start : (change : ℕ → StoredSite → StoredSite) (old : List StoredSite) → AreChanged 0 change old old
changed_start change old = record { count = refl; first = λ i d below _. absurd (omega (arith, below)); others = λ i d _. refl }

pub changed_more : (n : ℕ) (change : ℕ → StoredSite → StoredSite) (old now : List StoredSite) (x y : StoredSite) → AreChanged n change old now → n < length old → y ≡ change n (get_or now n x) → AreChanged (n + 1) change old (set now n y)
changed_more n change old now x y so within is = record {
  count = length-set now n y ∙ so.count;
  first = λ i d below inside.
      elim (cases_eq i n) [
        | inl same ↦
            get_at i d same
            ∙ ap (change n) (get_or_default now n x d (omega (arith, within, so.count)) ∙ so.others n d (omega arith))
            ∙ ap (λ k. change k (get_or old k d)) (sym same)
        | inr apart ↦ get_or-set_other now n i y d apart ∙ so.first i d (omega (arith, below, apart)) inside
      ];
  others = λ i d past. get_or-set_other now n i y d (λ e. omega (arith, past, e)) ∙ so.others i d (omega (arith, past));
}
  where
    get_at : (i : ℕ) (d : StoredSite) → i ≡ n → get_or (set now n y) i d ≡ change n (get_or now n x)
    get_at i d same = ap (λ k. get_or (set now n y) k d) same ∙ get_or-set_same now n y d (omega (arith, within, so.count)) ∙ is

-- a row that isn't reached yet has the lanes that it had
pub not_reached : (P : StoredSite → Type 0) (n : ℕ) (change : ℕ → StoredSite → StoredSite) (old now : List StoredSite) (x : StoredSite) → AreChanged n change old now → n < length old → All P old → P (get_or now n x)
not_reached P n change old now x so within all = subst P (sym (so.others n x (omega arith))) (all n x within)

pub all_of_take : (P : StoredSite → Type 0) (m n : ℕ) (xs : List StoredSite) (d : StoredSite) → All P (take m xs) → n < m → m ≤ length xs → P (get_or xs n d)
all_of_take P m n xs d all below within = subst P (get_or-take m xs n d below) (all n d (let count = length-take-le m xs within in omega (arith, below, count)))

-- a lane that comes and goes again
pub remove-insert : {X : Type 0} (xs : List X) (p : ℕ) (y : X) → p ≤ length xs → remove (insert xs p y) p ≡ xs
remove-insert {X} xs p y within =
    let longer = length-insert xs p y within in
    let inside : p < length (insert xs p y) = omega (arith, longer, within) in
    same_lists (remove (insert xs p y) p) xs (let shorter = length-remove (insert xs p y) p inside in omega (arith, longer, shorter)) (λ k d below.
    elim (cases_order k p) [
      | inl e ↦ get_or-remove_above (insert xs p y) p d k (omega (arith, e)) inside ∙ get_or-insert_above xs p y d k (omega (arith, e)) within
      | inr other ↦ elim other [
        | inl before ↦ get_or-remove_below (insert xs p y) p d k before inside ∙ get_or-insert_below xs p y d k before within
        | inr after ↦ get_or-remove_above (insert xs p y) p d k (omega (arith, after)) inside ∙ get_or-insert_above xs p y d k (omega (arith, after)) within
      ]
    ])

-- a row that is put back as it was
pub unchanged : (xs : List StoredSite) (n : ℕ) (x y : StoredSite) → y ≡ get_or xs n x → set xs n y ≡ xs
unchanged xs n x y is = ap (set xs n) is ∙ set-get_or xs n x

module _ (n place : ℕ) (lanes : List (Option ℕ)) (old now : List StoredSite) (so : AreWith n place lanes old now) (within : n ≤ length old) (fit : All (λ s. place ≤ length s.row.lanes) old) where
  -- each row that has its lane can lose it again
  pub each_longer : All (λ s. place < length s.row.lanes) (take n now)
  each_longer k d below =
      let count = length-take-le n now (omega (arith, within, so.count)) in
      let first : k < n = omega (arith, below, count) in
      let inside : k < length old = omega (arith, first, within) in
      let fits : place ≤ length (get_or old k d).row.lanes = fit k d inside in
      let is : get_or (take n now) k d ≡ with_lane_at place (slice_index_or lanes k None) (get_or old k d) = get_or-take n now k d first ∙ so.first k d first inside in
      subst (λ (s : StoredSite). place < length s.row.lanes) (sym is) (let longer = length-insert (get_or old k d).row.lanes place (slice_index_or lanes k None) fits in omega (arith, longer, fits))

  -- rows whose lanes were taken back are as they were
  pub taken_back : (new : List StoredSite) → AreWithout n place now new → new ≡ old
  taken_back new back = same_lists new old (back.count ∙ so.count) (λ k d below. each k d (omega (arith, below, back.count, so.count)))
    where
      each : (k : ℕ) (d : StoredSite) → k < length old → get_or new k d ≡ get_or old k d
      each k d inside =
          elim (cases_order n k) [
            | inl e ↦ back.others k d (omega (arith, e)) ∙ so.others k d (omega (arith, e))
            | inr other ↦ elim other [
              | inl past ↦ back.others k d (omega (arith, past)) ∙ so.others k d (omega (arith, past))
              | inr first ↦
                  back.first k d first (omega (arith, inside, so.count))
                  ∙ ap (without_lane place) (so.first k d first inside)
                  ∙ ap (λ (row : List (Option ℕ)). record (get_or old k d) { row = record (get_or old k d).row { lanes = row } }) (remove-insert (get_or old k d).row.lanes place (slice_index_or lanes k None) (fit k d inside))
            ]
          ]
