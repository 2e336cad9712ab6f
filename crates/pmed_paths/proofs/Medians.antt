-- The instance of a network, and what is known of its lanes.
use Rattle.std.proofs.Common.{◌≡◌, ℕ, zero, suc, ◌+◌, ◌*◌, ◌<◌, ◌≤◌, Bool, true, false, true≢false, List, [], ◌∷◌, ◌++◌, inl, inr, map, length, Option, None, Some, Ok, get_or, mul-le-mul, refl, sym, ap, subst, ◌∙◌, arith}
use Rattle.std.specs.List.{range_with_len, list_any}
use Rattle.std.proofs.lemmas.Bool.{cases_lt}
use Rattle.std.proofs.lemmas.Bool.Decides.{nat_tests}
use Rattle.std.proofs.lemmas.List.FromFn.{length-range_with_len, get_or-range_with_len, length-map-range_with_len, map-range_with_len_more}
use Rattle.std.proofs.lemmas.List.Elements.{All-map, All-from_get_or}
use Rattle.std.proofs.lemmas.List.Folds.{list_any_none, list_any_at}
use Rattle.location_terms.specs.Instance.{Instance, AreIds, IsValid}
use Rattle.number_words.specs.Words.{PlacedWord, words_of, end_of}
use Rattle.fixed_cost.specs.Reading.{FailsAs}
use Rattle.instance_store.specs.declared.rows.CustRow.{CustRow}
use Rattle.instance_store.specs.declared.rows.SiteRow.{SiteRow}
use Rattle.instance_store.specs.Small.{IsSmall, AreSmall}
use Rattle.instance_store.specs.Parts.{site_row_ids, cust_row_ids, instance_of, AreParts}
use Rattle.instance_store.proofs.StoredLemmas.{IsValid-instance_of}
use Rattle.pmed_paths.specs.Network.{Network, IsNetwork}
use Rattle.pmed_paths.specs.Walks.{least_cost, least_costs}
use Rattle.pmed_paths.specs.Median.{is_past, is_far, has_far_pair, FailsFor, vertex_row, vertex_customers, median_instance}
use Rattle.pmed_paths.specs.Pmed.{network_meaning, fault_in, median_meaning}
use Rattle.pmed_paths.specs.declared.median.PathFault.{PathFault}
use Rattle.pmed_paths.specs.declared.median.PathFault.TheVariants.{TooBig, NoMemory}

range-at : (n i d : ℕ) → i < n → get_or (range_with_len 1 n) i d ≡ i + 1
range-at n i d below = omega (arith, get_or-range_with_len 1 n i d below)

-- no cheapest walk is too dear, where there is none from any vertex
pub near-all : (N : Network) → ((k : ℕ) → k < N.vertices → is_far N (k + 1) ≡ false) → has_far_pair N ≡ false
unfolding has_far_pair
near-all N each =
    let n = N.vertices in
    list_any_none (λ a. is_far N a) (range_with_len 1 n)
    (λ k d below. let inside : k < n = omega (arith, below, length-range_with_len 1 n) in subst (λ a. is_far N a ≡ false) (sym (range-at n k d inside)) (each k inside))

-- some cheapest walk is too dear, where there is one from one of them
pub far-one : (N : Network) (k : ℕ) → k < N.vertices → is_far N (k + 1) ≡ true → has_far_pair N ≡ true
unfolding has_far_pair
far-one N k inside far =
    let n = N.vertices in
    list_any_at (λ a. is_far N a) (range_with_len 1 n) k 0 (omega (arith, inside, length-range_with_len 1 n)) (subst (λ a. is_far N a ≡ true) (sym (range-at n k 0 inside)) far)

pub fault-one : (N : Network) (k : ℕ) (fault : PathFault) → k < N.vertices → FailsFor fault (is_far N (k + 1)) → FailsFor fault (has_far_pair N)
fault-one N k TooBig inside far = far-one N k inside far
fault-one N k NoMemory inside far = tt

near-one : (N : Network) → has_far_pair N ≡ false → (k : ℕ) → k < N.vertices → is_far N (k + 1) ≡ false
near-one N near k inside = by (is_far N (k + 1)) refl
  where
    by : (b : Bool) → is_far N (k + 1) ≡ b → b ≡ false
    by true far = absurd (true≢false (sym (far-one N k inside far) ∙ near))
    by false far = refl

-- a fault at one place of a row
pub fault-at : (row : List (Option ℕ)) (k : ℕ) (fault : PathFault) → k < length row → FailsFor fault (is_past (get_or row k None)) → FailsFor fault (list_any is_past row)
fault-at row k TooBig inside far = list_any_at is_past row k None inside far
fault-at row k NoMemory inside far = tt

small-of : (o : Option ℕ) → is_past o ≡ false → IsSmall o
small-of None near = tt
small-of (Some cost) near = grind (arith, nat_tests)

pub small-row : (row : List (Option ℕ)) → list_any is_past row ≡ false → AreSmall row
small-row row near = All-from_get_or IsSmall row None (λ k below. small-of (get_or row k None) (by k below (is_past (get_or row k None)) refl))
  where
    by : (k : ℕ) → k < length row → (b : Bool) → is_past (get_or row k None) ≡ b → b ≡ false
    by k below true far = absurd (true≢false (sym (list_any_at is_past row k None below far) ∙ near))
    by k below false far = refl

site_ids-from : (N : Network) (n k : ℕ) → site_row_ids (map (λ a. vertex_row N a) (range_with_len k n)) ≡ range_with_len k n
site_ids-from N zero k = refl
site_ids-from N (suc n) k = ap (λ (ids : List ℕ). k ∷ ids) (site_ids-from N n (k + 1))

customer_ids-from : (n k : ℕ) → cust_row_ids (map (λ id. record { id = id; demand = 0 }) (range_with_len k n)) ≡ range_with_len k n
customer_ids-from zero k = refl
customer_ids-from (suc n) k = ap (λ (ids : List ℕ). k ∷ ids) (customer_ids-from n (k + 1))

-- the numbers 1 to n are ids
ids_to : (n : ℕ) → n ≤ 3000 → AreIds (range_with_len 1 n) (n + 1)
ids_to n few = record {
  positive = λ k d below. let inside : k < n = omega (arith, length-range_with_len 1 n) in rw (get_or-range_with_len 1 n k d) (omega arith);
  rising = λ k below. let inside : k + 1 < n = omega (arith, length-range_with_len 1 n) in omega (arith, get_or-range_with_len 1 n k 0, get_or-range_with_len 1 n (k + 1) 0);
  below_next = λ k d below. let inside : k < n = omega (arith, length-range_with_len 1 n) in rw (get_or-range_with_len 1 n k d) (omega arith);
  next_positive = omega arith;
  next_small = omega arith;
}

square_few : (n : ℕ) → n ≤ 3000 → n * n ≤ 10000000
square_few n few = omega (arith, mul-le-mul few few)

-- the rows of a network without a walk that is too dear make an instance
pub are_parts : (N : Network) → IsNetwork N → has_far_pair N ≡ false → AreParts N.medians N.medians (N.vertices + 1) (N.vertices + 1) (vertex_customers N.vertices) (map (λ a. vertex_row N a) (range_with_len 1 N.vertices))
are_parts N net near =
    let n = N.vertices in
    let row : ℕ → SiteRow = λ a. vertex_row N a in
    let customer : ℕ → CustRow = λ id. record { id = id; demand = 0 } in
    let sites : length (map row (range_with_len 1 n)) ≡ n = length-map-range_with_len row 1 n in
    let customers : length (vertex_customers n) ≡ n = length-map-range_with_len customer 1 n in
    record {
      sites_named = rw (site_ids-from N n 1) (ids_to n net.counts.few_vertices);
      customers_named = rw (customer_ids-from n 1) (ids_to n net.counts.few_vertices);
      rows_full = All-map (λ s. length s.lanes ≡ length (vertex_customers n)) row (range_with_len 1 n) (λ k d below. length-map-range_with_len (λ b. least_cost N (get_or (range_with_len 1 n) k d) b) 1 n ∙ sym customers);
      lanes_small = All-map (λ s. AreSmall s.lanes) row (range_with_len 1 n)
          (λ k d below. let inside : k < n = omega (arith, below, length-range_with_len 1 n) in
          subst (λ a. AreSmall (least_costs N a)) (sym (range-at n k d inside)) (small-row (least_costs N (k + 1)) (near-one N near k inside)));
      fixed_small = All-map (λ s. s.fixed ≤ 999999999999999) row (range_with_len 1 n) (λ k d below. omega arith);
      caps_small = All-map (λ s. IsSmall s.cap) row (range_with_len 1 n) (λ k d below. tt);
      demands_small = All-map (λ c. c.demand ≤ 999999999999999) customer (range_with_len 1 n) (λ k d below. omega arith);
      sizes = record {
        some_site = rw sites net.counts.some_vertex;
        few_sites = rw sites net.counts.few_vertices;
        some_customer = rw customers net.counts.some_vertex;
        few_customers = rw customers (omega (arith, net.counts.few_vertices));
        few_lanes = rw (sites, customers) (square_few n net.counts.few_vertices);
      };
      count_order = omega arith;
      count_small = net.counts.few_medians;
    }

-- what a file means, by what its network does
pub meant-near : (bytes : List ℕ) (N : Network) → network_meaning bytes ≡ Ok N → has_far_pair N ≡ false → median_meaning bytes ≡ Ok (median_instance N)
unfolding median_meaning
meant-near bytes N e near = rw (e, near) refl

pub meant-fault : (bytes : List ℕ) (N : Network) (fault : PathFault) → network_meaning bytes ≡ Ok N → FailsFor fault (has_far_pair N) → FailsAs (fault_in (words_of bytes) fault) (median_meaning bytes)
unfolding median_meaning
meant-fault bytes N TooBig e far = rw (e, far) refl
meant-fault bytes N NoMemory e far = tt

-- the end of a text is behind a word or at its first place
pub end_positive : (ws : List PlacedWord) → 1 ≤ (end_of ws).1
end_positive [] = omega arith
end_positive (w ∷ []) = omega arith
end_positive (w ∷ v ∷ ws) = end_positive (v ∷ ws)

-- no entry of a row costs too much, where each by itself doesn't
pub near-row : (row : List (Option ℕ)) → ((k : ℕ) → k < length row → is_past (get_or row k None) ≡ false) → list_any is_past row ≡ false
near-row row each = list_any_none is_past row (All-from_get_or (λ o. is_past o ≡ false) row None each)

-- one more row
pub rows-more : (N : Network) (k : ℕ) (rows more : List SiteRow) (row : SiteRow) → more ≡ rows ++ row ∷ [] → row ≡ vertex_row N (k + 1) → rows ≡ map (λ a. vertex_row N a) (range_with_len 1 k) → more ≡ map (λ a. vertex_row N a) (range_with_len 1 (k + 1))
rows-more N k rows more row pushed is before = pushed ∙ (λ i. before i ++ is i ∷ []) ∙ sym (map-range_with_len_more (λ a. vertex_row N a) 1 k (k + 1) (omega arith))

pub near-more : (N : Network) (k : ℕ) → ((j : ℕ) → j < k → is_far N (j + 1) ≡ false) → is_far N (k + 1) ≡ false → (j : ℕ) → j < k + 1 → is_far N (j + 1) ≡ false
near-more N k before this j below =
    elim (cases_lt j k) [
      | inl earlier ↦ before j earlier
      | inr here ↦ let same : j ≡ k = omega (arith, here, below) in subst (λ x. is_far N (x + 1) ≡ false) (sym same) this
    ]

-- the parts of the instance, as they are made
module _ (N : Network) (m n : ℕ) (custs : List CustRow) (sites : List SiteRow) (open_ : m ≡ N.medians) (all : n ≡ N.vertices) (customers : custs ≡ vertex_customers n) (rows : sites ≡ map (λ a. vertex_row N a) (range_with_len 1 N.vertices)) where
  pub stored-parts : IsNetwork N → has_far_pair N ≡ false → AreParts m m (n + 1) (n + 1) custs sites
  stored-parts net near = rw (customers, rows, open_, all) (are_parts N net near)

  pub stored-is : (I : Instance) → I ≡ instance_of m m (n + 1) (n + 1) custs sites → I ≡ median_instance N
  unfolding median_instance
  stored-is I is = rw (is, customers, rows, open_, all) refl

  pub stored-valid : IsNetwork N → has_far_pair N ≡ false → (I : Instance) → I ≡ instance_of m m (n + 1) (n + 1) custs sites → IsValid I
  stored-valid net near I is = subst IsValid (sym is) (IsValid-instance_of m m (n + 1) (n + 1) custs sites (stored-parts net near))
