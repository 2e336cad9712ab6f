-- What is due of the rows of a book before it follows a change.
use Rattle.std.proofs.Common.{◌≡◌, ℕ, ◌<◌, ◌≤◌, refl, ap, sym, ◌∙◌, arith, Bool, true, false, List, [], ◌∷◌, map, length, get_or, take, None, pos}
use Rattle.std.specs.Prelude.{◌==◌, ◌+◌, ◌*◌, ◌-◌, ◌/◌, All, is_some, filter, replicate, slice_index, nat_lt, if◌then◌else◌}
use Rattle.std.specs.List.{list_all}
use Rattle.std.proofs.lemmas.List.{length-map, length-take, get_or-map, get_or-take}
use Rattle.location_terms.specs.declared.status.SiteStatus.TheVariants.{Free}
use Rattle.location_terms.specs.Instance.{Instance, Site, Customer, customer_ids}
use Rattle.location_terms.specs.Box.{Path}
use Rattle.location_terms.specs.Bound.{Duals}
use Rattle.location_terms.specs.Tree.{Tree, leaves_of}
use Rattle.location_terms.proofs.Places.{length-site_ids}
use Rattle.dual_value.specs.Zeros.{zeros}
use Rattle.branch_tree.specs.declared.limits.TheConstants.{MAX_TREE_NUMBERS}
use Rattle.leaf_repair.specs.CarriedTree.{by_id, carried_duals}
use Rattle.leaf_book.specs.declared.change.Change.{Change}
use Rattle.leaf_book.specs.declared.change.Change.TheVariants.{Fixed as AtFixed, Lane as AtLane, Site as AtSite, Count, All as Any}
use Rattle.leaf_book.specs.Sums.{LeafSums, sums_of}
use Rattle.leaf_book.specs.Book.{Book}
use Rattle.leaf_book.specs.Changes.{DifferAtSite, DifferInCount}
use Rattle.instance_store.specs.Changes.{with_fixed, with_lane_cost}
use Rattle.leaf_book.specs.Due.{AreTouched}
use Rattle.leaf_book.specs.BookDue.{AreRowsDue, IsBookDue}
use Rattle.leaf_book.specs.Kept.{keeps_among, kept_leaves, carried_sums, are_too_many_leaves, root_sums, due_sums}
use Rattle.leaf_book.specs.Rows.{Held}
use Rattle.leaf_book.proofs.BookSums.{book_sums}
use Rattle.leaf_book.proofs.Differing.{site_differs, site_turned, mapped_as_before}

abbrev no_sums : LeafSums
no_sums = record { q = 0; slacks = []; bound = pos 0 }

-- rows in use by place
module _ (rows : List Held) (used : ℕ) (sums : List LeafSums) (are : map (λ r. r.sums) (take used rows) ≡ sums) (within : used ≤ length rows) where
  pub in_use : length sums ≡ used
  in_use = sym (ap length are) ∙ length-map (take used rows) (λ r. r.sums) ∙ omega (arith, within, length-take used rows)

  pub row_sums : (k : ℕ) (row : Held) → k < length sums → (get_or rows k row).sums ≡ get_or sums k no_sums
  row_sums k row b =
      let inside : k < used = omega (arith, b, in_use) in
      let front : k < length (take used rows) = omega (arith, inside, within, length-take used rows) in
      sym (ap (λ (r : Held). r.sums) (get_or-take used rows k row inside)) ∙ sym (get_or-map (λ r. r.sums) (take used rows) k row no_sums front) ∙ ap (λ (ss : List LeafSums). get_or ss k no_sums) are

module _ (I J : Instance) (s : ℕ) (differ : DifferAtSite I J s) where
  many : length I.sites ≡ length J.sites
  many = sym (length-site_ids I) ∙ ap length differ.ids ∙ length-site_ids J

  customers_same : customer_ids I ≡ customer_ids J
  customers_same = ap (λ (cs : List Customer). map (λ c. c.id) cs) differ.customers

  pub kept_same : (leaves : List (Path × Duals)) → kept_leaves I leaves ≡ kept_leaves J leaves
  kept_same leaves = λ k. let keep : Path × Duals → Bool = λ l. list_all (keeps_among (differ.ids k) (customers_same k)) l.0 in filter keep leaves

  pub too_many_same : (n : ℕ) → are_too_many_leaves I n ≡ are_too_many_leaves J n
  too_many_same n = λ k. nat_lt (MAX_TREE_NUMBERS / (many k + length (differ.customers k))) (4 * n - 2)

  price : List ℕ → List ℕ → Site → ℕ
  price sites u x = if is_some x.cap then by_id sites u 0 x.id else 0

  pub touched_duals : (sites customers : List ℕ) (d : Duals) → AreTouched I (carried_duals I sites customers d) J (carried_duals J sites customers d) s
  touched_duals sites customers d = record {
    instances = differ;
    q = refl;
    nu = refl;
    v = ap (λ (cs : List Customer). map (λ c. by_id customers d.v (pos 0) c.id) cs) differ.customers;
    u = λ i b other.
        get_or-map (λ (x : Site). if is_some x.cap then by_id sites d.u 0 x.id else 0) I.sites i (record { id = 0; fixed = 0; cap = None; status = Free }) 0 b
        ∙ ap (λ (x : Site). if is_some x.cap then by_id sites d.u 0 x.id else 0) (differ.others i b other)
        ∙ sym (get_or-map (λ (x : Site). if is_some x.cap then by_id sites d.u 0 x.id else 0) J.sites i (record { id = 0; fixed = 0; cap = None; status = Free }) 0 (omega (arith, b, many)));
  }

  pub touched_zeros : AreTouched I (zeros I 1) J (zeros J 1) s
  touched_zeros = record {
    instances = differ;
    q = refl;
    nu = refl;
    v = ap (λ (cs : List Customer). replicate (length cs) (pos 0)) differ.customers;
    u = λ i b other. ap (λ n. slice_index (replicate n 0) i) many;
  }

-- a fixed cost changes no duals
module _ (I : Instance) (s cost : ℕ) where
  abbrev was : Instance
  was = with_fixed I s cost

  fixed_differs : DifferAtSite I was s
  fixed_differs = site_turned was I s (site_differs I s (λ x. record x { fixed = cost }) (λ _. refl) (λ _. refl))

  sums_refixed : (path : Path) (sites customers : List ℕ) (d : Duals) → sums_of was (path, carried_duals was sites customers d) ≡ sums_of was (path, carried_duals I sites customers d)
  sums_refixed path sites customers d =
      let prices = mapped_as_before I s (λ x. record x { fixed = cost }) (λ _. refl) (λ _. refl) (λ x. if is_some x.cap then by_id sites d.u 0 x.id else 0) (λ _. refl) I.sites in
      λ k. sums_of was (path, let e : Duals = record { form = d.form; q = d.q; nu = d.nu; v = map (λ c. by_id customers d.v (pos 0) c.id) I.customers; u = prices k } in e)

  zeros_refixed : sums_of was ([], zeros was 1) ≡ sums_of was ([], zeros I 1)
  zeros_refixed =
      let many = length-map I.sites (λ (x : Site). if x.id == s then record x { fixed = cost } else x) in
      λ k. sums_of was ([], let e : Duals = record { form = (zeros I 1).form; q = 1; nu = pos 0; v = replicate (length I.customers) (pos 0); u = replicate (many k) 0 } in e)

module _ (I J : Instance) (differ : DifferInCount I J) where
  kept_counted : (leaves : List (Path × Duals)) → kept_leaves I leaves ≡ kept_leaves J leaves
  kept_counted leaves = λ k. let keep : Path × Duals → Bool = λ l. list_all (keeps_among (map (λ x. x.id) (differ.sites k)) (map (λ c. c.id) (differ.customers k))) l.0 in filter keep leaves

  too_many_counted : (n : ℕ) → are_too_many_leaves I n ≡ are_too_many_leaves J n
  too_many_counted n = λ k. nat_lt (MAX_TREE_NUMBERS / (length (differ.sites k) + length (differ.customers k))) (4 * n - 2)

  sums_counted : (path : Path) (sites customers : List ℕ) (d : Duals) → sums_of J (path, carried_duals J sites customers d) ≡ sums_of J (path, carried_duals I sites customers d)
  sums_counted path sites customers d = λ k. sums_of J (
    path,
    let e : Duals = record {
      form = d.form;
      q = d.q;
      nu = d.nu;
      v = map (λ c. by_id customers d.v (pos 0) c.id) (sym differ.customers k);
      u = map (λ x. if is_some x.cap then by_id sites d.u 0 x.id else 0) (sym differ.sites k);
    } in e,
  )

  zeros_counted : sums_of J ([], zeros J 1) ≡ sums_of J ([], zeros I 1)
  zeros_counted = λ k. sums_of J ([], let e : Duals = record { form = (zeros I 1).form; q = 1; nu = pos 0; v = replicate (length (sym differ.customers k)) (pos 0); u = replicate (length (sym differ.sites k)) 0 } in e)

-- the rows in use have the sums that are due for this instance
module _ (J : Instance) (t : Tree) (rows : List Held) (used : ℕ) (within : used ≤ length rows) (are : map (λ r. r.sums) (take used rows) ≡ due_sums J t) where
  abbrev kept : List (Path × Duals)
  kept = kept_leaves J (leaves_of t)

  root_is : are_too_many_leaves J (length kept) ≡ true → (row : Held) → (get_or rows 0 row).sums ≡ root_sums J
  root_is large row =
      let here : map (λ r. r.sums) (take used rows) ≡ root_sums J ∷ [] = are ∙ ap (λ b. if b then root_sums J ∷ [] else map (carried_sums J t) kept) large in
      row_sums rows used (root_sums J ∷ []) here within 0 row (omega arith)

  leaves_are : are_too_many_leaves J (length kept) ≡ false → map (λ r. r.sums) (take used rows) ≡ map (carried_sums J t) kept
  leaves_are small = are ∙ ap (λ b. if b then root_sums J ∷ [] else map (carried_sums J t) kept) small

  enough : are_too_many_leaves J (length kept) ≡ false → length kept ≤ length rows
  enough small = omega (arith, within, in_use rows used (map (carried_sums J t) kept) (leaves_are small) within, length-map kept (carried_sums J t))

  leaf_is : are_too_many_leaves J (length kept) ≡ false → (k : ℕ) (l : Path × Duals) (row : Held) → k < length kept → (get_or rows k row).sums ≡ carried_sums J t (get_or kept k l)
  leaf_is small k l row b =
      row_sums rows used (map (carried_sums J t) kept) (leaves_are small) within k row (omega (arith, b, length-map kept (carried_sums J t)))
      ∙ get_or-map (carried_sums J t) kept k l no_sums b

module _ (I : Instance) (t : Tree) (b : Book) (rows : List Held) (used : ℕ) (within : used ≤ length rows) (are : map (λ r. r.sums) (take used rows) ≡ b.leaves) (some : 0 < length rows) (all : length (kept_leaves I (leaves_of t)) ≤ length rows) (room : All (λ r. length I.sites ≤ r.room) rows) where
  abbrev now : List (Path × Duals)
  now = kept_leaves I (leaves_of t)

  pub rows_due : (change : Change) → IsBookDue change I t b → AreRowsDue change b.lo b.hi I t rows
  rows_due (AtFixed s cost) due =
      let J : Instance = with_fixed I s cost in
      let differ = fixed_differs I s cost in
      let sums = are ∙ due.leaves ∙ book_sums J t in
      let same = kept_same I J s differ (leaves_of t) in
      let large : are_too_many_leaves I (length now) ≡ are_too_many_leaves J (length (kept_leaves J (leaves_of t))) = too_many_same I J s differ (length now) ∙ ap (λ (ls : List (Path × Duals)). are_too_many_leaves J (length ls)) same in
      record {
        some = some;
        root = λ h row. root_is J t rows used within sums (sym large ∙ h) row ∙ zeros_refixed I s cost;
        leaves = λ h. record {
          enough = all;
          each = λ k l row inside.
              leaf_is J t rows used within sums (sym large ∙ h) k l row (omega (arith, inside, ap length same))
              ∙ ap (λ (ls : List (Path × Duals)). sums_of J ((get_or ls k l).0, carried_duals J t.sites t.customers (get_or ls k l).1)) (sym same)
              ∙ sums_refixed I s cost (get_or now k l).0 t.sites t.customers (get_or now k l).1;
        };
      }
  rows_due (AtLane s c cost) due =
      let J : Instance = with_lane_cost I s c cost in
      let sums = are ∙ due.leaves ∙ book_sums J t in
      record {
        some = some;
        root = λ h row. root_is J t rows used within sums h row;
        leaves = λ h. record { enough = all; each = λ k l row inside. leaf_is J t rows used within sums h k l row inside };
      }
  rows_due (AtSite s) due =
      let J : Instance = due.0 in
      let differ = due.1 in
      let sums = are ∙ due.2.leaves ∙ book_sums J t in
      let same = kept_same I J s differ (leaves_of t) in
      let large : are_too_many_leaves I (length now) ≡ are_too_many_leaves J (length (kept_leaves J (leaves_of t))) = too_many_same I J s differ (length now) ∙ ap (λ (ls : List (Path × Duals)). are_too_many_leaves J (length ls)) same in
      record {
        some = some;
        root = λ h row. (J, zeros J 1, touched_zeros I J s differ, root_is J t rows used within sums (sym large ∙ h) row);
        leaves = λ h. record {
          enough = all;
          each = λ k l row inside. (
            J,
            carried_duals J t.sites t.customers (get_or now k l).1,
            touched_duals I J s differ t.sites t.customers (get_or now k l).1,
            leaf_is J t rows used within sums (sym large ∙ h) k l row (omega (arith, inside, ap length same)) ∙ ap (λ (ls : List (Path × Duals)). sums_of J ((get_or ls k l).0, carried_duals J t.sites t.customers (get_or ls k l).1)) (sym same),
          );
        };
      }
  rows_due Count due =
      let J : Instance = due.0 in
      let differ = due.1 in
      let sums = are ∙ due.2.leaves ∙ book_sums J t in
      let same = kept_counted I J differ (leaves_of t) in
      let large : are_too_many_leaves I (length now) ≡ are_too_many_leaves J (length (kept_leaves J (leaves_of t))) = too_many_counted I J differ (length now) ∙ ap (λ (ls : List (Path × Duals)). are_too_many_leaves J (length ls)) same in
      record {
        some = some;
        root = λ h row. (J, differ, sym due.2.lo, sym due.2.hi, root_is J t rows used within sums (sym large ∙ h) row ∙ zeros_counted I J differ);
        leaves = λ h. record {
          enough = all;
          each = λ k l row inside. (
            J,
            differ,
            sym due.2.lo,
            sym due.2.hi,
            leaf_is J t rows used within sums (sym large ∙ h) k l row (omega (arith, inside, ap length same)) ∙ ap (λ (ls : List (Path × Duals)). sums_of J ((get_or ls k l).0, carried_duals J t.sites t.customers (get_or ls k l).1)) (sym same)
                ∙ sums_counted I J differ (get_or now k l).0 t.sites t.customers (get_or now k l).1,
          );
        };
      }
  rows_due Any due = record {
    some = some;
    root = λ h row. room 0 row some;
    leaves = λ h. record { enough = all; each = λ k l row inside. room k row (omega (arith, inside, all)) };
  }
