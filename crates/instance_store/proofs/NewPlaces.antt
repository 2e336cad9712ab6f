-- The places of ids to which one more comes, and the lanes of all rows at one place.
use Rattle.std.proofs.Common.{◌≡◌, ℕ, zero, suc, ◌<◌, ◌≤◌, true, false, nat_eq, List, [], ◌∷◌, ◌++◌, map, length, take, vec_len, insert, Option, None, Result, Ok, Err, is_err, IfOk, IfErr, slice_index_or, get_or, refl, sym, ap, subst, ◌∙◌, arith}
use Rattle.std.specs.Vec.{with_items}
use Rattle.std.specs.List.{list_any, position_or_len}
use Rattle.std.specs.List.Sorted.{IsStrictlyIncreasing}
use Rattle.std.proofs.lemmas.List.{length-map, get_or-map, get_or_default, same_lists}
use Rattle.indexmap.specs.IndexSet.{insert_key, move_index}
use Rattle.indexmap.proofs.SetLemmas.{map-insert}
use Rattle.location_terms.specs.declared.status.SiteStatus.{SiteStatus}
use Rattle.location_terms.specs.declared.status.SiteStatus.TheVariants.{Free}
use Rattle.location_terms.specs.Instance.{Instance, Site, Customer, IsValid, customer_at, lane}
use Rattle.instance_store.specs.declared.rows.SiteRow.{SiteRow}
use Rattle.instance_store.specs.declared.rows.CustRow.{CustRow}
use Rattle.instance_store.specs.declared.instance.StoredSite.{StoredSite}
use Rattle.instance_store.specs.declared.instance.Instance.TheInside.{Inside}
use Rattle.instance_store.specs.Parts.{site_of, customer_of}
use Rattle.instance_store.specs.Changes.{with_site_in, with_customer_in, column_of}
use Rattle.instance_store.specs.Columns.{column_in}
use Rattle.instance_store.specs.Stored.{stored_instance, IsStored}
use Rattle.instance_store.proofs.StoredLemmas.{site_ids-stored, customer_ids-stored, sites-seen, customers-seen, lane-seen}
use Rattle.instance_store.proofs.ChangeLemmas.{new_id, placed_id}

-- what a clause says of a call that didn't fail, and of one that did
pub where_ok : {A E : Type 0} (P : Type 0) (r : Result A E) → IfOk r (λ _. P) → is_err r ≡ false → P
where_ok P (Ok x) h e = h
where_ok P (Err y) h e = absurd cc

pub where_err : {A E : Type 0} (P : Type 0) (r : Result A E) → IfErr r (λ _. P) → is_err r ≡ true → P
where_err P (Ok x) h e = absurd cc
where_err P (Err y) h e = h

-- a slice that was lent of a `Vec` and written, and is as long as before, is all of it
take_front : {X : Type 0} (n : ℕ) (xs ys : List X) → length xs ≡ n → take n (xs ++ ys) ≡ xs
take_front zero [] ys e = refl
take_front zero (x ∷ xs) ys e = absurd (omega arith)
take_front (suc n) [] ys e = absurd (omega arith)
take_front (suc n) (x ∷ xs) ys e = ap (λ zs. x ∷ zs) (take_front n xs ys (omega arith))

pub written : (a : Inside) (xs : List StoredSite) → length xs ≡ vec_len a.sites → (with_items a.sites xs).items ≡ xs
written a xs e = take_front (vec_len a.sites) xs _ e

-- an id that comes to its place among ids that rise
module _ (ids : List ℕ) (p x n : ℕ) (within : p ≤ length ids) (rise : IsStrictlyIncreasing (insert ids p x)) (same : n ≡ x) where
  pub is_new : {A : Type 0} → list_any (nat_eq n) ids ≡ true → A
  is_new is = let none : list_any (nat_eq n) ids ≡ false = ap (λ m. list_any (nat_eq m) ids) same ∙ new_id ids p x within rise in absurd cc

  pub comes : (new : List ℕ) → new ≡ move_index (insert_key nat_eq ids n) (position_or_len (nat_eq n) ids) p → new ≡ insert ids p x
  comes new are = are ∙ ap (λ m. move_index (insert_key nat_eq ids m) (position_or_len (nat_eq m) ids) p) same ∙ placed_id ids p x within rise

module _ (a : Inside) (stored : IsStored a) (I : Instance) (view : stored_instance a ≡ I) where
  pub site_places-long : length a.site_places.keys ≡ length I.sites
  site_places-long = ap length stored.site_places ∙ length-map a.sites.items (λ s. s.row.id) ∙ sites-seen a stored I view

  pub cust_places-long : length a.cust_places.keys ≡ length I.customers
  cust_places-long = ap length stored.cust_places ∙ length-map a.custs.items (λ c. c.id) ∙ customers-seen a stored I view

  pub site_places-rise : (p : ℕ) (row : SiteRow) (status : SiteStatus) → IsValid (with_site_in I p row status) → IsStrictlyIncreasing (insert a.site_places.keys p row.id)
  site_places-rise p row status valid =
      let J = stored_instance a in
      let before : IsValid (with_site_in J p row status) = subst (λ (L : Instance). IsValid (with_site_in L p row status)) (sym view) valid in
      subst IsStrictlyIncreasing (map-insert (λ (s : Site). s.id) J.sites p (site_of status row) ∙ ap (λ ids. insert ids p row.id) (site_ids-stored a ∙ sym stored.site_places)) before.sites_named.rising

  pub cust_places-rise : (p : ℕ) (row : CustRow) (column : List (Option ℕ)) → IsValid (with_customer_in I p row column) → IsStrictlyIncreasing (insert a.cust_places.keys p row.id)
  cust_places-rise p row column valid =
      let J = stored_instance a in
      let before : IsValid (with_customer_in J p row column) = subst (λ (L : Instance). IsValid (with_customer_in L p row column)) (sym view) valid in
      subst IsStrictlyIncreasing (map-insert (λ (c : Customer). c.id) J.customers p (customer_of row) ∙ ap (λ ids. insert ids p row.id) (customer_ids-stored a ∙ sym stored.cust_places)) before.customers_named.rising

  -- the lanes of all rows at a customer's place are that customer's
  pub column-seen : (j : ℕ) → j < length I.customers → column_in a.sites.items j ≡ column_of I (customer_at I j).id
  column-seen j inside =
      let at : StoredSite → Option ℕ = λ s. slice_index_or s.row.lanes j None in
      let to : Site → Option ℕ = λ x. lane I x.id (customer_at I j).id in
      let no_row : SiteRow = record { id = 0; fixed = 0; cap = None; lanes = [] } in
      let none : StoredSite = record { row = no_row; status = Free } in
      same_lists (map at a.sites.items) (map to I.sites) (length-map a.sites.items at ∙ sites-seen a stored I view ∙ sym (length-map I.sites to)) (λ k d below.
      let here : k < length a.sites.items = omega (arith, below, length-map a.sites.items at) in
      let within : k < length I.sites = omega (arith, here, sites-seen a stored I view) in
      let x = get_or a.sites.items k none in
      get_or-map at a.sites.items k none d here ∙ lane-seen a stored I view k j x within inside (get_or_default a.sites.items k none x here) ∙ sym (get_or-map to I.sites k _ d within))
