-- The text of a valid instance means that instance.
use Rattle.std.proofs.Common.{◌≡◌, ℕ, suc, ◌<◌, ◌≤◌, ◌&&◌, Bool, true, false, not, List, [], ◌∷◌, ◌++◌, map, flat_map, length, get_or, Option, None, Some, Ok, refl, sym, ap, subst, ◌∙◌, arith, pos}
use Rattle.std.specs.Prelude.{All, AllPairs, codes, if◌then◌else◌, slice_index_or}
use Rattle.std.specs.List.{list_all}
use Rattle.std.proofs.lemmas.Bool.{and_from}
use Rattle.std.proofs.lemmas.Bool.Decides.{nat_tests}
use Rattle.std.proofs.lemmas.Simd.{map-map}
use Rattle.std.proofs.lemmas.List.{length-map, get_or-map, map-id}
use Rattle.std.proofs.lemmas.List.Elements.{All-head, All-tail, All-map}
use Rattle.std.proofs.lemmas.List.Folds.{flat_map-map, list_all-append}
use Rattle.std.proofs.lemmas.Grind.{flat_map-append}
use Rattle.std.proofs.lemmas.List.Kept.{AllPairs-from_increasing}
use Rattle.std.proofs.lemmas.List.Sums.{AllPass-from_list_all}
use Rattle.location_terms.specs.Box.{must_open, must_close}
use Rattle.location_terms.specs.declared.limits.TheConstants.{MAX_AMOUNT, MAX_SITES}
use Rattle.location_terms.specs.declared.status.SiteStatus.{SiteStatus}
use Rattle.location_terms.specs.declared.status.SiteStatus.TheVariants.{Free, MustOpen, MustClose}
use Rattle.location_terms.specs.Instance.{Instance, Site, Customer, IsValid, site_ids, customer_ids, site_at, customer_at, lane, lanes_of}
use Rattle.location_terms.proofs.Places.{length-site_ids, length-customer_ids, slice_index-site_ids, slice_index-customer_ids}
use Rattle.location_terms.proofs.Table.{lanes_from_places}
use Rattle.number_words.specs.Line.{is_word}
use Rattle.number_words.specs.Number.{digits_text}
use Rattle.number_words.specs.Words.{PlacedWord, words_in_lines, words_of, end_of}
use Rattle.number_words.proofs.Lines.{is_word-number_text, is_word-micro_text}
use Rattle.number_words.proofs.WordSteps.{words_of-spaced_lines}
use Rattle.fixed_cost.specs.Reading.{Rest, is_within, finished, many_from, all_of}
use Rattle.fixed_cost.proofs.ReadFacts.{AllAlong}
use Rattle.instance_store.specs.Small.{IsSmall}
use Rattle.instance_store.specs.Places.{lanes_from}
use Rattle.instance_store.specs.Parts.{site_of, customer_of, cust_row_ids}
use Rattle.instance_store.specs.declared.rows.SiteRow.{SiteRow}
use Rattle.instance_store.specs.declared.rows.CustRow.{CustRow}
use Rattle.table_words.specs.Tables.{is_customer_count}
use Rattle.instance_text.specs.Own.{fixed_at, customer_line_at, site_line_at, own_instance, body_at, own_at, own_meaning}
use Rattle.instance_text.specs.OwnText.{is_unsettled, amount_or_none, printed_status, customer_words, site_words, own_head_lines, own_lines, own_text}
use Rattle.instance_text.proofs.ReadRows.{IsId}
use Rattle.instance_text.proofs.Steps.{Starts, starts_apart, lines_start, fixed_reads, version_reads, size_line_reads, count_line_reads, cust_words, customer_line_reads, row_words, IsPrinted, site_line_reads, many_from_reads}
use Rattle.instance_text.proofs.Whole.{to_body}

-- Printed words are words.

amount_is_word : (x : Option ℕ) → is_word (amount_or_none x) ≡ true
amount_is_word None = refl
amount_is_word (Some n) = is_word-micro_text n

amounts_are_words : (lanes : List (Option ℕ)) → list_all is_word (map amount_or_none lanes) ≡ true
amounts_are_words [] = refl
amounts_are_words (x ∷ xs) = and_from _ _ (amount_is_word x) (amounts_are_words xs)

statuses_are_words : (free : Bool) (status : SiteStatus) → list_all is_word (if free then [] else printed_status status ∷ []) ≡ true
statuses_are_words true status = refl
statuses_are_words false Free = refl
statuses_are_words false MustOpen = refl
statuses_are_words false MustClose = refl

site_are_words : (I : Instance) (x : Site) → list_all is_word (site_words I x) ≡ true
site_are_words I x =
    and_from _ _ refl (and_from _ _ (is_word-number_text (pos x.id)) (and_from _ _ (is_word-micro_text x.fixed) (and_from _ _ (amount_is_word x.cap)
    (list_all-append is_word (if is_unsettled I then [] else printed_status x.status ∷ []) (map amount_or_none (lanes_from I x)) ∙ and_from _ _ (statuses_are_words (is_unsettled I) x.status) (amounts_are_words (lanes_from I x))))))

customer_are_words : (c : Customer) → list_all is_word (customer_words c) ≡ true
customer_are_words c = and_from _ _ refl (and_from _ _ (is_word-number_text (pos c.id)) (and_from _ _ (is_word-micro_text c.demand) refl))

each_line : {X : Type 0} (words : X → List (List ℕ)) → ((x : X) → list_all is_word (words x) ≡ true) → (xs : List X) → list_all (list_all is_word) (map words xs) ≡ true
each_line words are [] = refl
each_line words are (x ∷ xs) = and_from _ _ (are x) (each_line words are xs)

version_is_word : (free : Bool) → is_word (if free then codes "1" else codes "2") ≡ true
version_is_word true = refl
version_is_word false = refl

head_are_words : (I : Instance) → list_all (list_all is_word) (own_head_lines I) ≡ true
head_are_words I =
    and_from _ _ (and_from _ _ refl (and_from _ _ (version_is_word (is_unsettled I)) refl))
    (and_from _ _ (and_from _ _ refl (and_from _ _ (is_word-number_text (pos (length I.sites))) (and_from _ _ refl (and_from _ _ (is_word-number_text (pos I.next_site)) refl))))
    (and_from _ _ (and_from _ _ refl (and_from _ _ (is_word-number_text (pos (length I.customers))) (and_from _ _ refl (and_from _ _ (is_word-number_text (pos I.next_customer)) refl))))
    (and_from _ _ (and_from _ _ refl (and_from _ _ (is_word-number_text (pos I.lo)) (and_from _ _ (is_word-number_text (pos I.hi)) refl))) refl)))

lines_are_words : (I : Instance) → list_all (list_all is_word) (own_lines I) ≡ true
lines_are_words I =
    let ends : List (List (List ℕ)) = (codes "end" ∷ []) ∷ [] in
    let sites = list_all-append (list_all is_word) (map (site_words I) I.sites) ends ∙ and_from _ _ (each_line (site_words I) (site_are_words I) I.sites) refl in
    let customers = list_all-append (list_all is_word) (map customer_words I.customers) (map (site_words I) I.sites ++ ends) ∙ and_from _ _ (each_line customer_words customer_are_words I.customers) sites in
    list_all-append (list_all is_word) (own_head_lines I) (map customer_words I.customers ++ (map (site_words I) I.sites ++ ends)) ∙ and_from _ _ (head_are_words I) customers

-- Ids that rise are read.

along : {X : Type 0} (key : X → ℕ) (next : ℕ) (Q : X → Type 0) (s : ℕ) (xs : List X) → All (λ n. s < n) (map key xs) → All (λ n. n < next) (map key xs) → AllPairs (λ m n. m < n) (map key xs) → All Q xs → AllAlong (λ _ x. key x) (λ last x. IsId next last (key x) × Q x) s xs
along key next Q s [] above below pairs all = tt
along key next Q s (x ∷ xs) above below pairs all = (
  (record { above = All-head (λ n. s < n) (key x) (map key xs) above; below = All-head (λ n. n < next) (key x) (map key xs) below }, All-head Q x xs all),
  along key next Q (key x) xs (λ k d b. pairs 0 (suc k) d (omega arith) (omega (arith, b))) (All-tail (λ n. n < next) (key x) (map key xs) below) (λ i j d before b. pairs (suc i) (suc j) d (omega (arith, before)) (omega (arith, b))) (All-tail Q x xs all),
)

along_maps : {X S : Type 0} (next : S → X → S) (P Q : S → X → Type 0) → ((s : S) (x : X) → P s x → Q s x) → (s : S) (xs : List X) → AllAlong next P s xs → AllAlong next Q s xs
along_maps next P Q f s [] all = tt
along_maps next P Q f s (x ∷ xs) all = (f s x all.0, along_maps next P Q f (next s x) xs all.1)

-- The rows of an instance.

abbrev cust_row : Customer → CustRow
cust_row c = record { id = c.id; demand = c.demand }

abbrev site_row : Instance → Site → SiteRow × SiteStatus
site_row I x = (record { id = x.id; fixed = x.fixed; cap = x.cap; lanes = lanes_from I x }, x.status)

free_status : (status : SiteStatus) → (not (must_open status) && not (must_close status)) ≡ true → status ≡ Free
free_status Free e = refl
free_status MustOpen e = absurd cc
free_status MustClose e = absurd cc

module _ (I : Instance) (valid : IsValid I) where
  abbrev free : Bool
  free = is_unsettled I

  abbrev custs : List CustRow
  custs = map cust_row I.customers

  abbrev rows : List (SiteRow × SiteStatus)
  rows = map (site_row I) I.sites

  lanes_are_small : (x : Site) → All IsSmall (lanes_from I x)
  lanes_are_small x = All-map IsSmall (λ (c : Customer). lane I x.id c.id) I.customers (λ k d b. valid.lanes_small x.id (get_or I.customers k d).id)

  printed : All (λ x. IsPrinted free (length I.customers) (site_row I x)) I.sites
  printed k d b = record {
    fixed = valid.fixed_small k d b;
    limit = valid.caps_small k d b;
    full = length-map I.customers (λ (c : Customer). lane I (get_or I.sites k d).id c.id);
    lanes = lanes_are_small (get_or I.sites k d);
    status = λ unsettled. free_status (get_or I.sites k d).status (AllPass-from_list_all (λ (x : Site). not (must_open x.status) && not (must_close x.status)) I.sites unsettled k d b);
  }

  customers_read : (r after : Rest) → Starts (flat_map customer_words I.customers) r after → many_from (λ _ c. c.id) (customer_line_at I.next_customer) 0 (length I.customers) r ≡ Ok (custs, after)
  customers_read r after s =
      let ids : map (λ (c : CustRow). c.id) custs ≡ customer_ids I = map-map (λ (c : CustRow). c.id) cust_row I.customers in
      let named = valid.customers_named in
      let all = along (λ (c : CustRow). c.id) I.next_customer (λ c. c.demand ≤ MAX_AMOUNT) 0 custs
      (subst (All (λ n. 0 < n)) (sym ids) (λ k d b. omega (arith, named.positive k d b)))
      (subst (All (λ n. n < I.next_customer)) (sym ids) named.below_next)
      (subst (AllPairs (λ m n. m < n)) (sym ids) (AllPairs-from_increasing (customer_ids I) named.rising))
      (All-map (λ (c : CustRow). c.demand ≤ MAX_AMOUNT) cust_row I.customers valid.demands_small) in
      let starts : Starts (flat_map cust_words custs) r after = subst (λ ws. Starts ws r after) (sym (flat_map-map cust_words cust_row I.customers)) s in
      let few : I.next_customer ≤ 4294967295 = omega (arith, named.next_small) in
      subst (λ k. many_from (λ _ c. c.id) (customer_line_at I.next_customer) 0 k r ≡ Ok (custs, after)) (length-map I.customers cust_row)
      (many_from_reads (λ _ (c : CustRow). c.id) (customer_line_at I.next_customer) cust_words 0 custs r after
      (along_maps (λ _ (c : CustRow). c.id) _ _ (λ last c is q q' t. customer_line_reads I.next_customer last c q q' t is.0 few is.1) 0 custs all) starts)

  sites_read : (r after : Rest) → Starts (flat_map (site_words I) I.sites) r after → many_from (λ _ s. s.0.id) (site_line_at (not free) (length I.customers) I.next_site) 0 (length I.sites) r ≡ Ok (rows, after)
  sites_read r after s =
      let ids : map (λ (s : SiteRow × SiteStatus). s.0.id) rows ≡ site_ids I = map-map (λ (s : SiteRow × SiteStatus). s.0.id) (site_row I) I.sites in
      let named = valid.sites_named in
      let all = along (λ (s : SiteRow × SiteStatus). s.0.id) I.next_site (IsPrinted free (length I.customers)) 0 rows
      (subst (All (λ n. 0 < n)) (sym ids) (λ k d b. omega (arith, named.positive k d b)))
      (subst (All (λ n. n < I.next_site)) (sym ids) named.below_next)
      (subst (AllPairs (λ m n. m < n)) (sym ids) (AllPairs-from_increasing (site_ids I) named.rising))
      (All-map (IsPrinted free (length I.customers)) (site_row I) I.sites printed) in
      let starts : Starts (flat_map (row_words free) rows) r after = subst (λ ws. Starts ws r after) (sym (flat_map-map (row_words free) (site_row I) I.sites)) s in
      let few : I.next_site ≤ 4294967295 = omega (arith, named.next_small) in
      subst (λ k. many_from (λ _ s. s.0.id) (site_line_at (not free) (length I.customers) I.next_site) 0 k r ≡ Ok (rows, after)) (length-map I.sites (site_row I))
      (many_from_reads (λ _ (s : SiteRow × SiteStatus). s.0.id) (site_line_at (not free) (length I.customers) I.next_site) (row_words free) 0 rows r after
      (along_maps (λ _ (s : SiteRow × SiteStatus). s.0.id) _ _ (λ last s is q q' t. site_line_reads free (length I.customers) I.next_site last s q q' t is.0 few is.1) 0 rows all) starts)

  -- The rows make the instance.

  table_is : lanes_of (map (λ (s : SiteRow × SiteStatus). s.0.id) rows) (cust_row_ids custs) (map (λ (s : SiteRow × SiteStatus). s.0.lanes) rows) ≡ I.lanes
  table_is =
      let ids : map (λ (s : SiteRow × SiteStatus). s.0.id) rows ≡ site_ids I = map-map (λ (s : SiteRow × SiteStatus). s.0.id) (site_row I) I.sites in
      let customers : cust_row_ids custs ≡ customer_ids I = map-map (λ (c : CustRow). c.id) cust_row I.customers in
      let entries : map (λ (s : SiteRow × SiteStatus). s.0.lanes) rows ≡ map (lanes_from I) I.sites = map-map (λ (s : SiteRow × SiteStatus). s.0.lanes) (site_row I) I.sites in
      (λ k. lanes_of (ids k) (customers k) (entries k))
      ∙ sym (lanes_from_places (site_ids I) (customer_ids I) (map (lanes_from I) I.sites)
      (record {
        sites_rise = valid.sites_named.rising;
        customers_rise = valid.customers_named.rising;
        row_each = length-map I.sites (lanes_from I) ∙ sym (length-site_ids I);
        entry_each = All-map (λ row. length row ≡ length (customer_ids I)) (lanes_from I) I.sites (λ k d b. length-map I.customers (λ (c : Customer). lane I (get_or I.sites k d).id c.id) ∙ sym (length-customer_ids I));
      })
      I.lanes (record { known = valid.lanes_known })
      (λ i j site customer.
      let b : i < length I.sites = omega (arith, site, length-site_ids I) in
      let c : j < length I.customers = omega (arith, customer, length-customer_ids I) in
      let row : slice_index_or (map (lanes_from I) I.sites) i [] ≡ lanes_from I (site_at I i) = get_or-map (lanes_from I) I.sites i _ [] b in
      let entry : slice_index_or (lanes_from I (site_at I i)) j None ≡ lane I (site_at I i).id (customer_at I j).id = get_or-map (λ (x : Customer). lane I (site_at I i).id x.id) I.customers j _ None c in
      (λ k. lane I (slice_index-site_ids I i b k) (slice_index-customer_ids I j c k)) ∙ sym (ap (λ (xs : List (Option ℕ)). slice_index_or xs j None) row ∙ entry)))

  instance_is : own_instance (I.lo, I.hi) I.next_site I.next_customer custs rows ≡ I
  instance_is =
      let the_sites : map (λ (s : SiteRow × SiteStatus). site_of s.1 s.0) rows ≡ I.sites = map-map (λ (s : SiteRow × SiteStatus). site_of s.1 s.0) (site_row I) I.sites ∙ map-id I.sites in
      let the_customers : map customer_of custs ≡ I.customers = map-map customer_of cust_row I.customers ∙ map-id I.customers in
      let the_lanes = table_is in
      λ k. record {
        sites = the_sites k;
        customers = the_customers k;
        lanes = the_lanes k;
        lo = I.lo;
        hi = I.hi;
        next_site = I.next_site;
        next_customer = I.next_customer;
      }

  -- The whole text.

  abbrev all_words : List (List ℕ)
  all_words = flat_map (λ ws. ws) (own_head_lines I) ++ (flat_map customer_words I.customers ++ (flat_map (site_words I) I.sites ++ codes "end" ∷ []))

  words_are : flat_map (λ ws. ws) (own_lines I) ≡ all_words
  words_are =
      let ends : List (List (List ℕ)) = (codes "end" ∷ []) ∷ [] in
      let sites : flat_map (λ ws. ws) (map (site_words I) I.sites ++ ends) ≡ flat_map (site_words I) I.sites ++ codes "end" ∷ [] = flat_map-append (λ ws. ws) (map (site_words I) I.sites) ends ∙ ap (λ (ws : List (List ℕ)). ws ++ codes "end" ∷ []) (flat_map-map (λ ws. ws) (site_words I) I.sites) in
      flat_map-append (λ ws. ws) (own_head_lines I) (map customer_words I.customers ++ (map (site_words I) I.sites ++ ends))
      ∙ ap (λ (ws : List (List ℕ)). flat_map (λ vs. vs) (own_head_lines I) ++ ws)
      (flat_map-append (λ ws. ws) (map customer_words I.customers) (map (site_words I) I.sites ++ ends)
      ∙ ap (λ (ws : List (List ℕ)). ws ++ flat_map (λ vs. vs) (map (site_words I) I.sites ++ ends)) (flat_map-map (λ ws. ws) customer_words I.customers)
      ∙ ap (λ (ws : List (List ℕ)). flat_map customer_words I.customers ++ ws) sites)

  body_reads : (r : Rest) (end : ℕ × ℕ) → Starts (flat_map customer_words I.customers ++ (flat_map (site_words I) I.sites ++ codes "end" ∷ [])) r (record { left = []; end = end }) → body_at (not free) (length I.sites, I.next_site) (length I.customers, I.next_customer) (I.lo, I.hi) r ≡ Ok I
  unfolding body_at finished
  body_reads r end s =
      let customers = starts_apart (flat_map customer_words I.customers) (flat_map (site_words I) I.sites ++ codes "end" ∷ []) r (record { left = []; end = end }) s in
      let sites = starts_apart (flat_map (site_words I) I.sites) (codes "end" ∷ []) customers.0 (record { left = []; end = end }) customers.2 in
      let ends : fixed_at (codes "end") sites.0 ≡ Ok (record { left = []; end = end }) = fixed_reads (codes "end") sites.0 sites.2.0 sites.2.1 ∙ ap Ok sites.2.2 in
      rw (customers_read r customers.0 customers.1, sites_read customers.0 sites.0 sites.1, ends) (ap Ok instance_is)

  sizes_pass : (is_within 1 MAX_SITES (length I.sites) ≡ true) × (is_customer_count (length I.sites) (length I.customers) ≡ true)
  sizes_pass = let sizes = valid.sizes in (grind (arith, nat_tests, sizes.some_site, sizes.few_sites), grind (arith, nat_tests, sizes.some_customer, sizes.few_customers, sizes.few_lanes))

  starts_read : (r : Rest) (end : ℕ × ℕ) → Starts all_words r (record { left = []; end = end }) → own_at r ≡ Ok I
  starts_read r end s =
      let m = length I.sites in
      let n = length I.customers in
      let sizes = valid.sizes in
      let after : Rest = record { left = []; end = end } in
      let version : List (List ℕ) = codes "dualoc-instance" ∷ (if free then codes "1" else codes "2") ∷ [] in
      let site_line : List (List ℕ) = codes "sites" ∷ digits_text m ∷ codes "next" ∷ digits_text I.next_site ∷ [] in
      let customer_line : List (List ℕ) = codes "customers" ∷ digits_text n ∷ codes "next" ∷ digits_text I.next_customer ∷ [] in
      let count_line : List (List ℕ) = codes "count" ∷ digits_text I.lo ∷ digits_text I.hi ∷ [] in
      let rows : List (List ℕ) = flat_map customer_words I.customers ++ (flat_map (site_words I) I.sites ++ codes "end" ∷ []) in
      let front = starts_apart version (site_line ++ (customer_line ++ (count_line ++ rows))) r after s in
      let sites = starts_apart site_line (customer_line ++ (count_line ++ rows)) front.0 after front.2 in
      let customers = starts_apart customer_line (count_line ++ rows) sites.0 after sites.2 in
      let count = starts_apart count_line rows customers.0 after customers.2 in
      let head : own_at r ≡ body_at (not free) (m, I.next_site) (n, I.next_customer) (I.lo, I.hi) count.0 = to_body r front.1.0 front.0 sites.0 customers.0 count.0 (not free) (m, I.next_site) (n, I.next_customer) (I.lo, I.hi)
      (fixed_reads (codes "dualoc-instance") r front.1.0 front.1.1)
      (version_reads free front.1.0 front.1.2.0 front.1.2.1 ∙ ap (λ (q : Rest). Ok (not free, q)) front.1.2.2)
      (size_line_reads (codes "sites") (is_within 1 MAX_SITES) m I.next_site front.0 sites.0 sites.1 (omega (arith, sizes.few_sites)) sizes_pass.0 valid.sites_named.next_positive (omega (arith, valid.sites_named.next_small)))
      (size_line_reads (codes "customers") (is_customer_count m) n I.next_customer sites.0 customers.0 customers.1 (omega (arith, sizes.few_customers)) sizes_pass.1 valid.customers_named.next_positive (omega (arith, valid.customers_named.next_small)))
      (count_line_reads I.lo I.hi customers.0 count.0 count.1 valid.count_order valid.count_small) in
      head ∙ body_reads count.0 end count.2

-- what is written is read back
pub own_text_means : (I : Instance) → IsValid I → own_meaning (own_text I) ≡ Ok I
unfolding own_meaning
own_text_means I valid =
    let words : words_of (own_text I) ≡ words_in_lines 1 (own_lines I) = words_of-spaced_lines (own_lines I) (lines_are_words I) in
    let end : ℕ × ℕ = end_of (words_in_lines 1 (own_lines I)) in
    ap (λ (ws : List PlacedWord). own_at (all_of ws)) words
    ∙ starts_read I valid (all_of (words_in_lines 1 (own_lines I))) end (subst (λ ws. Starts ws (all_of (words_in_lines 1 (own_lines I))) (record { left = []; end = end })) (words_are I valid) (lines_start end 1 (own_lines I)))
