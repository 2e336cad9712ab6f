-- How long the text of an instance is.
use Rattle.std.proofs.Common.{◌≡◌, ℕ, ◌+◌, ◌*◌, ◌/◌, ◌%◌, ◌^◌, ◌<◌, ◌≤◌, ◌==◌, Bool, true, false, List, [], ◌∷◌, ◌++◌, map, flat_map, get_or, length, length-append, Option, None, Some, refl, ap, arith}
use Rattle.std.specs.Prelude.{All, codes, if◌then◌else◌}
use Rattle.std.specs.Int.Digits.{digits_of}
use Rattle.std.proofs.lemmas.Int.Digits.{length-digits_of-le}
use Rattle.std.proofs.lemmas.List.{length-map, get_or-map}
use Rattle.std.proofs.lemmas.List.Elements.{All-head, All-tail}
use Rattle.number_words.specs.Cost.{micro_text, decimals_text}
use Rattle.number_words.specs.Line.{spaced}
use Rattle.number_words.specs.Number.{digits_text}
use Rattle.number_words.specs.Words.{spaced_lines}
use Rattle.fixed_cost.specs.declared.limits.TheConstants.{MAX_INSTANCE_BYTES}
use Rattle.location_terms.specs.declared.limits.TheConstants.{MAX_AMOUNT, MAX_ID, MAX_SITES, MAX_CUSTOMERS, MAX_LANES}
use Rattle.location_terms.specs.declared.status.SiteStatus.{SiteStatus}
use Rattle.location_terms.specs.declared.status.SiteStatus.TheVariants.{Free, MustOpen, MustClose}
use Rattle.location_terms.specs.Instance.{Instance, Site, Customer, IsValid, lane}
use Rattle.instance_store.specs.Small.{IsSmall}
use Rattle.instance_store.specs.Places.{lanes_from}
use Rattle.instance_store.proofs.StoredLemmas.{lanes-small}
use Rattle.instance_text.specs.Behind.{behind, line}
use Rattle.instance_text.specs.OwnText.{is_unsettled, amount_or_none, printed_status, customer_words, site_words, own_head_lines, own_text}
use Rattle.instance_text.proofs.Lines.{spaced_behind, behind_both, text_pieces}

-- a number below a power of ten has no more digits
by_digits : (none : Bool) (ds : List ℕ) (k : ℕ) → 0 < k → length ds ≤ k → length (if none then 48 ∷ [] else map (λ digit. 48 + digit) ds) ≤ k
by_digits true ds k some few = some
by_digits false ds k some few = omega (arith, few, length-map ds (λ digit. 48 + digit))

length-digits_text : (k n : ℕ) → 0 < k → n < 10 ^ k → length (digits_text n) ≤ k
unfolding digits_text
length-digits_text k n some small = by_digits (n == 0) (digits_of 10 n) k some (length-digits_of-le 10 k n (omega arith) small)

id_short : (n : ℕ) → n ≤ MAX_ID + 1 → length (digits_text n) ≤ 10
id_short n small = length-digits_text 10 n (omega arith) (below n (MAX_ID + 1) (10 ^ 10) small (omega arith))
  where
    below : (n most top : ℕ) → n ≤ most → most < top → n < top
    below n most top small within = omega arith

cost_short : (n : ℕ) → n ≤ MAX_AMOUNT → length (micro_text n) ≤ 16
unfolding micro_text
cost_short n small =
    let seven : length (decimals_text (n % 1000000)) ≡ 7 = refl in
    omega (arith, seven, length-append (digits_text (n / 1000000)) (decimals_text (n % 1000000)), length-digits_text 9 (n / 1000000) (omega arith) (omega arith))

amount_short : (x : Option ℕ) → IsSmall x → length (amount_or_none x) ≤ 16
amount_short None small = omega arith
amount_short (Some n) small = cost_short n small

-- words behind spaces
length-behind : (w : List ℕ) (ws : List (List ℕ)) → length (behind (w ∷ ws)) ≡ 1 + length w + length (behind ws)
length-behind w ws = omega (arith, length-append w (behind ws))

length-line : (w : List ℕ) (ws : List (List ℕ)) → length (line (w ∷ ws)) ≡ length w + length (behind ws) + 1
length-line w ws = omega (arith, length-append (spaced (w ∷ ws)) (10 ∷ []), ap length (spaced_behind w ws), length-append w (behind ws))

length-amounts : (lanes : List (Option ℕ)) → All IsSmall lanes → length (behind (map amount_or_none lanes)) ≤ 17 * length lanes
length-amounts [] small = omega arith
length-amounts (x ∷ xs) small =
    omega (arith, length-behind (amount_or_none x) (map amount_or_none xs), amount_short x (All-head IsSmall x xs small), length-amounts xs (All-tail IsSmall x xs small))

length-status : (free : Bool) (status : SiteStatus) → length (behind (if free then [] else printed_status status ∷ [])) ≤ 7
length-status true status = omega arith
length-status false Free = omega arith
length-status false MustOpen = omega arith
length-status false MustClose = omega arith

-- lines, none of which is longer than this
length-each : {X : Type 0} (f : X → List ℕ) (k : ℕ) (xs : List X) → All (λ x. length (f x) ≤ k) xs → length (flat_map f xs) ≤ k * length xs
length-each f k [] each = omega arith
length-each f k (x ∷ xs) each =
    omega (arith, length-append (f x) (flat_map f xs), All-head (λ x. length (f x) ≤ k) x xs each, length-each f k xs (All-tail (λ x. length (f x) ≤ k) x xs each))

length-lines : (a : List (List ℕ)) (lines : List (List (List ℕ))) → length (spaced_lines (a ∷ lines)) ≡ length (line a) + length (spaced_lines lines)
length-lines a lines = length-append (line a) (spaced_lines lines)

length-version : (free : Bool) → length (if free then codes "1" else codes "2") ≡ 1
length-version true = refl
length-version false = refl

within : (m n start customers sites whole : ℕ) → whole ≡ start + customers + sites + 4 → start ≤ 120 → customers ≤ 37 * n → sites ≤ (57 + 17 * n) * m → m ≤ MAX_SITES → n ≤ MAX_CUSTOMERS → m * n ≤ MAX_LANES → whole ≤ MAX_INSTANCE_BYTES
within m n start customers sites whole is a b c few_sites few_customers few_lanes = omega arith

module _ (I : Instance) (valid : IsValid I) where
  site_line : (x : Site) → x.id ≤ MAX_ID + 1 → x.fixed ≤ MAX_AMOUNT → IsSmall x.cap → length (line (site_words I x)) ≤ 57 + 17 * length I.customers
  site_line x named fixed limit =
      let status : List (List ℕ) = if is_unsettled I then [] else printed_status x.status ∷ [] in
      let lanes : List (List ℕ) = map amount_or_none (lanes_from I x) in
      omega (
        arith,
        length-line (codes "site") (digits_text x.id ∷ micro_text x.fixed ∷ amount_or_none x.cap ∷ (status ++ lanes)),
        length-behind (digits_text x.id) (micro_text x.fixed ∷ amount_or_none x.cap ∷ (status ++ lanes)),
        length-behind (micro_text x.fixed) (amount_or_none x.cap ∷ (status ++ lanes)),
        length-behind (amount_or_none x.cap) (status ++ lanes),
        ap length (behind_both status lanes),
        length-append (behind status) (behind lanes),
        length-status (is_unsettled I) x.status,
        length-amounts (lanes_from I x) (lanes-small I valid x),
        length-map I.customers (λ (c : Customer). lane I x.id c.id),
        id_short x.id named,
        cost_short x.fixed fixed,
        amount_short x.cap limit,
      )

  customer_line : (c : Customer) → c.id ≤ MAX_ID + 1 → c.demand ≤ MAX_AMOUNT → length (line (customer_words c)) ≤ 37
  customer_line c named small =
      omega (
        arith,
        length-line (codes "customer") (digits_text c.id ∷ micro_text c.demand ∷ []),
        length-behind (digits_text c.id) (micro_text c.demand ∷ []),
        length-behind (micro_text c.demand) [],
        id_short c.id named,
        cost_short c.demand small,
      )

  size_line : (word : List ℕ) (n next : ℕ) → length word ≤ 9 → n ≤ MAX_ID + 1 → next ≤ MAX_ID + 1 → length (line (word ∷ digits_text n ∷ codes "next" ∷ digits_text next ∷ [])) ≤ 37
  size_line word n next short small few =
      omega (
        arith,
        length-line word (digits_text n ∷ codes "next" ∷ digits_text next ∷ []),
        length-behind (digits_text n) (codes "next" ∷ digits_text next ∷ []),
        length-behind (codes "next") (digits_text next ∷ []),
        length-behind (digits_text next) [],
        id_short n small,
        id_short next few,
      )

  count_line : length (line (codes "count" ∷ digits_text I.lo ∷ digits_text I.hi ∷ [])) ≤ 28
  count_line =
      omega (
        arith,
        length-line (codes "count") (digits_text I.lo ∷ digits_text I.hi ∷ []),
        length-behind (digits_text I.lo) (digits_text I.hi ∷ []),
        length-behind (digits_text I.hi) [],
        id_short I.lo (omega (arith, valid.count_order, valid.count_small)),
        id_short I.hi (omega (arith, valid.count_small)),
      )

  version_line : length (line (codes "dualoc-instance" ∷ (if is_unsettled I then codes "1" else codes "2") ∷ [])) ≡ 18
  version_line =
      let version : List ℕ = if is_unsettled I then codes "1" else codes "2" in
      omega (arith, length-line (codes "dualoc-instance") (version ∷ []), length-behind version [], length-version (is_unsettled I))

  head : length (spaced_lines (own_head_lines I)) ≤ 120
  head =
      let version : List (List ℕ) = codes "dualoc-instance" ∷ (if is_unsettled I then codes "1" else codes "2") ∷ [] in
      let sites : List (List ℕ) = codes "sites" ∷ digits_text (length I.sites) ∷ codes "next" ∷ digits_text I.next_site ∷ [] in
      let customers : List (List ℕ) = codes "customers" ∷ digits_text (length I.customers) ∷ codes "next" ∷ digits_text I.next_customer ∷ [] in
      let count : List (List ℕ) = codes "count" ∷ digits_text I.lo ∷ digits_text I.hi ∷ [] in
      omega (
        arith,
        length-lines version (sites ∷ customers ∷ count ∷ []),
        length-lines sites (customers ∷ count ∷ []),
        length-lines customers (count ∷ []),
        length-lines count [],
        version_line,
        size_line (codes "sites") (length I.sites) I.next_site (omega arith) (omega (arith, valid.sizes.few_sites)) valid.sites_named.next_small,
        size_line (codes "customers") (length I.customers) I.next_customer (omega arith) (omega (arith, valid.sizes.few_customers)) valid.customers_named.next_small,
        count_line,
      )

  all_sites : All (λ x. length (line (site_words I x)) ≤ 57 + 17 * length I.customers) I.sites
  all_sites k d b =
      let named = valid.sites_named.below_next k 0 (omega (arith, b, length-map I.sites (λ (x : Site). x.id))) in
      site_line (get_or I.sites k d) (omega (arith, named, get_or-map (λ (x : Site). x.id) I.sites k d 0 b, valid.sites_named.next_small)) (valid.fixed_small k d b) (valid.caps_small k d b)

  all_customers : All (λ c. length (line (customer_words c)) ≤ 37) I.customers
  all_customers k d b =
      let named = valid.customers_named.below_next k 0 (omega (arith, b, length-map I.customers (λ (c : Customer). c.id))) in
      customer_line (get_or I.customers k d) (omega (arith, named, get_or-map (λ (c : Customer). c.id) I.customers k d 0 b, valid.customers_named.next_small)) (valid.demands_small k d b)

  -- the text of an instance is no longer than a text that is read
  pub own_text_short : length (own_text I) ≤ MAX_INSTANCE_BYTES
  own_text_short =
      let customers : List ℕ = flat_map (λ c. line (customer_words c)) I.customers in
      let sites : List ℕ = flat_map (λ x. line (site_words I x)) I.sites in
      let start : List ℕ = spaced_lines (own_head_lines I) in
      within (length I.sites) (length I.customers) (length start) (length customers) (length sites) (length (own_text I))
      (omega (arith, ap length (text_pieces I), length-append ((start ++ customers) ++ sites) (codes "end\n"), length-append (start ++ customers) sites, length-append start customers))
      head (length-each (λ c. line (customer_words c)) 37 I.customers all_customers) (length-each (λ x. line (site_words I x)) (57 + 17 * length I.customers) I.sites all_sites) valid.sizes.few_sites valid.sizes.few_customers valid.sizes.few_lanes
