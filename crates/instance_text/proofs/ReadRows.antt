-- What is known of the lines that were read, and that they make an instance.
use Rattle.std.proofs.Common.{◌≡◌, ℕ, ◌+◌, ◌<◌, ◌≤◌, ◌&&◌, Bool, true, false, not, List, [], ◌∷◌, map, length, Option, None, Some, Result, Ok, Err, refl, sym, ap, subst, ◌∙◌, arith, nat_le, nat_lt}
use Rattle.std.specs.Prelude.{All, AllPairs, codes, bytes_eq, if◌then◌else◌}
use Rattle.std.specs.Str.Parse.{digits_value}
use Rattle.std.proofs.lemmas.Bool.Decides.{nat_tests}
use Rattle.std.proofs.lemmas.Simd.{map-map}
use Rattle.std.proofs.lemmas.List.{length-map}
use Rattle.std.proofs.lemmas.List.Elements.{All-nil, All-cons, All-map}
use Rattle.std.proofs.lemmas.List.Kept.{AllPairs-cons}
use Rattle.location_terms.specs.declared.limits.TheConstants.{MAX_AMOUNT, MAX_SITES, MAX_ID}
use Rattle.location_terms.specs.declared.status.SiteStatus.{SiteStatus}
use Rattle.location_terms.specs.Instance.{AreIds, AreSizes}
use Rattle.number_words.specs.Number.{is_digits}
use Rattle.number_words.specs.Words.{PlacedWord}
use Rattle.fixed_cost.specs.Amount.{amount_of, count_of}
use Rattle.fixed_cost.specs.Faults.{fault_at}
use Rattle.fixed_cost.specs.declared.amount.AmountFault.{AmountFault}
use Rattle.fixed_cost.specs.declared.amount.AmountFault.TheVariants.{NotANumber, TooBig}
use Rattle.fixed_cost.specs.declared.fault.FileFault.{FileFault}
use Rattle.fixed_cost.specs.declared.fault.FileKind.{FileKind}
use Rattle.fixed_cost.specs.declared.fault.FileKind.TheVariants.{BadSize, BadIndex}
use Rattle.fixed_cost.specs.Reading.{Rest, word_at, in_word, amount_at, is_within, many_from, many_at}
use Rattle.fixed_cost.proofs.ReadFacts.{bind-ok, done-same, amount_of-small, amount_at-small, AllAlong, AlwaysGives, many_from-all, many_at-each}
use Rattle.instance_store.specs.Small.{IsSmall, AreSmall}
use Rattle.instance_store.specs.Parts.{AreParts}
use Rattle.instance_store.specs.declared.rows.SiteRow.{SiteRow}
use Rattle.instance_store.specs.declared.rows.CustRow.{CustRow}
use Rattle.table_words.specs.Tables.{is_customer_count}
use Rattle.instance_text.specs.Own.{fixed_at, tested_count, count_at, id_at, some_in, maybe_at, status_at, size_line_at, count_line_at, customer_line_at, site_line_at}
use Rattle.instance_text.specs.Head.{IsHead}

-- what is given where a test has to hold
by_test : (b : Bool) (k n : ℕ) (f : FileFault) → (if b then Ok k else Err f) ≡ Ok n → (b ≡ true) × (k ≡ n)
by_test true k n f e = (refl, done-same k n e)
by_test false k n f e = absurd cc

in_word-ok : (w : PlacedWord) (read : Result ℕ AmountFault) (n : ℕ) → in_word w read ≡ Ok n → read ≡ Ok n
in_word-ok w (Ok m) n e = ap Ok cc
in_word-ok w (Err f) n e = absurd cc

by_limit : (a b : Bool) (m n : ℕ) → (b ≡ true → m ≤ 4294967295) → (if a then Err NotANumber else (if b then Ok m else Err TooBig)) ≡ Ok n → n ≤ 4294967295
by_limit true b m n small e = absurd cc
by_limit false true m n small e = let same : m ≡ n = cc in omega (arith, small refl, same)
by_limit false false m n small e = absurd cc

-- a count that is spelled is within 32 bits
count_of-small : (word : List ℕ) (n : ℕ) → count_of word ≡ Ok n → n ≤ 4294967295
unfolding count_of
count_of-small word n e = by_limit (not (is_digits word)) (nat_le (digits_value 10 word) 4294967295) (digits_value 10 word) n (λ t. grind (arith, nat_tests)) e

-- a count that was read passes its test
count_at-gives : (kind : FileKind) (test : ℕ → Bool) (r : Rest) (n : ℕ) (after : Rest) → count_at kind test r ≡ Ok (n, after) → (test n ≡ true) × (n ≤ 4294967295)
unfolding count_at
count_at-gives kind test r n after e =
    let w = bind-ok (word_at r) _ (n, after) e in
    let m = bind-ok (in_word w.0.0 (count_of w.0.0.text)) _ (n, after) w.2 in
    let count = bind-ok (tested_count kind test w.0.0 m.0) _ (n, after) m.2 in
    let same : count.0 ≡ n = ap (λ (p : ℕ × Rest). p.0) (done-same (count.0, w.0.1) (n, after) count.2) in
    let passed = by_test (test m.0) m.0 count.0 (fault_at kind w.0.0) count.1 in
    let is : m.0 ≡ n = passed.1 ∙ same in
    (subst (λ k. test k ≡ true) is passed.0, subst (λ k. k ≤ 4294967295) is (count_of-small w.0.0.text m.0 (in_word-ok w.0.0 (count_of w.0.0.text) m.0 m.1)))

-- The head.

record IsSizeLine (test : ℕ → Bool) (s : ℕ × ℕ) : Type 0 where
  pub passed : test s.0 ≡ true
  pub next : nat_le 1 s.1 ≡ true
  pub small : s.1 ≤ 4294967295

size_line_gives : (word : List ℕ) (test : ℕ → Bool) (r : Rest) (s : ℕ × ℕ) (after : Rest) → size_line_at word test r ≡ Ok (s, after) → IsSizeLine test s
unfolding size_line_at
size_line_gives word test r s after e =
    let front = bind-ok (fixed_at word r) _ (s, after) e in
    let many = bind-ok (count_at BadSize test front.0) _ (s, after) front.2 in
    let behind = bind-ok (fixed_at (codes "next") many.0.1) _ (s, after) many.2 in
    let next = bind-ok (count_at BadSize (λ n. nat_le 1 n) behind.0) _ (s, after) behind.2 in
    let same : (many.0.0, next.0.0) ≡ s = ap (λ (p : (ℕ × ℕ) × Rest). p.0) (done-same ((many.0.0, next.0.0), next.0.1) (s, after) next.2) in
    let positive = count_at-gives BadSize (λ n. nat_le 1 n) behind.0 next.0.0 next.0.1 next.1 in
    subst (IsSizeLine test) same (record { passed = (count_at-gives BadSize test front.0 many.0.0 many.0.1 many.1).0; next = positive.0; small = positive.1 })

count_line_gives : (r : Rest) (count : ℕ × ℕ) (after : Rest) → count_line_at r ≡ Ok (count, after) → is_within count.0 MAX_SITES count.1 ≡ true
unfolding count_line_at
count_line_gives r count after e =
    let front = bind-ok (fixed_at (codes "count") r) _ (count, after) e in
    let lo = bind-ok (count_at BadSize (λ n. nat_le n MAX_SITES) front.0) _ (count, after) front.2 in
    let hi = bind-ok (count_at BadSize (is_within lo.0.0 MAX_SITES) lo.0.1) _ (count, after) lo.2 in
    let same : (lo.0.0, hi.0.0) ≡ count = ap (λ (p : (ℕ × ℕ) × Rest). p.0) (done-same ((lo.0.0, hi.0.0), hi.0.1) (count, after) hi.2) in
    subst (λ (c : ℕ × ℕ). is_within c.0 MAX_SITES c.1 ≡ true) same (count_at-gives BadSize (is_within lo.0.0 MAX_SITES) lo.0.1 hi.0.0 hi.0.1 hi.1).0

sizes_are : (m n : ℕ) → is_within 1 MAX_SITES m ≡ true → is_customer_count m n ≡ true → AreSizes m n
sizes_are m n sites customers = record {
  some_site = grind (arith, nat_tests);
  few_sites = grind (arith, nat_tests);
  some_customer = grind (arith, nat_tests);
  few_customers = grind (arith, nat_tests);
  few_lanes = grind (arith, nat_tests);
}

pub head_gives : (m n count : ℕ × ℕ) (r behind_sites behind_customers after : Rest) → size_line_at (codes "sites") (is_within 1 MAX_SITES) r ≡ Ok (m, behind_sites) → size_line_at (codes "customers") (is_customer_count m.0) behind_sites ≡ Ok (n, behind_customers) → count_line_at behind_customers ≡ Ok (count, after) → IsHead m n count
head_gives m n count r behind_sites behind_customers after sites customers counts =
    let s = size_line_gives (codes "sites") (is_within 1 MAX_SITES) r m behind_sites sites in
    let c = size_line_gives (codes "customers") (is_customer_count m.0) behind_sites n behind_customers customers in
    let k = count_line_gives behind_customers count after counts in
    record {
      sizes = sizes_are m.0 n.0 s.passed c.passed;
      site_next = grind (arith, nat_tests, s.next);
      site_next_small = omega (arith, s.small);
      customer_next = grind (arith, nat_tests, c.next);
      customer_next_small = omega (arith, c.small);
      order = grind (arith, nat_tests, k);
      few = grind (arith, nat_tests, k);
    }

-- Customers and sites.

pub record IsId (next last id : ℕ) : Type 0 where
  pub above : last < id
  pub below : id < next

id_gives : (next last : ℕ) (r : Rest) (id : ℕ) (after : Rest) → id_at next last r ≡ Ok (id, after) → IsId next last id
unfolding id_at
id_gives next last r id after e =
    let tested = (count_at-gives BadIndex (λ id. nat_lt last id && nat_lt id next) r id after e).0 in
    record { above = grind (arith, nat_tests, tested); below = grind (arith, nat_tests, tested) }

maybe_is : (named : Bool) (w : PlacedWord) (amount : Option ℕ) → (if named then Ok None else some_in w) ≡ Ok amount → IsSmall amount
unfolding some_in
maybe_is true w amount e = subst IsSmall (done-same None amount e) tt
maybe_is false w amount e =
    let n = bind-ok (in_word w (amount_of w.text)) _ amount e in
    subst IsSmall (done-same (Some n.0) amount n.2) (amount_of-small w.text n.0 (in_word-ok w (amount_of w.text) n.0 n.1))

maybe_gives : AlwaysGives (λ (_ : ℕ). IsSmall) (λ _. maybe_at)
unfolding maybe_at
maybe_gives = record { gives = λ k r x after e. by r x after e }
  where
    by : (r : Rest) (x : Option ℕ) (after : Rest) → maybe_at r ≡ Ok (x, after) → IsSmall x
    by r x after e =
        let w = bind-ok (word_at r) _ (x, after) e in
        let amount = bind-ok (if bytes_eq w.0.0.text (codes "none") then Ok None else some_in w.0.0) _ (x, after) w.2 in
        let same : amount.0 ≡ x = ap (λ (p : Option ℕ × Rest). p.0) (done-same (amount.0, w.0.1) (x, after) amount.2) in
        subst IsSmall same (maybe_is (bytes_eq w.0.0.text (codes "none")) w.0.0 amount.0 amount.1)

record IsCustomer (next last : ℕ) (c : CustRow) : Type 0 where
  pub named : IsId next last c.id
  pub demand : c.demand ≤ MAX_AMOUNT

customer_gives : (next : ℕ) → AlwaysGives (IsCustomer next) (customer_line_at next)
unfolding customer_line_at
customer_gives next = record { gives = λ last r c after e. by last r c after e }
  where
    by : (last : ℕ) (r : Rest) (c : CustRow) (after : Rest) → customer_line_at next last r ≡ Ok (c, after) → IsCustomer next last c
    by last r c after e =
        let front = bind-ok (fixed_at (codes "customer") r) _ (c, after) e in
        let id = bind-ok (id_at next last front.0) _ (c, after) front.2 in
        let demand = bind-ok (amount_at id.0.1) _ (c, after) id.2 in
        let made : CustRow = record { id = id.0.0; demand = demand.0.0 } in
        let same : made ≡ c = ap (λ (p : CustRow × Rest). p.0) (done-same (made, demand.0.1) (c, after) demand.2) in
        subst (IsCustomer next last) same (record { named = id_gives next last front.0 id.0.0 id.0.1 id.1; demand = amount_at-small id.0.1 demand.0.0 demand.0.1 demand.1 })

record IsSite (n next last : ℕ) (s : SiteRow × SiteStatus) : Type 0 where
  pub named : IsId next last s.0.id
  pub fixed : s.0.fixed ≤ MAX_AMOUNT
  pub cap : IsSmall s.0.cap
  pub full : length s.0.lanes ≡ n
  pub lanes : AreSmall s.0.lanes

site_gives : (statuses : Bool) (n next : ℕ) → AlwaysGives (IsSite n next) (site_line_at statuses n next)
unfolding site_line_at
site_gives statuses n next = record { gives = λ last r s after e. by last r s after e }
  where
    by : (last : ℕ) (r : Rest) (s : SiteRow × SiteStatus) (after : Rest) → site_line_at statuses n next last r ≡ Ok (s, after) → IsSite n next last s
    by last r s after e =
        let front = bind-ok (fixed_at (codes "site") r) _ (s, after) e in
        let id = bind-ok (id_at next last front.0) _ (s, after) front.2 in
        let fixed = bind-ok (amount_at id.0.1) _ (s, after) id.2 in
        let cap = bind-ok (maybe_at fixed.0.1) _ (s, after) fixed.2 in
        let status = bind-ok (status_at statuses cap.0.1) _ (s, after) cap.2 in
        let lanes = bind-ok (many_at (λ _. maybe_at) 0 n status.0.1) _ (s, after) status.2 in
        let row : SiteRow = record { id = id.0.0; fixed = fixed.0.0; cap = cap.0.0; lanes = lanes.0.0 } in
        let same : (row, status.0.0) ≡ s = ap (λ (p : (SiteRow × SiteStatus) × Rest). p.0) (done-same ((row, status.0.0), lanes.0.1) (s, after) lanes.2) in
        let each = many_at-each IsSmall (λ _. maybe_at) maybe_gives n 0 status.0.1 lanes.0.0 lanes.0.1 lanes.1 in
        subst (IsSite n next last) same (record {
          named = id_gives next last front.0 id.0.0 id.0.1 id.1;
          fixed = amount_at-small id.0.1 fixed.0.0 fixed.0.1 fixed.1;
          cap = maybe_gives.gives 0 fixed.0.1 cap.0.0 cap.0.1 cap.1;
          full = each.0;
          lanes = each.1;
        })

-- Ids that rise.

module _ {X : Type 0} (key : X → ℕ) (next : ℕ) where
  -- each is above the last one and below the next
  all_ids : (P : ℕ → X → Type 0) → ((s : ℕ) (x : X) → P s x → IsId next s (key x)) → (s : ℕ) (xs : List X) → AllAlong (λ _ x. key x) P s xs → All (λ n. s < n) (map key xs) × All (λ n. n < next) (map key xs) × AllPairs (λ m n. m < n) (map key xs)
  all_ids P named s [] along = (All-nil (λ n. s < n), All-nil (λ n. n < next), λ i j d before b. absurd (omega (arith, b)))
  all_ids P named s (x ∷ xs) along =
      let rest = all_ids P named (key x) xs along.1 in
      let first : IsId next s (key x) = named s x along.0 in
      (All-cons (λ n. s < n) (key x) (map key xs) first.above (λ k d b. omega (arith, first.above, rest.0 k d b)), All-cons (λ n. n < next) (key x) (map key xs) first.below rest.1, AllPairs-cons (λ m n. m < n) (key x) (map key xs) rest.0 rest.2)

  pub are_ids : (P : ℕ → X → Type 0) → ((s : ℕ) (x : X) → P s x → IsId next s (key x)) → (xs : List X) → AllAlong (λ _ x. key x) P 0 xs → 1 ≤ next → next ≤ MAX_ID + 1 → AreIds (map key xs) next
  are_ids P named xs along some small =
      let ids = all_ids P named 0 xs along in
      record {
        positive = λ k d b. omega (arith, ids.0 k d b);
        rising = λ k b. ids.2 k (k + 1) 0 (omega arith) b;
        below_next = ids.1;
        next_positive = some;
        next_small = small;
      }

-- what holds of each, whatever was before it
each_along : {X : Type 0} (key : X → ℕ) (P : ℕ → X → Type 0) (Q : X → Type 0) → ((s : ℕ) (x : X) → P s x → Q x) → (s : ℕ) (xs : List X) → AllAlong (λ _ x. key x) P s xs → All Q xs
each_along key P Q gives s [] along = All-nil Q
each_along key P Q gives s (x ∷ xs) along = All-cons Q x xs (gives s x along.0) (each_along key P Q gives (key x) xs along.1)

-- the lines behind a head
module _ (statuses : Bool) (m n count : ℕ × ℕ) (r : Rest) (custs : List CustRow) (behind_custs : Rest) (sites : List (SiteRow × SiteStatus)) (behind_sites : Rest) (head : IsHead m n count)
    (custs_read : many_from (λ _ c. c.id) (customer_line_at n.1) 0 n.0 r ≡ Ok (custs, behind_custs)) (sites_read : many_from (λ _ s. s.0.id) (site_line_at statuses n.0 m.1) 0 m.0 behind_custs ≡ Ok (sites, behind_sites)) where
  customers : (length custs ≡ n.0) × AllAlong (λ _ c. c.id) (IsCustomer n.1) 0 custs
  customers = many_from-all (λ _ c. c.id) (IsCustomer n.1) (customer_line_at n.1) (customer_gives n.1) n.0 0 r custs behind_custs custs_read

  the_sites : (length sites ≡ m.0) × AllAlong (λ _ s. s.0.id) (IsSite n.0 m.1) 0 sites
  the_sites = many_from-all (λ _ s. s.0.id) (IsSite n.0 m.1) (site_line_at statuses n.0 m.1) (site_gives statuses n.0 m.1) m.0 0 behind_custs sites behind_sites sites_read

  each_site : (Q : SiteRow → Type 0) → ((s : ℕ) (x : SiteRow × SiteStatus) → IsSite n.0 m.1 s x → Q x.0) → All Q (map (λ s. s.0) sites)
  each_site Q gives = All-map Q (λ (s : SiteRow × SiteStatus). s.0) sites (each_along (λ s. s.0.id) (IsSite n.0 m.1) (λ s. Q s.0) gives 0 sites the_sites.1)

  pub are_parts : AreParts count.0 count.1 m.1 n.1 custs (map (λ s. s.0) sites)
  are_parts =
      let long : length (map (λ (s : SiteRow × SiteStatus). s.0) sites) ≡ m.0 = length-map sites (λ s. s.0) ∙ the_sites.0 in
      let ids : map (λ (r : SiteRow). r.id) (map (λ (s : SiteRow × SiteStatus). s.0) sites) ≡ map (λ s. s.0.id) sites = map-map (λ (r : SiteRow). r.id) (λ (s : SiteRow × SiteStatus). s.0) sites in
      record {
        sites_named = subst (λ ids. AreIds ids m.1) (sym ids) (are_ids (λ s. s.0.id) m.1 (IsSite n.0 m.1) (λ s x is. is.named) sites the_sites.1 head.site_next head.site_next_small);
        customers_named = are_ids (λ c. c.id) n.1 (IsCustomer n.1) (λ s x is. is.named) custs customers.1 head.customer_next head.customer_next_small;
        rows_full = each_site (λ s. length s.lanes ≡ length custs) (λ s x is. is.full ∙ sym customers.0);
        lanes_small = each_site (λ s. AreSmall s.lanes) (λ s x is. is.lanes);
        fixed_small = each_site (λ s. s.fixed ≤ MAX_AMOUNT) (λ s x is. is.fixed);
        caps_small = each_site (λ s. IsSmall s.cap) (λ s x is. is.cap);
        demands_small = each_along (λ c. c.id) (IsCustomer n.1) (λ c. c.demand ≤ MAX_AMOUNT) (λ s x is. is.demand) 0 custs customers.1;
        sizes = subst (λ k. AreSizes k (length custs)) (sym long) (subst (AreSizes m.0) (sym customers.0) head.sizes);
        count_order = head.order;
        count_small = head.few;
      }
