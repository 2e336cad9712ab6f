-- How long the text of a certificate is.
use Rattle.std.proofs.Common.{◌≡◌, ℕ, zero, suc, ◌+◌, ◌*◌, ◌/◌, ◌%◌, ◌^◌, ◌<◌, ◌≤◌, ◌==◌, Bool, true, false, List, [], ◌∷◌, ◌++◌, map, length, length-append, Option, None, Some, refl, sym, ap, subst, ◌∙◌, inl, inr, arith}
use Rattle.std.specs.Prelude.{ℤ, pos, negsuc, All, Contains, unsigned_abs, codes, filter, nat_eq, if◌then◌else◌}
use Rattle.std.specs.Int.Digits.{digits_of}
use Rattle.std.specs.List.Sorted.{IsStrictlyIncreasing}
use Rattle.std.proofs.lemmas.Bool.{cases_Bool, cases_lt, eqb-true, ne_eqb}
use Rattle.std.proofs.lemmas.Cmp.{nat_eq_equiv}
use Rattle.std.proofs.lemmas.List.Kept.{AllPairs-from_increasing}
use Rattle.std.proofs.lemmas.Map.Keys.{IsDistinct-from_apart}
use Rattle.std.proofs.lemmas.Map.Made.{length-le_from_is_member}
use Rattle.std.proofs.lemmas.Map.Views.{list_any-from_Contains, Contains-from_any}
use Rattle.std.proofs.lemmas.Nat.{mul-le}
use Rattle.std.proofs.lemmas.Int.Digits.{length-digits_of-le}
use Rattle.std.proofs.lemmas.List.{length-map}
use Rattle.std.proofs.lemmas.List.Concat.{flat_map-cons}
use Rattle.std.proofs.lemmas.List.Elements.{All-nil, All-cons, All-head, All-tail, All-same, All-weaker, All-map, All-contains}
use Rattle.std.proofs.lemmas.Grind.{flat_map-append}
use Rattle.number_words.specs.Cost.{micro_text, decimals_text}
use Rattle.number_words.specs.Line.{spaced}
use Rattle.number_words.specs.Number.{number_text, digits_text}
use Rattle.location_terms.specs.declared.status.SiteStatus.{SiteStatus}
use Rattle.location_terms.specs.declared.claim.Claim.{Claim}
use Rattle.location_terms.specs.declared.claim.Claim.TheVariants.{Optimal, Infeasible, Bracket}
use Rattle.location_terms.specs.declared.form.LeafForm.{LeafForm}
use Rattle.location_terms.specs.declared.form.LeafForm.TheVariants.{Prices, Whole}
use Rattle.location_terms.specs.declared.split.Split.{Split}
use Rattle.location_terms.specs.declared.split.Split.TheVariants.{Site, Lane}
use Rattle.location_terms.specs.declared.limits.TheConstants.{MAX_ID, MAX_SITES, MAX_CUSTOMERS, MAX_COST, MAX_SCALE, MAX_VALUE, MAX_MULTIPLIER}
use Rattle.location_terms.specs.Instance.{Instance, Site as SiteRow, IsValid, AreIds, site_ids, customer_ids}
use Rattle.location_terms.specs.Plan.{Plan}
use Rattle.location_terms.specs.Box.{Path, must_open, must_close}
use Rattle.location_terms.specs.Bound.{Duals}
use Rattle.location_terms.specs.Split.{first_step, second_step, IsSplitAmong}
use Rattle.location_terms.specs.Tree.{Tree, Node, Leaf, Fork, IsTree, StandsOn, size_of, leaves_below, SplitsAmong, HasLists}
use Rattle.location_terms.specs.Certificate.{Certificate, cost_claimed}
use Rattle.location_terms.proofs.Places.{length-site_ids, length-customer_ids}
use Rattle.certificate_lines.specs.Text.{certificate_text, text_of_lines, counts_line, header_words, sizes_line, status_lines, is_all_free, ids_where, claim_line, plan_lines, priced, third_line, leaf_lines, split_line, node_lines}
use Rattle.certificate_lines.specs.Follow.{HasSmallCosts, IsSpellable, HasPlanWhere, HasText}
use Rattle.certificate_lines.specs.Length.{HasFewNodes}
use Rattle.certificate_lines.specs.declared.limits.TheConstants.{MAX_CERTIFICATE_BYTES}
use Rattle.branch_tree.specs.declared.limits.TheConstants.{MAX_TREE_NUMBERS}

-- what holds of all of a list holds of its two parts
parts : {X : Type 0} (P : X → Type 0) (xs ys : List X) → All P (xs ++ ys) → All P xs × All P ys
parts P [] ys h = (All-nil P, h)
parts P (x ∷ xs) ys h =
    let rest = parts P xs ys (All-tail P x (xs ++ ys) h) in
    (All-cons P x xs (All-head P x (xs ++ ys) h) rest.0, rest.1)

-- a number below a power of ten has no more digits
length-digits : (none : Bool) (ds : List ℕ) (k : ℕ) → 0 < k → length ds ≤ k → length (if none then 48 ∷ [] else map (λ digit. 48 + digit) ds) ≤ k
length-digits true ds k some few = some
length-digits false ds k some few = omega (arith, few, length-map ds (λ digit. 48 + digit))

length-number_text : (k n : ℕ) → 0 < k → n < 10 ^ k → length (number_text (pos n)) ≤ k
unfolding digits_text
length-number_text k n some small = length-digits (n == 0) (digits_of 10 n) k some (length-digits_of-le 10 k n (omega arith) small)

length-signed : (k : ℕ) (z : ℤ) → 0 < k → unsigned_abs z < 10 ^ k → length (number_text z) ≤ k + 1
length-signed k (pos n) some small = omega (arith, length-number_text k n some small)
length-signed k (negsuc n) some small = omega (arith, length-number_text k (suc n) some small)

-- the numbers of a text by their limits
below : (n most top : ℕ) → n ≤ most → most < top → n < top
below n most top small within = omega arith

id_short : (n : ℕ) → n ≤ MAX_ID → length (number_text (pos n)) ≤ 10
id_short n small = length-number_text 10 n (omega arith) (below n MAX_ID (10 ^ 10) small (omega arith))

scale_short : (n : ℕ) → n ≤ MAX_SCALE → length (number_text (pos n)) ≤ 7
scale_short n small = length-number_text 7 n (omega arith) (below n MAX_SCALE (10 ^ 7) small (omega arith))

price_short : (n : ℕ) → n ≤ MAX_MULTIPLIER → length (number_text (pos n)) ≤ 19
price_short n small = length-number_text 19 n (omega arith) (below n MAX_MULTIPLIER (10 ^ 19) small (omega arith))

value_short : (z : ℤ) → unsigned_abs z ≤ MAX_VALUE → length (number_text z) ≤ 26
value_short z small = length-signed 25 z (omega arith) (below (unsigned_abs z) MAX_VALUE (10 ^ 25) small (omega arith))

cost_short : (n : ℕ) → n ≤ MAX_COST → length (micro_text n) ≤ 20
unfolding micro_text
cost_short n small =
    let seven : length (decimals_text (n % 1000000)) ≡ 7 = refl in
    omega (arith, seven, length-append (digits_text (n / 1000000)) (decimals_text (n % 1000000)), length-number_text 13 (n / 1000000) (omega arith) (omega arith))

-- words, each behind a space
abbrev gaps : List (List ℕ) → ℕ
gaps [] = 0
gaps (w ∷ ws) = suc (length w + gaps ws)

length-spaced : (w : List ℕ) (ws : List (List ℕ)) → length (spaced (w ∷ ws)) ≡ length w + gaps ws
length-spaced w [] = omega arith
length-spaced w (x ∷ ws) = omega (arith, length-append w (32 ∷ spaced (x ∷ ws)), length-spaced x ws)

gaps-map : {X : Type 0} (f : X → List ℕ) (k : ℕ) (xs : List X) → All (λ x. length (f x) ≤ k) xs → gaps (map f xs) ≤ (k + 1) * length xs
gaps-map f k [] each = omega arith
gaps-map f k (x ∷ xs) each =
    omega (arith, All-head (λ x. length (f x) ≤ k) x xs each, gaps-map f k xs (All-tail (λ x. length (f x) ≤ k) x xs each))

length-counts_line : (word ns : List ℕ) → All (λ n. n ≤ MAX_ID) ns → length (counts_line word ns) ≤ length word + 11 * length ns
length-counts_line word ns small =
    let each = All-weaker (λ n. n ≤ MAX_ID) (λ n. length (number_text (pos n)) ≤ 10) id_short ns small in
    omega (arith, length-spaced word (map (λ n. number_text (pos n)) ns), gaps-map (λ n. number_text (pos n)) 10 ns each)

gaps-priced : (sites us : List ℕ) → All (λ n. n ≤ MAX_ID) sites → All (λ u. u ≤ MAX_MULTIPLIER) us → gaps (map (λ n. number_text (pos n)) (priced sites us)) ≤ 31 * length us
gaps-priced [] us known small = omega arith
gaps-priced (s ∷ sites) [] known small = omega arith
gaps-priced (s ∷ sites) (zero ∷ us) known small =
    omega (arith, gaps-priced sites us (All-tail (λ n. n ≤ MAX_ID) s sites known) (All-tail (λ u. u ≤ MAX_MULTIPLIER) zero us small))
gaps-priced (s ∷ sites) (suc n ∷ us) known small =
    let more = gaps-priced sites us (All-tail (λ n. n ≤ MAX_ID) s sites known) (All-tail (λ u. u ≤ MAX_MULTIPLIER) (suc n) us small) in
    omega (arith, more, id_short s (All-head (λ n. n ≤ MAX_ID) s sites known), price_short (suc n) (All-head (λ u. u ≤ MAX_MULTIPLIER) (suc n) us small))

-- lines, each with its line feed
length-line : (line : List ℕ) (lines : List (List ℕ)) → length (text_of_lines (line ∷ lines)) ≡ length line + 1 + length (text_of_lines lines)
length-line line lines =
    ap length (flat_map-cons (λ l. l ++ 10 ∷ []) line lines) ∙ omega (arith, length-append (line ++ 10 ∷ []) (text_of_lines lines), length-append line (10 ∷ []))

length-lines : (xs ys : List (List ℕ)) → length (text_of_lines (xs ++ ys)) ≡ length (text_of_lines xs) + length (text_of_lines ys)
length-lines xs ys = ap length (flat_map-append (λ l. l ++ 10 ∷ []) xs ys) ∙ length-append (text_of_lines xs) (text_of_lines ys)

-- the third line of a leaf: the word `whole` is no longer than the prices of one site may be
length-third : (form : LeafForm) (sites : List ℕ) (d : Duals) → 1 ≤ length d.u → All (λ s. s ≤ MAX_ID) sites → All (λ u. u ≤ MAX_MULTIPLIER) d.u → length (third_line form sites d) ≤ 1 + 31 * length d.u
length-third Prices sites d some known small =
    omega (arith, length-spaced (codes "u") (map (λ n. number_text (pos n)) (priced sites d.u)), gaps-priced sites d.u known small)
length-third Whole sites d some known small = let five : length (codes "whole") ≡ 5 = refl in omega (arith, some, five)

-- the lines of a leaf
length-leaf : (sites : List ℕ) (m n : ℕ) (d : Duals) → 1 ≤ m → All (λ s. s ≤ MAX_ID) sites → HasLists m n d → length (text_of_lines (leaf_lines sites d)) ≤ 44 + 27 * n + 31 * m
length-leaf sites m n d some known lists =
    let small = lists.2 in
    let scale = scale_short d.q small.scale in
    let price = value_short d.nu small.count_price in
    let first = length-spaced (codes "leaf") (number_text (pos d.q) ∷ number_text d.nu ∷ []) in
    let second = length-spaced (codes "v") (map number_text d.v) in
    let values = gaps-map number_text 26 d.v (All-weaker (λ v. unsigned_abs v ≤ MAX_VALUE) (λ v. length (number_text v) ≤ 26) value_short d.v small.values) in
    let third = length-third d.form sites d (omega (arith, some, lists.0)) known small.multipliers in
    let line_1 = spaced (codes "leaf" ∷ number_text (pos d.q) ∷ number_text d.nu ∷ []) in
    let line_2 = spaced (codes "v" ∷ map number_text d.v) in
    let line_3 = third_line d.form sites d in
    omega (arith, lists.0, lists.1, scale, price, first, second, third, values, length-line line_1 (line_2 ∷ line_3 ∷ []), length-line line_2 (line_3 ∷ []), length-line line_3 [])

-- the splits of a tree, which has one leaf more
abbrev splits_in : Node → ℕ
splits_in (Leaf d) = 0
splits_in (Fork split first second) = suc (splits_in first + splits_in second)

size-splits : (t : Node) → size_of t ≡ 2 * splits_in t + 1
size-splits (Leaf d) = refl
size-splits (Fork split a b) = omega (arith, size-splits a, size-splits b)

-- the lines of a node, where no leaf takes more than most
module _ (sites customers : List ℕ) (m n most : ℕ) (some : 1 ≤ m) (known : All (λ s. s ≤ MAX_ID) sites) (named : All (λ c. c ≤ MAX_ID) customers) (enough : 44 + 27 * n + 31 * m ≤ most) where
  length-split_line : (split : Split) → IsSplitAmong sites customers split → length (split_line split) ≤ 26
  length-split_line (Site s) among =
      let small = All-contains (λ s. s ≤ MAX_ID) sites s known among in
      omega (arith, length-counts_line (codes "site") (s ∷ []) (All-cons (λ n. n ≤ MAX_ID) s [] small (All-nil (λ n. n ≤ MAX_ID))))
  length-split_line (Lane s c) among =
      let site = All-contains (λ s. s ≤ MAX_ID) sites s known among.0 in
      let customer = All-contains (λ c. c ≤ MAX_ID) customers c named among.1 in
      omega (arith, length-counts_line (codes "lane") (s ∷ c ∷ []) (All-cons (λ n. n ≤ MAX_ID) s (c ∷ []) site (All-cons (λ n. n ≤ MAX_ID) c [] customer (All-nil (λ n. n ≤ MAX_ID)))))

  length-node : (path : Path) (t : Node) → SplitsAmong sites customers t → All (λ (l : Path × Duals). HasLists m n l.1) (leaves_below path t) → length (text_of_lines (node_lines sites t)) ≤ splits_in t * (most + 27) + most
  length-node path (Leaf d) among lists = omega (arith, enough, length-leaf sites m n d some known (All-head (λ (l : Path × Duals). HasLists m n l.1) (path, d) [] lists))
  length-node path (Fork split a b) among lists =
      let below_a = path ++ first_step split ∷ [] in
      let below_b = path ++ second_step split ∷ [] in
      let both = parts (λ (l : Path × Duals). HasLists m n l.1) (leaves_below below_a a) (leaves_below below_b b) lists in
      omega (
        arith,
        length-split_line split among.0,
        length-node below_a a among.1 both.0,
        length-node below_b b among.2 both.1,
        length-line (split_line split) (node_lines sites a ++ node_lines sites b),
        length-lines (node_lines sites a) (node_lines sites b),
      )

-- ids are within their limit
ids_small : (ids : List ℕ) (next : ℕ) → AreIds ids next → All (λ n. n ≤ MAX_ID) ids
ids_small ids next are = All-weaker (λ n. n < next) (λ n. n ≤ MAX_ID) (λ n low. omega (arith, low, are.next_small)) ids are.below_next

-- the lines of statuses
ids_where_short : (test : SiteStatus → Bool) (sites : List SiteRow) → All (λ n. n ≤ MAX_ID) (map (λ s. s.id) sites)
    → All (λ n. n ≤ MAX_ID) (map (λ s. s.id) (filter (λ s. test s.status) sites)) × (length (map (λ s. s.id) (filter (λ s. test s.status) sites)) ≤ length sites)
ids_where_short test [] small = (All-nil (λ n. n ≤ MAX_ID), omega arith)
ids_where_short test (s ∷ sites) small =
    let rest = ids_where_short test sites (All-tail (λ n. n ≤ MAX_ID) s.id (map (λ s. s.id) sites) small) in
    elim (cases_Bool (test s.status)) [
      | inl passes ↦ rw passes (All-cons (λ n. n ≤ MAX_ID) s.id _ (All-head (λ n. n ≤ MAX_ID) s.id (map (λ s. s.id) sites) small) rest.0, omega (arith, rest.1))
      | inr fails ↦ rw fails (rest.0, omega (arith, rest.1))
    ]

two_status_lines : (free : Bool) (opened closed : List ℕ) (m : ℕ) → All (λ n. n ≤ MAX_ID) opened → All (λ n. n ≤ MAX_ID) closed → length opened ≤ m → length closed ≤ m
    → length (text_of_lines (if free then [] else counts_line (codes "must-open") opened ∷ counts_line (codes "must-closed") closed ∷ [])) ≤ 22 * m + 22
two_status_lines true opened closed m small_o small_c few_o few_c = omega arith
two_status_lines false opened closed m small_o small_c few_o few_c =
    let line_1 = counts_line (codes "must-open") opened in
    let line_2 = counts_line (codes "must-closed") closed in
    omega (arith, few_o, few_c, length-counts_line (codes "must-open") opened small_o, length-counts_line (codes "must-closed") closed small_c, length-line line_1 (line_2 ∷ []), length-line line_2 [])

length-statuses : (I : Instance) → IsValid I → length (text_of_lines (status_lines I)) ≤ 22 * length I.sites + 22
length-statuses I valid =
    let small = ids_small (site_ids I) I.next_site valid.sites_named in
    let opened = ids_where_short must_open I.sites small in
    let closed = ids_where_short must_close I.sites small in
    two_status_lines (is_all_free I) (ids_where must_open I) (ids_where must_close I) (length I.sites) opened.0 closed.0 opened.1 closed.1

-- the line of the claim
length-claim : (claim : Claim) → HasSmallCosts claim → length (claim_line claim) ≤ 55
length-claim (Optimal cost) small = omega (arith, cost_short cost small, length-spaced (codes "claim") (codes "optimal" ∷ micro_text cost ∷ []))
length-claim Infeasible small = omega (arith, length-spaced (codes "claim") (codes "infeasible" ∷ []))
length-claim (Bracket low None) small = omega (arith, cost_short low small.0, length-spaced (codes "claim") (codes "bracket" ∷ micro_text low ∷ codes "none" ∷ []))
length-claim (Bracket low (Some high)) small =
    omega (arith, cost_short low small.0, cost_short high small.1, length-spaced (codes "claim") (codes "bracket" ∷ micro_text low ∷ micro_text high ∷ []))

-- ids that rise, each among others, are no more than these
rising_few : (xs ys : List ℕ) → IsStrictlyIncreasing xs → All (Contains ys) xs → length xs ≤ length ys
rising_few xs ys rising known =
    length-le_from_is_member nat_eq_equiv xs ys
    (IsDistinct-from_apart nat_eq xs (λ i j d before within. ne_eqb _ _ (λ e. omega (arith, AllPairs-from_increasing xs rising i j d before within, e))))
    (λ q has. list_any-from_Contains nat_eq_equiv q ys (All-contains (Contains ys) xs q known (Contains-from_any eqb-true q xs has)))

-- the lines of the plan
length-plan_lines : (I : Instance) (P : Plan) → IsValid I → IsSpellable I P → length (text_of_lines (plan_lines (Some P))) ≤ 11 * length I.sites + 11 * length I.customers + 11
length-plan_lines I P valid spell =
    let known = ids_small (site_ids I) I.next_site valid.sites_named in
    let servers = map (λ (v : ℕ × ℕ). v.1) P.serves in
    let opened : All (λ n. n ≤ MAX_ID) P.sites = All-weaker (Contains (site_ids I)) (λ n. n ≤ MAX_ID) (λ s here. All-contains (λ n. n ≤ MAX_ID) (site_ids I) s known here) P.sites spell.sites_known in
    let serving : All (λ n. n ≤ MAX_ID) servers = All-map (λ n. n ≤ MAX_ID) (λ (v : ℕ × ℕ). v.1) P.serves (All-weaker _ (λ (v : ℕ × ℕ). v.1 ≤ MAX_ID) (λ v here. All-contains (λ n. n ≤ MAX_ID) (site_ids I) v.1 known here) P.serves spell.servers_known) in
    let each : length P.serves ≡ length I.customers = sym (length-map P.serves (λ v. v.0)) ∙ ap length spell.each_once ∙ length-map I.customers (λ c. c.id) in
    let few : length P.sites ≤ length I.sites = omega (arith, rising_few P.sites (site_ids I) spell.plan.sites_rise spell.sites_known, length-site_ids I) in
    let line_1 = counts_line (codes "open") P.sites in
    let line_2 = counts_line (codes "serve") servers in
    omega (arith, each, few, length-map P.serves (λ (v : ℕ × ℕ). v.1), length-counts_line (codes "open") P.sites opened, length-counts_line (codes "serve") servers serving, length-line line_1 (line_2 ∷ []), length-line line_2 [])

length-plan : (I : Instance) (cost : Option ℕ) (plan : Option Plan) → IsValid I → HasPlanWhere I cost plan → length (text_of_lines (plan_lines plan)) ≤ 11 * length I.sites + 11 * length I.customers + 11
length-plan I cost None valid has = omega arith
length-plan I None (Some P) valid has = absurd cc
length-plan I (Some cost) (Some P) valid has = length-plan_lines I P valid has

-- the first two lines
length-header : (free : Bool) → length (spaced (codes "dualoc-certificate" ∷ (if free then codes "1" else codes "2") ∷ [])) ≡ 20
length-header true = refl
length-header false = refl

length-sizes : (I : Instance) → IsValid I → length (sizes_line I) ≤ 37
length-sizes I valid =
    let sites = id_short (length I.sites) (omega (arith, valid.sizes.few_sites)) in
    let customers = id_short (length I.customers) (omega (arith, valid.sizes.few_customers)) in
    omega (arith, sites, customers, length-spaced (codes "sites") (number_text (pos (length I.sites)) ∷ codes "customers" ∷ number_text (pos (length I.customers)) ∷ []))

-- the lines of the tree
length-tree : (I : Instance) (t : Tree) → IsValid I → IsTree t → StandsOn t I
    → length (text_of_lines (node_lines t.sites t.root)) ≤ splits_in t.root * (71 + 27 * length I.customers + 31 * length I.sites) + (44 + 27 * length I.customers + 31 * length I.sites)
length-tree I t valid tree stands =
    let known = All-same (λ n. n ≤ MAX_ID) t.sites (site_ids I) stands.sites (ids_small (site_ids I) I.next_site valid.sites_named) in
    let named = All-same (λ n. n ≤ MAX_ID) t.customers (customer_ids I) stands.customers (ids_small (customer_ids I) I.next_customer valid.customers_named) in
    let m : length t.sites ≡ length I.sites = ap length stands.sites ∙ length-site_ids I in
    let n : length t.customers ≡ length I.customers = ap length stands.customers ∙ length-customer_ids I in
    let most = 44 + 27 * length I.customers + 31 * length I.sites in
    omega (arith, length-node t.sites t.customers (length t.sites) (length t.customers) most (omega (arith, m, valid.sizes.some_site)) known named (omega (arith, m, n)) [] t.root tree.splits tree.leaves)

-- the parts of a text come to less than the limit: those of the tree where it has few nodes, and the others in any case
nodes_within : (splits m n : ℕ) → 1 ≤ m → 1 ≤ n → (2 * splits + 1) * (m + n) ≤ MAX_TREE_NUMBERS → (m + n ≤ 2 → 2 * splits + 1 ≤ 7) → splits * (71 + 27 * n + 31 * m) ≤ 1066700000
nodes_within splits m n sites customers few single =
    elim (cases_lt 2 (m + n)) [
      | inl many ↦ omega (arith, sites, customers, few, mul-le splits 3 splits (m + n) (omega arith) (omega (arith, many)), mul-le splits 1 splits n (omega arith) customers)
      | inr two ↦
          let three : splits ≤ 3 = omega (arith, single (omega (arith, two))) in
          omega (arith, three, mul-le splits m 3 1 three (omega (arith, two, customers)), mul-le splits n 3 1 three (omega (arith, two, sites)))
    ]

sum_within : (m n header sizes statuses claim plan nodes inner whole : ℕ) → m ≤ MAX_SITES → n ≤ MAX_CUSTOMERS → inner ≤ 1066700000
    → header ≡ 20 → sizes ≤ 37 → statuses ≤ 22 * m + 22 → claim ≤ 55 → plan ≤ 11 * m + 11 * n + 11 → nodes ≤ inner + (44 + 27 * n + 31 * m)
    → whole ≡ header + 1 + (sizes + 1 + (statuses + (claim + 1 + (plan + (nodes + 4))))) → whole ≤ MAX_CERTIFICATE_BYTES
sum_within m n header sizes statuses claim plan nodes inner whole sites customers few h s st c p ns w = omega (arith, sites, customers, few, h, s, st, c, p, ns, w)

-- the text of a certificate on a tree of few nodes is within the limit
pub short_text : (I : Instance) (cert : Certificate) → IsValid I → HasText I cert → HasFewNodes I cert.tree → length (certificate_text I cert) ≤ MAX_CERTIFICATE_BYTES
short_text I cert valid has few =
    let ending = codes "end" ∷ [] in
    let nodes = node_lines cert.tree.sites cert.tree.root in
    let below_plan = nodes ++ ending in
    let below_claim = plan_lines cert.plan ++ below_plan in
    let below_statuses = claim_line cert.claim ∷ below_claim in
    let whole : length (certificate_text I cert) ≡ length (spaced (header_words I)) + 1 + (length (sizes_line I) + 1 + (length (text_of_lines (status_lines I)) + (length (claim_line cert.claim) + 1 + (length (text_of_lines (plan_lines cert.plan)) + (length (text_of_lines nodes) + 4))))) =
    omega (
      arith,
      length-line (spaced (header_words I)) (sizes_line I ∷ (status_lines I ++ below_statuses)),
      length-line (sizes_line I) (status_lines I ++ below_statuses),
      length-lines (status_lines I) below_statuses,
      length-line (claim_line cert.claim) below_claim,
      length-lines (plan_lines cert.plan) below_plan,
      length-lines nodes ending,
    ) in
    let splits = splits_in cert.tree.root in
    let size = size-splits cert.tree.root in
    let m = length I.sites in
    let n = length I.customers in
    let inner = nodes_within splits m n valid.sizes.some_site valid.sizes.some_customer (subst (λ s. s * (m + n) ≤ MAX_TREE_NUMBERS) size few.numbers) (λ two. omega (arith, size, few.single two)) in
    sum_within m n (length (spaced (header_words I))) (length (sizes_line I)) (length (text_of_lines (status_lines I))) (length (claim_line cert.claim)) (length (text_of_lines (plan_lines cert.plan))) (length (text_of_lines nodes)) (splits * (71 + 27 * n + 31 * m)) (length (certificate_text I cert))
    valid.sizes.few_sites valid.sizes.few_customers inner (length-header (is_all_free I)) (length-sizes I valid) (length-statuses I valid) (length-claim cert.claim has.costs) (length-plan I (cost_claimed cert.claim) cert.plan valid has.plan) (length-tree I cert.tree valid has.tree has.stands) whole
