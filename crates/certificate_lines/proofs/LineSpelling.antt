-- How a certificate spells the line that is due. A line is read without a fault just where it is spelled so.
use Rattle.std.proofs.Common.{◌≡◌, ℕ, ◌≤◌, ◌==◌, ◌&&◌, not, Bool, true, List, [], ◌∷◌, length, map, replicate, refl, sym, ap, ◌∙◌, inl, inr, arith, ◌<◌, false, get_or, Option, Some, None}
use Rattle.std.specs.Prelude.{ℤ, pos, All, Contains, Ok, codes, unsigned_abs, is_none, if◌then◌else◌}
use Rattle.std.specs.List.{list_all}
use Rattle.std.specs.List.Sorted.{IsStrictlyIncreasing}
use Rattle.std.proofs.lemmas.Bool.{and_parts, and_from, eqb-true, leb-true, eq-eqb, ne_eqb, le-leb, not_from_false, false_from_ne_true}
use Rattle.std.proofs.lemmas.List.{get_or-replicate, length-map, length-replicate}
use Rattle.std.proofs.lemmas.List.Sums.{AllPass-from_list_all, list_all-from_AllPass}
use Rattle.std.proofs.lemmas.Simd.{map-map}
use Rattle.std.proofs.lemmas.List.Elements.{All-from_get_or, All-head, All-replicate, All-tail, Contains-get_or}
use Rattle.std.proofs.lemmas.List.Folds.{list_any_none}
use Rattle.location_terms.specs.declared.claim.Claim.{Claim}
use Rattle.location_terms.specs.declared.split.Split.{Split}
use Rattle.location_terms.specs.declared.split.Split.TheVariants.{Site, Lane}
use Rattle.location_terms.specs.Split.{IsSplitAmong}
use Rattle.location_terms.specs.declared.status.SiteStatus.{SiteStatus}
use Rattle.location_terms.specs.declared.limits.TheConstants.{MAX_SCALE, MAX_VALUE, MAX_MULTIPLIER, MAX_SITES, MAX_CUSTOMERS}
use Rattle.location_terms.specs.Instance.{Instance, IsValid, site_ids, customer_ids, Site as SiteRow, site_at}
use Rattle.location_terms.specs.Box.{Path, must_open, must_close}
use Rattle.location_terms.specs.declared.status.SiteStatus.TheVariants.{Free}
use Rattle.location_terms.specs.declared.form.LeafForm.{LeafForm}
use Rattle.location_terms.specs.declared.form.LeafForm.TheVariants.{Prices, Whole}
use Rattle.location_terms.specs.Bound.{Duals}
use Rattle.location_terms.specs.Knapsack.{has_small_knapsacks}
use Rattle.location_terms.specs.Leaf.{PricesSuit, KnapsacksSuit}
use Rattle.location_terms.proofs.Places.{length-site_ids, slice_index-site_ids}
use Rattle.location_terms.proofs.Rising.{one_place}
use Rattle.number_words.specs.Line.{spaced}
use Rattle.number_words.specs.Number.{number_text, is_rising}
use Rattle.certificate_lines.specs.declared.kind.CertKind.TheVariants.{WrongStatus}
use Rattle.certificate_lines.specs.Shape.{Shape, row, any_count, just, even_count, words_of_shape, text_of_shape, numbers_in, Word}
use Rattle.certificate_lines.specs.Text.{counts_line, ids_where, header_words, sizes_line, claim_line, split_line, priced, third_line, is_all_free}
use Rattle.certificate_lines.specs.Due.{Due, HeaderDue, SizesDue, MustOpenDue, MustClosedDue, ClaimDue, OpenDue, ServeDue, NodeDue, ValuesDue, PricesDue, EndDue, NothingDue, Shown, NothingShown, PlanShown, LeafShown, behind_claim, behind_leaf}
use Rattle.certificate_lines.specs.Lines.{Said, then_due, unless, read_or, read_shape, read_prices, whole_shape, whole_said, is_up_to, is_of_size, is_id, is_same, is_among, same_ids, ids, header_shape, behind_sizes, sizes_shape, sizes_said, read_status, status_said, open_said, plan_from, serve_said, site_shape, lane_shape, leaf_shape, split_said, site_said, lane_said, leaf_said, values_said, Price, pairs_of, lacks_cap, is_in_range, price_in, prices_said, read_line, is_size, read_header, read_claim}
use Rattle.certificate_lines.specs.Follow.{HasSmallCosts}
use Rattle.certificate_lines.proofs.Shapes.{IsText, passes, has_words, shape_read, shape_text, text_or, unless-holds, other_read}
use Rattle.certificate_lines.proofs.Ids.{rises, is_same-is, among-is, all_among-are, same_ids-are, sites_are, ids-pos, among-known, id-known, all_known, same_ids-pos, sites_pass, where_ids}
use Rattle.certificate_lines.proofs.Prices.{up_to-is, ArePrices, are_prices, are_placed, even-priced, pairs_pass, rising-pairs, prices-by_place}
use Rattle.certificate_lines.proofs.ClaimWords.{claim-is, claim-read}

-- what is due behind a line, and what it shows
abbrev pub Says : Due → Shown → Due × Shown → Type 0
Says due shown read = then_due due shown ≡ Ok read

-- duals of these numbers
abbrev pub duals_in : LeafForm → ℕ → ℤ → List ℤ → List ℕ → Duals
duals_in form q nu v u = record { form = form; q = q; nu = nu; v = v; u = u }

-- the first line of a node
pub data NodeLine (I : Instance) (claim : Claim) (path : Path) (line : List ℕ) (read : Due × Shown) : Type 0 where
  on_split : (split : Split) → IsSplitAmong (site_ids I) (customer_ids I) split → line ≡ split_line split → split_said claim path split ≡ Ok read → NodeLine I claim path line read
  on_leaf : (q : ℕ) (nu : ℤ) → q ≤ MAX_SCALE → unsigned_abs nu ≤ MAX_VALUE → line ≡ spaced (codes "leaf" ∷ number_text (pos q) ∷ number_text nu ∷ []) → Says (ValuesDue claim path q nu) NothingShown read → NodeLine I claim path line read

-- a line that is due, and what it gives; only of a valid instance are the prices known to stand in the order of the sites
abbrev pub IsSpelled : Instance → Due → List ℕ → Due × Shown → Type 0
IsSpelled I HeaderDue line read = (line ≡ spaced (header_words I)) × Says SizesDue NothingShown read
IsSpelled I SizesDue line read = (line ≡ sizes_line I) × Says (behind_sizes I) NothingShown read
IsSpelled I MustOpenDue line read = (line ≡ counts_line (codes "must-open") (ids_where must_open I)) × Says MustClosedDue NothingShown read
IsSpelled I MustClosedDue line read = (line ≡ counts_line (codes "must-closed") (ids_where must_close I)) × Says ClaimDue NothingShown read
IsSpelled I ClaimDue line read = (claim : Claim) × HasSmallCosts claim × (line ≡ claim_line claim) × Says (behind_claim claim) NothingShown read
IsSpelled I (OpenDue claim) line read = (sites : List ℕ) × IsStrictlyIncreasing sites × All (Contains (site_ids I)) sites × (line ≡ counts_line (codes "open") sites) × Says (ServeDue claim sites) NothingShown read
IsSpelled I (ServeDue claim sites) line read = (servers : List ℕ) × (length servers ≡ length I.customers) × All (Contains (site_ids I)) servers × (line ≡ counts_line (codes "serve") servers) × Says (NodeDue claim []) (PlanShown claim (plan_from I sites servers)) read
IsSpelled I (NodeDue claim path) line read = NodeLine I claim path line read
IsSpelled I (ValuesDue claim path q nu) line read = (v : List ℤ) × (length v ≡ length I.customers) × All (λ z. unsigned_abs z ≤ MAX_VALUE) v × (line ≡ spaced (codes "v" ∷ map number_text v)) × Says (PricesDue claim path q nu v) NothingShown read
IsSpelled I (PricesDue claim path q nu v) line read = (form : LeafForm) × (u : List ℕ) × ArePrices I u × PricesSuit form u × KnapsacksSuit form I × (IsValid I → line ≡ third_line form (site_ids I) (duals_in form q nu v u)) × Says (behind_leaf claim path) (LeafShown claim path (duals_in form q nu v u)) read
IsSpelled I (EndDue claim) line read = (line ≡ codes "end") × Says (NothingDue claim) NothingShown read
IsSpelled I (NothingDue claim) line read = ⊥

-- a row of whole numbers that are not below 0
counts_text : (word : List ℕ) (many : ℕ → Bool) (ns : List ℕ) → text_of_shape (row word many) (map pos ns) ≡ counts_line word ns
counts_text word many ns = ap (λ ws. spaced (word ∷ ws)) (map-map number_text pos ns)

-- such a row is read as its numbers, and is theirs
counts-read : (word : List ℕ) (many : ℕ → Bool) (ns : List ℕ) (say : List ℤ → Said) → has_words (row word many) ≡ true → many (length ns) ≡ true → read_shape (row word many) (counts_line word ns) say ≡ say (map pos ns)
counts-read word many ns say words fit =
    ap (λ line. read_shape (row word many) line say) (sym (counts_text word many ns))
    ∙ shape_read (row word many) (map pos ns) say _ words (ap many (length-map ns pos) ∙ fit)

-- and is none of another shape
counts-other : (shape : Shape) (word : List ℕ) (many : ℕ → Bool) (ns : List ℕ) (say : List ℤ → Said) (otherwise : Said) → has_words (row word many) ≡ true → numbers_in shape (words_of_shape (row word many) (map pos ns)) ≡ None → read_or shape (counts_line word ns) say otherwise ≡ otherwise
counts-other shape word many ns say otherwise words none =
    ap (λ line. read_or shape line say otherwise) (sym (counts_text word many ns)) ∙ other_read shape (row word many) (map pos ns) say otherwise words none

counts_are : (word line : List ℕ) (many : ℕ → Bool) (zs : List ℤ) (ns : List ℕ) → line ≡ text_of_shape (row word many) zs → zs ≡ map pos ns → line ≡ counts_line word ns
counts_are word line many zs ns text are = text ∙ ap (text_of_shape (row word many)) are ∙ counts_text word many ns

no_numbers : (zs : List ℤ) → length zs == 0 ≡ true → zs ≡ []
no_numbers [] e = refl
no_numbers (z ∷ zs) e = absurd (omega (arith, eqb-true (length (z ∷ zs)) 0 e))

-- the lines before the claim
header-spelled : (I : Instance) (line : List ℕ) (read : Due × Shown) → read_line I HeaderDue line ≡ Ok read → IsSpelled I HeaderDue line read
header-spelled I line read e =
    let t = shape_text (header_shape I) line _ read e in
    (t.text ∙ ap (text_of_shape (header_shape I)) (no_numbers t.zs t.fit), t.said)

sizes_are : (I : Instance) (line : List ℕ) (zs : List ℤ) (read : Due × Shown) → line ≡ text_of_shape sizes_shape zs → sizes_said I zs ≡ Ok read → IsSpelled I SizesDue line read
sizes_are I line [] read text e = absurd (cc)
sizes_are I line (m ∷ []) read text e = absurd (cc)
sizes_are I line (m ∷ n ∷ []) read text e =
    let size = passes _ _ _ _ e in
    let right = passes _ _ _ _ size.1 in
    let same = and_parts (is_same m (length I.sites)) (is_same n (length I.customers)) right.0 in
    (text ∙ ap (λ z. text_of_shape sizes_shape (z ∷ n ∷ [])) (is_same-is m (length I.sites) same.0) ∙ ap (λ z. text_of_shape sizes_shape (pos (length I.sites) ∷ z ∷ [])) (is_same-is n (length I.customers) same.1), right.1)
sizes_are I line (m ∷ n ∷ z ∷ zs) read text e = absurd (cc)

status-spelled : (I : Instance) (word : List ℕ) (test : SiteStatus → Bool) (next : Due) (line : List ℕ) (read : Due × Shown) → read_status I word test next line ≡ Ok read → (line ≡ counts_line word (ids_where test I)) × Says next NothingShown read
status-spelled I word test next line read e =
    let t = shape_text (row word any_count) line (status_said I test next) read e in
    let sites = sites_are I t.zs (unless (same_ids (ids_where test I) t.zs) WrongStatus (then_due next NothingShown)) read t.said in
    let same = passes _ _ _ _ sites.3 in
    (counts_are word line any_count t.zs (ids_where test I) t.text (same_ids-are (ids_where test I) t.zs same.0), same.1)

-- the lines of a plan
open-spelled : (I : Instance) (claim : Claim) (line : List ℕ) (read : Due × Shown) → read_line I (OpenDue claim) line ≡ Ok read → IsSpelled I (OpenDue claim) line read
open-spelled I claim line read e =
    let t = shape_text (row (codes "open") any_count) line (open_said I claim) read e in
    let sites = sites_are I t.zs (then_due (ServeDue claim (ids t.zs)) NothingShown) read t.said in
    (ids t.zs, sites.1, sites.2, counts_are (codes "open") line any_count t.zs (ids t.zs) t.text sites.0, sites.3)

serve-spelled : (I : Instance) (claim : Claim) (sites line : List ℕ) (read : Due × Shown) → read_line I (ServeDue claim sites) line ≡ Ok read → IsSpelled I (ServeDue claim sites) line read
serve-spelled I claim sites line read e =
    let t = shape_text (row (codes "serve") (just (length I.customers))) line (serve_said I claim sites) read e in
    let small = passes _ _ _ _ t.said in
    let known = passes _ _ _ _ small.1 in
    let are = all_among-are (site_ids I) t.zs known.0 in
    (ids t.zs, length-map t.zs unsigned_abs ∙ eqb-true _ _ t.fit, are.1, counts_are (codes "serve") line (just (length I.customers)) t.zs (ids t.zs) t.text are.0, known.1)

-- the first line of a node
site_is : (I : Instance) (claim : Claim) (path : Path) (line : List ℕ) (zs : List ℤ) (read : Due × Shown) → line ≡ text_of_shape site_shape zs → site_said I claim path zs ≡ Ok read → NodeLine I claim path line read
site_is I claim path line [] read text e = absurd (cc)
site_is I claim path line (s ∷ []) read text e =
    let small = passes _ _ _ _ e in
    let known = passes _ _ _ _ small.1 in
    let is = among-is (site_ids I) s known.0 in
    on_split (Site (unsigned_abs s)) is.1 (text ∙ ap (λ z. text_of_shape site_shape (z ∷ [])) is.0) known.1
site_is I claim path line (s ∷ z ∷ zs) read text e = absurd (cc)

lane_is : (I : Instance) (claim : Claim) (path : Path) (line : List ℕ) (zs : List ℤ) (read : Due × Shown) → line ≡ text_of_shape lane_shape zs → lane_said I claim path zs ≡ Ok read → NodeLine I claim path line read
lane_is I claim path line [] read text e = absurd (cc)
lane_is I claim path line (s ∷ []) read text e = absurd (cc)
lane_is I claim path line (s ∷ c ∷ []) read text e =
    let small = passes _ _ _ _ e in
    let known = passes _ _ _ _ small.1 in
    let both = and_parts (is_among (site_ids I) s) (is_among (customer_ids I) c) known.0 in
    let site = among-is (site_ids I) s both.0 in
    let customer = among-is (customer_ids I) c both.1 in
    on_split (Lane (unsigned_abs s) (unsigned_abs c)) (site.1, customer.1) (text ∙ ap (λ z. text_of_shape lane_shape (z ∷ c ∷ [])) site.0 ∙ ap (λ z. text_of_shape lane_shape (pos (unsigned_abs s) ∷ z ∷ [])) customer.0) known.1
lane_is I claim path line (s ∷ c ∷ z ∷ zs) read text e = absurd (cc)

leaf_is : (I : Instance) (claim : Claim) (path : Path) (line : List ℕ) (zs : List ℤ) (read : Due × Shown) → line ≡ text_of_shape leaf_shape zs → leaf_said claim path zs ≡ Ok read → NodeLine I claim path line read
leaf_is I claim path line [] read text e = absurd (cc)
leaf_is I claim path line (q ∷ []) read text e = absurd (cc)
leaf_is I claim path line (q ∷ nu ∷ []) read text e =
    let small = passes _ _ _ _ e in
    let both = and_parts (is_up_to MAX_SCALE q) (is_of_size MAX_VALUE nu) small.0 in
    let scale = up_to-is MAX_SCALE q both.0 in
    on_leaf (unsigned_abs q) nu scale.1 (leb-true (unsigned_abs nu) MAX_VALUE both.1) (text ∙ ap (λ z. text_of_shape leaf_shape (z ∷ nu ∷ [])) scale.0) small.1
leaf_is I claim path line (q ∷ nu ∷ z ∷ zs) read text e = absurd (cc)

node-spelled : (I : Instance) (claim : Claim) (path : Path) (line : List ℕ) (read : Due × Shown) → read_line I (NodeDue claim path) line ≡ Ok read → NodeLine I claim path line read
node-spelled I claim path line read e =
    elim (text_or site_shape line (site_said I claim path) _ read e) [
      | inl t ↦ site_is I claim path line t.zs read t.text t.said
      | inr other ↦ elim (text_or lane_shape line (lane_said I claim path) _ read other) [
        | inl t ↦ lane_is I claim path line t.zs read t.text t.said
        | inr last ↦ let t = shape_text leaf_shape line (leaf_said claim path) read last in leaf_is I claim path line t.zs read t.text t.said
      ]
    ]

-- the other lines of a leaf
values-spelled : (I : Instance) (claim : Claim) (path : Path) (q : ℕ) (nu : ℤ) (line : List ℕ) (read : Due × Shown) → read_line I (ValuesDue claim path q nu) line ≡ Ok read → IsSpelled I (ValuesDue claim path q nu) line read
values-spelled I claim path q nu line read e =
    let t = shape_text (row (codes "v") (just (length I.customers))) line (values_said claim path q nu) read e in
    let small = passes _ _ _ _ t.said in
    (t.zs, eqb-true _ _ t.fit, (λ k d within. leb-true _ MAX_VALUE (AllPass-from_list_all (is_of_size MAX_VALUE) t.zs small.0 k d within)), t.text, small.1)

small_prices : (I : Instance) (ps : List Price) → list_all (is_in_range I) ps ≡ true → list_all (λ p. is_up_to MAX_MULTIPLIER p.1) ps ≡ true
small_prices I [] e = refl
small_prices I (p ∷ ps) e =
    let both = and_parts (is_in_range I p) (list_all (is_in_range I) ps) e in
    and_from _ _ (and_parts (is_id p.0) _ (and_parts (is_id p.0 && is_up_to MAX_MULTIPLIER p.1) (not (lacks_cap I p.0)) both.0).0).1 (small_prices I ps both.1)

prices_are : (I : Instance) (claim : Claim) (path : Path) (q : ℕ) (nu : ℤ) (v : List ℤ) (line : List ℕ) (zs : List ℤ) (read : Due × Shown) → even_count (length zs) ≡ true → line ≡ text_of_shape (row (codes "u") even_count) zs → prices_said I claim path q nu v (pairs_of zs) ≡ Ok read
    → IsSpelled I (PricesDue claim path q nu v) line read
prices_are I claim path q nu v line zs read even text e =
    let ps = pairs_of zs in
    let plain = passes _ _ _ _ e in
    let range = passes _ _ _ _ plain.1 in
    let known = passes _ _ _ _ range.1 in
    let both = and_parts (is_rising (map (λ p. p.0) ps)) (list_all (λ p. not (is_same p.1 0)) ps) plain.0 in
    (Prices, map (price_in ps) (site_ids I), are_prices I ps range.0, tt, tt, (λ valid. counts_are (codes "u") line even_count zs (priced (site_ids I) (map (price_in ps) (site_ids I))) text (are_placed (site_ids I) zs (rises (site_ids I) valid.sites_named.rising) even both.0 known.0 (small_prices I ps range.0) both.1)), known.1)

-- a leaf of whole knapsacks has prices of 0
none_priced : (I : Instance) → ArePrices I (replicate (length I.sites) 0)
none_priced I = record {
  long = length-replicate (length I.sites) 0;
  small = All-replicate (λ x. x ≤ MAX_MULTIPLIER) (length I.sites) 0 (omega arith);
  unpriced = λ i within free. get_or-replicate (length I.sites) i 0 0 within;
}

whole_is : (I : Instance) (claim : Claim) (path : Path) (q : ℕ) (nu : ℤ) (v : List ℤ) (line : List ℕ) (read : Due × Shown) → IsText whole_shape line (λ zs. whole_said I claim path q nu v) read → IsSpelled I (PricesDue claim path q nu v) line read
whole_is I claim path q nu v line read t =
    let small = passes _ _ _ _ t.said in
    (Whole, replicate (length I.sites) 0, none_priced I, All-replicate (λ x. x ≡ 0) (length I.sites) 0 refl, small.0, (λ valid. t.text ∙ ap (text_of_shape whole_shape) (no_numbers t.zs t.fit)), small.1)

third-spelled : (I : Instance) (claim : Claim) (path : Path) (q : ℕ) (nu : ℤ) (v : List ℤ) (line : List ℕ) (read : Due × Shown) → read_line I (PricesDue claim path q nu v) line ≡ Ok read → IsSpelled I (PricesDue claim path q nu v) line read
third-spelled I claim path q nu v line read e =
    elim (text_or whole_shape line (λ zs. whole_said I claim path q nu v) _ read e) [
      | inl t ↦ whole_is I claim path q nu v line read t
      | inr other ↦
          let t = shape_text (row (codes "u") even_count) line (λ zs. prices_said I claim path q nu v (pairs_of zs)) read other in
          prices_are I claim path q nu v line t.zs read t.fit t.text t.said
    ]

-- a line that is read without a fault is spelled so
pub line-spelled : (I : Instance) (due : Due) (line : List ℕ) (read : Due × Shown) → read_line I due line ≡ Ok read → IsSpelled I due line read
line-spelled I HeaderDue line read e = header-spelled I line read e
line-spelled I SizesDue line read e = let t = shape_text sizes_shape line (sizes_said I) read e in sizes_are I line t.zs read t.text t.said
line-spelled I MustOpenDue line read e = status-spelled I (codes "must-open") must_open MustClosedDue line read e
line-spelled I MustClosedDue line read e = status-spelled I (codes "must-closed") must_close ClaimDue line read e
line-spelled I ClaimDue line read e = claim-is line read e
line-spelled I (OpenDue claim) line read e = open-spelled I claim line read e
line-spelled I (ServeDue claim sites) line read e = serve-spelled I claim sites line read e
line-spelled I (NodeDue claim path) line read e = node-spelled I claim path line read e
line-spelled I (ValuesDue claim path q nu) line read e = values-spelled I claim path q nu line read e
line-spelled I (PricesDue claim path q nu v) line read e = third-spelled I claim path q nu v line read e
line-spelled I (EndDue claim) line read e =
    let t = shape_text (row (codes "end") (just 0)) line (λ zs. then_due (NothingDue claim) NothingShown) read e in
    (t.text ∙ ap (text_of_shape (row (codes "end") (just 0))) (no_numbers t.zs t.fit), t.said)
line-spelled I (NothingDue claim) line read e = absurd (cc)

pub header-words : (I : Instance) → has_words (header_shape I) ≡ true
header-words I = by_version (is_all_free I)
  where
    by_version : (free : Bool) → has_words (Word (codes "dualoc-certificate") (row (if free then codes "1" else codes "2") (just 0))) ≡ true
    by_version true = refl
    by_version false = refl

-- a size of a valid instance
size-passes : (most n : ℕ) → 1 ≤ n → n ≤ most → is_size most (pos n) ≡ true
size-passes most n some few = and_from _ _ (le-leb n most few) (not_from_false _ (ne_eqb n 0 (λ e. omega (arith, some, e))))

sizes-read : (I : Instance) → IsValid I → sizes_said I (pos (length I.sites) ∷ pos (length I.customers) ∷ []) ≡ then_due (behind_sizes I) NothingShown
sizes-read I valid =
    unless-holds _ _ _ (and_from _ _ (size-passes MAX_SITES (length I.sites) valid.sizes.some_site valid.sizes.few_sites) (size-passes MAX_CUSTOMERS (length I.customers) valid.sizes.some_customer valid.sizes.few_customers))
    ∙ unless-holds _ _ _ (and_from _ _ (eq-eqb (length I.sites) _ refl) (eq-eqb (length I.customers) _ refl))

status-read : (I : Instance) (word : List ℕ) (test : SiteStatus → Bool) (next : Due) → has_words (row word any_count) ≡ true → IsValid I → read_status I word test next (counts_line word (ids_where test I)) ≡ then_due next NothingShown
status-read I word test next words valid =
    let are = where_ids I test valid in
    counts-read word any_count (ids_where test I) (status_said I test next) words refl
    ∙ sites_pass I (ids_where test I) _ valid are.0 are.1
    ∙ unless-holds _ _ _ (same_ids-pos (ids_where test I))

serve-read : (I : Instance) (claim : Claim) (sites servers : List ℕ) → IsValid I → length servers ≡ length I.customers → All (Contains (site_ids I)) servers → read_line I (ServeDue claim sites) (counts_line (codes "serve") servers) ≡ then_due (NodeDue claim []) (PlanShown claim (plan_from I sites servers))
serve-read I claim sites servers valid long known =
    let pass = all_known (site_ids I) I.next_site servers valid.sites_named known in
    counts-read (codes "serve") (just (length I.customers)) servers (serve_said I claim sites) refl (eq-eqb _ _ long)
    ∙ unless-holds _ _ _ pass.0
    ∙ unless-holds _ _ _ pass.1
    ∙ ap (λ ns. then_due (NodeDue claim []) (PlanShown claim (plan_from I sites ns))) (ids-pos servers)

-- the first line of a node: its text is of one of the three shapes
split-read : (I : Instance) (claim : Claim) (path : Path) (split : Split) → IsValid I → IsSplitAmong (site_ids I) (customer_ids I) split → read_line I (NodeDue claim path) (split_line split) ≡ split_said claim path split
split-read I claim path (Site s) valid known =
    shape_read site_shape (pos s ∷ []) (site_said I claim path) _ refl refl
    ∙ unless-holds _ _ _ (id-known (site_ids I) I.next_site s valid.sites_named known)
    ∙ unless-holds _ _ _ (among-known (site_ids I) s known)
split-read I claim path (Lane s c) valid both =
    other_read site_shape lane_shape (pos s ∷ pos c ∷ []) (site_said I claim path) _ refl refl
    ∙ shape_read lane_shape (pos s ∷ pos c ∷ []) (lane_said I claim path) _ refl refl
    ∙ unless-holds _ _ _ (and_from _ _ (id-known (site_ids I) I.next_site s valid.sites_named both.0) (id-known (customer_ids I) I.next_customer c valid.customers_named both.1))
    ∙ unless-holds _ _ _ (and_from _ _ (among-known (site_ids I) s both.0) (among-known (customer_ids I) c both.1))

leaf-read : (I : Instance) (claim : Claim) (path : Path) (q : ℕ) (nu : ℤ) → q ≤ MAX_SCALE → unsigned_abs nu ≤ MAX_VALUE → read_line I (NodeDue claim path) (text_of_shape leaf_shape (pos q ∷ nu ∷ [])) ≡ then_due (ValuesDue claim path q nu) NothingShown
leaf-read I claim path q nu scale price =
    other_read site_shape leaf_shape (pos q ∷ nu ∷ []) (site_said I claim path) _ refl refl
    ∙ other_read lane_shape leaf_shape (pos q ∷ nu ∷ []) (lane_said I claim path) _ refl refl
    ∙ shape_read leaf_shape (pos q ∷ nu ∷ []) (leaf_said claim path) _ refl refl
    ∙ unless-holds _ _ _ (and_from _ _ (le-leb q MAX_SCALE scale) (le-leb (unsigned_abs nu) MAX_VALUE price))

node-read : (I : Instance) (claim : Claim) (path : Path) (line : List ℕ) (read : Due × Shown) → IsValid I → NodeLine I claim path line read → read_line I (NodeDue claim path) line ≡ Ok read
node-read I claim path line read valid (on_split split known text is) = ap (read_line I (NodeDue claim path)) text ∙ split-read I claim path split valid known ∙ is
node-read I claim path line read valid (on_leaf q nu scale price text is) = ap (read_line I (NodeDue claim path)) text ∙ leaf-read I claim path q nu scale price ∙ is

-- a site with a price has a capacity
none-cap : (cap : Option ℕ) → is_none cap ≡ true → cap ≡ None
none-cap None none = refl
none-cap (Some cap) none = absurd (cc)

has_cap : (I : Instance) (u : List ℕ) (i : ℕ) → IsValid I → ArePrices I u → i < length (site_ids I) → 0 < get_or u i 0 → lacks_cap I (pos (get_or (site_ids I) i 0)) ≡ false
has_cap I u i valid prices among some =
    let here : SiteRow = record { id = 0; fixed = 0; cap = None; status = Free } in
    let k = get_or (site_ids I) i 0 in
    let test : SiteRow → Bool = λ s. is_same (pos k) s.id && is_none s.cap in
    let within : i < length I.sites = omega (arith, among, length-site_ids I) in
    let its_id : k ≡ (get_or I.sites i here).id = slice_index-site_ids I i within in
    list_any_none test I.sites
    (All-from_get_or (λ s. test s ≡ false) I.sites here
    (λ j inside. false_from_ne_true _ (λ both.
    let parts = and_parts (is_same (pos k) (get_or I.sites j here).id) (is_none (get_or I.sites j here).cap) both in
    let place : i ≡ j = one_place (λ s. s.id) I.sites here valid.sites_named.rising i j within inside (sym its_id ∙ eqb-true _ _ parts.0) in
    let no_cap : (site_at I i).cap ≡ None = none-cap _ (ap (λ n. is_none (get_or I.sites n here).cap) place ∙ parts.1) in
    let free : get_or u i 0 ≡ 0 = prices.unpriced i within no_cap in
    omega (arith, free, some))))

prices-read : (I : Instance) (claim : Claim) (path : Path) (q : ℕ) (nu : ℤ) (v : List ℤ) (u : List ℕ) → IsValid I → ArePrices I u
    → read_line I (PricesDue claim path q nu v) (counts_line (codes "u") (priced (site_ids I) u)) ≡ then_due (behind_leaf claim path) (LeafShown claim path (duals_in Prices q nu v u))
prices-read I claim path q nu v u valid prices =
    let ss = site_ids I in
    let up = rises ss valid.sites_named.rising in
    let known : (i : ℕ) → i < length ss → Contains ss (get_or ss i 0) = λ i within. Contains-get_or ss i 0 within in
    counts-other whole_shape (codes "u") even_count (priced ss u) (λ zs. whole_said I claim path q nu v) (read_prices I claim path q nu v (counts_line (codes "u") (priced ss u))) refl refl
    ∙ counts-read (codes "u") even_count (priced ss u) (λ zs. prices_said I claim path q nu v (pairs_of zs)) refl (even-priced ss u)
    ∙ unless-holds _ _ _ (and_from _ _ (rising-pairs ss u up) (pairs_pass (λ p. not (is_same p.1 0)) ss u (λ i within some. not_from_false _ (ne_eqb (get_or u i 0) 0 (λ e. omega (arith, some, e))))))
    ∙ unless-holds _ _ _ (pairs_pass (is_in_range I) ss u (λ i within some. and_from _ _ (and_from _ _ (id-known ss I.next_site _ valid.sites_named (known i within)) (le-leb (get_or u i 0) MAX_MULTIPLIER (prices.small i 0 (omega (arith, within, prices.long, length-site_ids I))))) (not_from_false _ (has_cap I u i valid prices within some))))
    ∙ unless-holds _ _ _ (pairs_pass (λ p. is_among ss p.0) ss u (λ i within some. among-known ss _ (known i within)))
    ∙ ap (λ us. then_due (behind_leaf claim path) (LeafShown claim path (duals_in Prices q nu v us))) (prices-by_place ss u (prices.long ∙ sym (length-site_ids I)) up)

-- prices of 0 are so many zeros
all_zeros : (us : List ℕ) → All (λ u. u ≡ 0) us → us ≡ replicate (length us) 0
all_zeros [] none = refl
all_zeros (u ∷ us) none = ap (λ x. x ∷ us) (All-head (λ x. x ≡ 0) u us none) ∙ ap (λ xs. 0 ∷ xs) (all_zeros us (All-tail (λ x. x ≡ 0) u us none))

whole-read : (I : Instance) (claim : Claim) (path : Path) (q : ℕ) (nu : ℤ) (v : List ℤ) (u : List ℕ) → ArePrices I u → All (λ x. x ≡ 0) u → has_small_knapsacks I ≡ true
    → read_line I (PricesDue claim path q nu v) (codes "whole") ≡ then_due (behind_leaf claim path) (LeafShown claim path (duals_in Whole q nu v u))
whole-read I claim path q nu v u prices none small =
    shape_read whole_shape [] (λ zs. whole_said I claim path q nu v) (read_prices I claim path q nu v (codes "whole")) refl refl
    ∙ unless-holds _ _ _ small
    ∙ ap (λ us. then_due (behind_leaf claim path) (LeafShown claim path (duals_in Whole q nu v us))) (ap (λ n. replicate n 0) (sym prices.long) ∙ sym (all_zeros u none))

third-read : (I : Instance) (claim : Claim) (path : Path) (q : ℕ) (nu : ℤ) (v : List ℤ) (form : LeafForm) (u : List ℕ) → IsValid I → ArePrices I u → PricesSuit form u → KnapsacksSuit form I
    → read_line I (PricesDue claim path q nu v) (third_line form (site_ids I) (duals_in form q nu v u)) ≡ then_due (behind_leaf claim path) (LeafShown claim path (duals_in form q nu v u))
third-read I claim path q nu v Prices u valid prices none small = prices-read I claim path q nu v u valid prices
third-read I claim path q nu v Whole u valid prices none small = whole-read I claim path q nu v u prices none small

-- and a line that is spelled so is read, of a valid instance
pub line-read : (I : Instance) (due : Due) (line : List ℕ) (read : Due × Shown) → IsValid I → IsSpelled I due line read → read_line I due line ≡ Ok read
line-read I HeaderDue line read valid (text, is) = ap (read_header I) text ∙ shape_read (header_shape I) [] _ _ (header-words I) refl ∙ is
line-read I SizesDue line read valid (text, is) = ap (read_line I SizesDue) text ∙ shape_read sizes_shape (pos (length I.sites) ∷ pos (length I.customers) ∷ []) (sizes_said I) _ refl refl ∙ sizes-read I valid ∙ is
line-read I MustOpenDue line read valid (text, is) = ap (read_line I MustOpenDue) text ∙ status-read I (codes "must-open") must_open MustClosedDue refl valid ∙ is
line-read I MustClosedDue line read valid (text, is) = ap (read_line I MustClosedDue) text ∙ status-read I (codes "must-closed") must_close ClaimDue refl valid ∙ is
line-read I ClaimDue line read valid (claim, small, text, is) = ap read_claim text ∙ claim-read claim small ∙ is
line-read I (OpenDue claim) line read valid (sites, rise, known, text, is) =
    ap (read_line I (OpenDue claim)) text
    ∙ counts-read (codes "open") any_count sites (open_said I claim) refl refl
    ∙ sites_pass I sites _ valid (rises sites rise) known
    ∙ ap (λ ns. then_due (ServeDue claim ns) NothingShown) (ids-pos sites) ∙ is
line-read I (ServeDue claim sites) line read valid (servers, long, known, text, is) = ap (read_line I (ServeDue claim sites)) text ∙ serve-read I claim sites servers valid long known ∙ is
line-read I (NodeDue claim path) line read valid spells = node-read I claim path line read valid spells
line-read I (ValuesDue claim path q nu) line read valid (v, long, small, text, is) =
    ap (read_line I (ValuesDue claim path q nu)) text
    ∙ shape_read (row (codes "v") (just (length I.customers))) v (values_said claim path q nu) _ refl (eq-eqb _ _ long)
    ∙ unless-holds _ _ _ (list_all-from_AllPass (is_of_size MAX_VALUE) v (λ k d within. le-leb _ MAX_VALUE (small k d within))) ∙ is
line-read I (PricesDue claim path q nu v) line read valid (form, u, prices, none, small, text, is) = ap (read_line I (PricesDue claim path q nu v)) (text valid) ∙ third-read I claim path q nu v form u valid prices none small ∙ is
line-read I (EndDue claim) line read valid (text, is) = ap (read_line I (EndDue claim)) text ∙ is
line-read I (NothingDue claim) line read valid spells = absurd spells
