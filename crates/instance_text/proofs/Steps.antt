-- Words that stand next in a text, and what the readers of single words and lines make of them.
use Rattle.std.proofs.Common.{◌≡◌, ℕ, ◌+◌, ◌≤◌, ◌&&◌, inl, inr, Bool, true, false, not, nat_le, nat_lt, List, [], ◌∷◌, ◌++◌, map, flat_map, length, Option, None, Some, Result, Ok, Err, refl, sym, ap, subst, ◌∙◌, arith}
use Rattle.std.specs.Prelude.{All, codes, bytes_eq, if◌then◌else◌}
use Rattle.std.proofs.lemmas.Bool.{cases_Bool}
use Rattle.std.proofs.lemmas.Bool.Decides.{nat_tests}
use Rattle.std.proofs.lemmas.List.Elements.{All-head, All-tail}
use Rattle.std.proofs.lemmas.List.Concat.{flat_map_single}
use Rattle.std.proofs.lemmas.Slice.Eq.{bytes_eq-Decides}
use Rattle.location_terms.specs.declared.limits.TheConstants.{MAX_AMOUNT, MAX_SITES}
use Rattle.location_terms.specs.declared.status.SiteStatus.{SiteStatus}
use Rattle.location_terms.specs.declared.status.SiteStatus.TheVariants.{Free, MustOpen, MustClose}
use Rattle.number_words.specs.Cost.{micro_text}
use Rattle.number_words.specs.Number.{digits_text}
use Rattle.number_words.specs.Words.{PlacedWord, words_in_line, words_in_lines}
use Rattle.number_words.proofs.Digits.{spells-digits_text, is_digits-from}
use Rattle.fixed_cost.specs.Amount.{amount_of, count_of}
use Rattle.fixed_cost.specs.declared.amount.AmountFault.{AmountFault}
use Rattle.fixed_cost.specs.declared.amount.AmountFault.TheVariants.{NotANumber}
use Rattle.fixed_cost.specs.declared.fault.FileFault.{FileFault}
use Rattle.fixed_cost.specs.declared.fault.FileKind.{FileKind}
use Rattle.fixed_cost.specs.declared.fault.FileKind.TheVariants.{BadSize, BadIndex}
use Rattle.fixed_cost.specs.Reading.{Rest, word_at, amount_at, is_within, many_from, many_at}
use Rattle.fixed_cost.proofs.Spelling.{count_of-digits}
use Rattle.fixed_cost.proofs.Printed.{amount_of-micro_text}
use Rattle.fixed_cost.proofs.ReadFacts.{AllAlong}
use Rattle.instance_store.specs.Small.{IsSmall}
use Rattle.instance_store.specs.declared.rows.SiteRow.{SiteRow}
use Rattle.instance_store.specs.declared.rows.CustRow.{CustRow}
use Rattle.instance_text.specs.Own.{fixed_at, count_at, id_at, some_in, maybe_at, version_at, status_at, size_line_at, count_line_at, customer_line_at, site_line_at}
use Rattle.instance_text.specs.OwnText.{amount_or_none, printed_status}
use Rattle.instance_text.proofs.ReadRows.{IsId}

-- this word stands next, and this is left behind it
pub record IsNext (word : List ℕ) (r next : Rest) : Type 0 where
  pub placed : PlacedWord
  pub reads : word_at r ≡ Ok (placed, next)
  pub text : placed.text ≡ word

-- these words stand next, and this is left behind them
abbrev pub Starts : List (List ℕ) → Rest → Rest → Type 0
Starts [] r after = r ≡ after
Starts (w ∷ ws) r after = (next : Rest) × IsNext w r next × Starts ws next after

pub starts_apart : (us vs : List (List ℕ)) (r after : Rest) → Starts (us ++ vs) r after → (mid : Rest) × Starts us r mid × Starts vs mid after
starts_apart [] vs r after s = (r, refl, s)
starts_apart (u ∷ us) vs r after s = let rest = starts_apart us vs s.0 after s.2 in (rest.0, (s.0, s.1, rest.1), rest.2)

pub starts_both : (us vs : List (List ℕ)) (r mid after : Rest) → Starts us r mid → Starts vs mid after → Starts (us ++ vs) r after
starts_both [] vs r mid after s t = subst (λ q. Starts vs q after) (sym s) t
starts_both (u ∷ us) vs r mid after s t = (s.0, s.1, starts_both us vs s.0 mid after s.2 t)

-- the words of a line, and of lines
line_starts : (end : ℕ × ℕ) (line place : ℕ) (ws : List (List ℕ)) (others : List PlacedWord) → Starts ws (record { left = words_in_line line place ws ++ others; end = end }) (record { left = others; end = end })
unfolding word_at
line_starts end line place [] others = refl
line_starts end line place (w ∷ ws) others =
    (record { left = words_in_line line (place + 1) ws ++ others; end = end }, record { placed = record { text = w; line = line; place = place }; reads = refl; text = refl }, line_starts end line (place + 1) ws others)

pub lines_start : (end : ℕ × ℕ) (line : ℕ) (lines : List (List (List ℕ))) → Starts (flat_map (λ ws. ws) lines) (record { left = words_in_lines line lines; end = end }) (record { left = []; end = end })
lines_start end line [] = refl
lines_start end line (ws ∷ lines) =
    starts_both ws (flat_map (λ vs. vs) lines) _ (record { left = words_in_lines (line + 1) lines; end = end }) _ (line_starts end line 1 ws (words_in_lines (line + 1) lines)) (lines_start end (line + 1) lines)

-- Single words.

same_bytes : (xs : List ℕ) → bytes_eq xs xs ≡ true
same_bytes xs = (bytes_eq-Decides xs xs).1 refl

pub fixed_reads : (word : List ℕ) (r next : Rest) → IsNext word r next → fixed_at word r ≡ Ok next
unfolding fixed_at
fixed_reads word r next is = rw (is.reads, is.text, same_bytes word) refl

count_of-digits_text : (n : ℕ) → n ≤ 4294967295 → count_of (digits_text n) ≡ Ok n
count_of-digits_text n small =
    let spells = spells-digits_text n in
    let within : nat_le n 4294967295 ≡ true = grind (arith, nat_tests) in
    count_of-digits (digits_text n) (is_digits-from (digits_text n) spells.nonempty spells.digits) ∙ rw (spells.value, within) refl

pub count_reads : (kind : FileKind) (test : ℕ → Bool) (n : ℕ) (r next : Rest) → IsNext (digits_text n) r next → n ≤ 4294967295 → test n ≡ true → count_at kind test r ≡ Ok (n, next)
unfolding count_at
count_reads kind test n r next is small passes = rw (is.reads, is.text, count_of-digits_text n small, passes) refl

pub amount_reads : (n : ℕ) (r next : Rest) → IsNext (micro_text n) r next → n ≤ MAX_AMOUNT → amount_at r ≡ Ok (n, next)
unfolding amount_at
amount_reads n r next is small = rw (is.reads, is.text, amount_of-micro_text n small) refl

-- an amount isn't the word `none`
none_is_none : amount_of (codes "none") ≡ Err NotANumber
unfolding amount_of
none_is_none = refl

ok-err : (n : ℕ) (fault : AmountFault) → Ok n ≡ Err fault → ⊥
ok-err n fault e = absurd cc

not_none : (n : ℕ) → n ≤ MAX_AMOUNT → bytes_eq (micro_text n) (codes "none") ≡ false
not_none n small =
    elim (cases_Bool (bytes_eq (micro_text n) (codes "none"))) [
      | inl same ↦ absurd (ok-err n NotANumber (sym (amount_of-micro_text n small) ∙ ap amount_of ((bytes_eq-Decides (micro_text n) (codes "none")).0 same) ∙ none_is_none))
      | inr other ↦ other
    ]

pub maybe_reads : (x : Option ℕ) (r next : Rest) → IsNext (amount_or_none x) r next → IsSmall x → maybe_at r ≡ Ok (x, next)
unfolding maybe_at some_in
maybe_reads None r next is small = rw (is.reads, is.text) refl
maybe_reads (Some n) r next is small = rw (is.reads, is.text, not_none n small, amount_of-micro_text n small) refl

pub version_reads : (free : Bool) (r next : Rest) → IsNext (if free then codes "1" else codes "2") r next → version_at r ≡ Ok (not free, next)
unfolding version_at
version_reads true r next is = rw (is.reads, is.text) refl
version_reads false r next is = rw (is.reads, is.text) refl

-- the word of a status, where there is one
abbrev pub status_words : Bool → SiteStatus → List (List ℕ)
status_words free status = if free then [] else printed_status status ∷ []

pub status_reads : (free : Bool) (status : SiteStatus) (r after : Rest) → Starts (status_words free status) r after → (free ≡ true → status ≡ Free) → status_at (not free) r ≡ Ok (status, after)
unfolding status_at
status_reads true status r after s only = ap (λ (x : SiteStatus). Ok (x, r)) (sym (only refl)) ∙ ap (λ (q : Rest). Ok (status, q)) s
status_reads false Free r after s only = rw (s.1.reads, s.1.text) (ap (λ (q : Rest). Ok (Free, q)) s.2)
status_reads false MustOpen r after s only = rw (s.1.reads, s.1.text) (ap (λ (q : Rest). Ok (MustOpen, q)) s.2)
status_reads false MustClose r after s only = rw (s.1.reads, s.1.text) (ap (λ (q : Rest). Ok (MustClose, q)) s.2)

-- Lines.

pub size_line_reads : (word : List ℕ) (test : ℕ → Bool) (m next : ℕ) (r after : Rest) → Starts (word ∷ digits_text m ∷ codes "next" ∷ digits_text next ∷ []) r after → m ≤ 4294967295 → test m ≡ true → 1 ≤ next → next ≤ 4294967295 → size_line_at word test r ≡ Ok ((m, next), after)
unfolding size_line_at
size_line_reads word test m next r after s small passes some few =
    let positive : nat_le 1 next ≡ true = grind (arith, nat_tests) in
    rw (fixed_reads word r s.0 s.1, count_reads BadSize test m s.0 s.2.0 s.2.1 small passes, fixed_reads (codes "next") s.2.0 s.2.2.0 s.2.2.1, count_reads BadSize (λ n. nat_le 1 n) next s.2.2.0 s.2.2.2.0 s.2.2.2.1 few positive)
    (ap (λ (q : Rest). Ok ((m, next), q)) s.2.2.2.2)

pub count_line_reads : (lo hi : ℕ) (r after : Rest) → Starts (codes "count" ∷ digits_text lo ∷ digits_text hi ∷ []) r after → lo ≤ hi → hi ≤ MAX_SITES → count_line_at r ≡ Ok ((lo, hi), after)
unfolding count_line_at
count_line_reads lo hi r after s order few =
    let least : nat_le lo MAX_SITES ≡ true = grind (arith, nat_tests) in
    let greatest : is_within lo MAX_SITES hi ≡ true = grind (arith, nat_tests) in
    rw (fixed_reads (codes "count") r s.0 s.1, count_reads BadSize (λ n. nat_le n MAX_SITES) lo s.0 s.2.0 s.2.1 (omega (arith, order, few)) least, count_reads BadSize (is_within lo MAX_SITES) hi s.2.0 s.2.2.0 s.2.2.1 (omega (arith, few)) greatest)
    (ap (λ (q : Rest). Ok ((lo, hi), q)) s.2.2.2)

id_reads : (next last id : ℕ) (r after : Rest) → IsNext (digits_text id) r after → IsId next last id → next ≤ 4294967295 → id_at next last r ≡ Ok (id, after)
unfolding id_at
id_reads next last id r after s is few =
    let between : (nat_lt last id && nat_lt id next) ≡ true = grind (arith, nat_tests, is.above, is.below) in
    count_reads BadIndex (λ n. nat_lt last n && nat_lt n next) id r after s (omega (arith, is.below, few)) between

abbrev pub cust_words : CustRow → List (List ℕ)
cust_words c = codes "customer" ∷ digits_text c.id ∷ micro_text c.demand ∷ []

pub customer_line_reads : (next last : ℕ) (c : CustRow) (r after : Rest) → Starts (cust_words c) r after → IsId next last c.id → next ≤ 4294967295 → c.demand ≤ MAX_AMOUNT → customer_line_at next last r ≡ Ok (c, after)
unfolding customer_line_at
customer_line_reads next last c r after s is few small =
    rw (fixed_reads (codes "customer") r s.0 s.1, id_reads next last c.id s.0 s.2.0 s.2.1 is few, amount_reads c.demand s.2.0 s.2.2.0 s.2.2.1 small) (ap (λ (q : Rest). Ok (c, q)) s.2.2.2)

-- many things, one behind the other
pub many_from_reads : {A S : Type 0} (next : S → A → S) (step : S → Rest → Result (A × Rest) FileFault) (words : A → List (List ℕ)) (s : S) (xs : List A) (r after : Rest)
    → AllAlong next (λ s x. (q q' : Rest) → Starts (words x) q q' → step s q ≡ Ok (x, q')) s xs → Starts (flat_map words xs) r after → many_from next step s (length xs) r ≡ Ok (xs, after)
unfolding many_from
many_from_reads next step words s [] r after each starts = ap (λ (q : Rest). Ok ([], q)) starts
many_from_reads next step words s (x ∷ xs) r after each starts =
    let apart = starts_apart (words x) (flat_map words xs) r after starts in
    rw (each.0 r apart.0 apart.1, many_from_reads next step words (next s x) xs apart.0 after each.1 apart.2) refl

-- lanes
lanes_along : (k : ℕ) (lanes : List (Option ℕ)) → All IsSmall lanes → AllAlong (λ number _. number + 1) (λ _ x. (q q' : Rest) → Starts (amount_or_none x ∷ []) q q' → maybe_at q ≡ Ok (x, q')) k lanes
lanes_along k [] small = tt
lanes_along k (x ∷ xs) small =
    (λ q q' s. maybe_reads x q s.0 s.1 (All-head IsSmall x xs small) ∙ ap (λ (p : Rest). Ok (x, p)) s.2, lanes_along (k + 1) xs (All-tail IsSmall x xs small))

pub lanes_read : (lanes : List (Option ℕ)) (r after : Rest) → All IsSmall lanes → Starts (map amount_or_none lanes) r after → many_at (λ _. maybe_at) 0 (length lanes) r ≡ Ok (lanes, after)
lanes_read lanes r after small starts =
    many_from_reads (λ number _. number + 1) (λ _. maybe_at) (λ x. amount_or_none x ∷ []) 0 lanes r after (lanes_along 0 lanes small) (subst (λ ws. Starts ws r after) (sym (flat_map_single amount_or_none lanes)) starts)

abbrev pub row_words : Bool → SiteRow × SiteStatus → List (List ℕ)
row_words free s = codes "site" ∷ digits_text s.0.id ∷ micro_text s.0.fixed ∷ amount_or_none s.0.cap ∷ (status_words free s.1 ++ map amount_or_none s.0.lanes)

-- what a line of a site needs to be read back
pub record IsPrinted (free : Bool) (n : ℕ) (s : SiteRow × SiteStatus) : Type 0 where
  pub fixed : s.0.fixed ≤ MAX_AMOUNT
  pub limit : IsSmall s.0.cap
  pub full : length s.0.lanes ≡ n
  pub lanes : All IsSmall s.0.lanes
  pub status : free ≡ true → s.1 ≡ Free

pub site_line_reads : (free : Bool) (n next last : ℕ) (s : SiteRow × SiteStatus) (r after : Rest) → Starts (row_words free s) r after → IsId next last s.0.id → next ≤ 4294967295 → IsPrinted free n s → site_line_at (not free) n next last r ≡ Ok (s, after)
unfolding site_line_at
site_line_reads free n next last s r after t is few can =
    let apart = starts_apart (status_words free s.1) (map amount_or_none s.0.lanes) t.2.2.2.0 after t.2.2.2.2 in
    let lanes : many_at (λ _. maybe_at) 0 n apart.0 ≡ Ok (s.0.lanes, after) = subst (λ k. many_at (λ _. maybe_at) 0 k apart.0 ≡ Ok (s.0.lanes, after)) can.full (lanes_read s.0.lanes apart.0 after can.lanes apart.2) in
    rw (fixed_reads (codes "site") r t.0 t.1, id_reads next last s.0.id t.0 t.2.0 t.2.1 is few, amount_reads s.0.fixed t.2.0 t.2.2.0 t.2.2.1 can.fixed, maybe_reads s.0.cap t.2.2.0 t.2.2.2.0 t.2.2.2.1 can.limit, status_reads free s.1 t.2.2.2.0 apart.0 apart.1 can.status, lanes) refl
