-- Prices of capacities: given by the ids of their sites, and by place.
use Rattle.std.proofs.Common.{◌≡◌, ◌⊎◌, ℕ, zero, suc, ◌<◌, ◌≤◌, ◌==◌, ◌%◌, ◌&&◌, not, Bool, true, false, List, [], ◌∷◌, length, get_or, map, refl, sym, ap, ◌∙◌, subst, arith, inl, inr}
use Rattle.std.specs.Prelude.{ℤ, pos, negsuc, All, Contains, None, unsigned_abs, is_none, slice_index}
use Rattle.std.specs.List.{list_all}
use Rattle.std.proofs.lemmas.Bool.{and_parts, and_from, cases_Bool, cases_eq, eq-eqb, ne_eqb, lt-ltb, leb-true, not-true, true≢false, false≢true}
use Rattle.std.proofs.lemmas.List.{length-map, get_or-map}
use Rattle.std.proofs.lemmas.List.Elements.{All-nil, All-cons, All-head, All-tail, All-contains, All-map, All-weaker}
use Rattle.std.proofs.lemmas.List.Folds.{list_any_at}
use Rattle.std.proofs.lemmas.Map.Made.{Contains-tail}
use Rattle.location_terms.specs.declared.limits.TheConstants.{MAX_MULTIPLIER}
use Rattle.location_terms.specs.Instance.{Instance, site_ids, site_at}
use Rattle.location_terms.proofs.Places.{length-site_ids, slice_index-site_ids}
use Rattle.number_words.specs.Number.{is_rising}
use Rattle.certificate_lines.specs.Shape.{even_count}
use Rattle.certificate_lines.specs.Text.{priced}
use Rattle.certificate_lines.specs.Lines.{Price, pairs_of, is_id, is_up_to, is_same, is_among, lacks_cap, is_in_range, price_in}
use Rattle.certificate_lines.proofs.Ids.{Rises, rises, increasing-pos, is_same-is, among-is}

-- a number up to a limit
pub up_to-is : (most : ℕ) (z : ℤ) → is_up_to most z ≡ true → (z ≡ pos (unsigned_abs z)) × (unsigned_abs z ≤ most)
up_to-is most (pos n) e = (refl, leb-true n most e)
up_to-is most (negsuc n) e = absurd (cc)

-- a price for each site, 0 for a site without a capacity
pub record ArePrices (I : Instance) (u : List ℕ) : Type 0 where
  pub long : length u ≡ length I.sites
  pub small : All (λ x. x ≤ MAX_MULTIPLIER) u
  pub unpriced : (i : ℕ) → i < length I.sites → (site_at I i).cap ≡ None → slice_index u i ≡ 0

-- a price that is found is 0, or one of those that are given
found : (test : Price → Bool) (ps : List Price) (s : ℕ) → list_all test ps ≡ true → (price_in ps s ≡ 0) ⊎ ((p : Price) × (test p ≡ true) × (p.0 ≡ pos s) × (price_in ps s ≡ unsigned_abs p.1))
found test [] s e = inl refl
found test (p ∷ ps) s e =
    let both = and_parts (test p) (list_all test ps) e in
    elim (cases_Bool (is_same p.0 s)) [
      | inl same ↦ inr (p, both.0, is_same-is p.0 s same, rw same refl)
      | inr other ↦ rw other (found test ps s both.1)
    ]

price-small : (I : Instance) (ps : List Price) (s : ℕ) → list_all (is_in_range I) ps ≡ true → price_in ps s ≤ MAX_MULTIPLIER
price-small I ps s range =
    elim (found (is_in_range I) ps s range) [
      | inl none ↦ omega (arith, none)
      | inr (p, holds, is, price) ↦ omega (arith, price, (up_to-is MAX_MULTIPLIER p.1 (and_parts _ _ (and_parts (is_id p.0 && is_up_to MAX_MULTIPLIER p.1) _ holds).0).1).1)
    ]

price-none : (I : Instance) (ps : List Price) (i : ℕ) → i < length I.sites → (site_at I i).cap ≡ None → list_all (is_in_range I) ps ≡ true → price_in ps (site_at I i).id ≡ 0
price-none I ps i within free range =
    elim (found (is_in_range I) ps (site_at I i).id range) [
      | inl none ↦ none
      | inr (p, holds, is, price) ↦
          let lacks : lacks_cap I (pos (site_at I i).id) ≡ true = list_any_at (λ s. is_same (pos (site_at I i).id) s.id && is_none s.cap) I.sites i _ within (and_from _ _ (eq-eqb (site_at I i).id (site_at I i).id refl) (ap is_none free)) in
          absurd (true≢false (sym (ap (lacks_cap I) is ∙ lacks) ∙ not-true _ (and_parts (is_id p.0 && is_up_to MAX_MULTIPLIER p.1) (not (lacks_cap I p.0)) holds).1))
    ]

pub are_prices : (I : Instance) (ps : List Price) → list_all (is_in_range I) ps ≡ true → ArePrices I (map (price_in ps) (site_ids I))
are_prices I ps range = record {
  long = length-map (site_ids I) (price_in ps) ∙ length-site_ids I;
  small = All-map (λ x. x ≤ MAX_MULTIPLIER) (price_in ps) (site_ids I) (λ k d within. price-small I ps _ range);
  unpriced = λ i within free.
      let inside : i < length (site_ids I) = omega (arith, within, length-site_ids I) in
      get_or-map (price_in ps) (site_ids I) i 0 0 inside ∙ ap (price_in ps) (slice_index-site_ids I i within) ∙ price-none I ps i within free range;
}

-- the pairs in which prices by place are spelled
abbrev pub spelled_pairs : List ℕ → List ℕ → List Price
spelled_pairs ss us = pairs_of (map pos (priced ss us))

pub even-priced : (ss us : List ℕ) → even_count (length (priced ss us)) ≡ true
even-priced [] us = refl
even-priced (s ∷ ss) [] = refl
even-priced (s ∷ ss) (zero ∷ us) = even-priced ss us
even-priced (s ∷ ss) (suc n ∷ us) =
    let two : suc (suc (length (priced ss us))) % 2 ≡ length (priced ss us) % 2 = omega arith in
    ap (λ k. k == 0) two ∙ even-priced ss us

-- what each site with a price that is not 0 passes, all pairs pass
pub pairs_pass : (test : Price → Bool) (ss us : List ℕ) → ((i : ℕ) → i < length ss → 0 < get_or us i 0 → test (pos (get_or ss i 0), pos (get_or us i 0)) ≡ true) → list_all test (spelled_pairs ss us) ≡ true
pairs_pass test [] us holds = refl
pairs_pass test (s ∷ ss) [] holds = refl
pairs_pass test (s ∷ ss) (zero ∷ us) holds = pairs_pass test ss us (λ i within some. holds (suc i) (omega arith) some)
pairs_pass test (s ∷ ss) (suc n ∷ us) holds = and_from _ _ (holds 0 (omega arith) (omega arith)) (pairs_pass test ss us (λ i within some. holds (suc i) (omega arith) some))

-- their ids rise as the ids of the sites do
rising_behind : (t : ℕ) (ss us : List ℕ) → All (λ m. t < m) ss → Rises ss → is_rising (pos t ∷ map (λ p. p.0) (spelled_pairs ss us)) ≡ true
rising_behind t [] us above up = refl
rising_behind t (s ∷ ss) [] above up = refl
rising_behind t (s ∷ ss) (zero ∷ us) above up = rising_behind t ss us (All-tail (λ m. t < m) s ss above) up.1
rising_behind t (s ∷ ss) (suc n ∷ us) above up = and_from _ _ (lt-ltb t s (All-head (λ m. t < m) s ss above)) (rising_behind s ss us up.0 up.1)

pub rising-pairs : (ss us : List ℕ) → Rises ss → is_rising (map (λ p. p.0) (spelled_pairs ss us)) ≡ true
rising-pairs [] us up = refl
rising-pairs (s ∷ ss) [] up = refl
rising-pairs (s ∷ ss) (zero ∷ us) up = rising-pairs ss us up.1
rising-pairs (s ∷ ss) (suc n ∷ us) up = rising_behind s ss us up.0 up.1

-- the price of an id below all others, and those of ids above the first
price_in-below : (s : ℕ) (ss us : List ℕ) → All (λ m. s < m) ss → price_in (spelled_pairs ss us) s ≡ 0
price_in-below s [] us above = refl
price_in-below s (t ∷ ts) [] above = refl
price_in-below s (t ∷ ts) (zero ∷ us) above = price_in-below s ts us (All-tail (λ m. s < m) t ts above)
price_in-below s (t ∷ ts) (suc n ∷ us) above =
    let less : s < t = All-head (λ m. s < m) t ts above in
    let other : t == s ≡ false = ne_eqb t s (λ e. omega arith) in
    rw other (price_in-below s ts us (All-tail (λ m. s < m) t ts above))

prices-behind : (s : ℕ) (p : ℤ) (ps : List Price) (ts : List ℕ) → All (λ m. s < m) ts → map (price_in ((pos s, p) ∷ ps)) ts ≡ map (price_in ps) ts
prices-behind s p ps [] above = refl
prices-behind s p ps (t ∷ ts) above =
    let less : s < t = All-head (λ m. s < m) t ts above in
    let other : s == t ≡ false = ne_eqb s t (λ e. omega arith) in
    rw other (ap (λ us. price_in ps t ∷ us) (prices-behind s p ps ts (All-tail (λ m. s < m) t ts above)))

-- prices that are spelled by place are found by id
pub prices-by_place : (ss us : List ℕ) → length us ≡ length ss → Rises ss → map (price_in (spelled_pairs ss us)) ss ≡ us
prices-by_place [] [] same up = refl
prices-by_place [] (u ∷ us) same up = absurd (omega arith)
prices-by_place (s ∷ ss) [] same up = absurd (omega arith)
prices-by_place (s ∷ ss) (zero ∷ us) same up =
    ap (λ u. u ∷ map (price_in (spelled_pairs ss us)) ss) (price_in-below s ss us up.0) ∙ ap (λ vs. zero ∷ vs) (prices-by_place ss us (omega arith) up.1)
prices-by_place (s ∷ ss) (suc n ∷ us) same up =
    let itself : s == s ≡ true = eq-eqb s s refl in
    rw itself (ap (λ vs. suc n ∷ vs) (prices-behind s (pos (suc n)) (spelled_pairs ss us) ss up.0 ∙ prices-by_place ss us (omega arith) up.1))

-- an id and its price, and a row of them
abbrev Priced : Type 0
Priced = ℕ × ℕ

abbrev in_row : List Priced → List ℕ
in_row [] = []
in_row (q ∷ qs) = q.0 ∷ q.1 ∷ in_row qs

-- numbers two by two, each an id that is known and a price that is not 0
record InPairs (keys : List ℕ) (zs : List ℤ) : Type 0 where
  qs : List Priced
  are : zs ≡ map pos (in_row qs)
  firsts : map (λ p. p.0) (pairs_of zs) ≡ map pos (map (λ q. q.0) qs)
  known : All (Contains keys) (map (λ q. q.0) qs)
  some : All (λ q. 0 < q.1) qs

not_zero : (n : ℕ) → not (is_same (pos n) 0) ≡ true → 0 < n
not_zero zero e = absurd (cc)
not_zero (suc n) e = omega arith

in_pairs : (keys : List ℕ) (zs : List ℤ) → even_count (length zs) ≡ true → list_all (λ p. is_among keys p.0) (pairs_of zs) ≡ true → list_all (λ p. is_up_to MAX_MULTIPLIER p.1) (pairs_of zs) ≡ true → list_all (λ p. not (is_same p.1 0)) (pairs_of zs) ≡ true → InPairs keys zs
in_pairs keys [] even known small some = record { qs = []; are = refl; firsts = refl; known = All-nil (Contains keys); some = All-nil (λ (q : Priced). 0 < q.1) }
in_pairs keys (z ∷ []) even known small some = absurd (false≢true even)
in_pairs keys (z ∷ p ∷ zs) even known small some =
    let two : suc (suc (length zs)) % 2 ≡ length zs % 2 = omega arith in
    let ids = and_parts (is_among keys z) _ known in
    let costs = and_parts (is_up_to MAX_MULTIPLIER p) _ small in
    let ones = and_parts (not (is_same p 0)) _ some in
    let rest = in_pairs keys zs (ap (λ k. k == 0) (sym two) ∙ even) ids.1 costs.1 ones.1 in
    let id = among-is keys z ids.0 in
    let price = up_to-is MAX_MULTIPLIER p costs.0 in
    let qs : List Priced = (unsigned_abs z, unsigned_abs p) ∷ rest.qs in
    record {
      qs = qs;
      are = ap (λ x. x ∷ p ∷ zs) id.0 ∙ ap (λ x. pos (unsigned_abs z) ∷ x ∷ zs) price.0 ∙ ap (λ xs. pos (unsigned_abs z) ∷ pos (unsigned_abs p) ∷ xs) rest.are;
      firsts = ap (λ x. x ∷ map (λ (q : Price). q.0) (pairs_of zs)) id.0 ∙ ap (λ xs. pos (unsigned_abs z) ∷ xs) rest.firsts;
      known = All-cons (Contains keys) (unsigned_abs z) (map (λ q. q.0) rest.qs) id.1 rest.known;
      some = All-cons (λ (q : Priced). 0 < q.1) (unsigned_abs z, unsigned_abs p) rest.qs (not_zero (unsigned_abs p) (ap (λ x. not (is_same x 0)) (sym price.0) ∙ ones.0)) rest.some;
    }

-- ids that are above the first are among the rest
later_known : (s : ℕ) (ss ts : List ℕ) → All (λ t. s < t) ts → All (Contains (s ∷ ss)) ts → All (Contains ss) ts
later_known s ss ts above known k d within = Contains-tail s ss _ (λ e. omega (arith, above k d within, e)) (known k d within)

-- rising ids with their prices are the prices by place that are not 0
placed : (ss : List ℕ) (qs : List Priced) → Rises ss → Rises (map (λ q. q.0) qs) → All (Contains ss) (map (λ q. q.0) qs) → All (λ q. 0 < q.1) qs → (us : List ℕ) × (length us ≡ length ss) × (priced ss us ≡ in_row qs)
placed [] [] up rise known some = ([], refl, refl)
placed [] (q ∷ qs) up rise known some = let c = All-head (Contains []) q.0 (map (λ (p : Priced). p.0) qs) known in absurd (omega (arith, c.1))
placed (s ∷ ss) [] up rise known some =
    let rest = placed ss [] up.1 tt (All-nil (Contains ss)) some in
    (0 ∷ rest.0, ap suc rest.1, rest.2)
placed (s ∷ ss) ((t, zero) ∷ qs) up rise known some = let c = All-head (λ (q : Priced). 0 < q.1) (t, zero) qs some in absurd (omega (arith, c))
placed (s ∷ ss) ((t, suc n) ∷ qs) up rise known some =
    let ts = map (λ (q : Priced). q.0) qs in
    elim (cases_eq s t) [
      | inl same ↦
          let above : All (λ m. s < m) ts = subst (λ k. All (λ m. k < m) ts) (sym same) rise.0 in
          let rest = placed ss qs up.1 rise.1 (later_known s ss ts above (All-tail (Contains (s ∷ ss)) t ts known)) (All-tail (λ (q : Priced). 0 < q.1) (t, suc n) qs some) in
          (suc n ∷ rest.0, ap suc rest.1, ap (λ ks. s ∷ suc n ∷ ks) rest.2 ∙ ap (λ k. k ∷ suc n ∷ in_row qs) same)
      | inr other ↦
          let below : s < t = All-contains (λ m. s < m) ss t up.0 (Contains-tail s ss t other (All-head (Contains (s ∷ ss)) t ts known)) in
          let above : All (λ m. s < m) (t ∷ ts) = All-cons (λ m. s < m) t ts below (All-weaker (λ m. t < m) (λ m. s < m) (λ m more. omega (arith, below, more)) ts rise.0) in
          let rest = placed ss ((t, suc n) ∷ qs) up.1 rise (later_known s ss (t ∷ ts) above known) some in
          (0 ∷ rest.0, ap suc rest.1, rest.2)
    ]

pub are_placed : (ss : List ℕ) (zs : List ℤ) → Rises ss → even_count (length zs) ≡ true → is_rising (map (λ p. p.0) (pairs_of zs)) ≡ true → list_all (λ p. is_among ss p.0) (pairs_of zs) ≡ true → list_all (λ p. is_up_to MAX_MULTIPLIER p.1) (pairs_of zs) ≡ true → list_all (λ p. not (is_same p.1 0)) (pairs_of zs) ≡ true
    → zs ≡ map pos (priced ss (map (price_in (pairs_of zs)) ss))
are_placed ss zs up even rising known small some =
    let pairs = in_pairs ss zs even known small some in
    let ks : List ℕ = map (λ q. q.0) pairs.qs in
    let place = placed ss pairs.qs up (rises ks (increasing-pos ks (sym (ap is_rising pairs.firsts) ∙ rising))) pairs.known pairs.some in
    let are : zs ≡ map pos (priced ss place.0) = pairs.are ∙ ap (map pos) (sym place.2) in
    are ∙ ap (λ us. map pos (priced ss us)) (sym (prices-by_place ss place.0 place.1 up) ∙ ap (λ ys. map (price_in (pairs_of ys)) ss) (sym are))
