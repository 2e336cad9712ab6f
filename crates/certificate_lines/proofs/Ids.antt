-- Numbers that are ids: what the tests of a line tell of them, and which ids pass the tests.
use Rattle.std.proofs.Common.{◌≡◌, ℕ, zero, suc, ◌<◌, Bool, true, List, [], ◌∷◌, map, refl, sym, ap, ◌∙◌, inl, inr, arith, add-one}
use Rattle.std.specs.Prelude.{ℤ, pos, negsuc, int_lt, unsigned_abs, filter, All, Contains, Ok}
use Rattle.std.specs.List.{list_all, AllPairs}
use Rattle.std.specs.List.Sorted.{IsStrictlyIncreasing}
use Rattle.std.proofs.lemmas.Bool.{and_parts, and_from, or_cases, cond_both, eq-eqb, eqb-true, lt-ltb, ltb-true, le-leb}
use Rattle.std.proofs.lemmas.List.Elements.{All-nil, All-cons, All-head, All-tail, All-contains, All-contains_itself, All-weaker, Contains-append_right}
use Rattle.std.proofs.lemmas.List.Folds.{list_all-map, list_any_at}
use Rattle.std.proofs.lemmas.List.Kept.{AllPairs-from_increasing}
use Rattle.std.proofs.lemmas.List.Sums.{list_all-from_AllPass}
use Rattle.location_terms.specs.declared.status.SiteStatus.{SiteStatus}
use Rattle.location_terms.specs.Instance.{Instance, Site, AreIds, IsValid, site_ids}
use Rattle.number_words.specs.Number.{is_rising}
use Rattle.certificate_lines.specs.Due.{Due, Shown}
use Rattle.certificate_lines.specs.Lines.{Said, ids, is_same, is_id, is_among, same_ids, sites_said}
use Rattle.certificate_lines.specs.Text.{ids_where}
use Rattle.certificate_lines.proofs.Shapes.{passes, unless-holds}

-- each number is below all behind it
abbrev pub Rises : List ℕ → Type 0
Rises [] = Unit {0}
Rises (n ∷ ns) = All (λ m. n < m) ns × Rises ns

rises-pairs : (ns : List ℕ) → AllPairs (λ x y. x < y) ns → Rises ns
rises-pairs [] pairs = tt
rises-pairs (n ∷ ns) pairs = (λ k d within. pairs 0 (suc k) d (omega arith) (omega arith), rises-pairs ns (λ i j d before within. pairs (suc i) (suc j) d (omega arith) (omega arith)))

pub rises : (ns : List ℕ) → IsStrictlyIncreasing ns → Rises ns
rises ns rising = rises-pairs ns (AllPairs-from_increasing ns rising)

pub is_rising-pos : (ns : List ℕ) → Rises ns → is_rising (map pos ns) ≡ true
is_rising-pos [] up = refl
is_rising-pos (n ∷ []) up = refl
is_rising-pos (m ∷ n ∷ ns) up = and_from _ _ (lt-ltb m n (All-head (λ x. m < x) n ns up.0)) (is_rising-pos (n ∷ ns) up.1)

pub increasing-pos : (ns : List ℕ) → is_rising (map pos ns) ≡ true → IsStrictlyIncreasing ns
increasing-pos [] e k within = absurd (omega arith)
increasing-pos (x ∷ []) e k within = absurd (omega arith)
increasing-pos (x ∷ y ∷ zs) e zero within = ltb-true x y (and_parts (int_lt (pos x) (pos y)) (is_rising (map pos (y ∷ zs))) e).0
increasing-pos (x ∷ y ∷ zs) e (suc k) within =
    let rest = increasing-pos (y ∷ zs) (and_parts (int_lt (pos x) (pos y)) (is_rising (map pos (y ∷ zs))) e).1 k (omega arith) in
    rw add-one (rw add-one at rest)

-- ids that numbers are
pub ids-pos : (ns : List ℕ) → ids (map pos ns) ≡ ns
ids-pos [] = refl
ids-pos (n ∷ ns) = ap (λ ms. n ∷ ms) (ids-pos ns)

pub is_same-is : (z : ℤ) (s : ℕ) → is_same z s ≡ true → z ≡ pos s
is_same-is (pos n) s e = ap pos (eqb-true n s e)
is_same-is (negsuc n) s e = absurd (cc)

-- a number that is among ids, and numbers that are
pub among-is : (keys : List ℕ) (z : ℤ) → is_among keys z ≡ true → (z ≡ pos (unsigned_abs z)) × Contains keys (unsigned_abs z)
among-is [] z e = absurd (cc)
among-is (s ∷ keys) z e =
    elim (or_cases (is_same z s) (is_among keys z) e) [
      | inl here ↦
          let is = is_same-is z s here in
          let size : s ≡ unsigned_abs z = sym (ap unsigned_abs is) in
          (is ∙ ap pos size, (0, omega arith, size))
      | inr later ↦
          let rest = among-is keys z later in
          (rest.0, Contains-append_right (s ∷ []) keys (unsigned_abs z) rest.1)
    ]

pub all_among-are : (keys : List ℕ) (zs : List ℤ) → list_all (is_among keys) zs ≡ true → (zs ≡ map pos (ids zs)) × All (Contains keys) (ids zs)
all_among-are keys [] e = (refl, All-nil (Contains keys))
all_among-are keys (z ∷ zs) e =
    let both = and_parts (is_among keys z) (list_all (is_among keys) zs) e in
    let first = among-is keys z both.0 in
    let rest = all_among-are keys zs both.1 in
    (ap (λ y. y ∷ zs) first.0 ∙ ap (λ ys. pos (unsigned_abs z) ∷ ys) rest.0, All-cons (Contains keys) (unsigned_abs z) (ids zs) first.1 rest.1)

pub same_ids-are : (keys : List ℕ) (zs : List ℤ) → same_ids keys zs ≡ true → zs ≡ map pos keys
same_ids-are [] [] e = refl
same_ids-are [] (z ∷ zs) e = absurd (cc)
same_ids-are (s ∷ keys) [] e = absurd (cc)
same_ids-are (s ∷ keys) (z ∷ zs) e =
    let both = and_parts (is_same z s) (same_ids keys zs) e in
    ap (λ y. y ∷ zs) (is_same-is z s both.0) ∙ ap (λ ys. pos s ∷ ys) (same_ids-are keys zs both.1)

-- ids that are known pass the tests
pub among-known : (keys : List ℕ) (n : ℕ) → Contains keys n → is_among keys (pos n) ≡ true
among-known keys n known = list_any_at (is_same (pos n)) keys known.0 n known.1 (eq-eqb n _ (sym known.2))

pub id-known : (keys : List ℕ) (next n : ℕ) → AreIds keys next → Contains keys n → is_id (pos n) ≡ true
id-known keys next n named known =
    let below : n < next = All-contains (λ m. m < next) keys n named.below_next known in
    le-leb n 4294967295 (omega (arith, below, named.next_small))

pub all_pass : (p : ℤ → Bool) (ns : List ℕ) → All (λ n. p (pos n) ≡ true) ns → list_all p (map pos ns) ≡ true
all_pass p ns pass = list_all-map p pos ns ∙ list_all-from_AllPass (λ n. p (pos n)) ns pass

pub all_known : (keys : List ℕ) (next : ℕ) (ns : List ℕ) → AreIds keys next → All (Contains keys) ns → (list_all is_id (map pos ns) ≡ true) × (list_all (is_among keys) (map pos ns) ≡ true)
all_known keys next ns named known = (
  all_pass is_id ns (All-weaker (Contains keys) (λ n. is_id (pos n) ≡ true) (λ n c. id-known keys next n named c) ns known),
  all_pass (is_among keys) ns (All-weaker (Contains keys) (λ n. is_among keys (pos n) ≡ true) (among-known keys) ns known),
)

pub same_ids-pos : (ns : List ℕ) → same_ids ns (map pos ns) ≡ true
same_ids-pos [] = refl
same_ids-pos (n ∷ ns) = and_from _ _ (eq-eqb n n refl) (same_ids-pos ns)

-- what a line of ids of sites tells, and which ids it may have
pub sites_are : (I : Instance) (zs : List ℤ) (rest : Said) (read : Due × Shown) → sites_said I zs rest ≡ Ok read → (zs ≡ map pos (ids zs)) × IsStrictlyIncreasing (ids zs) × All (Contains (site_ids I)) (ids zs) × (rest ≡ Ok read)
sites_are I zs rest read e =
    let rising = passes _ _ _ _ e in
    let small = passes _ _ _ _ rising.1 in
    let known = passes _ _ _ _ small.1 in
    let are = all_among-are (site_ids I) zs known.0 in
    (are.0, increasing-pos (ids zs) (sym (ap is_rising are.0) ∙ rising.0), are.1, known.1)

pub sites_pass : (I : Instance) (ns : List ℕ) (rest : Said) → IsValid I → Rises ns → All (Contains (site_ids I)) ns → sites_said I (map pos ns) rest ≡ rest
sites_pass I ns rest valid up known =
    let pass = all_known (site_ids I) I.next_site ns valid.sites_named known in
    unless-holds _ _ _ (is_rising-pos ns up) ∙ unless-holds _ _ _ pass.0 ∙ unless-holds _ _ _ pass.1

-- what holds of all ids holds of those of the sites that pass a test
kept : (P : ℕ → Type 0) (p : Site → Bool) (sites : List Site) → All P (map (λ s. s.id) sites) → All P (map (λ s. s.id) (filter p sites))
kept P p [] all = all
kept P p (s ∷ sites) all =
    let tail = kept P p sites (All-tail P s.id (map (λ x. x.id) sites) all) in
    cond_both (p s) (s ∷ filter p sites) (filter p sites) (λ xs. All P (map (λ x. x.id) xs)) (λ _. All-cons P s.id (map (λ x. x.id) (filter p sites)) (All-head P s.id (map (λ x. x.id) sites) all) tail) (λ _. tail)

rises-kept : (p : Site → Bool) (sites : List Site) → Rises (map (λ s. s.id) sites) → Rises (map (λ s. s.id) (filter p sites))
rises-kept p [] up = up
rises-kept p (s ∷ sites) up =
    let tail = rises-kept p sites up.1 in
    cond_both (p s) (s ∷ filter p sites) (filter p sites) (λ xs. Rises (map (λ x. x.id) xs)) (λ _. (kept (λ m. s.id < m) p sites up.0, tail)) (λ _. tail)

-- the ids of the sites of a status rise and are known
pub where_ids : (I : Instance) (test : SiteStatus → Bool) → IsValid I → Rises (ids_where test I) × All (Contains (site_ids I)) (ids_where test I)
where_ids I test valid = (
  rises-kept (λ s. test s.status) I.sites (rises (site_ids I) valid.sites_named.rising),
  kept (Contains (site_ids I)) (λ s. test s.status) I.sites (All-contains_itself (site_ids I)),
)
