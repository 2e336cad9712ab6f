-- Places that are flagged one after the other.
use Rattle.std.proofs.Common.{◌≡◌, ℕ, ◌+◌, ◌-◌, ◌<◌, ◌≤◌, Bool, true, false, cond, List, [], ◌∷◌, ◌++◌, map, length, take, refl, sym, ap, subst, inl, inr, ◌⊎◌, ◌∙◌, arith}
use Rattle.std.specs.Prelude.{All, filter, ◌==◌, ◌||◌}
use Rattle.std.specs.List.{range_with_len}
use Rattle.std.proofs.lemmas.List.{append-nil, length_push, length-take, length-set, take_all, take-append-le, get_or-set_same, get_or-set_other}
use Rattle.std.proofs.lemmas.List.Elements.{All-head, All-tail, filter-append, All-filter, All-take, All-weaker}
use Rattle.std.proofs.lemmas.List.Folds.{list_any-append, list_any_none}
use Rattle.std.proofs.lemmas.Bool.{cases_eq, ne_eqb, eq-eqb, or_left, or_right, both_ways, cases_Bool, false_from_ne_true}
use Rattle.dual_ascent.proofs.Ceiling.{places_below}
use Rattle.std.proofs.lemmas.List.FromFn.{length-range_with_len}
use Rattle.std.proofs.lemmas.List.Sums.{length-filter, count_by-le-length}
use Rattle.std.proofs.Math.ListN.{set}
use Rattle.location_terms.proofs.Places.{places_more}
use Rattle.plan_search.specs.Packed.{is_among}
use Rattle.plan_search.specs.Flags.{is_set, flagged, AreFlags}
use Rattle.plan_search.proofs.Among.{among-contains, contains-among, Contains-filter, passed, place-contained, of_places}

-- two tests that agree on a list keep the same of it
pub filter_same : {X : Type 0} (p q : X → Bool) (xs : List X) → All (λ x. p x ≡ q x) xs → filter p xs ≡ filter q xs
filter_same p q [] same = refl
filter_same p q (x ∷ xs) same =
    ap (λ b. cond b (x ∷ filter p xs) (filter p xs)) (All-head (λ y. p y ≡ q y) x xs same) ∙ ap (λ ys. cond (q x) (x ∷ ys) ys) (filter_same p q xs (All-tail (λ y. p y ≡ q y) x xs same))

-- the places below a number that pass
abbrev pub passing : (ℕ → Bool) → ℕ → List ℕ
passing p n = filter p (range_with_len 0 n)

pub passing_same : (p q : ℕ → Bool) (n : ℕ) → ((i : ℕ) → i < n → p i ≡ q i) → passing p n ≡ passing q n
passing_same p q n same = filter_same p q (range_with_len 0 n) (of_places (λ i. p i ≡ q i) n same)

passing_more : (p : ℕ → Bool) (n : ℕ) → passing p (n + 1) ≡ passing p n ++ cond (p n) (n ∷ []) []
passing_more p n = ap (filter p) (places_more n) ∙ filter-append p (range_with_len 0 n) (n ∷ [])

-- one more of the first so many, while some are left
one_more : (most left i : ℕ) (kept old : List ℕ) → kept ≡ take most old → left + length kept ≡ most → 0 < left → kept ++ i ∷ [] ≡ take most (old ++ i ∷ [])
one_more most left i kept old is count some =
    let short : length old < most = omega (arith, ap length is, length-take most old) in
    let whole : take most old ≡ old = take_all most old (omega arith) in
    ap (λ (xs : List ℕ). xs ++ i ∷ []) (is ∙ whole) ∙ sym (take_all most (old ++ i ∷ []) (omega (arith, length_push old i)))

-- and no more when none is left
none_more : (most i : ℕ) (kept old : List ℕ) → kept ≡ take most old → length kept ≡ most → kept ≡ take most (old ++ i ∷ [])
none_more most i kept old is count = is ∙ sym (take-append-le most old (i ∷ []) (omega (arith, ap length is, length-take most old)))

pub passing_short : (p : ℕ → Bool) (n : ℕ) → length (passing p n) ≤ n
passing_short p n = omega (arith, length-filter p (range_with_len 0 n), count_by-le-length p (range_with_len 0 n), length-range_with_len 0 n)

-- one place more, whether it passes or not
pub passing_yes : (p : ℕ → Bool) (n : ℕ) → p n ≡ true → passing p (n + 1) ≡ passing p n ++ n ∷ []
passing_yes p n is = passing_more p n ∙ ap (λ b. passing p n ++ cond b (n ∷ []) []) is

pub passing_no : (p : ℕ → Bool) (n : ℕ) → p n ≡ false → passing p (n + 1) ≡ passing p n
passing_no p n is = passing_more p n ∙ ap (λ b. passing p n ++ cond b (n ∷ []) []) is ∙ append-nil (passing p n)

pub count_yes : (p : ℕ → Bool) (n : ℕ) → p n ≡ true → length (passing p (n + 1)) ≡ length (passing p n) + 1
count_yes p n is = ap length (passing_yes p n is) ∙ length_push (passing p n) n

-- the flags below a place after those behind the first so many were taken away, of which some are left
pub record IsCut (most place left : ℕ) (old new : List Bool) : Type 0 where
  pub long : length new ≡ length old
  pub kept : passing (is_set new) place ≡ take most (passing (is_set old) place)
  pub count : left + length (passing (is_set new) place) ≡ most
  pub rest : (k : ℕ) → place ≤ k → is_set new k ≡ is_set old k

module _ (most place left : ℕ) (old new : List Bool) (cut : IsCut most place left old new) where
  pub cut_skips : is_set new place ≡ false → IsCut most (place + 1) left old new
  cut_skips is =
      record {
        long = cut.long;
        kept = passing_no (is_set new) place is ∙ cut.kept ∙ ap (take most) (sym (passing_no (is_set old) place (sym (cut.rest place (omega arith)) ∙ is)));
        count = ap (λ (xs : List ℕ). left + length xs) (passing_no (is_set new) place is) ∙ cut.count;
        rest = λ k above. cut.rest k (omega (arith, above));
      }

  module _ (is : is_set new place ≡ true) where
    old_more : passing (is_set old) (place + 1) ≡ passing (is_set old) place ++ place ∷ []
    old_more = passing_yes (is_set old) place (sym (cut.rest place (omega arith)) ∙ is)

    pub cut_keeps : 0 < left → IsCut most (place + 1) (left - 1) old new
    cut_keeps some =
        record {
          long = cut.long;
          kept = passing_yes (is_set new) place is ∙ one_more most left place (passing (is_set new) place) (passing (is_set old) place) cut.kept cut.count some ∙ ap (take most) (sym old_more);
          count = omega (arith, cut.count, some, count_yes (is_set new) place is);
          rest = λ k above. cut.rest k (omega (arith, above));
        }

    pub cut_drops : place < length new → left ≡ 0 → IsCut most (place + 1) left old (set new place false)
    cut_drops b none =
        let other : (k : ℕ) → (k ≡ place → ⊥) → is_set (set new place false) k ≡ is_set new k = λ k apart. get_or-set_other new place k false false apart in
        let gone : is_set (set new place false) place ≡ false = get_or-set_same new place false false b in
        let same : passing (is_set (set new place false)) (place + 1) ≡ passing (is_set new) place =
        passing_no (is_set (set new place false)) place gone ∙ passing_same (is_set (set new place false)) (is_set new) place (λ i below. other i (λ e. omega (arith, e, below))) in
        record {
          long = length-set new place false ∙ cut.long;
          kept = same ∙ none_more most place (passing (is_set new) place) (passing (is_set old) place) cut.kept (omega (arith, cut.count, none)) ∙ ap (take most) (sym old_more);
          count = ap (λ (xs : List ℕ). left + length xs) same ∙ cut.count;
          rest = λ k above. other k (λ e. omega (arith, e, above)) ∙ cut.rest k (omega (arith, above));
        }

among_push : (xs : List ℕ) (k i : ℕ) → is_among (xs ++ k ∷ []) i ≡ (is_among xs i || (k == i))
among_push xs k i = list_any-append (λ n. n == i) xs (k ∷ []) ∙ ap (λ b. is_among xs i || b) (or_nothing (k == i))
  where
    or_nothing : (b : Bool) → (b || false) ≡ b
    or_nothing true = refl
    or_nothing false = refl

-- no place among those below a number is at or above it
pub passing_below : (p : ℕ → Bool) (n : ℕ) → All (λ i. i < n) (passing p n)
passing_below p n = All-filter p (λ i. i < n) (range_with_len 0 n) (places_below n)

-- the flags below a place after the first so many that pass joined, of which some are left
pub record AreJoined (p : ℕ → Bool) (most place left : ℕ) (old new : List Bool) : Type 0 where
  pub long : length new ≡ length old
  pub each : (i : ℕ) → i < place → is_set new i ≡ (is_set old i || is_among (take most (passing p place)) i)
  pub rest : (i : ℕ) → place ≤ i → is_set new i ≡ is_set old i
  pub count : left + length (take most (passing p place)) ≡ most

module _ (p : ℕ → Bool) (most place left : ℕ) (old new : List Bool) (are : AreJoined p most place left old new) where
  not_yet : is_among (take most (passing p place)) place ≡ false
  not_yet =
      list_any_none (λ k. k == place) (take most (passing p place))
      (All-weaker (λ i. i < place) (λ k. (k == place) ≡ false) (λ k below. ne_eqb k place (λ e. omega (arith, e, below))) (take most (passing p place)) (All-take (λ i. i < place) most (passing p place) (passing_below p place)))

  -- none joins
  pub joined_same : (left ≡ 0) ⊎ (p place ≡ false) → AreJoined p most (place + 1) left old new
  joined_same why =
      let same : take most (passing p (place + 1)) ≡ take most (passing p place) = no_more (p place) refl why in
      record {
        long = are.long;
        each = λ i below. elim (cases_eq i place) [
          | inl here ↦ subst (λ k. is_set new k ≡ (is_set old k || is_among (take most (passing p (place + 1))) k)) (sym here) (are.rest place (omega arith) ∙ sym (or_false (is_set old place)) ∙ ap (λ b. is_set old place || b) (sym not_yet ∙ ap (λ (xs : List ℕ). is_among xs place) (sym same)))
          | inr other ↦ are.each i (omega (arith, below, other)) ∙ ap (λ (xs : List ℕ). is_set old i || is_among xs i) (sym same)
        ];
        rest = λ i above. are.rest i (omega (arith, above));
        count = ap (λ (xs : List ℕ). left + length xs) same ∙ are.count;
      }
    where
      or_false : (b : Bool) → (b || false) ≡ b
      or_false true = refl
      or_false false = refl

      no_more : (b : Bool) → p place ≡ b → (left ≡ 0) ⊎ (p place ≡ false) → take most (passing p (place + 1)) ≡ take most (passing p place)
      no_more false is why = ap (take most) (passing_no p place is)
      no_more true is (inl none) = ap (take most) (passing_yes p place is) ∙ sym (none_more most place (take most (passing p place)) (passing p place) refl (omega (arith, are.count, none)))
      no_more true is (inr not) = absurd (both_ways (p place) not is)

  -- the place joins
  pub joined_more : place < length new → 0 < left → p place ≡ true → AreJoined p most (place + 1) (left - 1) old (set new place true)
  joined_more b some is =
      let more : take most (passing p (place + 1)) ≡ take most (passing p place) ++ place ∷ [] = ap (take most) (passing_yes p place is) ∙ sym (one_more most left place (take most (passing p place)) (passing p place) refl are.count some) in
      let among : (i : ℕ) → is_among (take most (passing p (place + 1))) i ≡ (is_among (take most (passing p place)) i || (place == i)) = λ i. ap (λ (xs : List ℕ). is_among xs i) more ∙ among_push (take most (passing p place)) place i in
      record {
        long = length-set new place true ∙ are.long;
        each = λ i below. elim (cases_eq i place) [
          | inl here ↦
              subst (λ k. is_set (set new place true) k ≡ (is_set old k || is_among (take most (passing p (place + 1))) k)) (sym here)
              (get_or-set_same new place true false b ∙ sym (or_right (is_set old place) _ (among place ∙ or_right _ _ (eq-eqb place place refl))))
          | inr other ↦
              get_or-set_other new place i true false other ∙ are.each i (omega (arith, below, other))
              ∙ ap (λ b. is_set old i || b) (sym (among i ∙ or_same (is_among (take most (passing p place)) i) (place == i) (ne_eqb place i (λ e. other (sym e)))))
        ];
        rest = λ i above. get_or-set_other new place i true false (λ e. omega (arith, e, above)) ∙ are.rest i (omega (arith, above));
        count = omega (arith, are.count, some, ap length more, length_push (take most (passing p place)) place);
      }
    where
      or_same : (a b : Bool) → b ≡ false → (a || b) ≡ a
      or_same true b e = refl
      or_same false b e = e

-- the same of numbers and flags that are equal
pub cut_as : (most place left left' : ℕ) (old new new' : List Bool) → left' ≡ left → new' ≡ new → IsCut most place left old new → IsCut most place left' old new'
cut_as most place left left' old new new' same_left same_new cut = subst (λ (w : ℕ × List Bool). IsCut most place w.0 old w.1) (λ n. (sym same_left n, sym same_new n)) cut

pub joined_as : (p : ℕ → Bool) (most place left left' : ℕ) (old new new' : List Bool) → left' ≡ left → new' ≡ new → AreJoined p most place left old new → AreJoined p most place left' old new'
joined_as p most place left left' old new new' same_left same_new are = subst (λ (w : ℕ × List Bool). AreJoined p most place w.0 old w.1) (λ n. (sym same_left n, sym same_new n)) are

-- at the end the first so many flags are left
pub cut_done : (most place left : ℕ) (old new : List Bool) → place ≡ length old → IsCut most place left old new → flagged new ≡ take most (flagged old)
cut_done most place left old new end cut = ap (passing (is_set new)) (cut.long ∙ sym end) ∙ cut.kept ∙ ap (λ n. take most (passing (is_set old) n)) end

-- a step of a loop that flags some places too
pub flags_more : (p : ℕ → Bool) (old new next : List Bool) (place : ℕ) → length new ≡ length old → ((i : ℕ) → i < place → is_set new i ≡ (p i || is_set old i)) → ((i : ℕ) → place ≤ i → is_set new i ≡ is_set old i) → place < length new
    → ((p place ≡ true) × (next ≡ set new place true)) ⊎ ((p place ≡ false) × (next ≡ new))
    → (length next ≡ length old) × ((i : ℕ) → i < place + 1 → is_set next i ≡ (p i || is_set old i)) × ((i : ℕ) → place + 1 ≤ i → is_set next i ≡ is_set old i)
flags_more p old new next place long each rest b (inl (passes, is)) =
    let next_at : (i : ℕ) → is_set next i ≡ is_set (set new place true) i = λ i. ap (λ (xs : List Bool). is_set xs i) is in (
      ap length is ∙ length-set new place true ∙ long,
      λ i below. elim (cases_eq i place) [
        | inl here ↦ subst (λ k. is_set next k ≡ (p k || is_set old k)) (sym here) (next_at place ∙ get_or-set_same new place true false b ∙ sym (or_left (p place) (is_set old place) passes))
        | inr other ↦ next_at i ∙ get_or-set_other new place i true false other ∙ each i (omega (arith, below, other))
      ],
      λ i above. next_at i ∙ get_or-set_other new place i true false (λ e. omega (arith, e, above)) ∙ rest i (omega (arith, above)),
    )
flags_more p old new next place long each rest b (inr (fails, is)) =
    let next_at : (i : ℕ) → is_set next i ≡ is_set new i = λ i. ap (λ (xs : List Bool). is_set xs i) is in (
      ap length is ∙ long,
      λ i below. elim (cases_eq i place) [
        | inl here ↦ subst (λ k. is_set next k ≡ (p k || is_set old k)) (sym here) (next_at place ∙ rest place (omega arith) ∙ sym (ap (λ b. b || is_set old place) fails))
        | inr other ↦ next_at i ∙ each i (omega (arith, below, other))
      ],
      λ i above. next_at i ∙ rest i (omega (arith, above)),
    )

-- the flagged places are those that pass
pub flagged_are : (p : ℕ → Bool) (n : ℕ) (flags : List Bool) → AreFlags p n flags → flagged flags ≡ passing p n
flagged_are p n flags are = ap (passing (is_set flags)) are.long ∙ passing_same (is_set flags) p n are.each

pub among-flagged : (flags : List Bool) (i : ℕ) → i < length flags → is_among (flagged flags) i ≡ is_set flags i
among-flagged flags i b =
    elim (cases_Bool (is_set flags i)) [
      | inl is ↦ contains-among (flagged flags) i (Contains-filter (is_set flags) (range_with_len 0 (length flags)) i (place-contained (length flags) i b) is) ∙ sym is
      | inr fails ↦ false_from_ne_true (is_among (flagged flags) i) (λ t. both_ways (is_set flags i) fails (passed (is_set flags) (range_with_len 0 (length flags)) i (among-contains (flagged flags) i t)).1) ∙ sym fails
    ]
