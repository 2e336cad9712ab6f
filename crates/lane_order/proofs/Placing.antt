-- A lane in its place among lanes that ascend by cost and then by place.
use Rattle.std.proofs.Common.{◌≡◌, ◌≢◌, ◌⊎◌, ℕ, zero, suc, ◌+◌, ◌-◌, ◌<◌, ◌≤◌, ◌==◌, ◌&&◌, ◌||◌, inl, inr, Bool, true, false, nat_lt, List, ◌∷◌, insert, remove, length, All, AllPairs, Contains, get_or, refl, sym, ap, subst, ◌∙◌, arith}
use Rattle.std.proofs.lemmas.Bool.{cases_order, cases_lt, ltb-true, lt-ltb, eqb-true, eq-eqb, false≢true}
use Rattle.std.proofs.lemmas.List.Edits.{length-insert, get_or-insert_below, get_or-insert_at, get_or-insert_above}
use Rattle.std.specs.List.Sorted.{IsPartitionedBy, IsPartitionPoint}
use Rattle.lane_order.specs.declared.order.PlacedLane.{PlacedLane}
use Rattle.std.specs.List.Sorted.{IsNonDecreasingBy}
use Rattle.std.proofs.lemmas.List.{get_or_default}
use Rattle.std.proofs.lemmas.List.Sorted.{IsPermutation-insert, IsPermutation-sym, Contains-permutation}
use Rattle.std.proofs.lemmas.List.Edits.{length-remove, get_or-remove_below, get_or-remove_above}
use Rattle.lane_order.specs.Listed.{IsPlacedBefore, IsNotBefore, is_placed_before, IsWith, IsWithout}

-- the order, over plain numbers
test_gives : (p q r s : ℕ) → (nat_lt p q || ((p == q) && nat_lt r s)) ≡ true → (p < q) ⊎ ((p ≡ q) × (r < s))
test_gives p q r s passes = by (nat_lt p q) refl (p == q) refl (nat_lt r s) refl passes
  where
    by : (a : Bool) → nat_lt p q ≡ a → (b : Bool) → (p == q) ≡ b → (c : Bool) → nat_lt r s ≡ c → (a || (b && c)) ≡ true → (p < q) ⊎ ((p ≡ q) × (r < s))
    by true less b _ c _ _ = inl (ltb-true p q less)
    by false _ true same true below _ = inr (eqb-true p q same, ltb-true r s below)
    by false _ true same false _ wrong = cc
    by false _ false _ c _ wrong = cc

or_true : (b : Bool) → (b || true) ≡ true
or_true true = refl
or_true false = refl

gives_test : (p q r s : ℕ) → (p < q) ⊎ ((p ≡ q) × (r < s)) → (nat_lt p q || ((p == q) && nat_lt r s)) ≡ true
gives_test p q r s before =
    elim before [
      | inl less ↦ ap (λ (b : Bool). b || ((p == q) && nat_lt r s)) (lt-ltb p q less)
      | inr tie ↦ (λ k. nat_lt p q || (eq-eqb p q tie.0 k && lt-ltb r s tie.1 k)) ∙ or_true (nat_lt p q)
    ]

pub before_both : (a b c : PlacedLane) → IsPlacedBefore a b → IsPlacedBefore b c → IsPlacedBefore a c
before_both a b c first second =
    elim first [
      | inl less ↦ elim second [ inl more ↦ inl (omega (arith, less, more)) | inr tie ↦ inl (omega (arith, less, tie.0)) ]
      | inr tie ↦ elim second [ inl more ↦ inl (omega (arith, tie.0, more)) | inr other ↦ inr (tie.0 ∙ other.0, omega (arith, tie.1, other.1)) ]
    ]

pub not_itself : (a : PlacedLane) → IsPlacedBefore a a → ⊥
not_itself a before = elim before [ inl less ↦ absurd (omega (arith, less)) | inr tie ↦ absurd (omega (arith, tie.1)) ]

-- of two lanes from different sites one comes before the other
pub one_before : (a b : PlacedLane) → a.site ≢ b.site → IsNotBefore a b → IsPlacedBefore b a
one_before a b apart not =
    elim (cases_order a.cost b.cost) [
      | inl same ↦
          elim (cases_order a.site b.site) [
            | inl one ↦ absurd (apart one)
            | inr other ↦ elim other [ inl less ↦ absurd (not (inr (same, less))) | inr more ↦ inr (sym same, more) ]
          ]
      | inr other ↦ elim other [ inl less ↦ absurd (not (inl less)) | inr more ↦ inl more ]
    ]

module _ (lanes : List PlacedLane) (ascending : AllPairs IsPlacedBefore lanes) (lane : PlacedLane) where
  abbrev comes_before : PlacedLane → Bool
  comes_before other = is_placed_before other lane

  pub parted : IsPartitionedBy comes_before lanes
  parted i j d up within passes =
      elim (cases_order i j) [
        | inl same ↦ subst (λ k. comes_before (get_or lanes k d) ≡ true) (sym same) passes
        | inr other ↦ elim other [
          | inl below ↦ gives_test _ _ _ _ (before_both (get_or lanes i d) (get_or lanes j d) lane (ascending i j d below within) (test_gives _ _ _ _ passes))
          | inr above ↦ absurd (omega (arith, above, up))
        ]
      ]

  pub point_of : (place : ℕ) → IsPartitionPoint (λ o. comes_before o ≡ true) (λ o. comes_before o ≡ false) lanes place → IsPartitionPoint (λ o. IsPlacedBefore o lane) (λ o. IsNotBefore o lane) lanes place
  point_of place point = (
    λ k d low high. test_gives _ _ _ _ (point.0 k d low high),
    λ k d low high before. false≢true (sym (point.1 k d low high) ∙ gives_test _ _ _ _ before),
  )

  module _ (place : ℕ) (point : IsPartitionPoint (λ o. IsPlacedBefore o lane) (λ o. IsNotBefore o lane) lanes place) where
    -- a lane that is there stands at its place
    pub there_at : (there : Contains lanes lane) → there.0 ≡ place
    there_at there =
        elim (cases_order there.0 place) [
          | inl same ↦ same
          | inr other ↦ elim other [
            | inl early ↦ absurd (not_itself lane (subst (λ (o : PlacedLane). IsPlacedBefore o lane) there.2 (point.0 there.0 lane (omega arith) early)))
            | inr late ↦
                absurd (point.1 place lane (omega arith) (omega (arith, late, there.1))
                (subst (λ (o : PlacedLane). IsPlacedBefore (get_or lanes place lane) o) there.2 (ascending place there.0 lane late there.1)))
          ]
        ]

    -- a lane from another site than all has all others before it or behind it
    pub behind : All (λ other. other.site ≢ lane.site) lanes → (k : ℕ) (d : PlacedLane) → place ≤ k → k < length lanes → IsPlacedBefore lane (get_or lanes k d)
    behind new k d low within = one_before (get_or lanes k d) lane (new k d within) (point.1 k d low within)

    pub ahead : (k : ℕ) (d : PlacedLane) → k < place → IsPlacedBefore (get_or lanes k d) lane
    ahead k d below = point.0 k d (omega arith) below

-- one more element, before and behind which all stand in order
module _ {X : Type 0} (R : X → X → Type 0) (xs : List X) (i : ℕ) (y : X) (pairs : AllPairs R xs) (within : i ≤ length xs)
    (early : (k : ℕ) (d : X) → k < i → R (get_or xs k d) y) (late : (k : ℕ) (d : X) → i ≤ k → k < length xs → R y (get_or xs k d)) where
  -- the element at a place beyond the new one
  beyond : (k : ℕ) (d : X) → i < k → get_or (insert xs i y) k d ≡ get_or xs (k - 1) d
  beyond k d above =
      let one : (k - 1) + 1 ≡ k = omega arith in
      ap (λ m. get_or (insert xs i y) m d) (sym one) ∙ get_or-insert_above xs i y d (k - 1) (omega arith) within

  pub all_pairs_insert : AllPairs R (insert xs i y)
  all_pairs_insert a b d less inside =
      let short : b < length xs + 1 = omega (arith, inside, length-insert xs i y within) in
      elim (cases_order b i) [
        | inl at ↦
            subst (λ (p : X × X). R p.0 p.1)
            (λ k. (sym (get_or-insert_below xs i y d a (omega (arith, less, at)) within) k, sym (ap (λ m. get_or (insert xs i y) m d) at ∙ get_or-insert_at xs i y d within) k)) (early a d (omega (arith, less, at)))
        | inr other ↦ elim other [
          | inl below ↦
              subst (λ (p : X × X). R p.0 p.1)
              (λ k. (sym (get_or-insert_below xs i y d a (omega (arith, less, below)) within) k, sym (get_or-insert_below xs i y d b below within) k)) (pairs a b d less (omega (arith, below, within)))
          | inr above ↦ later above short
        ]
      ]
    where
      later : i < b → b < length xs + 1 → R (get_or (insert xs i y) a d) (get_or (insert xs i y) b d)
      later above short =
          elim (cases_order a i) [
            | inl at ↦
                subst (λ (p : X × X). R p.0 p.1) (λ k. (sym (ap (λ m. get_or (insert xs i y) m d) at ∙ get_or-insert_at xs i y d within) k, sym (beyond b d above) k))
                (late (b - 1) d (omega (arith, above)) (omega (arith, above, short)))
            | inr other ↦ elim other [
              | inl below ↦
                  subst (λ (p : X × X). R p.0 p.1) (λ k. (sym (get_or-insert_below xs i y d a below within) k, sym (beyond b d above) k))
                  (pairs a (b - 1) d (omega (arith, below, above)) (omega (arith, above, short)))
              | inr past ↦
                  subst (λ (p : X × X). R p.0 p.1) (λ k. (sym (beyond a d past) k, sym (beyond b d above) k))
                  (pairs (a - 1) (b - 1) d (omega (arith, past, less)) (omega (arith, above, short)))
            ]
          ]

pub costs_rise : (lanes : List PlacedLane) → AllPairs IsPlacedBefore lanes → IsNonDecreasingBy (λ l. l.cost) lanes
costs_rise lanes ascending i k d up within =
    elim (cases_order i k) [
      | inl same ↦ subst (λ m. (get_or lanes i d).cost ≤ (get_or lanes m d).cost) same (omega arith)
      | inr other ↦ elim other [
        | inl below ↦ elim (ascending i k d below within) [ inl less ↦ omega (arith, less) | inr tie ↦ omega (arith, tie.0) ]
        | inr above ↦ absurd (omega (arith, above, up))
      ]
    ]

-- lanes with one more
pub with_one : (lanes : List PlacedLane) (place : ℕ) (lane : PlacedLane) → IsWith lane lanes (insert lanes place lane)
with_one lanes place lane =
    let moved = IsPermutation-insert lanes place lane in
    record {
      from = λ l there.
          let k = Contains-permutation (insert lanes place lane) (lane ∷ lanes) l (IsPermutation-sym _ _ moved) there in
          first_or_other k.0 l k.1 k.2;
      has = Contains-permutation (lane ∷ lanes) (insert lanes place lane) lane moved (0, omega arith, refl);
      kept = λ l k. Contains-permutation (lane ∷ lanes) (insert lanes place lane) l moved (suc k.0, omega (arith, k.1), k.2);
    }
  where
    first_or_other : (k : ℕ) (l : PlacedLane) → k < length (lane ∷ lanes) → get_or (lane ∷ lanes) k l ≡ l → (l ≡ lane) ⊎ Contains lanes l
    first_or_other zero l within is = inl (sym is)
    first_or_other (suc k) l within is = inr (k, omega (arith, within), is)

-- lanes without the one at a place
pub without_one : (lanes : List PlacedLane) (place : ℕ) (lane : PlacedLane) → AllPairs IsPlacedBefore lanes → place < length lanes → get_or lanes place lane ≡ lane → IsWithout lane lanes (remove lanes place)
without_one lanes place lane ascending within is = record { from = from; kept = kept; gone = λ there. gone there.0 there.1 there.2 }
  where
    shorter : length (remove lanes place) + 1 ≡ length lanes
    shorter = length-remove lanes place within

    from : (l : PlacedLane) → Contains (remove lanes place) l → Contains lanes l
    from l there =
        elim (cases_lt there.0 place) [
          | inl below ↦ (there.0, omega (arith, below, within), sym (get_or-remove_below lanes place l there.0 below within) ∙ there.2)
          | inr above ↦ (there.0 + 1, omega (arith, shorter, there.1), sym (get_or-remove_above lanes place l there.0 above within) ∙ there.2)
        ]

    kept : (l : PlacedLane) → Contains lanes l → (l ≡ lane → ⊥) → Contains (remove lanes place) l
    kept l there other =
        elim (cases_order there.0 place) [
          | inl same ↦ absurd (other (sym there.2 ∙ get_or_default lanes there.0 l lane there.1 ∙ ap (λ k. get_or lanes k lane) same ∙ is))
          | inr apart ↦ elim apart [
            | inl below ↦ (there.0, omega (arith, shorter, below, within), get_or-remove_below lanes place l there.0 below within ∙ there.2)
            | inr above ↦
                let one : (there.0 - 1) + 1 ≡ there.0 = omega (arith, above) in
                (there.0 - 1, omega (arith, shorter, above, there.1), get_or-remove_above lanes place l (there.0 - 1) (omega (arith, above)) within ∙ ap (λ k. get_or lanes k l) one ∙ there.2)
          ]
        ]

    gone : (k : ℕ) → k < length (remove lanes place) → get_or (remove lanes place) k lane ≡ lane → ⊥
    gone k inside at =
        elim (cases_lt k place) [
          | inl below ↦
              let here : get_or lanes k lane ≡ lane = sym (get_or-remove_below lanes place lane k below within) ∙ at in
              not_itself lane (subst (λ (p : PlacedLane × PlacedLane). IsPlacedBefore p.0 p.1) (λ n. (here n, is n)) (ascending k place lane below within))
          | inr above ↦
              let here : get_or lanes (k + 1) lane ≡ lane = sym (get_or-remove_above lanes place lane k above within) ∙ at in
              not_itself lane (subst (λ (p : PlacedLane × PlacedLane). IsPlacedBefore p.0 p.1) (λ n. (is n, here n)) (ascending place (k + 1) lane (omega (arith, above)) (omega (arith, shorter, inside))))
        ]
