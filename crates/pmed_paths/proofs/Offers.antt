-- What a search for cheapest walks keeps: offers, and what comes of them.
use Rattle.std.proofs.Common.{◌≡◌, ℕ, zero, suc, ◌+◌, ◌<◌, ◌≤◌, List, [], ◌∷◌, map, length, All, Contains, ◌⊎◌, inl, inr, IsPermutation, slice_index, slice_index_or, slice_set, sum_by, refl, sym, ap, subst, ◌∙◌, arith}
use Rattle.std.proofs.lemmas.Bool.{cases_eq, cases_lt}
use Rattle.std.proofs.lemmas.List.{length-set, get_or-set_same, get_or-set_other}
use Rattle.std.proofs.lemmas.List.Sums.{sum_by-set}
use Rattle.std.proofs.lemmas.List.Sorted.{Contains-permutation, All-permutation, length_permutation}
use Rattle.std.proofs.lemmas.List.Elements.{All-nil, All-cons, All-head, All-tail, Contains-get_or}
use Rattle.std.specs.BinaryHeap.{heap_items}
use Rattle.std.specs.declared.collections.binary_heap.BinaryHeap.{BinaryHeap}
use Rattle.std.specs.declared.cmp.Reverse.{Reverse}
use Rattle.pmed_paths.specs.declared.arcs.Arc.{Arc}
use Rattle.pmed_paths.specs.Labels.{through, offers, IsOffered, IsBetter, IsVia, IsGone}

abbrev Queue : Type 0
Queue = List (ℕ × ℕ)

-- an element stands first, or further back
pub Contains-first : {X : Type 0} (x : X) (xs : List X) → Contains (x ∷ xs) x
Contains-first x xs = (0, omega arith, refl)

pub Contains-later : {X : Type 0} (y x : X) (xs : List X) → Contains xs x → Contains (y ∷ xs) x
Contains-later y x xs c = (suc c.0, omega (arith, c.1), c.2)

pub Contains-cases : {X : Type 0} (y x : X) (xs : List X) → Contains (y ∷ xs) x → (y ≡ x) ⊎ Contains xs x
Contains-cases {X} y x xs c = by c.0 c.1 c.2
  where
    by : (k : ℕ) → k < suc (length xs) → slice_index_or (y ∷ xs) k x ≡ x → (y ≡ x) ⊎ Contains xs x
    by zero below is = inl is
    by (suc k) below is = inr (k, omega (arith, below), is)

pub better-refl : (L : List ℕ) (H : Queue) → IsBetter L H L H
better-refl L H = record {
  same_length = refl;
  lower = λ u. omega arith;
  kept = λ label u c. c;
  waits = λ u. inl refl;
  fewer = omega arith;
  inside = λ all. all;
}

pub better-trans : (L L' L'' : List ℕ) (H H' H'' : Queue) → IsBetter L H L' H' → IsBetter L' H' L'' H'' → IsBetter L H L'' H''
better-trans L L' L'' H H' H'' a b = record {
  same_length = b.same_length ∙ a.same_length;
  lower = λ u. omega (arith, a.lower u, b.lower u);
  kept = λ label u c. b.kept label u (a.kept label u c);
  waits = λ u. elim (b.waits u) [
    | inl same ↦ elim (a.waits u) [
      | inl before ↦ inl (same ∙ before)
      | inr there ↦ inr (subst (λ l. Contains H'' (l, u)) (sym same) (b.kept (slice_index L' u) u there))
    ]
    | inr there ↦ inr there
  ];
  fewer = omega (arith, a.fewer, b.fewer);
  inside = λ all. b.inside (a.inside all);
}

set-lower : (L : List ℕ) (v cost u : ℕ) → v < length L → cost < slice_index L v → slice_index (slice_set L v cost) u ≤ slice_index L u
set-lower L v cost u inside less =
    elim (cases_eq u v) [
      | inl same ↦
          let here : slice_index (slice_set L v cost) v ≡ cost = get_or-set_same L v cost 0 inside in
          subst (λ x. slice_index (slice_set L v cost) x ≤ slice_index L x) (sym same) (omega (arith, here, less))
      | inr other ↦
          let there : slice_index (slice_set L v cost) u ≡ slice_index L u = get_or-set_other L v u cost 0 other in
          omega (arith, there)
    ]

better-set : (L : List ℕ) (H : Queue) (v cost : ℕ) (H' : Queue) → v < length L → cost < slice_index L v → IsPermutation ((cost, v) ∷ H) H' → IsBetter L H (slice_set L v cost) H'
better-set L H v cost H' inside less same =
    let here : slice_index (slice_set L v cost) v ≡ cost = get_or-set_same L v cost 0 inside in
    let sum : sum_by (λ x. x) (slice_set L v cost) + slice_index L v ≡ sum_by (λ x. x) L + cost = sum_by-set (λ x. x) L v cost 0 inside in
    let longer : length H' ≡ suc (length H) = length_permutation ((cost, v) ∷ H) H' same in
    let kept_length : length (slice_set L v cost) ≡ length L = length-set L v cost in
    record {
      same_length = kept_length;
      lower = λ u. set-lower L v cost u inside less;
      kept = λ label u c. Contains-permutation ((cost, v) ∷ H) H' (label, u) same (Contains-later (cost, v) (label, u) H c);
      waits = λ u. elim (cases_eq u v) [
        | inl is ↦ inr (subst (λ x. Contains H' (slice_index (slice_set L v cost) x, x)) (sym is) (subst (λ l. Contains H' (l, v)) (sym here) (Contains-permutation ((cost, v) ∷ H) H' (cost, v) same (Contains-first (cost, v) H))))
        | inr other ↦ inl (get_or-set_other L v u cost 0 other)
      ];
      fewer = omega (arith, sum, longer, less);
      inside = λ all. subst (λ n. All (λ e. e.1 < n) H') (sym kept_length) (All-permutation (λ e. e.1 < length L) ((cost, v) ∷ H) H' same (All-cons (λ (e : ℕ × ℕ). e.1 < length L) (cost, v) H inside all));
    }

-- an offer only makes labels better
pub better-offered : (L : List ℕ) (H : Queue) (v cost : ℕ) (L' : List ℕ) (H' : Queue) → v < length L → IsOffered L H v cost L' H' → IsBetter L H L' H'
better-offered L H v cost L' H' inside offered =
    elim offered [
      | inl refused ↦ subst (λ l. IsBetter L H l H') (sym refused.1) (subst (λ h. IsBetter L H L h) (sym refused.2) (better-refl L H))
      | inr taken ↦ subst (λ l. IsBetter L H l H') (sym taken.1) (better-set L H v cost H' inside taken.0 taken.2)
    ]

-- then the label is at most what was offered
pub offered-at_most : (L : List ℕ) (H : Queue) (v cost : ℕ) (L' : List ℕ) (H' : Queue) → v < length L → IsOffered L H v cost L' H' → slice_index L' v ≤ cost
offered-at_most L H v cost L' H' inside offered =
    elim offered [
      | inl refused ↦ subst (λ l. slice_index l v ≤ cost) (sym refused.1) refused.0
      | inr taken ↦ subst (λ l. slice_index l v ≤ cost) (sym taken.1) (let here : slice_index (slice_set L v cost) v ≡ cost = get_or-set_same L v cost 0 inside in omega (arith, here))
    ]

-- each label is as it was, or what was offered
pub offered-from : (L : List ℕ) (H : Queue) (v cost : ℕ) (L' : List ℕ) (H' : Queue) → v < length L → IsOffered L H v cost L' H' → (u : ℕ) → (slice_index L' u ≡ slice_index L u) ⊎ ((v ≡ u) × (slice_index L' u ≡ cost))
offered-from L H v cost L' H' inside offered u =
    elim offered [
      | inl refused ↦ inl (ap (λ l. slice_index l u) refused.1)
      | inr taken ↦ elim (cases_eq u v) [
        | inl same ↦ inr (sym same, ap (λ l. slice_index l u) taken.1 ∙ ap (λ x. slice_index (slice_set L v cost) x) same ∙ get_or-set_same L v cost 0 inside)
        | inr other ↦ inl (ap (λ l. slice_index l u) taken.1 ∙ get_or-set_other L v u cost 0 other)
      ]
    ]

-- no arc was offered yet
pub gone-start : (row : List Arc) (label : ℕ) (L : List ℕ) (H : Queue) → IsGone row label 0 L H L H
gone-start row label L H = record { better = better-refl L H; relaxed = λ j d below _. absurd (omega (arith, below)); from = λ u. inl refl }

same_at : (xs : List Arc) (i : ℕ) (d e : Arc) → i < length xs → slice_index_or xs i d ≡ slice_index_or xs i e
same_at [] i d e below = absurd (omega (arith, below))
same_at (x ∷ xs) zero d e below = refl
same_at (x ∷ xs) (suc i) d e below = same_at xs i d e (omega (arith, below))

-- one more arc was offered
pub gone-more : (row : List Arc) (label k : ℕ) (L : List ℕ) (H : Queue) (L' : List ℕ) (H' : Queue) (L'' : List ℕ) (H'' : Queue) (e : Arc) (cost : ℕ) → k < length row → (slice_index_or row k e).to < length L' → cost ≡ through label (slice_index_or row k e).cost
    → IsGone row label k L H L' H' → IsOffered L' H' (slice_index_or row k e).to cost L'' H'' → IsGone row label (k + 1) L H L'' H''
gone-more row label k L H L' H' L'' H'' e cost below inside value gone offered =
    let a = slice_index_or row k e in
    let step = better-offered L' H' a.to cost L'' H'' inside offered in
    record {
      better = better-trans L L' L'' H H' H'' gone.better step;
      relaxed = λ j d before within. elim (cases_lt j k) [
        | inl earlier ↦ omega (arith, gone.relaxed j d earlier within, step.lower (slice_index_or row j d).to)
        | inr here ↦
            let same : j ≡ k = omega (arith, here, before) in
            let it : slice_index_or row j d ≡ a = ap (λ i. slice_index_or row i d) same ∙ same_at row k d e below in
            subst (λ x. slice_index L'' x.to ≤ through label x.cost) (sym it) (omega (arith, offered-at_most L' H' a.to cost L'' H'' inside offered, value))
      ];
      from = λ u. elim (offered-from L' H' a.to cost L'' H'' inside offered u) [
        | inl same ↦ elim (gone.from u) [
          | inl before ↦ inl (same ∙ before)
          | inr via ↦ inr (subst (IsVia row label u) (sym same) via)
        ]
        | inr taken ↦ inr (record { over = a; known = Contains-get_or row k e below; leads = taken.0; value = taken.1 ∙ value })
      ];
    }

-- what is taken from the queue has its place among the labels, and so has what is left
pub taken-inside : (n : ℕ) (H H' : Queue) (cost v : ℕ) → All (λ e. e.1 < n) H → IsPermutation H ((cost, v) ∷ H') → v < n
taken-inside n H H' cost v all same = All-head (λ (e : ℕ × ℕ). e.1 < n) (cost, v) H' (All-permutation (λ (e : ℕ × ℕ). e.1 < n) H ((cost, v) ∷ H') same all)

pub rest-inside : (n : ℕ) (H H' : Queue) (cost v : ℕ) → All (λ e. e.1 < n) H → IsPermutation H ((cost, v) ∷ H') → All (λ e. e.1 < n) H'
rest-inside n H H' cost v all same = All-tail (λ (e : ℕ × ℕ). e.1 < n) (cost, v) H' (All-permutation (λ (e : ℕ × ℕ). e.1 < n) H ((cost, v) ∷ H') same all)

pub rest-shorter : (H H' : Queue) (cost v : ℕ) → IsPermutation H ((cost, v) ∷ H') → length H' + 1 ≡ length H
rest-shorter H H' cost v same = let as_long : suc (length H') ≡ length H = length_permutation H ((cost, v) ∷ H') same in omega (arith, as_long)

-- what waits once one vertex was offered a label
pub begun-inside : (L : List ℕ) (v cost : ℕ) (L' : List ℕ) (H' : Queue) → v < length L → IsOffered L [] v cost L' H' → All (λ e. e.1 < length L') H'
begun-inside L v cost L' H' inside offered = (better-offered L [] v cost L' H' inside offered).inside (All-nil (λ (e : ℕ × ℕ). e.1 < length L))

-- nothing waits in an empty heap
pub no_offers : {Z : Type 0} (h : BinaryHeap (Reverse (ℕ × ℕ)) Z) → heap_items h ≡ [] → offers h ≡ []
no_offers h none = ap (λ (xs : List (Reverse (ℕ × ℕ))). map (λ r. r.0) xs) none
