-- The choices after one more load, choice after choice.
use Rattle.std.proofs.Common.{◌≡◌, ℕ, ◌+◌, ◌<◌, ◌≤◌, sym, ap, ◌∙◌, arith, None, Some, List, [], ◌∷◌, length, get_or, drop, max}
use Rattle.std.specs.List.{filter_map}
use Rattle.std.proofs.lemmas.List.{drop_more, drop_all}
use Rattle.binary_knapsack.specs.Loads.{Load, Choice, worth_with, reach, taking_load}
use Rattle.binary_knapsack.proofs.Choices.{reach_of_none, reach_split, reach_taking_drop, at_most_reach, within_reach, with_load, with_load-Some, with_load-None}

-- the greatest of four numbers, grouped otherwise
grouped : (best n a f : ℕ) → max best (max n (max a f)) ≡ max (max best (max n a)) f
grouped best n a f = omega arith

paired : (best n a f : ℕ) → max best (max n (max a f)) ≡ max (max best n) (max a f)
paired best n a f = omega arith

-- what was passed over comes to the same, whatever else there is
passed : (best n0 n1 a0 a1 f : ℕ) → max best (max n1 a1) ≡ max best (max n0 a0) → max best (max n1 (max a1 f)) ≡ max best (max n0 (max a0 f))
passed best n0 n1 a0 a1 f same = grouped best n1 a1 f ∙ ap (λ m. max m f) same ∙ sym (grouped best n0 a0 f)

added : (best n1 n2 a w f : ℕ) → max best n2 ≡ max best (max n1 w) → max best (max n2 (max a f)) ≡ max best (max n1 (max a (max w f)))
added best n1 n2 a w f same =
    let regroup : max (max best (max n1 w)) (max a f) ≡ max best (max n1 (max a (max w f))) = omega arith in
    paired best n2 a f ∙ ap (λ m. max m (max a f)) same ∙ regroup

module _ (loads : List Load) (k : ℕ) (d : Load) (place : k < length loads) (choices : List Choice) where
  abbrev pub next_load : Load
  next_load = get_or loads k d

  abbrev pub rest_of : List Load
  rest_of = drop (k + 1) loads

  -- what is reached from a place on with the next load
  abbrev pub taken_from : ℕ → ℕ
  taken_from j = reach rest_of (filter_map (taking_load next_load) (drop j choices))

  whole : reach (drop k loads) choices ≡ reach (next_load ∷ rest_of) choices
  whole = ap (λ l. reach l choices) (drop_more loads k d place)

  pub merge_begin : (best : ℕ) (next : List Choice) → next ≡ [] → max best (max (reach rest_of next) (max (reach rest_of choices) (reach rest_of (filter_map (taking_load next_load) choices)))) ≡ max best (reach (drop k loads) choices)
  merge_begin best next e =
      omega (arith, whole, reach_split rest_of next_load choices, ap (reach rest_of) e, reach_of_none rest_of)

  -- a choice that the load fits into
  pub merge_with : (best n0 n1 n2 a0 a1 total j : ℕ) (c : Choice) (with : Choice) → j < length choices → taking_load next_load (get_or choices j c) ≡ Some with
      → max best (max n1 a1) ≡ max best (max n0 a0) → max best n2 ≡ max best (max n1 (worth_with rest_of with))
      → max best (max n0 (max a0 (taken_from j))) ≡ total → max best (max n2 (max a1 (taken_from (j + 1)))) ≡ total
  merge_with best n0 n1 n2 a0 a1 total j c with h takes pass add before =
      let w = worth_with rest_of with in
      let is : with_load rest_of (taking_load next_load (get_or choices j c)) ≡ w = ap (with_load rest_of) takes ∙ with_load-Some rest_of with in
      let split : taken_from j ≡ max w (taken_from (j + 1)) = reach_taking_drop rest_of next_load choices j c h ∙ ap (λ m. max m (taken_from (j + 1))) is in
      added best n1 n2 a1 w (taken_from (j + 1)) add
      ∙ passed best n0 n1 a0 a1 (max w (taken_from (j + 1))) pass
      ∙ ap (λ m. max best (max n0 (max a0 m))) (sym split)
      ∙ before

  -- a choice that has no room for it
  pub merge_without : (best n a total j : ℕ) (c : Choice) → j < length choices → taking_load next_load (get_or choices j c) ≡ None
      → max best (max n (max a (taken_from j))) ≡ total → max best (max n (max a (taken_from (j + 1)))) ≡ total
  merge_without best n a total j c h takes before =
      let is : with_load rest_of (taking_load next_load (get_or choices j c)) ≡ 0 = ap (with_load rest_of) takes ∙ with_load-None rest_of in
      let split : taken_from j ≡ taken_from (j + 1) = reach_taking_drop rest_of next_load choices j c h ∙ ap (λ m. max m (taken_from (j + 1))) is ∙ omega arith in
      ap (λ m. max best (max n (max a m))) (sym split) ∙ before

  -- no choice is left
  pub merge_end : (best n a total j : ℕ) → length choices ≤ j → max best (max n (max a (taken_from j))) ≡ total → max best (max n a) ≡ total
  merge_end best n a total j h before =
      omega (arith, before, ap (λ l. reach rest_of (filter_map (taking_load next_load) l)) (drop_all j choices h), reach_of_none rest_of)

  -- a choice with the next load is worth no more than what all come to
  pub worth_with_load : (j : ℕ) (c : Choice) (most : ℕ) → j < length choices → reach (drop k loads) choices < most
      → next_load.weight ≤ (get_or choices j c).room → (get_or choices j c).worth + next_load.worth < most
  worth_with_load j c most h small fits =
      omega (arith, small, whole, at_most_reach (next_load ∷ rest_of) choices j c h, within_reach rest_of next_load (get_or choices j c) fits)
