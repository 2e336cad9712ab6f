-- What the customers take, one after the other.
use Rattle.std.proofs.Common.{◌≡◌, ℕ, ◌+◌, ◌≤◌, Bool, true, false, cond, List, [], ◌∷◌, ◌++◌, map, Option, None, Some, refl, sym, ap, subst, ◌∙◌, arith}
use Rattle.std.specs.Prelude.{Contains, All, ◌==◌, ◌&&◌, sum_by, filter}
use Rattle.std.specs.List.{fold}
use Rattle.std.proofs.lemmas.Bool.{and_parts, and_from, eqb-true, le-leb}
use Rattle.std.proofs.lemmas.List.{append-nil, append_assoc, map_push}
use Rattle.std.proofs.lemmas.List.Elements.{All-nil, All-push, filter-append}
use Rattle.std.proofs.lemmas.List.Folds.{fold_stays}
use Rattle.std.proofs.lemmas.List.Sums.{sum_by_push}
use Rattle.location_terms.specs.Instance.{Instance, site_at, customer_at}
use Rattle.location_terms.specs.Box.{Path, is_allowed, holds_demand}
use Rattle.plan_search.specs.Packed.{taken_at, takeable, cost_at, cheapest, with_lane, taking}
use Rattle.plan_search.proofs.Among.{passed, Contains-filter, Contains-first, Contains-later}
use Rattle.plan_search.proofs.Picked.{cheapest_is, cheapest_among, cheapest_some}

holds_nothing : (cap : Option ℕ) → holds_demand cap 0 ≡ true
holds_nothing None = refl
holds_nothing (Some cap) = le-leb 0 cap (omega arith)

pub holds_without : (cap : Option ℕ) (demand : ℕ) → cap ≡ None → holds_demand cap demand ≡ true
holds_without None demand e = refl
holds_without (Some cap) demand e = cc

module _ (I : Instance) where
  taken_with : (taken : List (ℕ × ℕ)) (t : ℕ × ℕ) (i : ℕ) (b : Bool) → (t.1 == i) ≡ b → taken_at I (taken ++ t ∷ []) i ≡ taken_at I taken i + cond b (customer_at I t.0).demand 0
  taken_with taken t i true e =
      ap (sum_by (λ (u : ℕ × ℕ). (customer_at I u.0).demand)) (filter-append (λ u. u.1 == i) taken (t ∷ []) ∙ ap (λ b. filter (λ (u : ℕ × ℕ). u.1 == i) taken ++ cond b (t ∷ []) []) e)
      ∙ sum_by_push (λ u. (customer_at I u.0).demand) (filter (λ u. u.1 == i) taken) t
  taken_with taken t i false e =
      ap (sum_by (λ (u : ℕ × ℕ). (customer_at I u.0).demand)) (filter-append (λ u. u.1 == i) taken (t ∷ []) ∙ ap (λ b. filter (λ (u : ℕ × ℕ). u.1 == i) taken ++ cond b (t ∷ []) []) e ∙ append-nil (filter (λ u. u.1 == i) taken))
      ∙ omega arith

  -- what a pair at the end adds to what is taken at a site
  pub taken_push : (taken : List (ℕ × ℕ)) (t : ℕ × ℕ) (i : ℕ) → taken_at I (taken ++ t ∷ []) i ≡ taken_at I taken i + cond (t.1 == i) (customer_at I t.0).demand 0
  taken_push taken t i = taken_with taken t i (t.1 == i) refl

module _ (I : Instance) (path : Path) (sites : List ℕ) where
  -- no allowed lane from one of the sites that has no capacity is cheaper than the one taken
  abbrev pub IsCheapestLane : ℕ × ℕ → Type 0
  IsCheapestLane t = (i : ℕ) → Contains sites i → is_allowed I path (site_at I i) (customer_at I t.0) ≡ true → (site_at I i).cap ≡ None → cost_at I t.1 t.0 ≤ cost_at I i t.0

  -- these customers took these lanes
  pub record AreTaken (js : List ℕ) (taken : List (ℕ × ℕ)) : Type 0 where
    pub customers : map (λ t. t.0) taken ≡ js
    pub chosen : All (λ t. Contains sites t.1) taken
    pub allowed : All (λ t. is_allowed I path (site_at I t.1) (customer_at I t.0) ≡ true) taken
    pub room : (i : ℕ) → holds_demand (site_at I i).cap (taken_at I taken i) ≡ true
    pub cheap : All IsCheapestLane taken

  pub none_taken : AreTaken [] []
  none_taken = record {
    customers = refl;
    chosen = All-nil (λ t. Contains sites t.1);
    allowed = All-nil (λ t. is_allowed I path (site_at I t.1) (customer_at I t.0) ≡ true);
    room = λ i. holds_nothing (site_at I i).cap;
    cheap = All-nil IsCheapestLane;
  }

  -- the test by which a site is takeable
  abbrev pub is_takeable : List (ℕ × ℕ) → ℕ → ℕ → Bool
  is_takeable taken j i = is_allowed I path (site_at I i) (customer_at I j) && holds_demand (site_at I i).cap (taken_at I taken i + (customer_at I j).demand)

  room_left : (taken : List (ℕ × ℕ)) (j i k : ℕ) (b : Bool) → (i == k) ≡ b → holds_demand (site_at I k).cap (taken_at I taken k) ≡ true → holds_demand (site_at I i).cap (taken_at I taken i + (customer_at I j).demand) ≡ true
      → holds_demand (site_at I k).cap (taken_at I taken k + cond b (customer_at I j).demand 0) ≡ true
  room_left taken j i k true e before here = subst (λ n. holds_demand (site_at I n).cap (taken_at I taken n + (customer_at I j).demand) ≡ true) (eqb-true i k e) here
  room_left taken j i k false e before here = let same : taken_at I taken k + 0 ≡ taken_at I taken k = omega arith in rw same before

  -- one customer more
  pub one_takes : (js : List ℕ) (taken : List (ℕ × ℕ)) (j i : ℕ) → AreTaken js taken → cheapest I j (takeable I path sites taken j) ≡ Some i → AreTaken (js ++ j ∷ []) (taken ++ (j, i) ∷ [])
  one_takes js taken j i are some =
      let in_both : Contains sites i × (is_takeable taken j i ≡ true) = passed (is_takeable taken j) sites i (cheapest_among I j (takeable I path sites taken j) i some) in
      let parts : (is_allowed I path (site_at I i) (customer_at I j) ≡ true) × (holds_demand (site_at I i).cap (taken_at I taken i + (customer_at I j).demand) ≡ true) = and_parts _ _ in_both.1 in
      record {
        customers = map_push (λ t. t.0) taken (j, i) ∙ ap (λ xs. xs ++ j ∷ []) are.customers;
        chosen = All-push (λ t. Contains sites t.1) taken (j, i) are.chosen in_both.0;
        allowed = All-push (λ t. is_allowed I path (site_at I t.1) (customer_at I t.0) ≡ true) taken (j, i) are.allowed parts.0;
        room = λ k. subst (λ n. holds_demand (site_at I k).cap n ≡ true) (sym (taken_push I taken (j, i) k)) (room_left taken j i k (i == k) refl (are.room k) parts.1);
        cheap = All-push IsCheapestLane taken (j, i) are.cheap (cheap_now i some);
      }
    where
      cheap_now : (i : ℕ) → cheapest I j (takeable I path sites taken j) ≡ Some i → IsCheapestLane (j, i)
      cheap_now i some k c may no_cap =
          let can : is_takeable taken j k ≡ true = and_from _ _ may (holds_without (site_at I k).cap (taken_at I taken k + (customer_at I j).demand) no_cap) in
          let there : Contains (takeable I path sites taken j) k = Contains-filter (is_takeable taken j) sites k c can in
          subst (λ x. cost_at I i j ≤ cost_at I x j) there.2 ((cheapest_is I j (takeable I path sites taken j) i some).least there.0 k there.1)

  -- nothing is taken any more once one found no lane
  stuck : (js : List ℕ) → fold (taking I path sites) None js ≡ None
  stuck js = fold_stays (taking I path sites) None (λ j. refl) js

  -- all of them, one after the other
  pub all_take : (js done : List ℕ) (before taken : List (ℕ × ℕ)) → AreTaken done before → fold (taking I path sites) (Some before) js ≡ Some taken → AreTaken (done ++ js) taken
  all_take [] done before taken are some =
      let same : before ≡ taken = cc in
      subst (λ xs. AreTaken xs taken) (sym (append-nil done)) (subst (λ xs. AreTaken done xs) same are)
  all_take (j ∷ js) done before taken are some =
      by (cheapest I j (takeable I path sites before j)) refl (λ i is rest. all_take js (done ++ j ∷ []) (before ++ (j, i) ∷ []) taken (one_takes done before j i are is) rest) some
    where
      by : (o : Option ℕ) → cheapest I j (takeable I path sites before j) ≡ o
          → ((i : ℕ) → cheapest I j (takeable I path sites before j) ≡ Some i → fold (taking I path sites) (Some (before ++ (j, i) ∷ [])) js ≡ Some taken → AreTaken ((done ++ j ∷ []) ++ js) taken)
          → fold (taking I path sites) (with_lane before j o) js ≡ Some taken → AreTaken (done ++ j ∷ js) taken
      by None is rest some = let none = stuck js in cc
      by (Some i) is rest some = subst (λ xs. AreTaken xs taken) (append_assoc done (j ∷ []) js) (rest i is some)

  -- where each always finds a lane, all take one
  pub all_find : (js : List ℕ) (before : List (ℕ × ℕ)) → ((j : ℕ) (taken : List (ℕ × ℕ)) → Contains js j → (i : ℕ) × Contains (takeable I path sites taken j) i) → fold (taking I path sites) (Some before) js ≡ None → ⊥
  all_find [] before finds none = cc
  all_find (j ∷ js) before finds none =
      by (cheapest I j (takeable I path sites before j)) refl (λ i rest. all_find js (before ++ (j, i) ∷ []) (λ k taken c. finds k taken (Contains-later js j k c)) rest) none
    where
      by : (o : Option ℕ) → cheapest I j (takeable I path sites before j) ≡ o → ((i : ℕ) → fold (taking I path sites) (Some (before ++ (j, i) ∷ [])) js ≡ None → ⊥) → fold (taking I path sites) (with_lane before j o) js ≡ None → ⊥
      by None is rest none = let found : (i : ℕ) × Contains (takeable I path sites before j) i = finds j before (Contains-first js j) in cheapest_some I j (takeable I path sites before j) found.0 found.1 is
      by (Some i) is rest none = rest i none
