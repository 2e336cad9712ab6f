-- Without capacities and with a free number of open sites a hint's free sites are all chosen, and a plan is packed where each customer has a lane from a chosen site.
use Rattle.std.proofs.Common.{◌≡◌, ℕ, ◌+◌, ◌-◌, ◌<◌, ◌≤◌, Bool, true, false, cond, List, [], ◌∷◌, ◌++◌, length, take, Option, None, Some, option_map, refl, sym, subst, arith}
use Rattle.std.specs.Prelude.{Contains, All, ◌&&◌, ◌||◌, not, filter, nat_le}
use Rattle.std.proofs.lemmas.Bool.{and_parts, and_from, or_right, le-leb}
use Rattle.std.proofs.lemmas.List.{take_all}
use Rattle.std.proofs.lemmas.List.Elements.{All-append, All-take, All-contains, All-weaker, All-head, All-tail, filter_passes, Contains-append_left}
use Rattle.std.proofs.lemmas.List.FromFn.{length-range_with_len}
use Rattle.std.proofs.lemmas.List.Sums.{length-filter, count_by-le-length}
use Rattle.std.proofs.lemmas.List.Sorted.{Contains-permutation, IsPermutation-sym}
use Rattle.location_terms.specs.Instance.{Instance, site_at, customer_at}
use Rattle.location_terms.specs.Plan.{Plan}
use Rattle.location_terms.specs.Box.{Path, is_called_for, is_closed, is_opened, is_free, is_allowed}
use Rattle.dual_ascent.specs.Levels.{site_places, customer_places}
use Rattle.plan_search.specs.InBox.{HasNoCaps}
use Rattle.plan_search.specs.Packed.{is_among, opened_places, hinted, unhinted, joined, remaining, chosen, by_falling_demand, takeable, all_taken, plan_of, packed}
use Rattle.plan_search.proofs.Among.{among-contains, contains-among, Contains-filter, place-contained, contained-place, of_places}
use Rattle.plan_search.proofs.Queue.{turns_move}
use Rattle.plan_search.proofs.OpenSites.{chosen_below}
use Rattle.plan_search.proofs.Taken.{is_takeable, all_find, holds_without}
use Rattle.tree_search.specs.Answer.{HasFreeCount}

module _ {X : Type 0} where
  two_heads : (x : X) (a b : Bool) (ps qs xs : List X) → (a ≡ true → b ≡ true → ⊥) → length ps + length qs ≤ length xs → length (cond a (x ∷ ps) ps) + length (cond b (x ∷ qs) qs) ≤ length (x ∷ xs)
  two_heads x true true ps qs xs clash rest = absurd (clash refl refl)
  two_heads x true false ps qs xs clash rest = omega (arith, rest)
  two_heads x false true ps qs xs clash rest = omega (arith, rest)
  two_heads x false false ps qs xs clash rest = omega (arith, rest)

  -- two tests that no element passes both
  two_tests : (p q : X → Bool) (xs : List X) → All (λ x. p x ≡ true → q x ≡ true → ⊥) xs → length (filter p xs) + length (filter q xs) ≤ length xs
  two_tests p q [] apart = omega arith
  two_tests p q (x ∷ xs) apart =
      two_heads x (p x) (q x) (filter p xs) (filter q xs) xs (All-head (λ y. p y ≡ true → q y ≡ true → ⊥) x xs apart)
      (two_tests p q xs (All-tail (λ y. p y ≡ true → q y ≡ true → ⊥) x xs apart))

  fewer_pass : (p : X → Bool) (xs : List X) → length (filter p xs) ≤ length xs
  fewer_pass p xs = omega (arith, length-filter p xs, count_by-le-length p xs)

opened_not_free : (called closed : Bool) → (called && not closed) ≡ true → (not called && not closed) ≡ true → ⊥
opened_not_free true closed e f = cc
opened_not_free false closed e f = cc

pub plan_by : {X : Type 0} (make : X → Plan) (b : Bool) (o : Option X) → b ≡ true → (o ≡ None → ⊥) → (P : Plan) × (cond b (option_map make o) None ≡ Some P)
plan_by make true None e some = absurd (some refl)
plan_by make true (Some x) e some = (make x, refl)
plan_by make false o e some = cc

module _ (I : Instance) (path : Path) (hint : List ℕ) (free_count : HasFreeCount I) where
  abbrev missing : ℕ
  missing = I.lo - (length (opened_places I path) + length (hinted I path hint))

  -- what may join the opened sites
  abbrev both : List ℕ
  both = hinted I path hint ++ take missing (unhinted I path hint)

  abbrev IsFreeAt : ℕ → Type 0
  IsFreeAt i = is_free path (site_at I i) ≡ true

  passing_free : (p : ℕ → Bool) → All IsFreeAt (filter (λ i. is_free path (site_at I i) && p i) (site_places I))
  passing_free p =
      All-weaker (λ i. (is_free path (site_at I i) && p i) ≡ true) IsFreeAt (λ i t. (and_parts _ _ t).0) (filter (λ i. is_free path (site_at I i) && p i) (site_places I))
      (filter_passes (λ i. is_free path (site_at I i) && p i) (site_places I))

  both_free : All IsFreeAt both
  both_free =
      All-append IsFreeAt (hinted I path hint) (take missing (unhinted I path hint)) (passing_free (λ i. is_among hint (site_at I i).id))
      (All-take IsFreeAt missing (unhinted I path hint) (passing_free (λ i. not (is_among hint (site_at I i).id))))

  -- opened and joined sites are within the greatest number
  none_too_many : length (opened_places I path) + length (joined I path hint) ≤ I.hi
  none_too_many =
      let fit : length (opened_places I path) + length (joined I path hint) ≤ length (site_places I) =
      two_tests (λ i. is_opened path (site_at I i)) (is_among both) (site_places I)
      (of_places (λ i. is_opened path (site_at I i) ≡ true → is_among both i ≡ true → ⊥) (length I.sites)
      (λ i b opened among. opened_not_free (is_called_for path (site_at I i)) (is_closed path (site_at I i)) opened (All-contains IsFreeAt both i both_free (among-contains both i among)))) in
      omega (arith, fit, length-range_with_len 0 (length I.sites), free_count.hi)

  -- so none leaves
  all_remain : remaining I path hint ≡ joined I path hint
  all_remain = take_all (length (joined I path hint) - ((length (opened_places I path) + length (joined I path hint)) - I.hi)) (joined I path hint) (omega (arith, none_too_many))

  -- a free site of the hint is chosen
  pub hinted_chosen : (i : ℕ) → i < length I.sites → is_free path (site_at I i) ≡ true → is_among hint (site_at I i).id ≡ true → Contains (chosen I path hint) i
  hinted_chosen i b free among =
      let place : Contains (site_places I) i = place-contained (length I.sites) i b in
      let hints : Contains (hinted I path hint) i = Contains-filter (λ k. is_free path (site_at I k) && is_among hint (site_at I k).id) (site_places I) i place (and_from _ _ free among) in
      let joins : Contains (joined I path hint) i = Contains-filter (is_among both) (site_places I) i place (contains-among both i (Contains-append_left (hinted I path hint) (take missing (unhinted I path hint)) i hints)) in
      let remains : Contains (remaining I path hint) i = subst (λ xs. Contains xs i) (sym all_remain) joins in
      Contains-filter (λ k. is_opened path (site_at I k) || is_among (remaining I path hint) k) (site_places I) i place (or_right _ _ (contains-among (remaining I path hint) i remains))

  module _ (no_caps : HasNoCaps I) where
    abbrev sites : List ℕ
    sites = chosen I path hint

    count_fits : (nat_le I.lo (length sites) && nat_le (length sites) I.hi) ≡ true
    count_fits =
        let few : length sites ≤ length (site_places I) = fewer_pass (λ i. is_opened path (site_at I i) || is_among (remaining I path hint) i) (site_places I) in
        and_from _ _ (le-leb I.lo (length sites) (omega (arith, free_count.lo))) (le-leb (length sites) I.hi (omega (arith, few, length-range_with_len 0 (length I.sites), free_count.hi)))

    -- a plan is packed where each customer has a lane from a chosen site
    pub served_packs : ((j : ℕ) → j < length I.customers → (i : ℕ) × Contains sites i × (is_allowed I path (site_at I i) (customer_at I j) ≡ true)) → (P : Plan) × (packed I path hint ≡ Some P)
    served_packs each =
        let finds : (j : ℕ) (taken : List (ℕ × ℕ)) → Contains (by_falling_demand I) j → (i : ℕ) × Contains (takeable I path sites taken j) i =
        λ j taken c.
        let turn : Contains (customer_places I) j = Contains-permutation (by_falling_demand I) (customer_places I) j (IsPermutation-sym (customer_places I) (by_falling_demand I) (turns_move I)) c in
        let by : (i : ℕ) × Contains sites i × (is_allowed I path (site_at I i) (customer_at I j) ≡ true) = each j (contained-place (length I.customers) j turn) in
        (by.0, Contains-filter (is_takeable I path sites taken j) sites by.0 by.1 (and_from _ _ by.2 (holds_without _ _ (no_caps by.0 _ (chosen_below I path hint by.0 by.1))))) in
        plan_by (plan_of I sites) (nat_le I.lo (length sites) && nat_le (length sites) I.hi) (all_taken I path sites) count_fits (all_find I path sites (by_falling_demand I) [] finds)
