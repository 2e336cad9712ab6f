-- What a site collects at most from whole customers is the greatest worth of a set of items that fits.
use Rattle.std.proofs.Common.{◌≡◌, ℕ, ◌+◌, refl, sym, ap, ◌∙◌, Bool, true, false, cond, List, [], ◌∷◌, ◌++◌, map, ℤ, pos, ◌+ℤ◌}
use Rattle.std.specs.Prelude.{filter, fold}
use Rattle.std.specs.Int.{int_max}
use Rattle.std.proofs.lemmas.List.{map-append}
use Rattle.std.proofs.lemmas.List.Folds.{fold-map}
use Rattle.std.proofs.lemmas.List.Elements.{filter_agree}
use Rattle.location_terms.specs.Instance.{Instance, site_at}
use Rattle.location_terms.specs.Box.{Path, holds_demand}
use Rattle.location_terms.specs.Bound.{Duals}
use Rattle.location_terms.specs.Knapsack.{servable, surplus_at, demand_of_set, best_set, sets_that_fit as sets_at_site, sets_of as sets_of_places, worth_of as worth_at_site}
use Rattle.binary_knapsack.specs.Knapsack.{item_sets, weight_of, worth_of_items, item_sets_within, best_worth}
use Rattle.binary_knapsack.specs.Site.{item_at, items_of}
use Rattle.binary_knapsack.specs.declared.item.Item.{Item}

-- an element in front of each set, before or after a change of all elements
in_front : (f : ℕ → Item) (j : ℕ) (sets : List (List ℕ)) → map (λ set. f j ∷ set) (map (map f) sets) ≡ map (map f) (map (λ set. j ∷ set) sets)
in_front f j [] = refl
in_front f j (s ∷ sets) = ap (λ l. (f j ∷ map f s) ∷ l) (in_front f j sets)

-- the sets of changed elements are the changed sets
sets_mapped : (f : ℕ → Item) (js : List ℕ) → item_sets (map f js) ≡ map (map f) (sets_of_places js)
sets_mapped f [] = refl
sets_mapped f (j ∷ js) =
    ap (λ sets. sets ++ map (λ set. f j ∷ set) sets) (sets_mapped f js)
    ∙ ap (λ l. map (map f) (sets_of_places js) ++ l) (in_front f j (sets_of_places js))
    ∙ sym (map-append (map f) (sets_of_places js) (map (λ set. j ∷ set) (sets_of_places js)))

module _ {X Y : Type 0} (F : X → Y) where
  one_kept : (b : Bool) (x : X) (xs : List X) (ys : List Y) → ys ≡ map F xs → cond b (F x ∷ ys) ys ≡ map F (cond b (x ∷ xs) xs)
  one_kept true x xs ys e = ap (λ l. F x ∷ l) e
  one_kept false x xs ys e = e

  -- of changed elements those that pass are the changed ones of those that pass
  filter_mapped : (q : Y → Bool) (xs : List X) → filter q (map F xs) ≡ map F (filter (λ x. q (F x)) xs)
  filter_mapped q [] = refl
  filter_mapped q (x ∷ xs) = one_kept (q (F x)) x (filter (λ y. q (F y)) xs) (filter q (map F xs)) (filter_mapped q xs)

-- the greatest of values that are equal
same_greatest : {X : Type 0} (f g : X → ℤ) → ((x : X) → f x ≡ g x) → (a : ℤ) (xs : List X) → fold (λ best x. int_max best (f x)) a xs ≡ fold (λ best x. int_max best (g x)) a xs
same_greatest f g same a [] = refl
same_greatest f g same a (x ∷ xs) =
    ap (λ z. fold (λ best y. int_max best (f y)) (int_max a z) xs) (same x) ∙ same_greatest f g same (int_max a (g x)) xs

module _ (I : Instance) (path : Path) (d : Duals) (i : ℕ) where
  worth_mapped : (set : List ℕ) → worth_of_items (map (item_at I d i) set) ≡ worth_at_site I d i set
  worth_mapped [] = refl
  worth_mapped (j ∷ set) = ap (λ z. surplus_at I d i j +ℤ z) (worth_mapped set)

  weight_mapped : (set : List ℕ) → weight_of (map (item_at I d i) set) ≡ demand_of_set I set
  weight_mapped set = fold-map (λ a (x : Item). a + x.weight) (item_at I d i) 0 set

  -- the sets of items that fit are those of customers
  fitting_mapped : item_sets_within (site_at I i).cap (items_of I path d i) ≡ map (map (item_at I d i)) (sets_at_site I path i)
  fitting_mapped =
      let f = item_at I d i in
      let fits : List Item → Bool = λ set. holds_demand (site_at I i).cap (weight_of set) in
      ap (filter fits) (sets_mapped f (servable I path i))
      ∙ filter_mapped (map f) fits (sets_of_places (servable I path i))
      ∙ ap (map (map f)) (filter_agree (λ set. fits (map f set)) (λ set. holds_demand (site_at I i).cap (demand_of_set I set)) (λ set. ap (holds_demand (site_at I i).cap) (weight_mapped set)) (sets_of_places (servable I path i)))

  pub best_set_of_items : best_set I path d i ≡ best_worth (site_at I i).cap (items_of I path d i)
  unfolding best_set best_worth
  best_set_of_items =
      let f = item_at I d i in
      let step : ℤ → List Item → ℤ = λ best set. int_max best (worth_of_items set) in
      sym (ap (fold step (pos 0)) fitting_mapped
      ∙ fold-map step (map f) (pos 0) (sets_at_site I path i)
      ∙ same_greatest (λ set. worth_of_items (map f set)) (worth_at_site I d i) worth_mapped (pos 0) (sets_at_site I path i))
