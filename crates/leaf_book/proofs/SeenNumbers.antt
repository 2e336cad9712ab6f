-- The duals of a leaf of the tree, as they are seen by places, are those that are carried over.
use Rattle.std.proofs.Common.{◌≡◌, ℕ, ◌<◌, sym, subst, ◌∙◌, arith, List, map, length, get_or, Option, None, Some, ℤ, pos}
use Rattle.std.specs.Prelude.{is_some, zip, if◌then◌else◌}
use Rattle.std.proofs.lemmas.List.{length-map, get_or-map}
use Rattle.std.proofs.lemmas.Slice.Zip.{length-zip}
use Rattle.location_terms.specs.Instance.{Instance, Site, site_at, site_ids, customer_ids}
use Rattle.location_terms.specs.Bound.{Duals}
use Rattle.location_terms.specs.Fit.{DualsFit}
use Rattle.location_terms.specs.Tree.{Tree, IsTree, HasLists}
use Rattle.branch_tree.specs.Made.{duals_at}
use Rattle.leaf_repair.specs.CarriedTree.{carried_duals}
use Rattle.leaf_repair.specs.Placed.{at_place, places_of, placed_duals, prices_at}
use Rattle.leaf_repair.proofs.Fitting.{carried_fits, placed_is_carried}
use Rattle.leaf_repair.proofs.Placing.{price_at}
use Rattle.leaf_repair.proofs.Reduced.{leaf_at, lists_at}

module _ (I : Instance) (t : Tree) (tree : IsTree t) (node : ℕ) (d : Duals) (here : duals_at t.root node ≡ Some d) where
  lists : HasLists (length t.sites) (length t.customers) d
  lists = lists_at (length t.sites) (length t.customers) t.root node d tree.leaves (leaf_at t.root node d here)

  module _ (sites customers : List (Option ℕ)) (sites_are : sites ≡ places_of t.sites (site_ids I)) (customers_are : customers ≡ places_of t.customers (customer_ids I)) where
    pub seen_is : placed_duals I sites customers d ≡ carried_duals I t.sites t.customers d
    seen_is = (λ k. placed_duals I (sites_are k) (customers_are k) d) ∙ placed_is_carried I t.sites t.customers d lists

    pub seen_fits : DualsFit I (placed_duals I sites customers d)
    seen_fits = subst (DualsFit I) (sym seen_is) (carried_fits I t.sites t.customers d lists).numbers

-- a number that is read at the place of a place
pub value_seen : (values : List ℤ) (places : List (Option ℕ)) (j : ℕ) → j < length places → at_place values (pos 0) (get_or places j None) ≡ get_or (map (at_place values (pos 0)) places) j (pos 0)
value_seen values places j b = sym (get_or-map (at_place values (pos 0)) places j None (pos 0) b)

pub seen_values : (values : List ℤ) (places : List (Option ℕ)) (j : ℕ) → j < length (map (at_place values (pos 0)) places) → j < length places
seen_values values places j b = omega (arith, b, length-map places (at_place values (pos 0)))

pub price_seen : (I : Instance) (prices : List ℕ) (places : List (Option ℕ)) (i : ℕ) → i < length I.sites → i < length places → (if is_some (site_at I i).cap then at_place prices 0 (get_or places i None) else 0) ≡ get_or (prices_at I places prices) i 0
price_seen I prices places i b c = sym (price_at prices I.sites places i _ None b c)

pub seen_prices : (I : Instance) (prices : List ℕ) (places : List (Option ℕ)) (i : ℕ) → i < length (prices_at I places prices) → (i < length I.sites) × (i < length places)
seen_prices I prices places i b =
    let many = length-map (zip I.sites places) (λ (p : Site × Option ℕ). if is_some p.0.cap then at_place prices 0 p.1 else 0) in
    (omega (arith, b, many, length-zip I.sites places), omega (arith, b, many, length-zip I.sites places))
