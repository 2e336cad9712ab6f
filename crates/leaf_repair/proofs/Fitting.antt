-- The duals of a leaf that is carried over suit a leaf of the instance.
use Rattle.std.proofs.Common.{◌≡◌, ℕ, ◌≤◌, Bool, true, false, List, length, get_or, Option, Some, None, refl, sym, subst, ◌∙◌, arith, pos}
use Rattle.std.specs.Prelude.{All, is_some, unsigned_abs, if◌then◌else◌}
use Rattle.std.proofs.lemmas.List.{length-map, get_or-map}
use Rattle.std.proofs.lemmas.List.Elements.{All-map}
use Rattle.location_terms.specs.declared.form.LeafForm.{LeafForm}
use Rattle.location_terms.specs.declared.form.LeafForm.TheVariants.{Prices, Whole}
use Rattle.location_terms.specs.declared.status.SiteStatus.TheVariants.{Free}
use Rattle.location_terms.specs.declared.limits.TheConstants.{MAX_VALUE, MAX_MULTIPLIER}
use Rattle.location_terms.specs.Instance.{Instance, Site, site_at, site_ids, customer_ids}
use Rattle.location_terms.specs.Bound.{Duals, AreDualsOf}
use Rattle.location_terms.specs.Fit.{AreInLimits}
use Rattle.location_terms.specs.Knapsack.{has_small_knapsacks}
use Rattle.location_terms.specs.Leaf.{LeafFits, PricesSuit, KnapsacksSuit}
use Rattle.location_terms.specs.Tree.{HasLists}
use Rattle.instance_store.specs.Places.{place_of}
use Rattle.leaf_repair.specs.CarriedTree.{by_id, form_on, carried_duals}
use Rattle.leaf_repair.specs.Placed.{places_of, placed_duals}
use Rattle.leaf_repair.proofs.Placing.{by_place, read_has, values_are, prices_are}

-- what is so of each number, and of the other one, is so of what is read by id
by_id_has : {X : Type 0} (P : X → Type 0) (ids : List ℕ) (numbers : List X) (other : X) (id : ℕ) → length numbers ≡ length ids → All P numbers → P other → P (by_id ids numbers other id)
by_id_has P ids numbers other id same all rest = subst P (by_place ids numbers other id same) (read_has P numbers other all rest (place_of id ids))

module _ (I : Instance) (sites customers : List ℕ) (d : Duals) (lists : HasLists (length sites) (length customers) d) where
  abbrev new : Duals
  new = carried_duals I sites customers d

  price_has : (P : ℕ → Type 0) → P 0 → All P d.u → (s : Site) → P (if is_some s.cap then by_id sites d.u 0 s.id else 0)
  price_has P zero all s = along (is_some s.cap)
    where
      along : (b : Bool) → P (if b then by_id sites d.u 0 s.id else 0)
      along true = by_id_has P sites d.u 0 s.id lists.0 all zero
      along false = zero

  prices_have : (P : ℕ → Type 0) → P 0 → All P d.u → All P new.u
  prices_have P zero all = All-map P (λ (s : Site). if is_some s.cap then by_id sites d.u 0 s.id else 0) I.sites (λ k s b. price_has P zero all (get_or I.sites k s))

  in_limits : AreInLimits new
  in_limits = record {
    scale = lists.2.scale;
    count_price = lists.2.count_price;
    values = All-map (λ v. unsigned_abs v ≤ MAX_VALUE) (λ c. by_id customers d.v (pos 0) c.id) I.customers
        (λ k c b. by_id_has (λ v. unsigned_abs v ≤ MAX_VALUE) customers d.v (pos 0) (get_or I.customers k c).id lists.1 lists.2.values (omega arith));
    multipliers = prices_have (λ u. u ≤ MAX_MULTIPLIER) (omega arith) lists.2.multipliers;
  }

  none_without : (cap : Option ℕ) (x : ℕ) → cap ≡ None → (if is_some cap then x else 0) ≡ 0
  none_without None x e = refl
  none_without (Some cap) x e = cc

  of_instance : AreDualsOf I new
  of_instance = record {
    customers = length-map I.customers (λ c. by_id customers d.v (pos 0) c.id);
    sites = length-map I.sites (λ (s : Site). if is_some s.cap then by_id sites d.u 0 s.id else 0);
    unpriced = λ i inside none.
        get_or-map (λ (s : Site). if is_some s.cap then by_id sites d.u 0 s.id else 0) I.sites i (record { id = 0; fixed = 0; cap = None; status = Free }) 0 inside
        ∙ none_without (site_at I i).cap (by_id sites d.u 0 (site_at I i).id) none;
  }

  -- by the form from before, and whether whole knapsacks are small
  suits : (form : LeafForm) → PricesSuit form d.u → PricesSuit (form_on I form) new.u × KnapsacksSuit (form_on I form) I
  suits Prices prices = (tt, tt)
  suits Whole prices = along (has_small_knapsacks I) refl
    where
      along : (b : Bool) → has_small_knapsacks I ≡ b → PricesSuit (if has_small_knapsacks I then Whole else Prices) new.u × KnapsacksSuit (if has_small_knapsacks I then Whole else Prices) I
      along true small = subst (λ b. PricesSuit (if b then Whole else Prices) new.u × KnapsacksSuit (if b then Whole else Prices) I) (sym small) (prices_have (λ u. u ≡ 0) refl prices, small)
      along false large = subst (λ b. PricesSuit (if b then Whole else Prices) new.u × KnapsacksSuit (if b then Whole else Prices) I) (sym large) (tt, tt)

  pub carried_fits : LeafFits I (carried_duals I sites customers d)
  carried_fits = record { numbers = record { in_limits = in_limits; of_instance = of_instance }; prices = (suits d.form lists.3).0; knapsacks = (suits d.form lists.3).1 }

  -- it has its lists
  pub carried_lists : HasLists (length I.sites) (length I.customers) (carried_duals I sites customers d)
  carried_lists = (of_instance.sites, of_instance.customers, in_limits, (suits d.form lists.3).0)

  -- by places it is the same
  pub placed_is_carried : placed_duals I (places_of sites (site_ids I)) (places_of customers (customer_ids I)) d ≡ carried_duals I sites customers d
  placed_is_carried = λ i. let e : Duals = record { form = form_on I d.form; q = d.q; nu = d.nu; v = values_are customers d.v lists.1 I.customers i; u = prices_are sites d.u lists.0 I.sites i } in e
