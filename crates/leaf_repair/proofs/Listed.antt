-- Ids that are listed, and splits on them.
use Rattle.std.proofs.Common.{◌≡◌, ◌↔◌, ℕ, ◌==◌, true, List, Option, Some, None, refl, sym, subst, inl, inr}
use Rattle.std.specs.Prelude.{Contains, Any, IsSome, is_some}
use Rattle.std.proofs.lemmas.Bool.{eqb-true, eq-eqb, and_parts, cases_Bool, false≢true}
use Rattle.std.proofs.lemmas.List.Folds.{Any-from_list_any, list_any_at}
use Rattle.location_terms.specs.declared.split.Split.{Split}
use Rattle.location_terms.specs.declared.split.Split.TheVariants.{Site, Lane}
use Rattle.location_terms.specs.Split.{IsSplitAmong}
use Rattle.location_terms.specs.Carried.{is_listed}
use Rattle.location_terms.specs.Instance.{Instance, site_ids, customer_ids}
use Rattle.leaf_repair.specs.CarriedTree.{knows_split}

module _ (ids : List ℕ) (id : ℕ) where
  listed_in : is_listed ids id ≡ true → Contains ids id
  listed_in t = let found : Any (λ y. (y == id) ≡ true) ids = Any-from_list_any (λ y. y == id) ids t in subst (λ y. Contains ids y) (eqb-true found.1 id found.4) (found.0, found.2, found.3)

  listed_from : Contains ids id → is_listed ids id ≡ true
  listed_from c = list_any_at (λ y. y == id) ids c.0 id c.1 (eq-eqb _ _ c.2)

  -- what is found is listed, and what isn't found isn't
  pub found_is_listed : (r : Option ℕ) → IsSome r ↔ Contains ids id → is_some r ≡ is_listed ids id
  found_is_listed (Some k) known = sym (listed_from (known.0 refl))
  found_is_listed None known =
      elim (cases_Bool (is_listed ids id)) [
        | inl is ↦ absurd (false≢true (known.1 (listed_in is)))
        | inr other ↦ sym other
      ]

-- a split that the instance knows is on its ids
pub known_among : (I : Instance) (split : Split) → knows_split I split ≡ true → IsSplitAmong (site_ids I) (customer_ids I) split
known_among I (Site s) is = listed_in (site_ids I) s is
known_among I (Lane s c) is = let parts = and_parts (is_listed (site_ids I) s) (is_listed (customer_ids I) c) is in (listed_in (site_ids I) s parts.0, listed_in (customer_ids I) c parts.1)
