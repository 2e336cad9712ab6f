-- The tree that shows that there is no plan where a customer has no lane.
use Rattle.std.proofs.Common.{◌≡◌, ℕ, ◌<◌, ◌≤◌, Bool, true, false, cond, inl, List, [], ◌∷◌, filter, length, Option, None, Some, IfSome, is_some, refl, sym, ap, subst, ◌∙◌, arith, pos, if◌then◌else◌}
use Rattle.std.specs.Prelude.{◌&&◌, not, nat_lt}
use Rattle.std.specs.List.{list_any}
use Rattle.std.proofs.lemmas.Int.{ints}
use Rattle.std.proofs.lemmas.Bool.{ltb-true}
use Rattle.std.proofs.lemmas.List.{get_or_default}
use Rattle.std.proofs.lemmas.List.Elements.{All-nil, All-cons}
use Rattle.location_terms.specs.Instance.{Instance, IsValid, site_ids, customer_ids, site_at, customer_at, lane}
use Rattle.location_terms.specs.Box.{Path, is_allowed, is_torn, is_closed, bars_lane, holds_demand}
use Rattle.location_terms.specs.Bound.{Duals}
use Rattle.location_terms.specs.Leaf.{LeafFits, LeafCloses}
use Rattle.location_terms.specs.Tree.{Tree, HasLists}
use Rattle.location_terms.proofs.Places.{length-site_ids, length-customer_ids, slice_index-site_ids}
use Rattle.dual_value.specs.Zeros.{zeros}
use Rattle.branch_tree.specs.Made.{leaf_of}
use Rattle.dual_ascent.specs.Levels.{servers, site_places}
use Rattle.dual_ascent.specs.Ascent.{with_v}
use Rattle.tree_search.proofs.UnservedRay.{ray, ray_fits, ray_bound}
use Rattle.plan_radius.specs.Cheaper.{is_cheaper, below_cost}
use Rattle.plan_radius.proofs.FreeLanes.{lane-below}
use Rattle.center_solve.specs.Center.{ShowsNoPlan}

no_way : (a b c d : Bool) → (a && false && b && c && d) ≡ false
no_way true b c d = refl
no_way false b c d = refl

none_pass : {X : Type 0} (p : X → Bool) (xs : List X) → ((x : X) → p x ≡ false) → filter p xs ≡ []
none_pass p [] fails = refl
none_pass p (x ∷ xs) fails = ap (λ b. if b then x ∷ filter p xs else filter p xs) (fails x) ∙ none_pass p xs fails

not_kept : (r : ℕ) (o : Option ℕ) → IfSome o (λ cost. r ≤ cost) → is_some (cond (is_cheaper r o) o None) ≡ false
not_kept r None far = refl
not_kept r (Some cost) far = by (nat_lt cost r) refl
  where
    by : (b : Bool) → nat_lt cost r ≡ b → is_some (cond b (Some cost) None) ≡ false
    by true less = absurd (let below = ltb-true cost r less in omega (arith, below, far))
    by false _ = refl

module _ (I : Instance) (valid : IsValid I) (r j : ℕ) (within : j < length I.customers) (far : (i : ℕ) → i < length I.sites → IfSome (lane I (site_at I i).id (customer_at I j).id) (λ cost. r ≤ cost)) where
  abbrev bare : Instance
  bare = below_cost I r

  -- no lane to the customer costs less, from whatever id
  far_from : (s : ℕ) → IfSome (lane I s (customer_at I j).id) (λ cost. r ≤ cost)
  far_from s = by (lane I s (customer_at I j).id) refl
    where
      by : (o : Option ℕ) → lane I s (customer_at I j).id ≡ o → IfSome (lane I s (customer_at I j).id) (λ cost. r ≤ cost)
      by None none = subst (λ o. IfSome o (λ cost. r ≤ cost)) (sym none) tt
      by (Some cost) there =
          let known = (valid.lanes_known s (customer_at I j).id (ap is_some there)).0 in
          let inside : known.0 < length I.sites = omega (arith, known.1, length-site_ids I) in
          let site : (site_at I known.0).id ≡ s = sym (slice_index-site_ids I known.0 inside) ∙ get_or_default (site_ids I) known.0 0 s known.1 ∙ known.2 in
          subst (λ t. IfSome (lane I t (customer_at I j).id) (λ cost. r ≤ cost)) site (far known.0 inside)

  unlaned : (s : ℕ) → is_some (lane bare s (customer_at I j).id) ≡ false
  unlaned s = ap is_some (lane-below I r s (customer_at I j).id) ∙ not_kept r (lane I s (customer_at I j).id) (far_from s)

  barred : (i : ℕ) → is_allowed bare [] (site_at bare i) (customer_at bare j) ≡ false
  barred i =
      let s = site_at bare i in
      let c = customer_at bare j in
      (λ k. not (is_torn bare []) && unlaned s.id k && not (is_closed [] s) && not (list_any (bars_lane s.id c.id) []) && holds_demand s.cap c.demand)
      ∙ no_way (not (is_torn bare [])) (not (is_closed [] s)) (not (list_any (bars_lane s.id c.id) [])) (holds_demand s.cap c.demand)

  unserved : length (servers bare [] j) ≡ 0
  unserved = ap length (none_pass (λ i. is_allowed bare [] (site_at bare i) (customer_at bare j)) (site_places bare) barred)

  abbrev shown_ray : Duals
  shown_ray = ray bare [] j within

  fits : LeafFits bare shown_ray
  fits = record { numbers = ray_fits bare [] j within; prices = tt; knapsacks = tt }

  closes : LeafCloses bare [] shown_ray None
  closes = record { fit = fits; closed = inl (refl, omega (arith, ints, ray_bound bare [] j within unserved)) }

  lists : HasLists (length (site_ids bare)) (length (customer_ids bare)) shown_ray
  lists =
      let fit = ray_fits bare [] j within in
      (fit.of_instance.sites ∙ sym (length-site_ids bare), fit.of_instance.customers ∙ sym (length-customer_ids bare), fit.in_limits, tt)

  ray_shows : ShowsNoPlan bare (leaf_of bare shown_ray)
  ray_shows = record {
    tree = record { splits = tt; leaves = All-cons (λ (l : Path × Duals). HasLists (length (site_ids bare)) (length (customer_ids bare)) l.1) ([], shown_ray) [] lists (All-nil (λ (l : Path × Duals). HasLists (length (site_ids bare)) (length (customer_ids bare)) l.1)) };
    stands = record { sites = refl; customers = refl };
    shows = (refl, All-cons (λ (l : Path × Duals). LeafCloses bare l.0 l.1 None) ([], shown_ray) [] closes (All-nil (λ (l : Path × Duals). LeafCloses bare l.0 l.1 None)));
  }

  -- the same of the tree that the code makes
  module _ (J : Instance) (is : J ≡ bare) (zero set : Duals) (zero_is : zero ≡ zeros J 0) (set_is : set ≡ with_v zero j (pos 1)) where
    ray_is : set ≡ shown_ray
    ray_is = set_is ∙ ap (λ (d : Duals). with_v d j (pos 1)) (zero_is ∙ ap (λ (A : Instance). zeros A 0) is)

    pub ray_suits : LeafFits J set
    ray_suits = subst (λ (A : Instance). LeafFits A set) (sym is) (subst (LeafFits bare) (sym ray_is) fits)

    pub tree_shows : (t : Tree) → t ≡ leaf_of J set → ShowsNoPlan bare t
    tree_shows t tree_is = subst (ShowsNoPlan bare) (sym (tree_is ∙ (λ k. leaf_of (is k) (ray_is k)))) ray_shows

-- no lane costs less than nothing
pub none_below : (o : Option ℕ) → IfSome o (λ cost. 0 ≤ cost)
none_below None = tt
none_below (Some cost) = omega arith

-- a lesser limit
pub lesser_limit : (o : Option ℕ) (a b : ℕ) → b ≤ a → IfSome o (λ cost. a ≤ cost) → IfSome o (λ cost. b ≤ cost)
lesser_limit None a b less limit = tt
lesser_limit (Some cost) a b less limit = omega (arith, less, limit)
