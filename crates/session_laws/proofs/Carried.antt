-- A tree that stands on an instance, and a feasible plan of it, are carried over to that instance as they are.
use Rattle.std.proofs.Common.{◌≡◌, ℕ, ◌<◌, ◌==◌, ◌&&◌, ◌||◌, Bool, true, false, List, [], ◌∷◌, ◌++◌, map, length, get_or, Option, None, Some, refl, sym, ap, subst, ◌∙◌, arith, pos, ℤ}
use Rattle.std.specs.Prelude.{All, Contains, Any, find, filter, filter_map, zip, option_map, unwrap_or, is_some, not, if◌then◌else◌}
use Rattle.std.specs.List.Sorted.{IsStrictlyIncreasing}
use Rattle.std.specs.Option.{option_or}
use Rattle.std.proofs.lemmas.Bool.{cond-true, cond-false, and_from, eqb-true, eq-eqb, false≢true}
use Rattle.std.proofs.lemmas.List.{length-map, get_or-map, get_or_default, same_lists}
use Rattle.std.proofs.lemmas.List.Elements.{All-contains, All-head, All-tail, Contains-get_or}
use Rattle.std.proofs.lemmas.List.Folds.{Any-from_list_any, list_any_at}
use Rattle.std.proofs.lemmas.List.Kept.{AllPairs-from_increasing}
use Rattle.std.proofs.lemmas.Slice.Zip.{get_or-zip, length-zip, firsts-zip}
use Rattle.location_terms.specs.declared.form.LeafForm.{LeafForm}
use Rattle.location_terms.specs.declared.form.LeafForm.TheVariants.{Prices, Whole}
use Rattle.location_terms.specs.declared.split.Split.{Split}
use Rattle.location_terms.specs.declared.split.Split.TheVariants.{Site as SiteSplit, Lane as LaneSplit}
use Rattle.location_terms.specs.declared.status.SiteStatus.{SiteStatus}
use Rattle.location_terms.specs.declared.status.SiteStatus.TheVariants.{Free, MustOpen, MustClose}
use Rattle.location_terms.specs.Instance.{Instance, Site, Customer, IsValid, lane, site_ids, customer_ids, site_at, customer_at}
use Rattle.location_terms.specs.Plan.{Plan, IsFeasible, KeepsStatus, served}
use Rattle.location_terms.specs.Box.{Path, must_open, must_close}
use Rattle.location_terms.specs.Split.{first_step, second_step, IsSplitAmong}
use Rattle.location_terms.specs.Bound.{Duals}
use Rattle.location_terms.specs.Carried.{is_listed, is_carried, carried_sites, cheapest_site, former_site, carried_site, carried_plan}
use Rattle.location_terms.specs.Knapsack.{has_small_knapsacks}
use Rattle.location_terms.specs.Leaf.{KnapsacksSuit, LeafFits}
use Rattle.location_terms.specs.Tree.{Node, Leaf, Fork, Tree, IsTree, StandsOn, SplitsAmong, leaves_below, leaves_of}
use Rattle.location_terms.proofs.Places.{length-site_ids, length-customer_ids, slice_index-site_ids, slice_index-customer_ids}
use Rattle.location_terms.proofs.Rising.{place_of, found_by_key}
use Rattle.plan_meaning.proofs.Carrying.{kept_some, former_is, carried_rise}
use Rattle.plan_search.proofs.Among.{Contains-map, Contains-filter, passed}
use Rattle.plan_search.proofs.Ordered.{same_order}
use Rattle.dual_value.specs.Zeros.{zeros}
use Rattle.branch_tree.specs.Made.{leaf_of}
use Rattle.session_laws.proofs.Parts.{both}
use Rattle.leaf_repair.specs.CarriedTree.{by_id, form_on, carried_duals, knows_split, reduced, reduced_tree, is_too_large, carried_tree}

-- Duals.

-- the number of an id that rises is that of its place
by_id_at : {X : Type 0} (ids : List ℕ) (numbers : List X) (other : X) (k : ℕ) → IsStrictlyIncreasing ids → length numbers ≡ length ids → k < length ids → by_id ids numbers other (get_or ids k 0) ≡ get_or numbers k other
by_id_at {X} ids numbers other k rise same within =
    let pairs : List (ℕ × X) = zip ids numbers in
    let inside : k < length numbers = omega (arith, same, within) in
    let here : get_or pairs k (0, other) ≡ (get_or ids k 0, get_or numbers k other) = get_or-zip ids numbers k (0, other) within inside in
    let up : IsStrictlyIncreasing (map (λ (e : ℕ × X). e.0) pairs) = subst IsStrictlyIncreasing (sym (firsts-zip ids numbers same)) rise in
    let found : find (λ (e : ℕ × X). e.0 == (get_or pairs k (0, other)).0) pairs ≡ Some (get_or pairs k (0, other)) = found_by_key (λ (e : ℕ × X). e.0) pairs (0, other) up k (omega (arith, within, inside, length-zip ids numbers)) in
    ap (λ (o : Option (ℕ × X)). unwrap_or (option_map (λ e. e.1) o) other) (subst (λ (p : ℕ × X). find (λ (e : ℕ × X). e.0 == p.0) pairs ≡ Some p) here found)

form_same : (I : Instance) (form : LeafForm) → KnapsacksSuit form I → form_on I form ≡ form
form_same I Prices suits = refl
form_same I Whole suits = cond-true (has_small_knapsacks I) Whole Prices suits

priced_same : (cap : Option ℕ) (u v : ℕ) → u ≡ v → (cap ≡ None → v ≡ 0) → (if is_some cap then u else 0) ≡ v
priced_same None u v same none = sym (none refl)
priced_same (Some cap) u v same none = same

module _ (I : Instance) (valid : IsValid I) where
  module _ (d : Duals) (fits : LeafFits I d) where
    abbrev value_of : Customer → ℤ
    value_of c = by_id (customer_ids I) d.v (pos 0) c.id

    abbrev price_of : Site → ℕ
    price_of s = if is_some s.cap then by_id (site_ids I) d.u 0 s.id else 0

    many_values : length d.v ≡ length (customer_ids I)
    many_values = fits.numbers.of_instance.customers ∙ sym (length-customer_ids I)

    many_prices : length d.u ≡ length (site_ids I)
    many_prices = fits.numbers.of_instance.sites ∙ sym (length-site_ids I)

    value_at : (k : ℕ) (e : ℤ) → k < length (map value_of I.customers) → get_or (map value_of I.customers) k e ≡ get_or d.v k e
    value_at k e b =
        let within : k < length I.customers = omega (arith, b, length-map I.customers value_of) in
        let placed : get_or (map value_of I.customers) k e ≡ value_of (customer_at I k) = get_or-map value_of I.customers k _ e within in
        let named : (customer_at I k).id ≡ get_or (customer_ids I) k 0 = sym (slice_index-customer_ids I k within) in
        let read : by_id (customer_ids I) d.v (pos 0) (get_or (customer_ids I) k 0) ≡ get_or d.v k (pos 0) = by_id_at (customer_ids I) d.v (pos 0) k valid.customers_named.rising many_values (omega (arith, within, length-customer_ids I)) in
        placed ∙ ap (by_id (customer_ids I) d.v (pos 0)) named ∙ read ∙ get_or_default d.v k (pos 0) e (omega (arith, within, fits.numbers.of_instance.customers))

    values_same : map value_of I.customers ≡ d.v
    values_same = same_lists (map value_of I.customers) d.v (length-map I.customers value_of ∙ sym fits.numbers.of_instance.customers) value_at

    price_at : (k : ℕ) (e : ℕ) → k < length (map price_of I.sites) → get_or (map price_of I.sites) k e ≡ get_or d.u k e
    price_at k e b =
        let within : k < length I.sites = omega (arith, b, length-map I.sites price_of) in
        let placed : get_or (map price_of I.sites) k e ≡ price_of (site_at I k) = get_or-map price_of I.sites k _ e within in
        let named : (site_at I k).id ≡ get_or (site_ids I) k 0 = sym (slice_index-site_ids I k within) in
        let read : by_id (site_ids I) d.u 0 (get_or (site_ids I) k 0) ≡ get_or d.u k 0 = by_id_at (site_ids I) d.u 0 k valid.sites_named.rising many_prices (omega (arith, within, length-site_ids I)) in
        placed
        ∙ priced_same (site_at I k).cap (by_id (site_ids I) d.u 0 (site_at I k).id) (get_or d.u k 0) (ap (by_id (site_ids I) d.u 0) named ∙ read) (fits.numbers.of_instance.unpriced k within)
        ∙ get_or_default d.u k 0 e (omega (arith, within, fits.numbers.of_instance.sites))

    prices_same : map price_of I.sites ≡ d.u
    prices_same = same_lists (map price_of I.sites) d.u (length-map I.sites price_of ∙ sym fits.numbers.of_instance.sites) price_at

    duals_same : carried_duals I (site_ids I) (customer_ids I) d ≡ d
    duals_same = λ i. let e : Duals = record { form = form_same I d.form fits.knapsacks i; q = d.q; nu = d.nu; v = values_same i; u = prices_same i } in e

-- Trees.

listed : (ids : List ℕ) (s : ℕ) → Contains ids s → is_listed ids s ≡ true
listed ids s c = list_any_at (λ x. x == s) ids c.0 s c.1 (eq-eqb _ _ c.2)

contained : (ids : List ℕ) (s : ℕ) → is_listed ids s ≡ true → Contains ids s
contained ids s t =
    let found : Any (λ y. (y == s) ≡ true) ids = Any-from_list_any (λ y. y == s) ids t in
    subst (λ y. Contains ids y) (eqb-true found.1 s found.4) (found.0, found.2, found.3)

known : (I : Instance) (split : Split) → IsSplitAmong (site_ids I) (customer_ids I) split → knows_split I split ≡ true
known I (SiteSplit s) among = listed (site_ids I) s among
known I (LaneSplit s c) among = and_from (is_listed (site_ids I) s) (is_listed (customer_ids I) c) (listed (site_ids I) s among.0) (listed (customer_ids I) c among.1)

abbrev Fits : Instance → Path × Duals → Type 0
Fits I l = LeafFits I l.1

module _ (I : Instance) (valid : IsValid I) where
  abbrev here : Node → Node
  here t = reduced I (site_ids I) (customer_ids I) t

  reduced_same : (path : Path) (t : Node) → SplitsAmong (site_ids I) (customer_ids I) t → All (Fits I) (leaves_below path t) → reduced I (site_ids I) (customer_ids I) t ≡ t
  reduced_same path (Leaf d) among fit = ap Leaf (duals_same I valid d (All-head (Fits I) (path, d) [] fit))
  reduced_same path (Fork split first second) among fit =
      let below_first = path ++ first_step split ∷ [] in
      let below_second = path ++ second_step split ∷ [] in
      let parts = both (Fits I) (leaves_below below_first first) (leaves_below below_second second) fit in
      cond-true (knows_split I split) (Fork split (here first) (here second)) (here first) (known I split among.0)
      ∙ ap (λ x. Fork split x (here second)) (reduced_same below_first first among.1 parts.0)
      ∙ ap (λ x. Fork split first x) (reduced_same below_second second among.2 parts.1)

  -- a tree that stands on the instance, whose leaves fit it, and that isn't too large
  pub tree_same : (t : Tree) → IsTree t → StandsOn t I → All (λ l. LeafFits I l.1) (leaves_of t) → is_too_large I t ≡ false → carried_tree I t ≡ t
  tree_same t tree stands fit small =
      let among : SplitsAmong (site_ids I) (customer_ids I) t.root = subst (λ ids. SplitsAmong (site_ids I) ids t.root) stands.customers (subst (λ ids. SplitsAmong ids t.customers t.root) stands.sites tree.splits) in
      let root : reduced I t.sites t.customers t.root ≡ t.root =
      ap (λ ids. reduced I ids t.customers t.root) stands.sites ∙ ap (λ ids. reduced I (site_ids I) ids t.root) stands.customers ∙ reduced_same [] t.root among fit in
      let sites : site_ids I ≡ t.sites = sym stands.sites in
      let customers : customer_ids I ≡ t.customers = sym stands.customers in
      let same : reduced_tree I t ≡ t = λ i. let e : Tree = record { sites = sites i; customers = customers i; root = root i } in e in
      cond-false (is_too_large I (reduced_tree I t)) (leaf_of I (zeros I 1)) (reduced_tree I t) (ap (is_too_large I) same ∙ small) ∙ same

-- Plans.

carried_if : (P : Plan) (s : ℕ) (status : SiteStatus) (is : Bool) → KeepsStatus P s status → Contains P.sites s → is ≡ true → ((must_open status || is) && not (must_close status)) ≡ true
carried_if P s status false keeps has is = absurd (false≢true is)
carried_if P s Free true keeps has is = refl
carried_if P s MustOpen true keeps has is = refl
carried_if P s MustClose true keeps has is = absurd (keeps has)

open_if : (P : Plan) (s : ℕ) (status : SiteStatus) (is : Bool) → KeepsStatus P s status → (is ≡ true → Contains P.sites s) → ((must_open status || is) && not (must_close status)) ≡ true → Contains P.sites s
open_if P s Free true keeps has is = has refl
open_if P s Free false keeps has is = absurd (false≢true is)
open_if P s MustOpen b keeps has is = keeps
open_if P s MustClose true keeps has is = absurd (false≢true is)
open_if P s MustClose false keeps has is = absurd (false≢true is)

-- pairs by their first parts
paired : (h : ℕ → Option ℕ) (vs : List (ℕ × ℕ)) → All (λ v. h v.0 ≡ Some v.1) vs → filter_map (λ c. option_map (λ s. (c, s)) (h c)) (map (λ v. v.0) vs) ≡ vs
paired h [] all = refl
paired h (v ∷ vs) all =
    let first : h v.0 ≡ Some v.1 = All-head (λ (w : ℕ × ℕ). h w.0 ≡ Some w.1) v vs all in
    rw first (ap (λ (ws : List (ℕ × ℕ)). v ∷ ws) (paired h vs (All-tail (λ (w : ℕ × ℕ). h w.0 ≡ Some w.1) v vs all)))

module _ (I : Instance) (valid : IsValid I) (P : Plan) (feasible : IsFeasible I P) where
  abbrev is_so : Site → Bool
  is_so x = is_carried P x

  keeps : (x : Site) → Contains I.sites x → KeepsStatus P x.id x.status
  keeps x there = All-contains (λ s. KeepsStatus P s.id s.status) I.sites x feasible.statuses there

  was_open : (s : ℕ) → Contains (carried_sites I P) s → Contains P.sites s
  was_open s c =
      let at = place_of (λ (x : Site). x.id) (filter is_so I.sites) (site_at I 0) s c in
      let x : Site = get_or (filter is_so I.sites) at.0 (site_at I 0) in
      let there : Contains I.sites x × (is_so x ≡ true) = passed is_so I.sites x (Contains-get_or (filter is_so I.sites) at.0 (site_at I 0) at.1) in
      subst (Contains P.sites) at.2 (open_if P x.id x.status (is_listed P.sites x.id) (keeps x there.0) (contained P.sites x.id) there.1)

  stays_open : (s : ℕ) → Contains P.sites s → Contains (carried_sites I P) s
  stays_open s c =
      let at = place_of (λ (x : Site). x.id) I.sites (site_at I 0) s (All-contains (Contains (site_ids I)) P.sites s feasible.sites_known c) in
      let x : Site = get_or I.sites at.0 (site_at I 0) in
      let there : Contains I.sites x = Contains-get_or I.sites at.0 (site_at I 0) at.1 in
      let opened : Contains P.sites x.id = subst (Contains P.sites) (sym at.2) c in
      let carries : is_so x ≡ true = carried_if P x.id x.status (is_listed P.sites x.id) (keeps x there) opened (listed P.sites x.id opened) in
      subst (Contains (carried_sites I P)) at.2 (Contains-map (λ (y : Site). y.id) (filter is_so I.sites) x (Contains-filter is_so I.sites x there carries))

  sites_same : carried_sites I P ≡ P.sites
  sites_same =
      same_order (λ (m n : ℕ). m < n) (λ m n less more. absurd (omega (arith, less, more))) (carried_sites I P) P.sites
      (AllPairs-from_increasing (carried_sites I P) (carried_rise I P valid.sites_named.rising valid.customers_named.rising).sites_rise)
      (AllPairs-from_increasing P.sites feasible.plan.sites_rise) was_open stays_open

  served_same : All (λ v. carried_site I P (carried_sites I P) v.0 ≡ Some v.1) P.serves
  served_same k d within =
      let v : ℕ × ℕ = get_or P.serves k d in
      let sites : List ℕ = carried_sites I P in
      let found : find (λ (w : ℕ × ℕ). w.0 == v.0) P.serves ≡ Some v = found_by_key (λ (w : ℕ × ℕ). w.0) P.serves d feasible.plan.customers_rise k within in
      let named : Some v.1 ≡ option_map (λ (w : ℕ × ℕ). w.1) (find (λ (w : ℕ × ℕ). w.0 == v.0) P.serves) = sym (ap (option_map (λ (w : ℕ × ℕ). w.1)) found) in
      let passes : (is_listed sites v.1 && is_some (lane I v.1 v.0)) ≡ true =
      and_from (is_listed sites v.1) (is_some (lane I v.1 v.0)) (listed sites v.1 (stays_open v.1 (feasible.by_open k d within))) (feasible.by_lane k d within) in
      let former : Some v.1 ≡ former_site I P sites v.0 = kept_some (is_listed sites) (λ s. is_some (lane I s v.0)) v.1 passes ∙ former_is I P sites v.0 (Some v.1) feasible.plan.customers_rise named in
      ap (λ o. option_or o (cheapest_site I sites v.0)) (sym former)

  -- a feasible plan
  pub plan_same : carried_plan I P ≡ P
  plan_same =
      let customers : customer_ids I ≡ served P = sym feasible.each_once in
      let serves : (carried_plan I P).serves ≡ P.serves =
      ap (filter_map (λ c. option_map (λ s. (c, s)) (carried_site I P (carried_sites I P) c))) customers ∙ paired (carried_site I P (carried_sites I P)) P.serves served_same in
      λ i. let e : Plan = record { sites = sites_same i; serves = serves i } in e
