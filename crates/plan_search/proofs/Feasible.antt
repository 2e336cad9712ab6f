-- A plan that packing gives is feasible, and in the box.
use Rattle.std.proofs.Common.{◌≡◌, ℕ, ◌<◌, ◌≤◌, Bool, true, false, cond, List, [], map, length, get_or, Option, None, Some, option_map, refl, sym, ap, subst, inl, inr, ◌∙◌, arith}
use Rattle.std.specs.Prelude.{Contains, All, IsSome, IfSome, is_some, ◌&&◌, ◌||◌, nat_le}
use Rattle.std.specs.List.{list_any}
use Rattle.std.specs.List.Sorted.{IsStrictlyIncreasing}
use Rattle.std.proofs.lemmas.Bool.{and_parts, and_from, leb-true, eq-eqb, ne_eqb, or_left, or_right, both_ways, false_from_ne_true, cases_eq, not_from_false}
use Rattle.std.proofs.lemmas.List.{length-map, get_or-map, get_or_default}
use Rattle.std.proofs.lemmas.List.Elements.{All-map, All-from_get_or, Contains-get_or}
use Rattle.std.proofs.lemmas.List.Folds.{list_any_at}
use Rattle.std.proofs.lemmas.Option.{same_Some}
use Rattle.location_terms.specs.declared.status.SiteStatus.{SiteStatus}
use Rattle.location_terms.specs.declared.status.SiteStatus.TheVariants.{Free, MustOpen, MustClose}
use Rattle.location_terms.specs.declared.decision.Decision.{Decision}
use Rattle.location_terms.specs.declared.decision.Decision.TheVariants.{Opened, Closed, Yes, No}
use Rattle.location_terms.specs.Instance.{Instance, IsValid, site_at, customer_at, site_ids, customer_ids, lane}
use Rattle.location_terms.specs.Plan.{Plan, IsPlan, IsFeasible, KeepsStatus, load_of, served}
use Rattle.location_terms.specs.Box.{Path, IsKept, IsInBox, closes_site, opens_site, bars_lane, must_open, must_close, is_closed, is_called_for, is_opened, is_torn, is_allowed, holds_demand}
use Rattle.location_terms.proofs.Places.{length-site_ids}
use Rattle.location_terms.proofs.Rising.{place_of, one_place}
use Rattle.dual_ascent.proofs.Walked.{lane_parts}
use Rattle.dual_adjust.proofs.IdsRise.{picked_rise, sites_rise}
use Rattle.plan_meaning.proofs.Served.{once_by_places}
use Rattle.plan_search.specs.InBox.{NamesKnown, IsPathOf}
use Rattle.plan_search.specs.Packed.{is_among, remaining, chosen, by_falling_demand, all_taken, plan_of, packed}
use Rattle.plan_search.proofs.Among.{Contains-map}
use Rattle.plan_search.proofs.OpenSites.{chosen_below, chosen_not_closed, called_chosen}
use Rattle.plan_search.proofs.Taken.{AreTaken, none_taken, all_take}
use Rattle.plan_search.proofs.PlanOf.{server_of, of_server, as_many_served, served_at, of_served, served_contained, load_is_taken}

some-is_some : (o : Option ℕ) → is_some o ≡ true → IsSome o
some-is_some None e = cc
some-is_some (Some x) e = refl

holds_load : (cap : Option ℕ) (load : ℕ) → holds_demand cap load ≡ true → IfSome cap (λ most. load ≤ most)
holds_load None load e = tt
holds_load (Some most) load e = leb-true load most e

-- a list has an element where a list of their names has its name
named_at : (I : Instance) → IsValid I → (sites : List ℕ) → ((i : ℕ) → Contains sites i → i < length I.sites) → (i : ℕ) → i < length I.sites → Contains (map (λ k. (site_at I k).id) sites) (site_at I i).id → Contains sites i
named_at I valid sites below i b c =
    let at : (k : ℕ) × (k < length sites) × ((site_at I (get_or sites k 0)).id ≡ (site_at I i).id) = place_of (λ n. (site_at I n).id) sites 0 (site_at I i).id c in
    let there : Contains sites (get_or sites at.0 0) = (at.0, at.1, get_or_default sites at.0 (get_or sites at.0 0) 0 at.1) in
    subst (Contains sites) (one_place (λ s. s.id) I.sites _ valid.sites_named.rising (get_or sites at.0 0) i (below _ there) b at.2) there

-- what packing did where it gave a plan
pub record Packs (I : Instance) (path : Path) (hint : List ℕ) (P : Plan) : Type 0 where
  pub least : I.lo ≤ length (chosen I path hint)
  pub most : length (chosen I path hint) ≤ I.hi
  pub taken : List (ℕ × ℕ)
  pub all : all_taken I path (chosen I path hint) ≡ Some taken
  pub plan : plan_of I (chosen I path hint) taken ≡ P

packed_by : {X : Type 0} (make : X → Plan) (b : Bool) (o : Option X) (P : Plan) → cond b (option_map make o) None ≡ Some P → (b ≡ true) × (x : X) × (o ≡ Some x) × (make x ≡ P)
packed_by make false o P e = cc
packed_by make true None P e = cc
packed_by make true (Some x) P e = (refl, x, refl, same_Some _ _ e)

pub packs : (I : Instance) (path : Path) (hint : List ℕ) (P : Plan) → packed I path hint ≡ Some P → Packs I path hint P
packs I path hint P e =
    let parts = packed_by (plan_of I (chosen I path hint)) (nat_le I.lo (length (chosen I path hint)) && nat_le (length (chosen I path hint)) I.hi) (all_taken I path (chosen I path hint)) P e in
    let count = and_parts _ _ parts.0 in
    record { least = leb-true _ _ count.0; most = leb-true _ _ count.1; taken = parts.1; all = parts.2; plan = parts.3 }

module _ (I : Instance) (path : Path) (hint : List ℕ) (valid : IsValid I) where
  abbrev sites : List ℕ
  sites = chosen I path hint

  abbrev pub names : List ℕ
  names = map (λ i. (site_at I i).id) sites

  below : (i : ℕ) → Contains sites i → i < length I.sites
  below = chosen_below I path hint

  pub names_rise : IsStrictlyIncreasing names
  names_rise = picked_rise (λ i. (site_at I i).id) (length I.sites) (sites_rise I valid) (λ i. is_opened path (site_at I i) || is_among (remaining I path hint) i)

  name_known : (i : ℕ) → i < length I.sites → Contains (site_ids I) (site_at I i).id
  name_known i b = (i, omega (arith, b, length-site_ids I), get_or-map (λ s. s.id) I.sites i _ _ b)

  names_known : All (Contains (site_ids I)) names
  names_known = All-map (Contains (site_ids I)) (λ i. (site_at I i).id) sites (λ k d b. name_known _ (below _ (Contains-get_or sites k d b)))

  -- a named site is not closed
  named_not_closed : (i : ℕ) → i < length I.sites → Contains names (site_at I i).id → is_closed path (site_at I i) ≡ false
  named_not_closed i b c = chosen_not_closed I path hint i (named_at I valid sites below i b c)

  module _ (taken : List (ℕ × ℕ)) (are : AreTaken I path sites (by_falling_demand I) taken) where
    abbrev P : Plan
    P = plan_of I sites taken

    server_below : (j : ℕ) → j < length I.customers → server_of taken j < length I.sites
    server_below j b = below _ (of_server I path sites taken are (λ t. Contains sites t.1) are.chosen j b)

    by_allowed : (j : ℕ) → j < length I.customers → is_allowed I path (site_at I (server_of taken j)) (customer_at I j) ≡ true
    by_allowed j b = of_server I path sites taken are (λ t. is_allowed I path (site_at I t.1) (customer_at I t.0) ≡ true) are.allowed j b

    whole : is_torn I path ≡ false
    whole = (lane_parts I path (server_of taken 0) 0 (by_allowed 0 (omega (arith, valid.sizes.some_customer)))).0

    -- a site that is called for is named
    called_named : (i : ℕ) → i < length I.sites → is_called_for path (site_at I i) ≡ true → Contains names (site_at I i).id
    called_named i b called =
        let not_closed : is_closed path (site_at I i) ≡ false =
        false_from_ne_true _ (λ closed. both_ways (is_torn I path) whole (list_any_at (λ s. is_called_for path s && is_closed path s) I.sites i _ b (and_from _ _ called closed))) in
        Contains-map (λ k. (site_at I k).id) sites i (called_chosen I path hint i b called not_closed)

    keeps_status : (i : ℕ) → i < length I.sites → (status : SiteStatus) → (site_at I i).status ≡ status → KeepsStatus P (site_at I i).id status
    keeps_status i b Free is = tt
    keeps_status i b MustOpen is = called_named i b (or_left _ _ (ap must_open is))
    keeps_status i b MustClose is = λ c. both_ways (is_closed path (site_at I i)) (named_not_closed i b c) (or_left _ _ (ap must_close is))

    each_once : served P ≡ customer_ids I
    each_once =
        once_by_places I P (as_many_served I path sites taken are)
        (λ j b. ap (λ (v : ℕ × ℕ). v.0) (served_at I path sites taken are j (0, 0) (omega (arith, b, as_many_served I path sites taken are))))

    pub plan_is_plan : IsPlan P
    plan_is_plan = record { sites_rise = names_rise; customers_rise = subst IsStrictlyIncreasing (sym each_once) valid.customers_named.rising }

    plan_feasible : I.lo ≤ length sites → length sites ≤ I.hi → IsFeasible I P
    plan_feasible least most =
        record {
          plan = plan_is_plan;
          sites_known = names_known;
          each_once = each_once;
          by_open = of_served I path sites taken are (λ v. Contains names v.1) (λ j b. Contains-map (λ i. (site_at I i).id) sites (server_of taken j) (of_server I path sites taken are (λ t. Contains sites t.1) are.chosen j b));
          by_lane = of_served I path sites taken are (λ v. IsSome (lane I v.1 v.0)) (λ j b. some-is_some _ (lane_parts I path (server_of taken j) j (by_allowed j b)).1);
          within_cap = All-from_get_or (λ s. Contains names s.id → IfSome s.cap (λ cap. load_of I P s.id ≤ cap)) I.sites _
              (λ i b c. holds_load (site_at I i).cap (load_of I P (site_at I i).id) (subst (λ n. holds_demand (site_at I i).cap n ≡ true) (sym (load_is_taken I path sites taken are valid below i b)) (are.room i)));
          at_least = omega (arith, least, length-map sites (λ i. (site_at I i).id));
          at_most = omega (arith, most, length-map sites (λ i. (site_at I i).id));
          statuses = All-from_get_or (λ s. KeepsStatus P s.id s.status) I.sites _ (λ i b. keeps_status i b (site_at I i).status refl);
        }

    -- the place of a known site
    site_place : (s : ℕ) → Contains (site_ids I) s → (i : ℕ) × (i < length I.sites) × ((site_at I i).id ≡ s)
    site_place s known = place_of (λ x. x.id) I.sites _ s known

    -- no decision of the path takes a lane away that is used
    not_barred : (j : ℕ) → j < length I.customers → (e : Decision) → Contains path e → bars_lane (site_at I (server_of taken j)).id (customer_at I j).id e ≡ true → ⊥
    not_barred j b e c bars =
        let lane_bars : Decision → Bool = bars_lane (site_at I (server_of taken j)).id (customer_at I j).id in
        both_ways (list_any lane_bars path) (lane_parts I path (server_of taken j) j (by_allowed j b)).3 (list_any_at lane_bars path c.0 e c.1 (subst (λ f. lane_bars f ≡ true) (sym c.2) bars))

    -- a decision of the path is kept
    keeps : (e : Decision) → Contains path e → NamesKnown I e → IsKept P e
    keeps (Opened s) c known =
        let at = site_place s known in
        let opens : opens_site (site_at I at.0).id (Opened s) ≡ true = eq-eqb _ _ at.2 in
        let called : is_called_for path (site_at I at.0) ≡ true = or_right _ _ (list_any_at (opens_site (site_at I at.0).id) path c.0 (Opened s) c.1 (subst (λ e. opens_site (site_at I at.0).id e ≡ true) (sym c.2) opens)) in
        subst (Contains names) at.2 (called_named at.0 at.1 called)
    keeps (Closed s) c known =
        λ named.
        let at = site_place s known in
        let closes : closes_site (site_at I at.0).id (Closed s) ≡ true = eq-eqb _ _ at.2 in
        let closed : is_closed path (site_at I at.0) ≡ true = or_right _ _ (list_any_at (closes_site (site_at I at.0).id) path c.0 (Closed s) c.1 (subst (λ e. closes_site (site_at I at.0).id e ≡ true) (sym c.2) closes)) in
        both_ways (is_closed path (site_at I at.0)) (named_not_closed at.0 at.1 (subst (Contains names) (sym at.2) named)) closed
    keeps (Yes s d) c known =
        let at : (j : ℕ) × (j < length I.customers) × ((customer_at I j).id ≡ d) = place_of (λ x. x.id) I.customers _ d known.1 in
        let served : get_or P.serves at.0 (d, s) ≡ ((customer_at I at.0).id, (site_at I (server_of taken at.0)).id) = served_at I path sites taken are at.0 (d, s) at.1 in
        let within : at.0 < length P.serves = omega (arith, at.1, as_many_served I path sites taken are) in
        let same : (site_at I (server_of taken at.0)).id ≡ s =
        elim (cases_eq (site_at I (server_of taken at.0)).id s) [
          | inl same ↦ same
          | inr other ↦ absurd (not_barred at.0 at.1 (Yes s d) c (and_from _ _ (not_from_false _ (ne_eqb _ _ other)) (eq-eqb _ _ at.2)))
        ] in
        (at.0, within, served ∙ ap (λ n. (n, (site_at I (server_of taken at.0)).id)) at.2 ∙ ap (λ n. (d, n)) same)
    keeps (No s d) c known =
        λ used.
        let at = served_contained I path sites taken are (d, s) used in
        not_barred at.0 at.1 (No s d) c (and_from _ _ (eq-eqb _ _ (ap (λ (v : ℕ × ℕ). v.1) at.2)) (eq-eqb _ _ (ap (λ (v : ℕ × ℕ). v.0) at.2)))

    plan_in_box : IsPathOf I path → IsInBox P path
    plan_in_box known k d b = keeps (get_or path k d) (Contains-get_or path k d b) (known k d b)

  module _ (P : Plan) (e : packed I path hint ≡ Some P) where
    pub are_taken : AreTaken I path (chosen I path hint) (by_falling_demand I) (packs I path hint P e).taken
    are_taken = all_take I path (chosen I path hint) (by_falling_demand I) [] [] (packs I path hint P e).taken (none_taken I path (chosen I path hint)) (packs I path hint P e).all

    pub packed_feasible : IsFeasible I P
    packed_feasible = let by = packs I path hint P e in subst (IsFeasible I) by.plan (plan_feasible by.taken are_taken by.least by.most)

    pub packed_in_box : IsPathOf I path → IsInBox P path
    packed_in_box known = let by = packs I path hint P e in subst (λ Q. IsInBox Q path) by.plan (plan_in_box by.taken are_taken known)
