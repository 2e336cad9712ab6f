-- The bound of a leaf in the fixed cost of one site.
use Rattle.std.proofs.Common.{◌≡◌, ◌≢◌, ℕ, ◌*◌, ◌<◌, refl, ap, sym, ◌∙◌, Bool, true, false, List, [], ◌∷◌, map, length, pos, ◌+ℤ◌, ◌-ℤ◌}
use Rattle.std.specs.Prelude.{Contains, ◌==◌, ◌||◌, ◌&&◌, unwrap_or, if◌then◌else◌}
use Rattle.std.specs.List.{list_any, list_all}
use Rattle.std.proofs.lemmas.Bool.{ne_eqb, eq-eqb}
use Rattle.std.proofs.lemmas.List.{length-map, get_or-map}
use Rattle.location_terms.specs.declared.form.LeafForm.{LeafForm}
use Rattle.location_terms.specs.declared.form.LeafForm.TheVariants.{Prices, Whole}
use Rattle.location_terms.specs.Instance.{Instance, Site, IsValid, site_at, customer_at, site_ids, lane}
use Rattle.location_terms.specs.Box.{Path, is_closed, is_called_for}
use Rattle.location_terms.specs.Bound.{Duals, u_at, total, paid_at, cap_price}
use Rattle.location_terms.specs.Knapsack.{best_set, whole_demand, holds_few_units, has_small_knapsacks}
use Rattle.location_terms.specs.Leaf.{slack_in, leaf_bound}
use Rattle.location_terms.proofs.Rising.{place_of, one_place}
use Rattle.instance_store.specs.Changes.{with_fixed}
use Rattle.range_scan.proofs.Bent.{IsBent, bent_same, bent_fixed, bent_whole_fixed}
use Rattle.range_scan.proofs.Alike.{DifferInCosts, no_site, cost_at, all_paid_same, best_same, slack_same, bound_bent}

-- a site, whose fixed cost is another one where it is the one that moves
abbrev pub priced_site : ℕ → Bool → Site → Site
priced_site x b y = if b then record y { fixed = x } else y

pub site_id : (x : ℕ) (b : Bool) (y : Site) → (priced_site x b y).id ≡ y.id
site_id x true y = refl
site_id x false y = refl

pub site_cap : (x : ℕ) (b : Bool) (y : Site) → (priced_site x b y).cap ≡ y.cap
site_cap x true y = refl
site_cap x false y = refl

site_status : (x : ℕ) (b : Bool) (y : Site) → (priced_site x b y).status ≡ y.status
site_status x true y = refl
site_status x false y = refl

torn_site : (path : Path) (x : ℕ) (b : Bool) (y : Site) → (is_called_for path (priced_site x b y) && is_closed path (priced_site x b y)) ≡ (is_called_for path y && is_closed path y)
torn_site path x true y = refl
torn_site path x false y = refl

torn_sites : (path : Path) (s x : ℕ) (ys : List Site) → list_any (λ y. is_called_for path y && is_closed path y) (map (λ y. priced_site x (y.id == s) y) ys) ≡ list_any (λ y. is_called_for path y && is_closed path y) ys
torn_sites path s x [] = refl
torn_sites path s x (y ∷ ys) = λ k. torn_site path x (y.id == s) y k || torn_sites path s x ys k

named_sites : (s x : ℕ) (ys : List Site) → map (λ y. y.id) (map (λ y. priced_site x (y.id == s) y) ys) ≡ map (λ y. y.id) ys
named_sites s x [] = refl
named_sites s x (y ∷ ys) = λ k. site_id x (y.id == s) y k ∷ named_sites s x ys k

few_units : (I : Instance) (s x : ℕ) (ys : List Site) → list_all (λ y. holds_few_units I y.cap) (map (λ y. priced_site x (y.id == s) y) ys) ≡ list_all (λ y. holds_few_units I y.cap) ys
few_units I s x [] = refl
few_units I s x (y ∷ ys) = λ k. holds_few_units I (site_cap x (y.id == s) y k) && few_units I s x ys k

small_same : (I : Instance) (s x : ℕ) → has_small_knapsacks (with_fixed I s x) ≡ has_small_knapsacks I
unfolding has_small_knapsacks
small_same I s x = λ k. if whole_demand I == 0 then true else few_units I s x I.sites k

module _ (I : Instance) (s x : ℕ) where
  pub site_is : (i : ℕ) → i < length I.sites → site_at (with_fixed I s x) i ≡ priced_site x ((site_at I i).id == s) (site_at I i)
  site_is i b = get_or-map (λ (y : Site). priced_site x (y.id == s) y) I.sites i _ _ b

  id_is : (i : ℕ) → i < length I.sites → (site_at (with_fixed I s x) i).id ≡ (site_at I i).id
  id_is i b = ap (λ (y : Site). y.id) (site_is i b) ∙ site_id x ((site_at I i).id == s) (site_at I i)

  pub fixed_costs_differ : DifferInCosts I (with_fixed I s x).sites I.lanes
  fixed_costs_differ = record {
    count = length-map I.sites (λ (y : Site). priced_site x (y.id == s) y);
    names = named_sites s x I.sites;
    torn = λ path. torn_sites path s x I.sites;
    ids = id_is;
    caps = λ i b. ap (λ (y : Site). y.cap) (site_is i b) ∙ site_cap x ((site_at I i).id == s) (site_at I i);
    statuses = λ i b. ap (λ (y : Site). y.status) (site_is i b) ∙ site_status x ((site_at I i).id == s) (site_at I i);
    has = λ a c. refl;
    small = small_same I s x;
  }

  costs_same : (i : ℕ) → i < length I.sites → (j : ℕ) → cost_at (with_fixed I s x) i j ≡ cost_at I i j
  costs_same i b j = ap (λ a. unwrap_or (lane I a (customer_at I j).id) 0) (id_is i b)

  pub own_fixed : (i : ℕ) → i < length I.sites → (site_at I i).id ≡ s → (site_at (with_fixed I s x) i).fixed ≡ x
  own_fixed i b is = ap (λ (y : Site). y.fixed) (site_is i b) ∙ ap (λ t. (priced_site x t (site_at I i)).fixed) (eq-eqb (site_at I i).id s is)

  other_fixed : (i : ℕ) → i < length I.sites → (site_at I i).id ≢ s → (site_at (with_fixed I s x) i).fixed ≡ (site_at I i).fixed
  other_fixed i b other = ap (λ (y : Site). y.fixed) (site_is i b) ∙ ap (λ t. (priced_site x t (site_at I i)).fixed) (ne_eqb (site_at I i).id s other)

module _ (I : Instance) (s : ℕ) (valid : IsValid I) (known : Contains (site_ids I) s) (path : Path) (d : Duals) where
  slack_bent : (i : ℕ) → i < length I.sites → (site_at I i).id ≡ s → (form : LeafForm) → IsBent d.q (λ x. slack_in form (with_fixed I s x) path d i)
  slack_bent i b is Prices =
      bent_same d.q (λ x. slack_in Prices (with_fixed I s x) path d i) _
      (λ x. λ k. ((pos (d.q * own_fixed I s x i b is k) +ℤ d.nu) -ℤ pos (cap_price (u_at d i) ((fixed_costs_differ I s x).caps i b k)))
      -ℤ all_paid_same I (with_fixed I s x).sites I.lanes (fixed_costs_differ I s x) path i b d (costs_same I s x i b) k)
      (bent_fixed d.q d.nu (pos (cap_price (u_at d i) (site_at I i).cap)) (total (paid_at I path d i) (length I.customers)))
  slack_bent i b is Whole =
      bent_same d.q (λ x. slack_in Whole (with_fixed I s x) path d i) _
      (λ x. λ k. (pos (d.q * own_fixed I s x i b is k) +ℤ d.nu) -ℤ best_same I (with_fixed I s x).sites I.lanes (fixed_costs_differ I s x) path i b d (costs_same I s x i b) k)
      (bent_whole_fixed d.q d.nu (best_set I path d i))

  pub fixed_bent : IsBent d.q (λ x. leaf_bound (with_fixed I s x) path d)
  fixed_bent =
      let at = place_of (λ (y : Site). y.id) I.sites no_site s known in
      bound_bent I (λ x. (with_fixed I s x).sites) (λ _. I.lanes) (fixed_costs_differ I s) path d d.form at.0 at.1
      (λ x i inside apart. slack_same I (with_fixed I s x).sites I.lanes (fixed_costs_differ I s x) path i inside d (costs_same I s x i inside)
      (other_fixed I s x i inside (λ e. apart (one_place (λ (y : Site). y.id) I.sites no_site valid.sites_named.rising i at.0 inside at.1 (e ∙ sym at.2)))) d.form)
      (slack_bent at.0 at.1 at.2 d.form)
