-- Sites that cost nothing to open, one after another.
use Rattle.std.proofs.Common.{◌≡◌, ◌⊎◌, ℕ, ◌+◌, ◌<◌, inl, inr, Bool, true, false, List, map, length, refl, sym, ap, subst, ◌∙◌, arith, if◌then◌else◌}
use Rattle.std.specs.Prelude.{◌==◌}
use Rattle.std.proofs.lemmas.Bool.{cases_eq, eq-eqb}
use Rattle.std.proofs.lemmas.List.{length-map, get_or-map, get_or_default, same_lists}
use Rattle.location_terms.specs.Instance.{Instance, Site, site_at}
use Rattle.instance_store.specs.Changes.{with_fixed}
use Rattle.plan_radius.specs.Cheaper.{costless}
use Rattle.plan_radius.specs.Clearing.{without_fixed, ArePartlyCostless}

pub none_costless : (I : Instance) → ArePartlyCostless 0 I I
none_costless I = record { rest = refl; count = refl; first = λ i below _. absurd (omega (arith, below)); others = λ i _. inl refl }

either_stays : (b : Bool) (x y : Site) → (x ≡ y) ⊎ (x ≡ costless y) → ((if b then costless x else x) ≡ y) ⊎ ((if b then costless x else x) ≡ costless y)
either_stays true x y (inl same) = inr (ap costless same)
either_stays true x y (inr done) = inr (ap costless done)
either_stays false x y h = h

costless_stays : (b : Bool) (x y : Site) → x ≡ costless y → (if b then costless x else x) ≡ costless y
costless_stays true x y done = ap costless done
costless_stays false x y done = done

costless_of : (x y : Site) → (x ≡ y) ⊎ (x ≡ costless y) → costless x ≡ costless y
costless_of x y (inl same) = ap costless same
costless_of x y (inr done) = ap costless done

module _ (n : ℕ) (old now : Instance) (so : ArePartlyCostless n old now) where
  module _ (within : n < length old.sites) where
    s : ℕ
    s = (site_at now n).id

    new : Instance
    new = with_fixed now (site_at now n).id 0

    site_new : (k : ℕ) → k < length old.sites → site_at new k ≡ (if (site_at now k).id == s then costless (site_at now k) else site_at now k)
    unfolding new s
    site_new k below = get_or-map (λ (x : Site). if x.id == (site_at now n).id then costless x else x) now.sites k _ _ (omega (arith, below, so.count))

    here : site_at new n ≡ costless (site_at old n)
    unfolding s
    here =
        site_new n within ∙ ap (λ (b : Bool). if b then costless (site_at now n) else site_at now n) (eq-eqb (site_at now n).id (site_at now n).id refl)
        ∙ costless_of (site_at now n) (site_at old n) (so.others n within)

    pub one_more : ArePartlyCostless (n + 1) old (with_fixed now (site_at now n).id 0)
    unfolding new s
    one_more = record {
      rest = ap (λ (A : Instance). record A { sites = new.sites }) so.rest;
      count = length-map now.sites (λ (x : Site). if x.id == (site_at now n).id then costless x else x) ∙ so.count;
      first = λ k below inside.
          elim (cases_eq k n) [
            | inl same ↦ ap (site_at new) same ∙ here ∙ ap (λ i. costless (site_at old i)) (sym same)
            | inr other ↦ site_new k inside ∙ costless_stays ((site_at now k).id == s) (site_at now k) (site_at old k) (so.first k (omega (arith, below, other)) inside)
          ];
      others = λ k inside. subst (λ (x : Site). (x ≡ site_at old k) ⊎ (x ≡ costless (site_at old k))) (sym (site_new k inside)) (either_stays ((site_at now k).id == s) (site_at now k) (site_at old k) (so.others k inside));
    }

  pub all_costless : n ≡ length old.sites → now ≡ without_fixed old
  all_costless all =
      so.rest ∙ ap (λ (sites : List Site). record old { sites = sites })
      (same_lists now.sites (map costless old.sites) (so.count ∙ sym (length-map old.sites costless)) (λ k d below.
      let inside : k < length old.sites = omega (arith, below, so.count) in
      sym (get_or_default now.sites k _ d below) ∙ so.first k (omega (arith, inside, all)) inside ∙ sym (get_or-map costless old.sites k _ d inside)))
