-- A torn path has a step that names a torn site.
use Rattle.std.proofs.Common.{◌≡◌, ℕ, ◌<◌, sym, ap, subst, ◌∙◌, inl, inr, Bool, true, false, length, Some}
use Rattle.std.specs.List.{list_any, Any, All, Contains}
use Rattle.std.proofs.lemmas.Bool.{eqb-true, and_parts, or_cases, both_ways, false_from_ne_true}
use Rattle.std.proofs.lemmas.List.Folds.{Any-from_list_any, list_any_none, list_any_at}
use Rattle.std.proofs.lemmas.List.Elements.{All-from_get_or}
use Rattle.location_terms.specs.Instance.{Instance, IsValid, Site, site_at, site_ids}
use Rattle.std.proofs.lemmas.List.{length-map, get_or-map}
use Rattle.location_terms.proofs.Rising.{one_place}
use Rattle.location_terms.specs.Box.{Path, closes_site, opens_site, must_open, must_close, is_closed, is_called_for, is_torn}
use Rattle.location_terms.specs.declared.decision.Decision.{Decision}
use Rattle.location_terms.specs.declared.decision.Decision.TheVariants.{Opened, Closed, Yes, No}
use Rattle.location_terms.specs.declared.status.SiteStatus.{SiteStatus}
use Rattle.location_terms.specs.declared.status.SiteStatus.TheVariants.{Free, MustOpen, MustClose}
use Rattle.dual_value.specs.Lanes.{named_site}
use Rattle.dual_value.specs.SiteState.{is_torn_site, LeavesWhole}

named_by_opening : (s : ℕ) (d : Decision) → opens_site s d ≡ true → named_site d ≡ Some s
named_by_opening s (Opened t) e = ap Some (sym (eqb-true s t e))
named_by_opening s (Yes t c) e = ap Some (sym (eqb-true s t e))
named_by_opening s (Closed t) e = cc
named_by_opening s (No t c) e = cc

named_by_closing : (s : ℕ) (d : Decision) → closes_site s d ≡ true → named_site d ≡ Some s
named_by_closing s (Closed t) e = ap Some (sym (eqb-true s t e))
named_by_closing s (Opened t) e = cc
named_by_closing s (Yes t c) e = cc
named_by_closing s (No t c) e = cc

not_both : (status : SiteStatus) → must_open status ≡ true → must_close status ≡ true → ⊥
not_both Free o c = cc
not_both MustOpen o c = cc
not_both MustClose o c = cc

-- a step that passes the test names the site
named_step : (test : Decision → Bool) (s : ℕ) (path : Path) → ((d : Decision) → test d ≡ true → named_site d ≡ Some s) → list_any test path ≡ true → Any (λ d. named_site d ≡ Some s) path
named_step test s path h e = let a = Any-from_list_any test path e in (a.0, a.1, a.2, a.3, h a.1 a.4)

pub torn_by_step : (path : Path) (s : Site) → is_torn_site path s ≡ true → Any (λ d. named_site d ≡ Some s.id) path
torn_by_step path s torn =
    let both = and_parts (is_called_for path s) (is_closed path s) torn in
    elim (or_cases (must_close s.status) (list_any (closes_site s.id) path) both.1) [
      | inr closed ↦ named_step (closes_site s.id) s.id path (named_by_closing s.id) closed
      | inl must ↦ elim (or_cases (must_open s.status) (list_any (opens_site s.id) path) both.0) [
        | inl other ↦ absurd (not_both s.status other must)
        | inr opened ↦ named_step (opens_site s.id) s.id path (named_by_opening s.id) opened
      ]
    ]

-- where no step names a torn site, the path is not torn
pub whole_from_steps : (I : Instance) (path : Path) → All (LeavesWhole I path) path → is_torn I path ≡ false
whole_from_steps I path calm =
    list_any_none (is_torn_site path) I.sites
    (All-from_get_or (λ s. is_torn_site path s ≡ false) I.sites _ (λ i b. false_from_ne_true (is_torn_site path (site_at I i)) (λ torn.
    let step = torn_by_step path (site_at I i) torn in
    both_ways (is_torn_site path (site_at I i)) (calm step.0 step.1 step.2 i b (ap named_site step.3 ∙ step.4)) torn)))

pub torn_from_site : (I : Instance) (path : Path) (i : ℕ) → i < length I.sites → is_torn_site path (site_at I i) ≡ true → is_torn I path ≡ true
torn_from_site I path i b e = list_any_at (is_torn_site path) I.sites i _ b e

-- one site that is not torn, at its one place
pub whole_at : (I : Instance) (path : Path) (d : Decision) (s k : ℕ) → IsValid I → named_site d ≡ Some s → (k < length I.sites) × ((site_at I k).id ≡ s) → is_torn_site path (site_at I k) ≡ false → LeavesWhole I path d
whole_at I path d s k valid names found calm i b e =
    let same : s ≡ (site_at I i).id = cc in
    subst (λ n. is_torn_site path (site_at I n) ≡ false) (one_place (λ x. x.id) I.sites _ valid.sites_named.rising k i found.0 b (found.1 ∙ same)) calm

pub knows_site : (I : Instance) (i s : ℕ) → i < length I.sites → s ≡ (site_at I i).id → Contains (site_ids I) s
knows_site I i s b e = let h : i < length (site_ids I) = rw length-map b in (i, h, get_or-map (λ x. x.id) I.sites i _ s b ∙ sym e)
