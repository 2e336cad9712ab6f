-- What a feasible plan that keeps to a path does with the sites and lanes that the path settles.
use Rattle.std.proofs.Common.{◌≡◌, ℕ, sym, ap, ◌∙◌, inl, inr, subst, Bool, true, false, List, get_or}
use Rattle.std.specs.Prelude.{Contains, All, Any, ◌==◌, ◌&&◌, not}
use Rattle.std.specs.List.{list_any}
use Rattle.std.proofs.lemmas.Bool.{or_cases, and_parts, eqb-true, eqb-false, not-true, false≢true, false_from_ne_true}
use Rattle.std.proofs.lemmas.List.{get_or_default}
use Rattle.std.proofs.lemmas.List.Elements.{All-contains}
use Rattle.std.proofs.lemmas.List.Folds.{Any-from_list_any}
use Rattle.location_terms.specs.declared.status.SiteStatus.{SiteStatus}
use Rattle.location_terms.specs.declared.status.SiteStatus.TheVariants.{Free, MustOpen, MustClose}
use Rattle.location_terms.specs.declared.decision.Decision.{Decision}
use Rattle.location_terms.specs.declared.decision.Decision.TheVariants.{Opened, Closed, Yes, No}
use Rattle.location_terms.specs.Instance.{Instance, Site}
use Rattle.location_terms.specs.Plan.{Plan, IsFeasible, KeepsStatus}
use Rattle.location_terms.specs.Box.{Path, IsKept, IsInBox, closes_site, opens_site, bars_lane, must_open, must_close, is_closed, is_called_for, is_torn}
use Rattle.location_terms.proofs.Rising.{one_place}

-- what follows from an element that passes a test, of which a fact holds as of each
from_any : {X : Type 0} (Q : X → Type 0) (p : X → Bool) (xs : List X) (G : Type 0) → All Q xs → ((x : X) → Q x → p x ≡ true → G) → list_any p xs ≡ true → G
from_any Q p xs G all step t =
    let found : Any (λ x. p x ≡ true) xs = Any-from_list_any p xs t in
    step found.1 (subst Q found.3 (all found.0 found.1 found.2)) found.4

status_opens : (P : Plan) (s : ℕ) (st : SiteStatus) → KeepsStatus P s st → must_open st ≡ true → Contains P.sites s
status_opens P s Free keeps t = absurd (false≢true t)
status_opens P s MustOpen keeps t = keeps
status_opens P s MustClose keeps t = absurd (false≢true t)

status_closes : (P : Plan) (s : ℕ) (st : SiteStatus) → KeepsStatus P s st → must_close st ≡ true → Contains P.sites s → ⊥
status_closes P s Free keeps t = absurd (false≢true t)
status_closes P s MustOpen keeps t = absurd (false≢true t)
status_closes P s MustClose keeps t = keeps

decision_closes : (P : Plan) (s : ℕ) (e : Decision) → IsKept P e → closes_site s e ≡ true → Contains P.sites s → ⊥
decision_closes P s (Closed t) kept same is_open = kept (subst (λ x. Contains P.sites x) (eqb-true s t same) is_open)
decision_closes P s (Opened t) kept same is_open = false≢true same
decision_closes P s (Yes t c) kept same is_open = false≢true same
decision_closes P s (No t c) kept same is_open = false≢true same

module _ (I : Instance) (P : Plan) (feasible : IsFeasible I P) where
  decision_opens : (s : ℕ) (e : Decision) → IsKept P e → opens_site s e ≡ true → Contains P.sites s
  decision_opens s (Opened t) kept same = subst (λ x. Contains P.sites x) (sym (eqb-true s t same)) kept
  decision_opens s (Yes t c) kept same = subst (λ x. Contains P.sites x) (sym (eqb-true s t same)) (All-contains (λ v. Contains P.sites v.1) P.serves (c, t) feasible.by_open kept)
  decision_opens s (Closed t) kept same = absurd (false≢true same)
  decision_opens s (No t c) kept same = absurd (false≢true same)

  -- a customer has one server
  one_server : (c s t : ℕ) → Contains P.serves (c, s) → Contains P.serves (c, t) → s ≡ t
  one_server c s t a b =
      let there : get_or P.serves b.0 (c, s) ≡ (c, t) = get_or_default P.serves b.0 (c, s) (c, t) b.1 ∙ b.2 in
      let one_customer : (get_or P.serves a.0 (c, s)).0 ≡ (get_or P.serves b.0 (c, s)).0 = ap (λ (v : ℕ × ℕ). v.0) a.2 ∙ sym (ap (λ (v : ℕ × ℕ). v.0) there) in
      let same : a.0 ≡ b.0 = one_place (λ v. v.0) P.serves (c, s) feasible.plan.customers_rise a.0 b.0 a.1 b.1 one_customer in
      let one_pair : (c, s) ≡ (c, t) = sym a.2 ∙ ap (λ k. get_or P.serves k (c, s)) same ∙ there in
      ap (λ (v : ℕ × ℕ). v.1) one_pair

  decision_bars : (s c : ℕ) (e : Decision) → IsKept P e → bars_lane s c e ≡ true → Contains P.serves (c, s) → ⊥
  decision_bars s c (No t d) kept bars is_used =
      let parts : ((s == t) ≡ true) × ((c == d) ≡ true) = and_parts _ _ bars in
      let same_site : s ≡ t = eqb-true s t parts.0 in
      let same_customer : c ≡ d = eqb-true c d parts.1 in
      kept (rw (same_customer, same_site) at is_used)
  decision_bars s c (Yes t d) kept bars is_used =
      let parts : (not (s == t) ≡ true) × ((c == d) ≡ true) = and_parts _ _ bars in
      let same_customer : c ≡ d = eqb-true c d parts.1 in
      eqb-false s t (not-true (s == t) parts.0) (one_server c s t is_used (rw same_customer kept))
  decision_bars s c (Opened t) kept same is_used = false≢true same
  decision_bars s c (Closed t) kept same is_used = false≢true same

  module _ (path : Path) (in_box : IsInBox P path) where
    -- an open site is not closed
    pub closed_is_not_open : (s : Site) → KeepsStatus P s.id s.status → is_closed path s ≡ true → Contains P.sites s.id → ⊥
    closed_is_not_open s keeps t =
        elim (or_cases _ _ t) [
          | inl by_status ↦ status_closes P s.id s.status keeps by_status
          | inr by_box ↦ from_any (IsKept P) (closes_site s.id) path (Contains P.sites s.id → ⊥) in_box (decision_closes P s.id) by_box
        ]

    pub called_is_open : (s : Site) → KeepsStatus P s.id s.status → is_called_for path s ≡ true → Contains P.sites s.id
    called_is_open s keeps t =
        elim (or_cases _ _ t) [
          | inl by_status ↦ status_opens P s.id s.status keeps by_status
          | inr by_box ↦ from_any (IsKept P) (opens_site s.id) path (Contains P.sites s.id) in_box (decision_opens s.id) by_box
        ]

    pub not_torn : is_torn I path ≡ false
    not_torn =
        false_from_ne_true _ (λ t. from_any (λ s. KeepsStatus P s.id s.status) (λ s. is_called_for path s && is_closed path s) I.sites ⊥ feasible.statuses
        (λ s keeps both. let parts : (is_called_for path s ≡ true) × (is_closed path s ≡ true) = and_parts _ _ both in
        closed_is_not_open s keeps parts.1 (called_is_open s keeps parts.0))
        t)

    pub used_is_not_barred : (s c : ℕ) → Contains P.serves (c, s) → list_any (bars_lane s c) path ≡ false
    used_is_not_barred s c is_used =
        false_from_ne_true _ (λ t. from_any (IsKept P) (bars_lane s c) path ⊥ in_box (λ e kept bars. decision_bars s c e kept bars is_used) t)
