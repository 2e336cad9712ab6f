-- What is settled of a site with one more step of a path.
use Rattle.std.proofs.Common.{◌≡◌, ◌==◌, ℕ, ◌+◌, ◌<◌, ◌++◌, ◌∷◌, [], refl, sym, ap, subst, ◌∙◌, inl, inr, Bool, true, false, ◌&&◌, ◌||◌, not, List, length, take, drop, get_or, slice_set, None, Some, arith}
use Rattle.std.specs.Prelude.{Contains}
use Rattle.std.proofs.lemmas.Bool.{ne_eqb, eq-eqb, and_right, false≢true, cases_eq}
use Rattle.std.proofs.lemmas.List.{take_more, length-set, get_or-set_other, get_or_push, get_or_append_left}
use Rattle.std.proofs.lemmas.Grind.{get_or-set_at}
use Rattle.std.proofs.lemmas.List.Folds.{list_any-append}
use Rattle.std.specs.List.{list_any}
use Rattle.location_terms.specs.Instance.{Instance, IsValid, Site, site_at, site_ids}
use Rattle.location_terms.specs.Box.{Path, closes_site, opens_site, must_open, must_close, is_closed, is_called_for}
use Rattle.location_terms.specs.declared.decision.Decision.{Decision}
use Rattle.location_terms.specs.declared.decision.Decision.TheVariants.{Opened, Closed, Yes, No}
use Rattle.location_terms.specs.declared.status.SiteStatus.{SiteStatus}
use Rattle.location_terms.specs.declared.status.SiteStatus.TheVariants.{Free, MustOpen, MustClose}
use Rattle.location_terms.proofs.Rising.{one_place}
use Rattle.lane_order.proofs.Lists.{written_whole}
use Rattle.dual_value.specs.Lanes.{named_site}
use Rattle.dual_value.specs.SiteState.{IsState}
use Rattle.dual_value.specs.PreparedSites.{AreStates, settled_by, opened_by, state_of}
use Rattle.dual_value.specs.declared.settled.SiteState.{SiteState}
use Rattle.dual_value.specs.declared.settled.SiteState.TheVariants as state
use Rattle.dual_value.proofs.Torn.{knows_site}

or_false : (a : Bool) → (a || false) ≡ a
or_false true = refl
or_false false = refl

or_true : (a : Bool) → (a || true) ≡ true
or_true true = refl
or_true false = refl

or_or : (a b c : Bool) → (a || (b || c)) ≡ ((a || b) || c)
or_or true b c = refl
or_or false b c = refl

-- a test of one more step
any_more : (test : Decision → Bool) (path : Path) (d : Decision) → list_any test (path ++ d ∷ []) ≡ (list_any test path || test d)
any_more test path d = list_any-append test path (d ∷ []) ∙ ap (λ b. list_any test path || b) (or_false (test d))

closed_more : (path : Path) (s : Site) (d : Decision) → is_closed (path ++ d ∷ []) s ≡ (is_closed path s || closes_site s.id d)
closed_more path s d = ap (λ b. must_close s.status || b) (any_more (closes_site s.id) path d) ∙ or_or (must_close s.status) (list_any (closes_site s.id) path) (closes_site s.id d)

called_for_more : (path : Path) (s : Site) (d : Decision) → is_called_for (path ++ d ∷ []) s ≡ (is_called_for path s || opens_site s.id d)
called_for_more path s d = ap (λ b. must_open s.status || b) (any_more (opens_site s.id) path d) ∙ or_or (must_open s.status) (list_any (opens_site s.id) path) (opens_site s.id d)

-- the state of a site that is called for and closed, or not
abbrev Settles : Bool → Bool → SiteState → Type 0
Settles called closed state.Opened = (called && not closed) ≡ true
Settles called closed state.Closed = closed ≡ true
Settles called closed state.Free = (not called && not closed) ≡ true

settles : (path : Path) (s : Site) (st : SiteState) → IsState path s st → Settles (is_called_for path s) (is_closed path s) st
settles path s state.Opened h = h
settles path s state.Closed h = h
settles path s state.Free h = h

is_state : (path : Path) (s : Site) (st : SiteState) → Settles (is_called_for path s) (is_closed path s) st → IsState path s st
is_state path s state.Opened h = h
is_state path s state.Closed h = h
is_state path s state.Free h = h

settles_opened : (called closed : Bool) (st : SiteState) → Settles called closed st → Settles true closed (opened_by st)
settles_opened called true state.Opened h = absurd (false≢true (sym (and_right called false refl) ∙ h))
settles_opened called false state.Opened h = refl
settles_opened called closed state.Closed h = h
settles_opened called true state.Free h = absurd (false≢true (sym (and_right (not called) false refl) ∙ h))
settles_opened called false state.Free h = refl

-- the same with one more step
by_step : (path : Path) (s : Site) (d : Decision) (st : SiteState) (called closed : Bool) → (is_called_for path s || opens_site s.id d) ≡ called → (is_closed path s || closes_site s.id d) ≡ closed → Settles called closed st → IsState (path ++ d ∷ []) s st
by_step path s d st called closed c k h =
    is_state (path ++ d ∷ []) s st (subst (λ (b : Bool × Bool). Settles b.0 b.1 st) (λ i. ((sym c ∙ sym (called_for_more path s d)) i, (sym k ∙ sym (closed_more path s d)) i)) h)

-- a decision that names the site
pub state_named : (path : Path) (s : Site) (d : Decision) (st : SiteState) → named_site d ≡ Some s.id → IsState path s st → IsState (path ++ d ∷ []) s (settled_by st d)
state_named path s (Opened t) st named h =
    let here : (s.id == t) ≡ true = eq-eqb s.id t cc in
    by_step path s (Opened t) (opened_by st) true (is_closed path s) (ap (λ b. is_called_for path s || b) here ∙ or_true (is_called_for path s)) (or_false (is_closed path s)) (settles_opened (is_called_for path s) (is_closed path s) st (settles path s st h))
state_named path s (Yes t c) st named h =
    let here : (s.id == t) ≡ true = eq-eqb s.id t cc in
    by_step path s (Yes t c) (opened_by st) true (is_closed path s) (ap (λ b. is_called_for path s || b) here ∙ or_true (is_called_for path s)) (or_false (is_closed path s)) (settles_opened (is_called_for path s) (is_closed path s) st (settles path s st h))
state_named path s (Closed t) st named h =
    let here : (s.id == t) ≡ true = eq-eqb s.id t cc in
    by_step path s (Closed t) state.Closed (is_called_for path s) true (or_false (is_called_for path s)) (ap (λ b. is_closed path s || b) here ∙ or_true (is_closed path s)) refl
state_named path s (No t c) st named h = absurd cc

opens_no_other : (s : ℕ) (d : Decision) → (named_site d ≡ Some s → ⊥) → opens_site s d ≡ false
opens_no_other s (Opened t) other = ne_eqb s t (λ same. other (ap Some (sym same)))
opens_no_other s (Yes t c) other = ne_eqb s t (λ same. other (ap Some (sym same)))
opens_no_other s (Closed t) other = refl
opens_no_other s (No t c) other = refl

closes_no_other : (s : ℕ) (d : Decision) → (named_site d ≡ Some s → ⊥) → closes_site s d ≡ false
closes_no_other s (Closed t) other = ne_eqb s t (λ same. other (ap Some (sym same)))
closes_no_other s (Opened t) other = refl
closes_no_other s (Yes t c) other = refl
closes_no_other s (No t c) other = refl

-- a decision that doesn't
pub state_kept : (path : Path) (s : Site) (d : Decision) (st : SiteState) → (named_site d ≡ Some s.id → ⊥) → IsState path s st → IsState (path ++ d ∷ []) s st
state_kept path s d st other h =
    by_step path s d st (is_called_for path s) (is_closed path s) (ap (λ b. is_called_for path s || b) (opens_no_other s.id d other) ∙ or_false (is_called_for path s))
    (ap (λ b. is_closed path s || b) (closes_no_other s.id d other) ∙ or_false (is_closed path s)) (settles path s st h)

-- the status alone
pub state_root : (s : Site) (status : SiteStatus) → s.status ≡ status → IsState [] s (state_of status)
state_root s Free e = λ i. not (must_open (e i) || false) && not (must_close (e i) || false)
state_root s MustOpen e = λ i. (must_open (e i) || false) && not (must_close (e i) || false)
state_root s MustClose e = λ i. must_close (e i) || false

-- one more number that has what is asked of its place
pub one_more : {X : Type 0} (P : ℕ → X → Type 0) (old new : List X) (x : X) (n : ℕ) → length old ≡ n → new ≡ old ++ x ∷ []
    → ((i : ℕ) (d : X) → i < n → P i (get_or old i d)) → P n x → (i : ℕ) (d : X) → i < n + 1 → P i (get_or new i d)
one_more {X} P old new x n count is each last i d below =
    subst (λ xs. P i (get_or xs i d)) (sym is) (elim (cases_eq i n) [
      | inl same ↦
          subst (λ (p : ℕ × X). P p.0 p.1) (λ m. (sym same m, sym (get_or_push old x d i (count ∙ sym same)) m)) last
      | inr other ↦
          subst (P i) (sym (get_or_append_left old (x ∷ []) d i (omega (arith, below, other, count)))) (each i d (omega (arith, below, other)))
    ])

-- states with that of the site that the decision names set
module _ (I : Instance) (d : Decision) (s : ℕ) (names : named_site d ≡ Some s) where
  pub states_set : (path : Path) (states : List SiteState) (k : ℕ) (e st : SiteState) → IsValid I → (k < length I.sites) × ((site_at I k).id ≡ s) → st ≡ settled_by (get_or states k e) d
      → AreStates I path states → AreStates I (path ++ d ∷ []) (slice_set states k st)
  states_set path states k e st valid found is are = record {
    count = length-set states k st ∙ are.count;
    each = λ i f b. elim (cases_eq i k) [
      | inl same ↦
          subst (λ (p : ℕ × SiteState). IsState (path ++ d ∷ []) (site_at I p.0) p.1) (λ m. (sym same m, sym (get_or-set_at states k i st f same (omega (arith, found.0, are.count)) ∙ is) m))
          (state_named path (site_at I k) d (get_or states k e) (names ∙ ap Some (sym found.1)) (are.each k e found.0))
      | inr other ↦
          subst (IsState (path ++ d ∷ []) (site_at I i)) (sym (get_or-set_other states k i st f other))
          (state_kept path (site_at I i) d (get_or states i f) (λ same. other (one_place (λ x. x.id) I.sites _ valid.sites_named.rising i k b found.0 (same_id (site_at I i).id same ∙ sym found.1))) (are.each i f b))
    ];
  }
    where
      same_id : (t : ℕ) → named_site d ≡ Some t → t ≡ s
      same_id t same = let e : Some t ≡ Some s = sym same ∙ names in cc

  -- and where the instance has no such site
  pub states_kept : (path : Path) (states : List SiteState) → (Contains (site_ids I) s → ⊥) → AreStates I path states → AreStates I (path ++ d ∷ []) states
  states_kept path states unknown are = record {
    count = are.count;
    each = λ i f b. state_kept path (site_at I i) d (get_or states i f) (λ same.
        let e : Some s ≡ Some (site_at I i).id = sym names ∙ same in
        unknown (knows_site I i s b cc)) (are.each i f b);
  }

-- a decision that names no site
pub states_by_none : (I : Instance) (path : Path) (d : Decision) (states : List SiteState) → named_site d ≡ None → AreStates I path states → AreStates I (path ++ d ∷ []) states
states_by_none I path d states none are = record {
  count = are.count;
  each = λ i f b. state_kept path (site_at I i) d (get_or states i f) (λ same. let e : None ≡ Some (site_at I i).id = sym none ∙ same in cc) (are.each i f b);
}

-- what one more step of a path makes of a list
pub step_taken : {X : Type 0} (P : Path → List X → Type 0) (path items : Path) (k : ℕ) (d : Decision) (old start new : List X) (n : ℕ) → items ≡ path → k < length items → d ≡ get_or items k d
    → n ≡ length old → start ≡ old → length new ≡ length start → P (take k path) old → (P (take k path) start → P (take k path ++ d ∷ []) new) → P (take (k + 1) path) (take n (new ++ drop (length new) old))
step_taken {X} P path items k d old start new n all below is room same long before step =
    let within : k < length path = omega (arith, below, ap length all) in
    let at : get_or path k d ≡ d = ap (λ xs. get_or xs k d) (sym all) ∙ sym is in
    let more : take k path ++ d ∷ [] ≡ take (k + 1) path = ap (λ x. take k path ++ x ∷ []) (sym at) ∙ sym (take_more path k d within) in
    let written : new ≡ take n (new ++ drop (length new) old) = sym (written_whole old new n room (long ∙ ap length same)) in
    subst (λ (p : Path × List X). P p.0 p.1) (λ i. (more i, written i)) (step (subst (P (take k path)) (sym same) before))
