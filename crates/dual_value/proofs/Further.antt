-- The bound of the same duals after one more decision.
use Rattle.std.proofs.Common.{◌≡◌, ℕ, ◌<◌, refl, sym, ◌∙◌, inl, inr, ◌⊎◌, arith, subst, Bool, true, false, List, [], ◌∷◌, ◌++◌, length, ℤ, pos, ◌-ℤ◌, ◌≤ℤ◌}
use Rattle.std.specs.Prelude.{◌&&◌, ◌||◌, not, if◌then◌else◌}
use Rattle.std.specs.List.{list_any}
use Rattle.std.specs.Int.{int_max, int_min}
use Rattle.std.proofs.lemmas.Int.{ints, clamps}
use Rattle.std.proofs.lemmas.Bool.{and_parts, and_from, or_cases, not-true, false≢true, both_ways, eqb-true}
use Rattle.std.proofs.lemmas.List.Folds.{list_any-append, list_any-from_Any, Any-from_list_any}
use Rattle.location_terms.specs.declared.decision.Decision.{Decision}
use Rattle.location_terms.specs.declared.decision.Decision.TheVariants.{Closed}
use Rattle.location_terms.specs.Instance.{Instance, Site, Customer, IsValid, site_at, customer_at}
use Rattle.location_terms.specs.Box.{Path, closes_site, opens_site, bars_lane, must_open, must_close, is_closed, is_called_for, is_free, is_torn, is_allowed}
use Rattle.location_terms.specs.Bound.{Duals, v_at, level_at, paid_at, slack_of, share_of, bound_of}
use Rattle.location_terms.proofs.Totals.{total_le}
use Rattle.location_terms.proofs.Rising.{one_place}

-- from one truth value to another
abbrev Implies : Bool → Bool → Type 0
Implies a b = a ≡ true → b ≡ true

or_implies : (a b : Bool) → Implies a (a || b)
or_implies true b h = refl
or_implies false b h = absurd (false≢true h)

or_second : (a b : Bool) → Implies b (a || b)
or_second true b h = refl
or_second false b h = h

or_alone : (a : Bool) → Implies (a || false) a
or_alone true h = refl
or_alone false h = h

or_grows : (m a b : Bool) → Implies a b → Implies (m || a) (m || b)
or_grows true a b h t = refl
or_grows false a b h t = h t

not_shrinks : (a b : Bool) → Implies a b → Implies (not b) (not a)
not_shrinks false b h t = refl
not_shrinks true true h t = t
not_shrinks true false h t = absurd (false≢true (h refl))

and_grows : (a b x y : Bool) → Implies a b → Implies x y → Implies (a && x) (b && y)
and_grows a b x y h k t = let parts = and_parts a x t in and_from b y (h parts.0) (k parts.1)

any_grows : {X : Type 0} (p q : X → Bool) → ((x : X) → Implies (p x) (q x)) → (xs : List X) → Implies (list_any p xs) (list_any q xs)
any_grows p q h xs t = let a = Any-from_list_any p xs t in list_any-from_Any q xs (a.0, a.1, a.2, a.3, h a.1 a.4)

-- a payment falls where its lane is no longer allowed, and is not below 0
paid_falls : (allowed now : Bool) (gain : ℤ) → Implies now allowed → (if now then int_max (pos 0) gain else pos 0) ≤ℤ (if allowed then int_max (pos 0) gain else pos 0)
paid_falls true true gain h = omega (arith, ints)
paid_falls true false gain h = omega (arith, ints, clamps)
paid_falls false false gain h = omega (arith, ints)
paid_falls false true gain h = absurd (false≢true (h refl))

-- a share rises with the slack, where the site stays closed, stays asked for, and isn't closed while it is asked for
share_rises : (called closed called_now closed_now : Bool) (slack now : ℤ) → Implies called called_now → Implies closed closed_now → (called ≡ true → Implies closed_now closed) → slack ≤ℤ now
    → (if called && not closed then slack else (if not called && not closed then int_min (pos 0) slack else pos 0)) ≤ℤ (if called_now && not closed_now then now else (if not called_now && not closed_now then int_min (pos 0) now else pos 0))
share_rises called true called_now false slack now h k l m = absurd (false≢true (k refl))
share_rises true true true true slack now h k l m = omega (arith, ints)
share_rises true true false true slack now h k l m = omega (arith, ints)
share_rises false true true true slack now h k l m = omega (arith, ints)
share_rises false true false true slack now h k l m = omega (arith, ints)
share_rises true false called_now true slack now h k l m = absurd (false≢true (l refl refl))
share_rises false false true true slack now h k l m = omega (arith, ints, clamps)
share_rises false false false true slack now h k l m = omega (arith, ints, clamps)
share_rises true false true false slack now h k l m = omega (arith, ints, clamps)
share_rises true false false false slack now h k l m = absurd (false≢true (h refl))
share_rises false false true false slack now h k l m = omega (arith, ints, clamps)
share_rises false false false false slack now h k l m = omega (arith, ints, clamps)

module _ (I : Instance) (path : Path) (e : Decision) where
  abbrev further : Path
  further = path ++ e ∷ []

  any_further : (p : Decision → Bool) → Implies (list_any p path) (list_any p further)
  any_further p t = list_any-append p path (e ∷ []) ∙ or_implies (list_any p path) (list_any p (e ∷ [])) t

  -- what holds after the decision and not before is by the decision
  by_decision : (p : Decision → Bool) → list_any p further ≡ true → (list_any p path ≡ true) ⊎ (p e ≡ true)
  by_decision p t = elim (or_cases (list_any p path) (list_any p (e ∷ [])) (sym (list_any-append p path (e ∷ [])) ∙ t)) [
    | inl before ↦ inl before
    | inr now ↦ inr (or_alone (p e) now)
  ]

  closed_further : (s : Site) → Implies (is_closed path s) (is_closed further s)
  closed_further s = or_grows (must_close s.status) (list_any (closes_site s.id) path) (list_any (closes_site s.id) further) (any_further (closes_site s.id))

  called_further : (s : Site) → Implies (is_called_for path s) (is_called_for further s)
  called_further s = or_grows (must_open s.status) (list_any (opens_site s.id) path) (list_any (opens_site s.id) further) (any_further (opens_site s.id))

  torn_further : Implies (is_torn I path) (is_torn I further)
  torn_further = any_grows (λ s. is_called_for path s && is_closed path s) (λ s. is_called_for further s && is_closed further s) (λ s. and_grows _ _ _ _ (called_further s) (closed_further s)) I.sites

  allowed_before : (s : Site) (c : Customer) → Implies (is_allowed I further s c) (is_allowed I path s c)
  allowed_before s c =
      and_grows _ _ _ _ (and_grows _ _ _ _ (and_grows _ _ _ _ (and_grows _ _ _ _ (not_shrinks _ _ torn_further) (λ t. t)) (not_shrinks _ _ (closed_further s))) (not_shrinks _ _ (any_further (bars_lane s.id c.id)))) (λ t. t)

  module _ (d : Duals) where
    slack_rises : (i : ℕ) → slack_of I path d i ≤ℤ slack_of I further d i
    slack_rises i =
        omega (arith, ints, total_le (paid_at I further d i) (paid_at I path d i) (length I.customers) (λ j b. paid_falls (is_allowed I path (site_at I i) (customer_at I j)) (is_allowed I further (site_at I i) (customer_at I j)) (v_at d j -ℤ level_at I d i j) (allowed_before (site_at I i) (customer_at I j))))

    closed_before : (i : ℕ) → (closes_site (site_at I i).id e ≡ true → ⊥) → Implies (is_closed further (site_at I i)) (is_closed path (site_at I i))
    closed_before i keeps t =
        let s : Site = site_at I i in
        elim (or_cases (must_close s.status) (list_any (closes_site s.id) further) t) [
          | inl by_status ↦ or_implies (must_close s.status) (list_any (closes_site s.id) path) by_status
          | inr by_box ↦ elim (by_decision (closes_site s.id) by_box) [
            | inl before ↦ or_second (must_close s.status) (list_any (closes_site s.id) path) before
            | inr now ↦ absurd (keeps now)
          ]
        ]

    -- where the decision closes no site that is asked for
    pub bound_rises : ((i : ℕ) → i < length I.sites → is_called_for path (site_at I i) ≡ true → closes_site (site_at I i).id e ≡ true → ⊥) → bound_of I path d ≤ℤ bound_of I further d
    bound_rises keeps =
        omega (
          arith,
          ints,
          total_le (share_of I path d) (share_of I further d) (length I.sites) (λ i b. share_rises (is_called_for path (site_at I i)) (is_closed path (site_at I i)) (is_called_for further (site_at I i)) (is_closed further (site_at I i)) (slack_of I path d i) (slack_of I further d i) (called_further (site_at I i)) (closed_further (site_at I i))
              (λ called t. closed_before i (λ closes. keeps i b called closes) t)
              (slack_rises i)),
        )

-- a site that is free is closed
pub bound_rises_closed : (I : Instance) (path : Path) (d : Duals) (i : ℕ) → IsValid I → i < length I.sites → is_free path (site_at I i) ≡ true → bound_of I path d ≤ℤ bound_of I (path ++ Closed (site_at I i).id ∷ []) d
bound_rises_closed I path d i valid b free =
    bound_rises I path (Closed (site_at I i).id) d
    (λ j c called closes. let same : j ≡ i = one_place (λ x. x.id) I.sites _ valid.sites_named.rising j i c b (eqb-true _ _ closes) in
    both_ways (is_called_for path (site_at I i)) (not-true _ (and_parts _ _ free).0) (subst (λ k. is_called_for path (site_at I k) ≡ true) same called))
