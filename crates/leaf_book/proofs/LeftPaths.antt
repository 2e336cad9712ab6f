-- Steps that name what is gone settle nothing of what the instance has.
use Rattle.std.proofs.Common.{◌≡◌, ℕ, ◌<◌, refl, ap, sym, subst, ◌∙◌, arith, Bool, true, false, cond, List, [], ◌∷◌, length, get_or}
use Rattle.std.specs.Prelude.{◌&&◌, ◌||◌, ◌==◌}
use Rattle.std.specs.List.{list_any}
use Rattle.std.proofs.lemmas.Bool.{and_parts, eqb-true, false_from_ne_true, eq-eqb}
use Rattle.std.proofs.lemmas.List.Folds.{list_any_at}
use Rattle.location_terms.specs.declared.decision.Decision.{Decision}
use Rattle.location_terms.specs.declared.decision.Decision.TheVariants.{Opened, Closed, Yes, No}
use Rattle.location_terms.specs.Instance.{Instance, site_at, customer_at, site_ids, customer_ids}
use Rattle.location_terms.specs.Box.{Path, closes_site, opens_site, bars_lane}
use Rattle.location_terms.specs.Bound.{Duals}
use Rattle.location_terms.specs.Carried.{is_listed}
use Rattle.location_terms.proofs.Places.{length-site_ids, length-customer_ids, slice_index-site_ids, slice_index-customer_ids}
use Rattle.leaf_book.specs.Kept.{keeps_step, keeps}
use Rattle.leaf_book.proofs.KeptLeaves.{knows_step, left_path}
use Rattle.leaf_book.proofs.Alike.{IsSettledAlike, IsMadeAlike, torn_alike}

-- a site and a customer of the instance are listed
site_listed : (I : Instance) (i : ℕ) → i < length I.sites → is_listed (site_ids I) (site_at I i).id ≡ true
site_listed I i b =
    list_any_at (λ x. x == (site_at I i).id) (site_ids I) i 0 (omega (arith, b, length-site_ids I)) (eq-eqb (get_or (site_ids I) i 0) (site_at I i).id (slice_index-site_ids I i b))

customer_listed : (I : Instance) (j : ℕ) → j < length I.customers → is_listed (customer_ids I) (customer_at I j).id ≡ true
customer_listed I j b =
    list_any_at (λ x. x == (customer_at I j).id) (customer_ids I) j 0 (omega (arith, b, length-customer_ids I)) (eq-eqb (get_or (customer_ids I) j 0) (customer_at I j).id (slice_index-customer_ids I j b))

-- an id that is listed is none that isn't
other_id : (ids : List ℕ) (s t : ℕ) → is_listed ids s ≡ true → is_listed ids t ≡ false → (s == t) ≡ false
other_id ids s t known gone = false_from_ne_true (s == t) (λ e. let same : s ≡ t = eqb-true s t e in let both : is_listed ids t ≡ true = subst (λ x. is_listed ids x ≡ true) same known in cc)

-- nor are two ids of which one isn't
other_pair : (ids jds : List ℕ) (s c t d : ℕ) → is_listed ids s ≡ true → is_listed jds c ≡ true → (is_listed ids t && is_listed jds d) ≡ false → ((s == t) && (c == d)) ≡ false
other_pair ids jds s c t d site customer gone = false_from_ne_true ((s == t) && (c == d)) (λ e.
    let parts = and_parts (s == t) (c == d) e in
    let first : is_listed ids t ≡ true = subst (λ x. is_listed ids x ≡ true) (eqb-true s t parts.0) site in
    let second : is_listed jds d ≡ true = subst (λ x. is_listed jds x ≡ true) (eqb-true c d parts.1) customer in
    let both : (is_listed ids t && is_listed jds d) ≡ true = λ k. first k && second k in
    cc)

module _ (I : Instance) where
  -- a test that no step of what is gone passes finds the same in what is left
  any_left : (f : Decision → Bool) → ((d : Decision) → keeps_step I d ≡ true → knows_step I d ≡ false → f d ≡ false) → (path : Path) → keeps I path ≡ true → list_any f path ≡ list_any f (left_path I path)
  any_left f none [] h = refl
  any_left f none (d ∷ ds) h =
      let parts = and_parts (keeps_step I d) (keeps I ds) h in
      along (knows_step I d) refl (any_left f none ds parts.1) parts.0
    where
      along : (known : Bool) → knows_step I d ≡ known → list_any f ds ≡ list_any f (left_path I ds) → keeps_step I d ≡ true → (f d || list_any f ds) ≡ list_any f (cond (knows_step I d) (d ∷ left_path I ds) (left_path I ds))
      along true e rest kept = ap (λ b. f d || b) rest ∙ ap (λ x. list_any f (cond x (d ∷ left_path I ds) (left_path I ds))) (sym e)
      along false e rest kept = (λ k. none d kept e k || rest k) ∙ ap (λ x. list_any f (cond x (d ∷ left_path I ds) (left_path I ds))) (sym e)

  closes_none : (s : ℕ) → is_listed (site_ids I) s ≡ true → (d : Decision) → keeps_step I d ≡ true → knows_step I d ≡ false → closes_site s d ≡ false
  closes_none s known (Closed t) kept gone = other_id (site_ids I) s t known gone
  closes_none s known (Opened t) kept gone = refl
  closes_none s known (Yes t c) kept gone = refl
  closes_none s known (No t c) kept gone = refl

  opens_none : (s : ℕ) → (d : Decision) → keeps_step I d ≡ true → knows_step I d ≡ false → opens_site s d ≡ false
  opens_none s (Closed t) kept gone = refl
  opens_none s (Opened t) kept gone = cc
  opens_none s (Yes t c) kept gone = cc
  opens_none s (No t c) kept gone = refl

  bars_none : (s c : ℕ) → is_listed (site_ids I) s ≡ true → is_listed (customer_ids I) c ≡ true → (d : Decision) → keeps_step I d ≡ true → knows_step I d ≡ false → bars_lane s c d ≡ false
  bars_none s c site customer (Closed t) kept gone = refl
  bars_none s c site customer (Opened t) kept gone = refl
  bars_none s c site customer (Yes t d) kept gone = cc
  bars_none s c site customer (No t d) kept gone = other_pair (site_ids I) (customer_ids I) s c t d site customer gone

  module _ (path : Path) (h : keeps I path ≡ true) where
    left_settled : (i : ℕ) → i < length I.sites → IsSettledAlike I path I (left_path I path) i
    left_settled i b = record {
      status = refl;
      closes = any_left (closes_site (site_at I i).id) (closes_none (site_at I i).id (site_listed I i b)) path h;
      opens = any_left (opens_site (site_at I i).id) (opens_none (site_at I i).id) path h;
    }

    pub left_made : (d : Duals) (i : ℕ) → i < length I.sites → IsMadeAlike I path d I (left_path I path) d i
    left_made d i b = record {
      site = refl;
      settled = left_settled i b;
      torn = torn_alike I path I (left_path I path) refl left_settled;
      customers = refl;
      lanes = λ c. refl;
      bars = λ j inside. any_left (bars_lane (site_at I i).id (customer_at I j).id) (bars_none (site_at I i).id (customer_at I j).id (site_listed I i b) (customer_listed I j inside)) path h;
      q = refl;
      nu = refl;
      v = refl;
      u = refl;
    }
