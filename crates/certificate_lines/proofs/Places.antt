-- The places of ids: an id stands among those of the instance just where it has a place, and its site lacks a capacity or has one.
use Rattle.std.proofs.Common.{◌≡◌, ℕ, zero, suc, ◌+◌, ◌<◌, ◌≤◌, ◌==◌, ◌||◌, ◌&&◌, Bool, true, false, cond, not, List, [], ◌∷◌, length, map, get_or, position, is_some, Some, None, nat_lt, refl, sym, ap, ◌∙◌, arith, inl, inr}
use Rattle.std.specs.Prelude.{ℤ, pos, negsuc, All, is_none, unsigned_abs, if◌then◌else◌}
use Rattle.std.specs.List.{list_any, position_or_len}
use Rattle.std.proofs.lemmas.Bool.{cases_lt, and_left, or_from, or_parts, eq-eqb, ne_eqb, le-leb, lt-ltb, le-ltb, false≢true}
use Rattle.std.proofs.lemmas.Cmp.{nat_eq_equiv}
use Rattle.std.proofs.lemmas.List.{get_or-map, length-map}
use Rattle.std.proofs.lemmas.List.Elements.{All-head, All-tail, All-weaker}
use Rattle.location_terms.specs.declared.status.SiteStatus.TheVariants.{Free}
use Rattle.location_terms.specs.Instance.{Instance, Site, IsValid, site_ids, site_at}
use Rattle.certificate_lines.specs.Lines.{is_id, is_same, is_among, lacks_cap}
use Rattle.certificate_lines.proofs.Ids.{Rises, rises}

-- a place is found just where an element passes
nat_lt-suc : (a b : ℕ) → nat_lt (1 + a) (suc b) ≡ nat_lt a b
nat_lt-suc a b = elim (cases_lt a b) [
  | inl less ↦ lt-ltb (1 + a) (suc b) (omega arith) ∙ sym (lt-ltb a b less)
  | inr more ↦ le-ltb (1 + a) (suc b) (omega arith) ∙ sym (le-ltb a b more)
]

within-list_any : {X : Type 0} (p : X → Bool) (xs : List X) → nat_lt (position_or_len p xs) (length xs) ≡ list_any p xs
within-list_any p [] = refl
within-list_any p (x ∷ xs) = go (p x) refl (within-list_any p xs)
  where
    go : (b : Bool) → p x ≡ b → nat_lt (position_or_len p xs) (length xs) ≡ list_any p xs → nat_lt (cond (not b) (1 + position_or_len p xs) 0) (suc (length xs)) ≡ b || list_any p xs
    go true is rest = lt-ltb 0 (suc (length xs)) (omega arith)
    go false is rest = nat_lt-suc _ _ ∙ rest

is_some-cond : (b : Bool) (n : ℕ) → is_some (cond b (Some n) None) ≡ b
is_some-cond true n = refl
is_some-cond false n = refl

is_some-position : {X : Type 0} (p : X → Bool) (xs : List X) → is_some (position p xs) ≡ list_any p xs
is_some-position p xs = is_some-cond (nat_lt (position_or_len p xs) (length xs)) (position_or_len p xs) ∙ within-list_any p xs

-- an id that stands among ids
is_id-same : (b : Bool) (n id : ℕ) → (if b then Some n else None) ≡ Some id → n ≡ id
is_id-same true n id is = cc
is_id-same false n id is = cc

pub is_among-place : (ids : List ℕ) (z : ℤ) (id : ℕ) → Some id ≡ (if is_id z then Some (unsigned_abs z) else None) → is_some (position (λ x. x == id) ids) ≡ is_among ids z
is_among-place ids (pos n) id is =
    let same : n ≡ id = is_id-same (is_id (pos n)) n id (sym is) in
    is_some-position (λ x. x == id) ids ∙ ap (λ (p : ℕ → Bool). list_any p ids) (λ k x. (nat_eq_equiv.symm x id ∙ ap (λ m. m == x) (sym same)) k)
is_among-place ids (negsuc n) id is = cc

-- a number that is no id is that of no site
not_same : (z : ℤ) (s : ℕ) → s ≤ 4294967295 → is_id z ≡ false → is_same z s ≡ false
not_same (pos n) s small over = ne_eqb n s (λ same. false≢true (sym over ∙ le-leb n 4294967295 (omega (arith, same))))
not_same (negsuc n) s small over = refl

no_id-list : (z : ℤ) (keys : List ℕ) → All (λ s. s ≤ 4294967295) keys → is_id z ≡ false → is_among keys z ≡ false
no_id-list z [] small over = refl
no_id-list z (s ∷ keys) small over = or_from _ _ (not_same z s (All-head (λ n. n ≤ 4294967295) s keys small) over) (no_id-list z keys (All-tail (λ n. n ≤ 4294967295) s keys small) over)

none_if : (b : Bool) (n : ℕ) → None ≡ (if b then Some n else None) → b ≡ false
none_if true n none = cc
none_if false n none = refl

pub not_an_id : (I : Instance) (z : ℤ) → IsValid I → None ≡ (if is_id z then Some (unsigned_abs z) else None) → is_among (site_ids I) z ≡ false
not_an_id I z valid none =
    let few = valid.sites_named.next_small in
    no_id-list z (site_ids I) (All-weaker (λ n. n < I.next_site) (λ n. n ≤ 4294967295) (λ n below. omega (arith, few)) (site_ids I) valid.sites_named.below_next) (none_if (is_id z) (unsigned_abs z) none)

-- a site that lacks a capacity is of the ids
pub unknown-lacks : (z : ℤ) (sites : List Site) → is_among (map (λ s. s.id) sites) z ≡ false → list_any (λ s. is_same z s.id && is_none s.cap) sites ≡ false
unknown-lacks z [] unknown = refl
unknown-lacks z (s ∷ sites) unknown =
    let parts = or_parts (is_same z s.id) (is_among (map (λ x. x.id) sites) z) unknown in
    or_from _ _ (and_left _ _ parts.0) (unknown-lacks z sites parts.1)

above-lacks : (n : ℕ) (sites : List Site) → All (λ m. n < m) (map (λ s. s.id) sites) → list_any (λ s. is_same (pos n) s.id && is_none s.cap) sites ≡ false
above-lacks n [] above = refl
above-lacks n (s ∷ sites) above =
    let less : n < s.id = All-head (λ m. n < m) s.id (map (λ x. x.id) sites) above in
    or_from _ _ (and_left _ _ (ne_eqb n s.id (λ same. omega arith))) (above-lacks n sites (All-tail (λ m. n < m) s.id (map (λ x. x.id) sites) above))

or_none : (b c : Bool) → c ≡ false → b || c ≡ b
or_none true c none = refl
or_none false c none = none

-- of sites whose ids rise one has an id
lacks-at : (sites : List Site) (i : ℕ) (d : Site) → Rises (map (λ s. s.id) sites) → i < length sites → list_any (λ s. is_same (pos (get_or sites i d).id) s.id && is_none s.cap) sites ≡ is_none (get_or sites i d).cap
lacks-at [] i d up within = absurd (omega arith)
lacks-at (s ∷ sites) zero d up within =
    let same : s.id == s.id ≡ true = eq-eqb s.id s.id refl in
    rw same (or_none (is_none s.cap) _ (above-lacks s.id sites up.0))
lacks-at (s ∷ sites) (suc i) d up within =
    let bound : i < length sites = omega arith in
    let less : s.id < get_or (map (λ x. x.id) sites) i d.id = up.0 i d.id (rw (length-map sites (λ x. x.id)) bound) in
    let at : get_or (map (λ x. x.id) sites) i d.id ≡ (get_or sites i d).id = get_or-map (λ x. x.id) sites i d d.id bound in
    let other : (get_or sites i d).id == s.id ≡ false = ne_eqb (get_or sites i d).id s.id (λ same. omega (arith, less, at, same)) in
    rw other (lacks-at sites i d up.1 bound)

pub lacks_cap-at : (I : Instance) (i : ℕ) (z : ℤ) → IsValid I → i < length I.sites → z ≡ pos (site_at I i).id → lacks_cap I z ≡ is_none (site_at I i).cap
lacks_cap-at I i z valid within is = ap (lacks_cap I) is ∙ lacks-at I.sites i (record { id = 0; fixed = 0; cap = None; status = Free }) (rises (site_ids I) valid.sites_named.rising) within
