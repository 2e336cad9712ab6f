-- What each step of carrying a plan over adds, and that what comes of it is a plan.
use Rattle.std.proofs.Common.{◌≡◌, ℕ, ◌+◌, ◌<◌, ◌≤◌, ◌↔◌, inl, inr, ltb, Bool, true, false, cond, List, [], ◌∷◌, ◌++◌, suc, All, map, length, take, get_or, Option, None, Some, refl, ap, sym, subst, ◌∙◌, arith}
use Rattle.std.specs.Prelude.{IsTrue, Contains, AllPairs, filter, filter_map, find, option_map, is_some, unwrap_or, ◌==◌, ◌&&◌, ◌||◌, if◌then◌else◌}
use Rattle.std.specs.List.{list_any, reduce, fold}
use Rattle.std.specs.List.Sorted.{IsStrictlyIncreasing, IsPartitionedBy, IsPartitionPoint}
use Rattle.std.proofs.lemmas.Bool.{eqb-true, ne_eqb, ltb-true, ltb-false, cases_eq, cases_order}
use Rattle.std.proofs.lemmas.Bool.Decides.{Decides-eqb, Decides-by_or, same_from_decides}
use Rattle.std.proofs.lemmas.List.{append-nil, length-map, get_or-map, take_more}
use Rattle.std.proofs.lemmas.List.Elements.{All-head, All-tail, filter_more, filter_map-append, Decides-contains}
use Rattle.std.proofs.lemmas.List.Kept.{AllPairs-from_increasing, AllPairs-filter, IsStrictlyIncreasing-filter}
use Rattle.std.proofs.lemmas.List.Recursion.{found_nowhere}
use Rattle.std.proofs.lemmas.List.Sorted.{IsPartitionedBy-ltb, IsNonDecreasingBy-from_default}
use Rattle.std.proofs.lemmas.List.Sums.{fold-append}
use Rattle.location_terms.specs.declared.status.SiteStatus.TheVariants.{Free}
use Rattle.location_terms.proofs.Rising.{found_by_key}
use Rattle.location_terms.specs.Instance.{Instance, Site, IsValid, lane, site_ids, customer_ids, site_at}
use Rattle.location_terms.specs.Carried.{is_listed, is_carried, carried_sites, cheapest_site, former_site, carried_site, carried_plan}
use Rattle.location_terms.specs.Plan.{Plan, IsPlan, served}
use Rattle.plan_meaning.specs.Plan.{plan_of}
use Rattle.plan_meaning.specs.Carried.{nearer_of}

-- whether a site is among those of a list
pub listed_is : (xs : List ℕ) (s : ℕ) (b : Bool) → IsTrue b ↔ Contains xs s → b ≡ is_listed xs s
listed_is xs s b says =
    let is_s : ℕ → Bool = λ y. y == s in
    same_from_decides b (list_any is_s xs) says (Decides-contains xs s (list_any is_s xs) (Decides-by_or is_s (λ y. y ≡ s) (list_any is_s) (λ y. Decides-eqb y s) refl (λ _ _. refl) xs))

-- a free site is carried where it was open
pub free_carried : (P : Plan) (x : Site) → x.status ≡ Free → is_listed P.sites x.id ≡ is_carried P x
free_carried P x e = rw e (open_alone (is_listed P.sites x.id))
  where
    open_alone : (b : Bool) → b ≡ ((false || b) && true)
    open_alone true = refl
    open_alone false = refl

-- of two sites with a lane to the customer, that of the cheaper lane, the first where both cost as much
abbrev nearer : Instance → ℕ → ℕ → ℕ → ℕ
nearer I c best s = if ltb (unwrap_or (lane I s c) 0) (unwrap_or (lane I best c) 0) then s else best

-- the nearest of the sites before, and one more, which counts where it has a lane to the customer
abbrev nearest_with : Instance → ℕ → Option ℕ → ℕ → Option ℕ
nearest_with I c None s = if is_some (lane I s c) then Some s else None
nearest_with I c (Some best) s = if is_some (lane I s c) then Some (nearer I c best s) else Some best

nearest_more : (I : Instance) (c : ℕ) (sites : List ℕ) (s : ℕ) (b : Bool) → is_some (lane I s c) ≡ b → reduce (nearer I c) (sites ++ cond b (s ∷ []) []) ≡ nearest_with I c (reduce (nearer I c) sites) s
nearest_more I c [] s true e = rw e refl
nearest_more I c [] s false e = rw e refl
nearest_more I c (x ∷ xs) s true e = rw e (ap Some (fold-append (nearer I c) x xs (s ∷ [])))
nearest_more I c (x ∷ xs) s false e = rw e (ap (λ ys. Some (fold (nearer I c) x ys)) (append-nil xs))

-- the cheapest of one site more
cheapest_more : (I : Instance) (c : ℕ) (sites : List ℕ) (k : ℕ) → k < length sites → cheapest_site I (take (k + 1) sites) c ≡ nearest_with I c (cheapest_site I (take k sites) c) (get_or sites k 0)
cheapest_more I c sites k b =
    let has : ℕ → Bool = λ s. is_some (lane I s c) in
    ap (reduce (nearer I c)) (filter_more has sites k 0 b) ∙ nearest_more I c (filter has (take k sites)) (get_or sites k 0) (has (get_or sites k 0)) refl

-- a site with what its lane to the customer costs
abbrev pub priced : Instance → ℕ → ℕ → ℕ × ℕ
priced I c s = (s, unwrap_or (lane I s c) 0)

here : (I : Instance) (c s cost : ℕ) → lane I s c ≡ Some cost → Some (s, cost) ≡ Some (priced I c s)
here I c s cost e = sym (ap (λ o. Some (s, unwrap_or o 0)) e)

nearer_is : (I : Instance) (c : ℕ) (best : Option ℕ) (s : ℕ) (o : Option ℕ) → lane I s c ≡ o → nearer_of (option_map (priced I c) best) s o ≡ option_map (priced I c) (nearest_with I c best s)
nearer_is I c None s None e = rw e refl
nearer_is I c None s (Some cost) e = here I c s cost e ∙ sym (ap (λ o. option_map (priced I c) (if is_some o then Some s else None)) e)
nearer_is I c (Some best) s None e = rw e refl
nearer_is I c (Some best) s (Some cost) e =
    by (ltb cost (unwrap_or (lane I best c) 0)) ∙ sym (ap (λ o. option_map (priced I c) (if is_some o then Some (if ltb (unwrap_or o 0) (unwrap_or (lane I best c) 0) then s else best) else Some best)) e)
  where
    by : (b : Bool) → cond b (Some (s, cost)) (Some (priced I c best)) ≡ option_map (priced I c) (Some (cond b s best))
    by true = here I c s cost e
    by false = refl

-- the cheapest of one site more, with what its lane costs
pub cheapest_with : (I : Instance) (c : ℕ) (sites : List ℕ) (k : ℕ) → k < length sites
    → nearer_of (option_map (priced I c) (cheapest_site I (take k sites) c)) (get_or sites k 0) (lane I (get_or sites k 0) c) ≡ option_map (priced I c) (cheapest_site I (take (k + 1) sites) c)
cheapest_with I c sites k b = nearer_is I c (cheapest_site I (take k sites) c) (get_or sites k 0) _ refl ∙ ap (option_map (priced I c)) (sym (cheapest_more I c sites k b))

pub unpriced : (I : Instance) (c : ℕ) (site : Option ℕ) → option_map (λ (x : ℕ × ℕ). x.0) (option_map (priced I c) site) ≡ site
unpriced I c None = refl
unpriced I c (Some s) = refl

-- an id is listed where it is found, at which place it may be
pub listed_where_found : (vs : List (ℕ × ℕ)) (s : ℕ) (o : Option (ℕ × ℕ)) → find (λ v. v.0 == s) vs ≡ o → is_listed (map (λ v. v.0) vs) s ≡ is_some o
listed_where_found vs s o e = by vs ∙ ap is_some e
  where
    step : (v : ℕ × ℕ) (vs : List (ℕ × ℕ)) (t b : Bool) → b ≡ is_some (find (λ (w : ℕ × ℕ). w.0 == s) vs) → (t || b) ≡ is_some (cond t (Some v) (find (λ (w : ℕ × ℕ). w.0 == s) vs))
    step v vs true b e = refl
    step v vs false b e = e

    by : (vs : List (ℕ × ℕ)) → is_listed (map (λ v. v.0) vs) s ≡ is_some (find (λ v. v.0 == s) vs)
    by [] = refl
    by (v ∷ vs) = step v vs (v.0 == s) _ (by vs)

-- what is found has the id, and what all have
pub found_is : (P : ℕ × ℕ → Type 0) (vs : List (ℕ × ℕ)) (s : ℕ) (x : ℕ × ℕ) → All P vs → find (λ v. v.0 == s) vs ≡ Some x → (x.0 ≡ s) × P x
found_is P [] s x all e = absurd cc
found_is P (v ∷ vs) s x all e = by (v.0 == s) refl e (found_is P vs s x (All-tail P v vs all))
  where
    by : (t : Bool) → (v.0 == s) ≡ t → cond t (Some v) (find (λ (w : ℕ × ℕ). w.0 == s) vs) ≡ Some x → (find (λ (w : ℕ × ℕ). w.0 == s) vs ≡ Some x → (x.0 ≡ s) × P x) → (x.0 ≡ s) × P x
    by true is first later = let same : v ≡ x = cc in (ap (λ (w : ℕ × ℕ). w.0) (sym same) ∙ eqb-true _ _ is, subst P same (All-head P v vs all))
    by false is first later = later first

-- the former site, where it passes
abbrev pub kept : (ℕ → Bool) → Option ℕ → Option ℕ
kept q None = None
kept q (Some s) = if q s then Some s else None

module _ (c : ℕ) (p q : ℕ → Bool) where
  abbrev passes : ℕ × ℕ → Bool
  passes v = v.0 == c && p v.1 && q v.1

  abbrev names : ℕ × ℕ → Bool
  names v = v.0 == c

  kept_step : (v : ℕ × ℕ) (vs : List (ℕ × ℕ)) (t a b : Bool) → p v.1 ≡ a → q v.1 ≡ b → (t ≡ true → find passes vs ≡ None) → option_map (λ (w : ℕ × ℕ). w.1) (find passes vs) ≡ kept (λ s. p s && q s) (option_map (λ (w : ℕ × ℕ). w.1) (find names vs))
      → option_map (λ (w : ℕ × ℕ). w.1) (cond (t && a && b) (Some v) (find passes vs)) ≡ kept (λ s. p s && q s) (option_map (λ (w : ℕ × ℕ). w.1) (cond t (Some v) (find names vs)))
  kept_step v vs false a b e f none rest = rest
  kept_step v vs true true true e f none rest = rw (e, f) refl
  kept_step v vs true true false e f none rest = rw (e, f, none refl) refl
  kept_step v vs true false b e f none rest = rw (e, none refl) refl

  above_all : (v : ℕ × ℕ) (vs : List (ℕ × ℕ)) → AllPairs (λ m n. m < n) (v.0 ∷ map (λ w. w.0) vs) → v.0 ≡ c → (k : ℕ) → k < length vs → passes (get_or vs k (0, 0)) ≡ false
  above_all v vs up e k b =
      let above : v.0 < get_or (map (λ w. w.0) vs) k 0 = up 0 (suc k) 0 (omega arith) (omega (arith, b, length-map vs (λ w. w.0))) in
      let is : get_or (map (λ w. w.0) vs) k 0 ≡ (get_or vs k (0, 0)).0 = get_or-map (λ w. w.0) vs k (0, 0) 0 b in
      let no : ((get_or vs k (0, 0)).0 == c) ≡ false = ne_eqb _ _ (λ same. omega (arith, above, is, same, e)) in
      rw no refl

  pub kept_found : (vs : List (ℕ × ℕ)) → AllPairs (λ m n. m < n) (map (λ v. v.0) vs) → option_map (λ (w : ℕ × ℕ). w.1) (find passes vs) ≡ kept (λ s. p s && q s) (option_map (λ (w : ℕ × ℕ). w.1) (find names vs))
  kept_found [] up = refl
  kept_found (v ∷ vs) up =
      kept_step v vs (v.0 == c) (p v.1) (q v.1) refl refl
      (λ t. found_nowhere (find passes) passes Some None refl (λ _ _. refl) vs (0, 0) (above_all v vs up (eqb-true _ _ t)))
      (kept_found vs (λ i j d before b. up (suc i) (suc j) d (omega (arith, before)) (omega (arith, b))))

pub kept_some : (p q : ℕ → Bool) (s : ℕ) → (p s && q s) ≡ true → Some s ≡ kept (λ n. p n && q n) (Some s)
kept_some p q s e = rw e refl

pub kept_none : (p q : ℕ → Bool) (s : ℕ) → (p s && q s) ≡ false → None ≡ kept (λ n. p n && q n) (Some s)
kept_none p q s e = rw e refl

-- the former site is the one that served the customer, where that passes
pub former_is : (I : Instance) (P : Plan) (sites : List ℕ) (c : ℕ) (site : Option ℕ) → IsStrictlyIncreasing (served P) → site ≡ option_map (λ v. v.1) (find (λ v. v.0 == c) P.serves) → kept (λ s. is_listed sites s && is_some (lane I s c)) site ≡ former_site I P sites c
former_is I P sites c site up e =
    let q : ℕ → Bool = λ s. is_some (lane I s c) in
    ap (kept (λ s. is_listed sites s && q s)) e ∙ sym (kept_found c (is_listed sites) q P.serves (AllPairs-from_increasing (served P) up))

-- a customer is served at the first place whose customer isn't before it, or nowhere
module _ (vs : List (ℕ × ℕ)) (up : IsStrictlyIncreasing (map (λ v. v.0) vs)) (c k : ℕ) where
  keys : (j : ℕ) → j < length vs → get_or (map (λ v. v.0) vs) j 0 ≡ (get_or vs j (0, 0)).0
  keys j b = get_or-map (λ v. v.0) vs j (0, 0) 0 b

  keys_rise : (i j : ℕ) → i < j → j < length vs → (get_or vs i (0, 0)).0 < (get_or vs j (0, 0)).0
  keys_rise i j before b = omega (arith, AllPairs-from_increasing (map (λ v. v.0) vs) up i j 0 before (omega (arith, b, length-map vs (λ v. v.0))), keys i (omega (arith, before, b)), keys j b)

  keys_order : (i j : ℕ) → i ≤ j → j < length vs → (get_or vs i (0, 0)).0 ≤ (get_or vs j (0, 0)).0
  keys_order i j le b = elim (cases_eq i j) [ inl same ↦ omega (arith, ap (λ n. (get_or vs n (0, 0)).0) same) | inr other ↦ omega (arith, keys_rise i j (omega (arith, le, other)) b) ]

  pub keys_fall_apart : IsPartitionedBy (λ v. ltb v.0 c) vs
  keys_fall_apart = IsPartitionedBy-ltb (λ v. v.0) vs c (IsNonDecreasingBy-from_default (λ v. v.0) vs (0, 0) keys_order)

  module _ (point : IsPartitionPoint (λ v. ltb v.0 c ≡ true) (λ v. ltb v.0 c ≡ false) vs k) where
    pub found_there : k < length vs → (get_or vs k (0, 0)).0 ≡ c → find (λ v. v.0 == c) vs ≡ Some (get_or vs k (0, 0))
    found_there b e = subst (λ n. find (λ v. v.0 == n) vs ≡ Some (get_or vs k (0, 0))) e (found_by_key (λ v. v.0) vs (0, 0) up k b)

    pub not_found : (k < length vs → (get_or vs k (0, 0)).0 ≡ c → ⊥) → find (λ v. v.0 == c) vs ≡ None
    not_found other =
        found_nowhere (find (λ v. v.0 == c)) (λ v. v.0 == c) Some None refl (λ _ _. refl) vs (0, 0)
        (λ j b. ne_eqb _ _ (λ same.
        elim (cases_order j k) [
          | inl here ↦ other (omega (arith, here, b)) (ap (λ n. (get_or vs n (0, 0)).0) (sym here) ∙ same)
          | inr apart ↦ elim apart [
            | inl before ↦ absurd (omega (arith, ltb-true _ _ (point.0 j (0, 0) (omega arith) before), same))
            | inr after ↦ absurd (omega (arith, ltb-false _ _ (point.1 k (0, 0) (omega arith) (omega (arith, after, b))), keys_rise k j after b, same))
          ]
        ]))

-- the pair of a customer and the site that serves it
abbrev pub pair_of : (ℕ → Option ℕ) → ℕ → Option (ℕ × ℕ)
pair_of h c = option_map (λ s. (c, s)) (h c)

-- one customer more
pub serves_with : (h : ℕ → Option ℕ) (ids : List ℕ) (k id : ℕ) (site : Option ℕ) (before after : List (ℕ × ℕ)) → k < length ids → before ≡ filter_map (pair_of h) (take k ids) → id ≡ get_or ids k 0 → site ≡ h (get_or ids k 0)
    → after ≡ before ++ filter_map (λ c. option_map (λ s. (c, s)) site) (id ∷ []) → after ≡ filter_map (pair_of h) (take (k + 1) ids)
serves_with h ids k id site before after b was named chosen is =
    is
    ∙ ap (λ (vs : List (ℕ × ℕ)). vs ++ filter_map (λ c. option_map (λ s. (c, s)) site) (id ∷ [])) was
    ∙ ap (λ (vs : List (ℕ × ℕ)). filter_map (pair_of h) (take k ids) ++ vs) (rw (named, chosen) refl)
    ∙ sym (ap (filter_map (pair_of h)) (take_more ids k 0 b) ∙ filter_map-append (pair_of h) (take k ids) (get_or ids k 0 ∷ []))

ids_step : (h : ℕ → Option ℕ) (c : ℕ) (cs : List ℕ) (o : Option ℕ) → h c ≡ o → map (λ (v : ℕ × ℕ). v.0) (filter_map (pair_of h) cs) ≡ filter (λ d. is_some (h d)) cs → map (λ (v : ℕ × ℕ). v.0) (filter_map (pair_of h) (c ∷ cs)) ≡ filter (λ d. is_some (h d)) (c ∷ cs)
ids_step h c cs None e rest = rw e rest
ids_step h c cs (Some s) e rest = rw e (ap (λ (ids : List ℕ). c ∷ ids) rest)

serves_ids : (h : ℕ → Option ℕ) (ids : List ℕ) → map (λ (v : ℕ × ℕ). v.0) (filter_map (pair_of h) ids) ≡ filter (λ d. is_some (h d)) ids
serves_ids h [] = refl
serves_ids h (c ∷ cs) = ids_step h c cs (h c) refl (serves_ids h cs)

-- the ids of some of the elements rise where those of all do
some_rise : {X : Type 0} (key : X → ℕ) (p : X → Bool) (xs : List X) (e : X) → IsStrictlyIncreasing (map key xs) → IsStrictlyIncreasing (map key (filter p xs))
some_rise {X} key p xs e up =
    let all : AllPairs (λ x y. key x < key y) xs = λ i j d before b.
    omega (arith, AllPairs-from_increasing (map key xs) up i j 0 before (omega (arith, b, length-map xs key)), get_or-map key xs i d 0 (omega (arith, before, b)), get_or-map key xs j d 0 b) in
    let some : AllPairs (λ x y. key x < key y) (filter p xs) = AllPairs-filter (λ x y. key x < key y) p xs all in
    λ k b.
    let within : k + 1 < length (filter p xs) = omega (arith, b, length-map (filter p xs) key) in
    omega (arith, some k (k + 1) e (omega arith) within, get_or-map key (filter p xs) k e 0 (omega (arith, within)), get_or-map key (filter p xs) (k + 1) e 0 within)

-- sites and customers that are carried over rise
pub carried_rise : (I : Instance) (P : Plan) → IsStrictlyIncreasing (site_ids I) → IsStrictlyIncreasing (customer_ids I) → IsPlan (carried_plan I P)
carried_rise I P sites customers = record {
  sites_rise = some_rise (λ x. x.id) (is_carried P) I.sites (site_at I 0) sites;
  customers_rise = subst IsStrictlyIncreasing (sym (serves_ids (carried_site I P (carried_sites I P)) (customer_ids I))) (IsStrictlyIncreasing-filter _ _ customers);
}

-- the sites that are carried over rise
pub sites_up : (I : Instance) (P : Plan) (sites : List ℕ) → IsValid I → sites ≡ carried_sites I P → IsStrictlyIncreasing sites
sites_up I P sites valid e = subst IsStrictlyIncreasing (sym e) (carried_rise I P valid.sites_named.rising valid.customers_named.rising).sites_rise

pub carried_is_plan : (I : Instance) (P : Plan) (sites seen : List ℕ) (serves : List (ℕ × ℕ)) → IsValid I → seen ≡ carried_sites I P → sites ≡ seen → serves ≡ filter_map (λ c. option_map (λ s. (c, s)) (carried_site I P seen c)) (customer_ids I) → IsPlan (plan_of sites serves)
carried_is_plan I P sites seen serves valid e same f =
    let g : serves ≡ (carried_plan I P).serves = f ∙ ap (λ (open_sites : List ℕ). filter_map (λ c. option_map (λ s. (c, s)) (carried_site I P open_sites c)) (customer_ids I)) e in
    let whole : plan_of sites serves ≡ carried_plan I P = ap (λ (open_sites : List ℕ). plan_of open_sites serves) (same ∙ e) ∙ ap (plan_of (carried_sites I P)) g in
    subst IsPlan (sym whole) (carried_rise I P valid.sites_named.rising valid.customers_named.rising)
