-- The lanes to one customer when a site comes or goes: their sites' places move on or back.
use Rattle.std.proofs.Common.{◌≡◌, ◌≢◌, ◌⊎◌, ℕ, zero, suc, ◌+◌, ◌<◌, ◌≤◌, not, cond, inl, inr, Bool, true, false, List, [], ◌∷◌, ◌++◌, map, filter, take, drop, length, All, AllPairs, Contains, Option, None, get_or, sym, ap, subst, ◌∙◌, arith}
use Rattle.std.proofs.lemmas.Bool.{cases_eq, cases_order, ne_eqb, eq-eqb, false≢true}
use Rattle.std.proofs.lemmas.List.{length-map, length-take, length-append, get_or-map, get_or_default, get_or-append-add, get_or-drop, take-append-drop, take_all, drop_all, append-nil}
use Rattle.std.proofs.lemmas.List.Elements.{filter_passes}
use Rattle.std.proofs.lemmas.List.Kept.{AllPairs-filter}
use Rattle.lane_order.specs.declared.order.PlacedLane.{PlacedLane}
use Rattle.lane_order.specs.Listed.{IsPlacedBefore, IsLaneFrom, HaveSameOthers, HasPlaceMore, place_up, place_down, lane_up, lane_down, is_elsewhere}
use Rattle.lane_order.proofs.Replaced.{from_site}
use Rattle.lane_order.proofs.Skipped.{up-apart, up-within, within-up, up-rises, up-one, up-down, down-up}

abbrev pub no_lane : PlacedLane
no_lane = record { cost = 0; site = 0 }

-- what is in a list that was mapped
contains_map : (f : PlacedLane → PlacedLane) (xs : List PlacedLane) (l : PlacedLane) → Contains xs l → Contains (map f xs) (f l)
contains_map f xs l k = (k.0, omega (arith, k.1, length-map xs f), get_or-map f xs k.0 l (f l) k.1 ∙ ap f k.2)

mapped_from : (f : PlacedLane → PlacedLane) (xs : List PlacedLane) (l : PlacedLane) → Contains (map f xs) l → (m : PlacedLane) × Contains xs m × (f m ≡ l)
mapped_from f xs l k =
    let b : k.0 < length xs = omega (arith, k.1, length-map xs f) in
    let m = get_or xs k.0 l in
    (m, (k.0, b, get_or_default xs k.0 m l b), sym (get_or-map f xs k.0 l l b) ∙ k.2)

same_lane : (l m : PlacedLane) → l.cost ≡ m.cost → l.site ≡ m.site → l ≡ m
same_lane l m cost site = λ k. record { cost = cost k; site = site k }

module _ (place : ℕ) (lanes : List PlacedLane) where
  -- a site comes in
  pub more-up : HasPlaceMore place lanes (map (lane_up place) lanes)
  more-up cost k = (
    λ there.
        let from = mapped_from (lane_up place) lanes (from_site (place_up place k) cost) there in
        let site : from.0.site ≡ k = up-one place from.0.site k (ap (λ (l : PlacedLane). l.site) from.2) in
        subst (Contains lanes) (same_lane from.0 (from_site k cost) (ap (λ (l : PlacedLane). l.cost) from.2) site) from.1,
    λ there. contains_map (lane_up place) lanes (from_site k cost) there,
  )

  pub none-up : IsLaneFrom place None (map (lane_up place) lanes)
  none-up cost = (
    λ there. let from = mapped_from (lane_up place) lanes (from_site place cost) there in absurd (up-apart place from.0.site (ap (λ (l : PlacedLane). l.site) from.2)),
    λ wrong. cc,
  )

  pub ascending-up : AllPairs IsPlacedBefore lanes → AllPairs IsPlacedBefore (map (lane_up place) lanes)
  ascending-up ascending i k d below within =
      let inside : k < length lanes = omega (arith, within, length-map lanes (lane_up place)) in
      let a = get_or lanes i d in
      let b = get_or lanes k d in
      let ordered : IsPlacedBefore (lane_up place a) (lane_up place b) =
      elim (ascending i k d below inside) [ inl less ↦ inl less | inr tie ↦ inr (tie.0, up-rises place a.site b.site tie.1) ] in
      subst (λ (p : PlacedLane × PlacedLane). IsPlacedBefore p.0 p.1)
      (λ m. (sym (get_or-map (lane_up place) lanes i d d (omega (arith, below, inside))) m, sym (get_or-map (lane_up place) lanes k d d inside) m)) ordered

-- the lanes but those from the site at a place
elsewhere : (place : ℕ) (l : PlacedLane) → l.site ≢ place → is_elsewhere place l ≡ true
elsewhere place l apart = ap (λ (b : Bool). not b) (ne_eqb l.site place apart)

apart-elsewhere : (place : ℕ) (l : PlacedLane) → is_elsewhere place l ≡ true → l.site ≢ place
apart-elsewhere place l passes same = false≢true (sym (ap (λ (b : Bool). not b) (eq-eqb l.site place same)) ∙ passes)

one_on : (x : PlacedLane) (xs : List PlacedLane) (l : PlacedLane) → Contains xs l → Contains (x ∷ xs) l
one_on x xs l there = (suc there.0, omega (arith, there.1), there.2)

first_or_rest : (x : PlacedLane) (xs : List PlacedLane) (l : PlacedLane) (n : ℕ) → n < length (x ∷ xs) → get_or (x ∷ xs) n l ≡ l → (x ≡ l) ⊎ Contains xs l
first_or_rest x xs l zero b is = inl is
first_or_rest x xs l (suc n) b is = inr (n, omega (arith, b), is)

into : (t : Bool) (x : PlacedLane) (xs ys : List PlacedLane) (l : PlacedLane) → (x ≡ l → t ≡ true) → (Contains xs l → Contains ys l) → Contains (x ∷ xs) l → Contains (cond t (x ∷ ys) ys) l
into true x xs ys l passes on k = elim (first_or_rest x xs l k.0 k.1 k.2) [ inl is ↦ (0, omega arith, is) | inr there ↦ one_on x ys l (on there) ]
into false x xs ys l passes on k = elim (first_or_rest x xs l k.0 k.1 k.2) [ inl is ↦ absurd (false≢true (passes is)) | inr there ↦ on there ]

out_of : (t : Bool) (x : PlacedLane) (xs ys : List PlacedLane) (l : PlacedLane) → (Contains ys l → Contains xs l) → Contains (cond t (x ∷ ys) ys) l → Contains (x ∷ xs) l
out_of true x xs ys l on k = elim (first_or_rest x ys l k.0 k.1 k.2) [ inl is ↦ (0, omega arith, is) | inr there ↦ one_on x xs l (on there) ]
out_of false x xs ys l on k = one_on x xs l (on k)

kept_by : (p : PlacedLane → Bool) (xs : List PlacedLane) (l : PlacedLane) → p l ≡ true → Contains xs l → Contains (filter p xs) l
kept_by p [] l passes k = k
kept_by p (x ∷ xs) l passes k = into (p x) x xs (filter p xs) l (λ is. ap p is ∙ passes) (kept_by p xs l passes) k

kept_from : (p : PlacedLane → Bool) (xs : List PlacedLane) (l : PlacedLane) → Contains (filter p xs) l → Contains xs l
kept_from p [] l k = k
kept_from p (x ∷ xs) l k = out_of (p x) x xs (filter p xs) l (kept_from p xs l) k

module _ (place : ℕ) (lanes : List PlacedLane) where
  abbrev left : List PlacedLane
  left = filter (is_elsewhere place) lanes

  apart : (l : PlacedLane) → Contains left l → l.site ≢ place
  apart l k = apart-elsewhere place l (subst (λ (m : PlacedLane). is_elsewhere place m ≡ true) k.2 (filter_passes (is_elsewhere place) lanes k.0 l k.1))

  -- the site at a place goes
  pub more-down : HasPlaceMore place (map (lane_down place) left) lanes
  more-down cost k = (
    λ there.
        let l : PlacedLane = from_site (place_up place k) cost in
        let kept : Contains left l = kept_by (is_elsewhere place) lanes l (elsewhere place l (up-apart place k)) there in
        subst (λ n. Contains (map (lane_down place) left) (from_site n cost)) (down-up place k) (contains_map (lane_down place) left l kept),
    λ there.
        let from = mapped_from (lane_down place) left (from_site k cost) there in
        let site : from.0.site ≡ place_up place k = sym (up-down place from.0.site (apart from.0 from.1)) ∙ ap (λ (l : PlacedLane). place_up place l.site) from.2 in
        kept_from (is_elsewhere place) lanes (from_site (place_up place k) cost) (subst (Contains left) (same_lane from.0 (from_site (place_up place k) cost) (ap (λ (l : PlacedLane). l.cost) from.2) site) from.1),
  )

  pub ascending-down : AllPairs IsPlacedBefore lanes → AllPairs IsPlacedBefore (map (lane_down place) left)
  ascending-down ascending i k d below within =
      let inside : k < length left = omega (arith, within, length-map left (lane_down place)) in
      let a = get_or left i d in
      let b = get_or left k d in
      let a-apart : a.site ≢ place = apart-elsewhere place a (filter_passes (is_elsewhere place) lanes i d (omega (arith, below, inside))) in
      let b-apart : b.site ≢ place = apart-elsewhere place b (filter_passes (is_elsewhere place) lanes k d inside) in
      let ordered : IsPlacedBefore (lane_down place a) (lane_down place b) =
      elim (AllPairs-filter IsPlacedBefore (is_elsewhere place) lanes ascending i k d below inside) [ inl less ↦ inl less | inr tie ↦ inr (tie.0, downs a.site b.site a-apart b-apart tie.1) ] in
      subst (λ (p : PlacedLane × PlacedLane). IsPlacedBefore p.0 p.1)
      (λ m. (sym (get_or-map (lane_down place) left i d d (omega (arith, below, inside))) m, sym (get_or-map (lane_down place) left k d d inside) m)) ordered
    where
      downs : (m n : ℕ) → m ≢ place → n ≢ place → m < n → place_down place m < place_down place n
      downs m n m-apart n-apart less =
          elim (cases_order (place_down place m) (place_down place n)) [
            | inl same ↦ absurd (omega (arith, less, up-down place m m-apart, up-down place n n-apart, ap (place_up place) same))
            | inr other ↦ elim other [
              | inl below ↦ below
              | inr above ↦ absurd (omega (arith, less, up-down place m m-apart, up-down place n n-apart, up-rises place (place_down place n) (place_down place m) above))
            ]
          ]

-- what a lane at a place is, before and after
pub lane-more : (place k : ℕ) (less more : List PlacedLane) (o : Option ℕ) → HasPlaceMore place less more → IsLaneFrom k o less → IsLaneFrom (place_up place k) o more
lane-more place k less more o both was cost = (λ there. (was cost).0 ((both cost k).0 there), λ is. (both cost k).1 ((was cost).1 is))

pub lane-less : (place k : ℕ) (less more : List PlacedLane) (o : Option ℕ) → HasPlaceMore place less more → IsLaneFrom (place_up place k) o more → IsLaneFrom k o less
lane-less place k less more o both was cost = (λ there. (was cost).0 ((both cost k).1 there), λ is. (both cost k).0 ((was cost).1 is))

-- lanes of which only that from the new site changed
pub still_more : (place : ℕ) (less more new : List PlacedLane) → HasPlaceMore place less more → HaveSameOthers place more new → HasPlaceMore place less new
still_more place less more new both others cost k =
    let l : PlacedLane = from_site (place_up place k) cost in
    let same = others l (up-apart place k) in
    (λ there. (both cost k).0 (same.0 there), λ there. same.1 ((both cost k).1 there))

-- the sites of the lanes are known
module _ (place n : ℕ) (within : place ≤ n) (less more : List PlacedLane) (both : HasPlaceMore place less more) where
  itself : (xs : List PlacedLane) (k : ℕ) (d : PlacedLane) → k < length xs → Contains xs (get_or xs k d)
  itself xs k d b = (k, b, get_or_default xs k (get_or xs k d) d b)

  pub known-more : All (λ l. l.site < n) less → All (λ l. l.site < n + 1) more
  known-more known k d b =
      let l = get_or more k d in
      elim (cases_eq l.site place) [
        | inl same ↦ omega (arith, same, within)
        | inr other ↦
            let back = up-down place l.site other in
            let there : Contains less (from_site (place_down place l.site) l.cost) = (both l.cost (place_down place l.site)).0 (subst (λ s. Contains more (from_site s l.cost)) (sym back) (itself more k d b)) in
            let low : place_down place l.site < n = subst (λ (m : PlacedLane). m.site < n) there.2 (known there.0 (from_site (place_down place l.site) l.cost) there.1) in
            omega (arith, back, up-within place (place_down place l.site) n low)
      ]

  pub known-less : All (λ l. l.site < n + 1) more → All (λ l. l.site < n) less
  known-less known k d b =
      let l = get_or less k d in
      let there = (both l.cost l.site).1 (itself less k d b) in
      within-up place l.site n within (subst (λ (m : PlacedLane). m.site < n + 1) there.2 (known there.0 (from_site (place_up place l.site) l.cost) there.1))

-- lanes from the first n sites, and the one from the next
module _ (n : ℕ) (old : List PlacedLane) (known : All (λ l. l.site < n) old) where
  pub none-beyond : IsLaneFrom n None old
  none-beyond cost = (λ there. let low : n < n = subst (λ (m : PlacedLane). m.site < n) there.2 (known there.0 (from_site n cost) there.1) in absurd (omega (arith, low)), λ wrong. cc)

  module _ (new : List PlacedLane) (others : HaveSameOthers n old new) where
    pub known-next : All (λ l. l.site < n + 1) new
    known-next k d b =
        let l = get_or new k d in
        elim (cases_eq l.site n) [
          | inl same ↦ omega (arith, same)
          | inr other ↦
              let there : Contains old l = (others l other).0 (k, b, get_or_default new k l d b) in
              let low : l.site < n = subst (λ (m : PlacedLane). m.site < n) there.2 (known there.0 l there.1) in
              omega (arith, low)
        ]

    pub each-next : (row : ℕ → Option ℕ) → ((k : ℕ) → k < n → IsLaneFrom k (row k) old) → IsLaneFrom n (row n) new → (k : ℕ) → k < n + 1 → IsLaneFrom k (row k) new
    each-next row each one k b =
        elim (cases_eq k n) [
          | inl same ↦ subst (λ m. IsLaneFrom m (row m) new) (sym same) one
          | inr other ↦
              let was = each k (omega (arith, b, other)) in
              λ cost. let both = others (from_site k cost) other in (λ there. (was cost).0 (both.0 there), λ is. both.1 ((was cost).1 is))
        ]

-- lanes of which the first k were changed
module _ (f : PlacedLane → PlacedLane) (xs ys : List PlacedLane) (k : ℕ) (are : ys ≡ map f (take k xs) ++ drop k xs) where
  pub long-as : length ys ≡ length xs
  long-as =
      let all : length (take k xs ++ drop k xs) ≡ length xs = ap (λ (zs : List PlacedLane). length zs) (take-append-drop k xs) in
      omega (arith, all, ap (λ (zs : List PlacedLane). length zs) are, length-append (map f (take k xs)) (drop k xs), length-append (take k xs) (drop k xs), length-map (take k xs) f)

  pub still-there : (d : PlacedLane) → k < length xs → get_or ys k d ≡ get_or xs k d
  still-there d within =
      let short : length (map f (take k xs)) ≡ k = omega (arith, length-map (take k xs) f, length-take k xs, within) in
      let here : k ≡ length (map f (take k xs)) + 0 = omega (arith, short) in
      let on : k + 0 ≡ k = omega arith in
      (λ n. get_or (are n) (here n) d) ∙ get_or-append-add (map f (take k xs)) (drop k xs) 0 d ∙ get_or-drop k xs 0 d ∙ ap (λ m. get_or xs m d) on

  pub all-changed : length xs ≤ k → ys ≡ map f xs
  all-changed past = are ∙ (λ n. map f (take_all k xs past n) ++ drop_all k xs past n) ∙ append-nil (map f xs)
