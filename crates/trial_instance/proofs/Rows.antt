-- The rows of a trial make an instance.
use Rattle.std.proofs.Common.{◌≡◌, ℕ, ◌+◌, ◌*◌, ◌%◌, ◌≤◌, ◌<◌, List, [], ◌∷◌, ◌++◌, map, length, take, All, Option, None, Some, IsSome, Result, Ok, Err, IfOk, replicate, get_or, refl, sym, ap, subst, ◌∙◌, arith}
use Rattle.std.specs.List.{range_with_len}
use Rattle.std.proofs.lemmas.List.{length-replicate, length-map, take_more, get_or-map}
use Rattle.std.proofs.lemmas.List.FromFn.{length-map-range_with_len}
use Rattle.std.proofs.lemmas.List.Elements.{All-replicate, All-map}
use Rattle.location_terms.specs.declared.limits.TheConstants.{MAX_AMOUNT}
use Rattle.location_terms.specs.Instance.{Instance, AreSizes}
use Rattle.instance_store.specs.declared.numbered.SiteLanes.{SiteLanes}
use Rattle.instance_store.specs.Small.{IsSmall}
use Rattle.instance_store.specs.Numbered.{IsListed, IsRow, AreSiteRows, numbered_by_site}
use Rattle.trial_instance.specs.Draws.{state_after, draw_at}
use Rattle.trial_instance.proofs.DrawSteps.{customers_behind}
use Rattle.trial_instance.specs.declared.square.Place.{Place}
use Rattle.trial_instance.specs.declared.square.PlacedSite.{PlacedSite}
use Rattle.trial_instance.specs.Trial.{place_at, trial_site, trial_customer, distance, micro_of, lane_to, site_lanes, trial_sites, trial_customers, trial_meaning}

-- a place in the square
record IsInSquare (p : Place) : Type 0 where
  pub x : p.x ≤ 999
  pub y : p.y ≤ 999

record IsCheap (s : PlacedSite) : Type 0 where
  pub place : IsInSquare s.place
  pub opening : s.opening ≤ 1499

below_thousand : (x : ℕ) → x % 1000 ≤ 999
below_thousand x = omega arith

place_in : (seed k : ℕ) → IsInSquare (place_at seed k)
place_in seed k = record { x = below_thousand (draw_at seed k); y = below_thousand (draw_at seed (k + 1)) }

sites_cheap : (seed m : ℕ) → All IsCheap (trial_sites seed m)
sites_cheap seed m =
    All-map IsCheap (trial_site seed) (range_with_len 0 m)
    (λ k d below.
    let i = get_or (range_with_len 0 m) k d in
    let drawn : draw_at seed (3 * i + 2) % 1000 ≤ 999 = below_thousand (draw_at seed (3 * i + 2)) in
    record { place = place_in seed (3 * i); opening = omega (arith, drawn) })

customers_in : (seed m n : ℕ) → All IsInSquare (trial_customers seed m n)
customers_in seed m n = All-map IsInSquare (trial_customer seed m) (range_with_len 0 n) (λ k d below. place_in seed (3 * m + 2 * get_or (range_with_len 0 n) k d))

near : (a b : Place) → IsInSquare a → IsInSquare b → micro_of (distance a b) ≤ MAX_AMOUNT
near a b p q = let ax = p.x in let ay = p.y in let bx = q.x in let by = q.y in omega arith

-- the instance of places in the square
module _ (customers : List Place) (inside : All IsInSquare customers) where
  row_small : (site : Place) → IsInSquare site → All IsSmall (map (lane_to site) customers)
  row_small site in_square =
      All-map IsSmall (lane_to site) customers (λ k d below. near site (get_or customers k d) in_square (inside k d below))

  row_there : (site : Place) → All IsSome (map (lane_to site) customers)
  row_there site = All-map IsSome (lane_to site) customers (λ k d below. refl)

  site_listed : (s : PlacedSite) → IsCheap s → IsListed (site_lanes customers s).site
  site_listed s cheap = let most = cheap.opening in record { fixed_small = omega arith; cap_small = tt }

module _ (seed m n : ℕ) where
  abbrev rows : List SiteLanes
  rows = map (site_lanes (trial_customers seed m n)) (trial_sites seed m)

  pub are_rows : AreSizes m n → AreSiteRows rows (replicate n 0)
  are_rows sizes =
      let custs : List Place = trial_customers seed m n in
      let inside : All IsInSquare custs = customers_in seed m n in
      let demands : List ℕ = replicate n 0 in
      let count : length demands ≡ n = length-replicate n 0 in
      let many : length rows ≡ m = length-map (trial_sites seed m) (site_lanes custs) ∙ length-map-range_with_len (trial_site seed) 0 m in
      record {
        sizes = subst (λ k. AreSizes k (length demands)) (sym many) (subst (AreSizes m) (sym count) sizes);
        listed = All-map (λ s. IsListed s.site) (site_lanes custs) (trial_sites seed m) (λ k d below. site_listed custs inside (get_or (trial_sites seed m) k d) (sites_cheap seed m k d below));
        rows = All-map (λ s. IsRow (length demands) s.lanes) (site_lanes custs) (trial_sites seed m)
            (λ k d below.
            let s = get_or (trial_sites seed m) k d in
            record {
              full = length-map custs (lane_to s.place) ∙ length-map-range_with_len (trial_customer seed m) 0 n ∙ sym count;
              small = row_small custs inside s.place (sites_cheap seed m k d below).place;
            });
        demands_small = All-replicate (λ d. d ≤ MAX_AMOUNT) n 0 (omega arith);
      }

  pub no_caps : All (λ s. s.site.cap ≡ None) rows
  no_caps = All-map (λ s. s.site.cap ≡ None) (site_lanes (trial_customers seed m n)) (trial_sites seed m) (λ k d below. refl)

  pub all_there : All (λ s. All IsSome s.lanes) rows
  all_there =
      All-map (λ s. All IsSome s.lanes) (site_lanes (trial_customers seed m n)) (trial_sites seed m)
      (λ k d below. row_there (trial_customers seed m n) (customers_in seed m n) (get_or (trial_sites seed m) k d).place)

-- one more row, and one more lane of a row
mapped_more : {X Y : Type 0} (f : X → Y) (xs : List X) (i : ℕ) (d : X) → i < length xs → take i (map f xs) ++ f (get_or xs i d) ∷ [] ≡ take (i + 1) (map f xs)
mapped_more f xs i d below =
    let within : i < length (map f xs) = omega (arith, below, length-map xs f) in
    sym (take_more (map f xs) i (f d) within ∙ ap (λ y. take i (map f xs) ++ y ∷ []) (get_or-map f xs i d (f d) below))

pub lanes_step : (site : Place) (custs : List Place) (i : ℕ) (d : Place) (units : ℕ) (before after : List (Option ℕ)) → i < length custs → before ≡ take i (map (lane_to site) custs)
    → units ≡ distance site (get_or custs i d) → after ≡ before ++ Some (1000000 * units) ∷ [] → after ≡ take (i + 1) (map (lane_to site) custs)
lanes_step site custs i d units before after below so_far far pushed = pushed ∙ rw (so_far, far) (mapped_more (lane_to site) custs i d below)

pub rows_step : (custs : List Place) (sites : List PlacedSite) (i : ℕ) (d : PlacedSite) (opening : ℕ) (lanes : List (Option ℕ)) (before after : List SiteLanes) → i < length sites
    → before ≡ take i (map (site_lanes custs) sites) → opening ≡ (get_or sites i d).opening → lanes ≡ map (lane_to (get_or sites i d).place) custs
    → after ≡ before ++ record { site = record { fixed = 1000000 * opening; cap = None }; lanes = lanes } ∷ [] → after ≡ take (i + 1) (map (site_lanes custs) sites)
rows_step custs sites i d opening lanes before after below so_far cost row pushed = pushed ∙ rw (so_far, cost, row) (mapped_more (site_lanes custs) sites i d below)

-- the rows of what was drawn are those of the trial
pub rows_are : (seed m n start state : ℕ) (sites : List PlacedSite) (custs : List Place) (sites_lent : List PlacedSite) (custs_lent : List Place) (made : List SiteLanes) → start ≡ seed
    → sites ≡ trial_sites start m → state ≡ state_after start (3 * m) → custs ≡ trial_customers state 0 n → sites_lent ≡ sites → custs_lent ≡ custs
    → made ≡ map (site_lanes custs_lent) sites_lent → made ≡ rows seed m n
rows_are seed m n start state sites custs sites_lent custs_lent made from drawn behind placed lent also is =
    is ∙ rw (also, lent, placed, drawn, behind, from) (ap (λ c. map (site_lanes c) (trial_sites seed m)) (customers_behind seed m 0 n))

-- so the instance of these rows is the trial's
pub meant : {E : Type 0} (result : Result Instance E) (made : List SiteLanes) (seed m n : ℕ) → made ≡ rows seed m n → IfOk result (λ I. I ≡ numbered_by_site made (replicate n 0))
    → IfOk result (λ I. I ≡ trial_meaning seed m n)
unfolding trial_meaning
meant (Ok I) made seed m n same is = is ∙ ap (λ r. numbered_by_site r (replicate n 0)) same
meant (Err fault) made seed m n same is = tt
