-- A plan is feasible with the lanes below a cost exactly where it is feasible and its radius is below that cost.
use Rattle.std.proofs.Common.{◌≡◌, ℕ, ◌<◌, ◌≤◌, ◌↔◌, Bool, true, false, cond, List, [], ◌∷◌, map, length, max, fold, All, Option, None, Some, IfSome, IsSome, is_some, unwrap_or, refl, sym, ap, subst, ◌∙◌, arith}
use Rattle.std.specs.Prelude.{nat_lt}
use Rattle.std.proofs.Math.Nat.{le-max_left, le-max_right}
use Rattle.std.proofs.lemmas.Bool.{ltb-true, ltb-false, lt-ltb}
use Rattle.std.proofs.lemmas.List.Elements.{All-nil, All-cons, All-head, All-tail, All-weaker}
use Rattle.std.specs.FinMap.{same_map}
use Rattle.location_terms.specs.declared.limits.TheConstants.{MAX_AMOUNT}
use Rattle.location_terms.specs.Instance.{Instance, IsValid, Lanes, lane}
use Rattle.location_terms.proofs.Table.{pair_cmp-total, pair_cmp-exact}
use Rattle.location_terms.specs.Plan.{Plan, IsFeasible}
use Rattle.location_terms.specs.Optimal.{IsImpossible}
use Rattle.plan_meaning.proofs.Served.{as_many_served}
use Rattle.plan_radius.specs.Radius.{radius_of, IsLeastRadius, IsAboveLanes}
use Rattle.plan_radius.specs.Cheaper.{is_cheaper, below_cost}
use Rattle.plan_radius.proofs.FreeLanes.{lane-below}

-- The greatest of several numbers is below another one exactly where each of them is.
fold_starts : (a : ℕ) (xs : List ℕ) → a ≤ fold max a xs
fold_starts a [] = omega arith
fold_starts a (x ∷ xs) = let rest = fold_starts (max a x) xs in omega (arith, rest, le-max_left a x)

max_below : (a b r : ℕ) → a < r → b < r → max a b < r
max_below a b r less below = omega (arith, less, below)

module _ {X : Type 0} (f : X → ℕ) (r : ℕ) where
  all_below : (a : ℕ) (xs : List X) → a < r → All (λ x. f x < r) xs → fold max a (map f xs) < r
  all_below a [] start all = start
  all_below a (x ∷ xs) start all = all_below (max a (f x)) xs (max_below a (f x) r start (All-head (λ x. f x < r) x xs all)) (All-tail (λ x. f x < r) x xs all)

  each_below : (a : ℕ) (xs : List X) → fold max a (map f xs) < r → All (λ x. f x < r) xs
  each_below a [] below = All-nil (λ x. f x < r)
  each_below a (x ∷ xs) below =
      All-cons (λ x. f x < r) x xs (let rest = fold_starts (max a (f x)) (map f xs) in omega (arith, rest, below, le-max_right a (f x))) (each_below (max a (f x)) xs below)

-- a lane that is there below a cost is there, and costs less
kept_cheap : (r : ℕ) (o : Option ℕ) → IsSome (cond (is_cheaper r o) o None) → IsSome o × (unwrap_or o 0 < r)
kept_cheap r None there = absurd cc
kept_cheap r (Some cost) there = by (nat_lt cost r) refl there
  where
    by : (b : Bool) → nat_lt cost r ≡ b → IsSome (cond b (Some cost) None) → IsSome (Some cost) × (cost < r)
    by true less _ = (refl, ltb-true cost r less)
    by false _ there = absurd cc

cheap_kept : (r : ℕ) (o : Option ℕ) → IsSome o → unwrap_or o 0 < r → IsSome (cond (is_cheaper r o) o None)
cheap_kept r None there less = absurd cc
cheap_kept r (Some cost) there less = ap (λ b. is_some (cond b (Some cost) None)) (lt-ltb cost r less)

module _ (I : Instance) (r : ℕ) (P : Plan) where
  -- what the lane costs by which a customer is served
  abbrev used : ℕ × ℕ → ℕ
  used v = unwrap_or (lane I v.1 v.0) 0

  pub cheap_feasible : IsFeasible I P → radius_of I P < r → IsFeasible (below_cost I r) P
  cheap_feasible feasible less =
      let each : All (λ v. used v < r) P.serves = each_below used r 0 P.serves less in
      record {
        plan = feasible.plan;
        sites_known = feasible.sites_known;
        each_once = feasible.each_once;
        by_open = feasible.by_open;
        by_lane = λ k d b. subst IsSome (sym (lane-below I r _ _)) (cheap_kept r (lane I _ _) (feasible.by_lane k d b) (each k d b));
        within_cap = feasible.within_cap;
        at_least = feasible.at_least;
        at_most = feasible.at_most;
        statuses = feasible.statuses;
      }

  module _ (feasible : IsFeasible (below_cost I r) P) where
    kept : All (λ v. IsSome (lane I v.1 v.0) × (used v < r)) P.serves
    kept = All-weaker (λ v. IsSome (lane (below_cost I r) v.1 v.0)) (λ v. IsSome (lane I v.1 v.0) × (used v < r))
        (λ v there. kept_cheap r (lane I v.1 v.0) (subst IsSome (lane-below I r v.1 v.0) there)) P.serves feasible.by_lane

    pub feasible_cheap : IsFeasible I P
    feasible_cheap = record {
      plan = feasible.plan;
      sites_known = feasible.sites_known;
      each_once = feasible.each_once;
      by_open = feasible.by_open;
      by_lane = All-weaker (λ v. IsSome (lane I v.1 v.0) × (used v < r)) (λ v. IsSome (lane I v.1 v.0)) (λ v h. h.0) P.serves kept;
      within_cap = feasible.within_cap;
      at_least = feasible.at_least;
      at_most = feasible.at_most;
      statuses = feasible.statuses;
    }

    pub radius_below : IsValid I → radius_of I P < r
    radius_below valid =
        let some : 1 ≤ length I.customers = valid.sizes.some_customer in
        let first = kept 0 (0, 0) (omega (arith, some, as_many_served I P feasible.each_once)) in
        let less = first.1 in
        all_below used r 0 P.serves (omega (arith, less)) (All-weaker (λ v. IsSome (lane I v.1 v.0) × (used v < r)) (λ v. used v < r) (λ v h. h.1) P.serves kept)

pub cheap_exact : (I : Instance) (r : ℕ) (P : Plan) → IsValid I → IsFeasible (below_cost I r) P ↔ (IsFeasible I P × (radius_of I P < r))
cheap_exact I r P valid = ((λ feasible. (feasible_cheap I r P feasible, radius_below I r P feasible valid)), λ both. cheap_feasible I r P both.0 both.1)

-- the instance with the lanes below a cost is valid, and where all lanes are below it, it is the instance itself
some_kept : (r : ℕ) (o : Option ℕ) → IsSome (cond (is_cheaper r o) o None) → IsSome o
some_kept r o there = (kept_cheap r o there).0

small_kept : (b : Bool) (o : Option ℕ) → IfSome o (λ cost. cost ≤ MAX_AMOUNT) → IfSome (cond b o None) (λ cost. cost ≤ MAX_AMOUNT)
small_kept true o small = small
small_kept false o small = tt

pub valid_below : (I : Instance) (r : ℕ) → IsValid I → IsValid (below_cost I r)
valid_below I r valid = record {
  sites_named = valid.sites_named;
  customers_named = valid.customers_named;
  lanes_known = λ s c there. valid.lanes_known s c (some_kept r (lane I s c) (subst IsSome (lane-below I r s c) there));
  lanes_small = λ s c. subst (λ o. IfSome o (λ cost. cost ≤ MAX_AMOUNT)) (sym (lane-below I r s c)) (small_kept (is_cheaper r (lane I s c)) (lane I s c) (valid.lanes_small s c));
  fixed_small = valid.fixed_small;
  caps_small = valid.caps_small;
  demands_small = valid.demands_small;
  sizes = valid.sizes;
  count_order = valid.count_order;
  count_small = valid.count_small;
}

all_cheap : (r : ℕ) (o : Option ℕ) → IfSome o (λ cost. cost < r) → cond (is_cheaper r o) o None ≡ o
all_cheap r None less = refl
all_cheap r (Some cost) less = ap (λ b. cond b (Some cost) None) (lt-ltb cost r less)

pub below_all : (I : Instance) (r : ℕ) → IsAboveLanes I r → below_cost I r ≡ I
below_all I r above =
    ap (λ (lanes : Lanes). record I { lanes = lanes })
    (same_map pair_cmp-total pair_cmp-exact (below_cost I r).lanes I.lanes (λ q. lane-below I r q.0 q.1 ∙ all_cheap r (lane I q.0 q.1) (above q.0 q.1)))

-- below 0 there is no lane
pub no_lane_below : (I : Instance) (s c : ℕ) → lane (below_cost I 0) s c ≡ None
no_lane_below I s c = lane-below I 0 s c ∙ by (lane I s c)
  where
    by : (o : Option ℕ) → cond (is_cheaper 0 o) o None ≡ None
    by None = refl
    by (Some cost) = none (nat_lt cost 0) refl
      where
        none : (b : Bool) → nat_lt cost 0 ≡ b → cond b (Some cost) None ≡ None
        none true less = absurd (omega (arith, ltb-true cost 0 less))
        none false _ = refl

-- the least radius is told by the lanes below it
pub least_from_impossible : (I : Instance) (r : ℕ) → IsImpossible (below_cost I r) → IsLeastRadius I r
least_from_impossible I r none Q feasible = by (nat_lt (radius_of I Q) r) refl
  where
    by : (b : Bool) → nat_lt (radius_of I Q) r ≡ b → r ≤ radius_of I Q
    by true less = absurd (none Q (cheap_feasible I r Q feasible (ltb-true (radius_of I Q) r less)))
    by false not_less = ltb-false (radius_of I Q) r not_less

pub impossible_from_least : (I : Instance) (r : ℕ) → IsValid I → IsLeastRadius I r → IsImpossible (below_cost I r)
impossible_from_least I r valid least Q feasible =
    let above = least Q (feasible_cheap I r Q feasible) in
    let below = radius_below I r Q feasible valid in
    omega (arith, above, below)
