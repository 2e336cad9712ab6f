-- What the plans of a set of sites cost, and that no plan that opens these sites costs less.
use Rattle.std.proofs.Common.{◌≡◌, ℕ, ◌+◌, ◌≤◌, min, List, [], ◌∷◌, ◌++◌, get_or, refl, sym, ap, ◌∙◌, arith}
use Rattle.std.specs.Prelude.{All, map, sum_by}
use Rattle.std.proofs.lemmas.List.Elements.{All-nil, All-cons, All-head, All-tail, All-contains}
use Rattle.std.proofs.lemmas.List.Sums.{sum_by-cons}
use Rattle.location_terms.specs.Instance.{Instance, customer_ids, fixed_of}
use Rattle.location_terms.specs.Plan.{Plan, served, IsFeasible, cost_of}
use Rattle.set_walk.specs.Set.{lane_cost, least_cost, cost_on, IsNearestPlan}

-- sums over the same list, by what holds of each element
pub sum_by_least : {X : Type 0} (f g : X → ℕ) (xs : List X) → All (λ x. f x ≤ g x) xs → sum_by f xs ≤ sum_by g xs
sum_by_least f g [] h = omega arith
sum_by_least {X} f g (x ∷ xs) h =
    let rest = sum_by_least f g xs (All-tail (λ y. f y ≤ g y) x xs h) in
    let here = All-head (λ y. f y ≤ g y) x xs h in
    omega (arith, sum_by-cons f x xs, sum_by-cons g x xs)

pub sum_by_same : {X : Type 0} (f g : X → ℕ) (xs : List X) → All (λ x. f x ≡ g x) xs → sum_by f xs ≡ sum_by g xs
sum_by_same f g [] h = refl
sum_by_same f g (x ∷ xs) h =
    let rest = sum_by_same f g xs (All-tail (λ y. f y ≡ g y) x xs h) in
    let here = All-head (λ y. f y ≡ g y) x xs h in
    omega (arith, sum_by-cons f x xs, sum_by-cons g x xs)

pub sum_by-map : {X Y : Type 0} (f : Y → ℕ) (g : X → Y) (xs : List X) → sum_by f (map g xs) ≡ sum_by (λ x. f (g x)) xs
sum_by-map f g [] = refl
sum_by-map f g (x ∷ xs) = sum_by-cons f (g x) (map g xs) ∙ ap (λ n. f (g x) + n) (sum_by-map f g xs) ∙ sym (sum_by-cons (λ y. f (g y)) x xs)

-- no site of these is nearer than the least cost says
pub least_cost-le : (I : Instance) (c : ℕ) (S : List ℕ) → All (λ s. least_cost I S c ≤ lane_cost I s c) S
least_cost-le I c [] = All-nil (λ s. least_cost I [] c ≤ lane_cost I s c)
least_cost-le I c (s ∷ S) =
    All-cons (λ t. least_cost I (s ∷ S) c ≤ lane_cost I t c) s S (omega arith)
    (λ k d h. let rest = least_cost-le I c S k d h in omega arith)

pub least_cost_push : (I : Instance) (c : ℕ) (S : List ℕ) (s : ℕ) → least_cost I (S ++ s ∷ []) c ≡ min (least_cost I S c) (lane_cost I s c)
least_cost_push I c [] s = omega arith
least_cost_push I c (t ∷ S) s = omega (arith, least_cost_push I c S s)

-- the least costs of all customers, by the lines of a plan that serves each once
least_by_serves : (I : Instance) (S : List ℕ) (P : Plan) → served P ≡ customer_ids I → sum_by (least_cost I S) (customer_ids I) ≡ sum_by (λ v. least_cost I S v.0) P.serves
least_by_serves I S P each_once = ap (sum_by (least_cost I S)) (sym each_once) ∙ sum_by-map (least_cost I S) (λ (v : ℕ × ℕ). v.0) P.serves

-- a plan that serves each customer from a nearest site costs what the set costs
pub cost_of-nearest : (I : Instance) (S : List ℕ) (P : Plan) → IsNearestPlan I S P → cost_of I P ≡ cost_on I S
cost_of-nearest I S P made =
    let sites = ap (sum_by (fixed_of I)) made.sites in
    let lanes = sum_by_same (λ (v : ℕ × ℕ). lane_cost I v.1 v.0) (λ v. least_cost I S v.0) P.serves (λ k d h. (made.nearest k d h).least) in
    omega (arith, sites, lanes, least_by_serves I S P made.each_once)

-- a feasible plan costs no less than its sites do
pub cost_on-le : (I : Instance) (Q : Plan) → IsFeasible I Q → cost_on I Q.sites ≤ cost_of I Q
cost_on-le I Q can =
    let near : All (λ v. least_cost I Q.sites v.0 ≤ lane_cost I v.1 v.0) Q.serves =
    λ k d h. let v = get_or Q.serves k d in All-contains (λ s. least_cost I Q.sites v.0 ≤ lane_cost I s v.0) Q.sites v.1 (least_cost-le I v.0 Q.sites) (can.by_open k d h) in
    let lanes = sum_by_least (λ (v : ℕ × ℕ). least_cost I Q.sites v.0) (λ v. lane_cost I v.1 v.0) Q.serves near in
    omega (arith, lanes, least_by_serves I Q.sites Q can.each_once)
