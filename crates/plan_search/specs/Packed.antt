-- The plan that packing gives in a box: the opened sites and the free ones of a hint are open, and each customer, those of the
-- greatest demand first, takes its cheapest lane from an open site that has room left. The rule is the suite's own.
use Rattle.std.specs.Prelude.{ℕ, ◌+◌, ◌-◌, ◌==◌, ◌&&◌, ◌||◌, not, Bool, List, [], ◌∷◌, ◌++◌, length, map, filter, filter_map, find, take, sum_by, Option, Some, None, option_map, unwrap_or, nat_lt, nat_le, if◌then◌else◌}
use Rattle.std.specs.List.{fold, reduce, list_any}
use Rattle.location_terms.specs.Instance.{Instance, site_at, customer_at, lane}
use Rattle.location_terms.specs.Plan.{Plan}
use Rattle.location_terms.specs.Box.{Path, is_opened, is_free, is_allowed, holds_demand}
use Rattle.dual_ascent.specs.Levels.{site_places, customer_places}

-- a place stands among these
abbrev pub is_among : List ℕ → ℕ → Bool
is_among places i = list_any (λ k. k == i) places

-- The sites that are open, by place.

abbrev pub opened_places : Instance → Path → List ℕ
opened_places I path = filter (λ i. is_opened path (site_at I i)) (site_places I)

-- the free sites, those of the hint, by their ids, and the others
abbrev pub hinted : Instance → Path → List ℕ → List ℕ
hinted I path hint = filter (λ i. is_free path (site_at I i) && is_among hint (site_at I i).id) (site_places I)

abbrev pub unhinted : Instance → Path → List ℕ → List ℕ
unhinted I path hint = filter (λ i. is_free path (site_at I i) && not (is_among hint (site_at I i).id)) (site_places I)

-- the free sites of the hint, and while fewer than lo sites are open the free one of least id joins them, as long as there is one
abbrev pub joined : Instance → Path → List ℕ → List ℕ
joined I path hint =
    let missing = I.lo - (length (opened_places I path) + length (hinted I path hint)) in
    filter (is_among (hinted I path hint ++ take missing (unhinted I path hint))) (site_places I)

-- while then more than hi sites are open the free one of greatest id leaves them, as long as there is one
abbrev pub remaining : Instance → Path → List ℕ → List ℕ
remaining I path hint =
    let surplus = (length (opened_places I path) + length (joined I path hint)) - I.hi in
    take (length (joined I path hint) - surplus) (joined I path hint)

-- the sites that are open, in order
abbrev pub chosen : Instance → Path → List ℕ → List ℕ
chosen I path hint = filter (λ i. is_opened path (site_at I i) || is_among (remaining I path hint) i) (site_places I)

-- The customers' turns.

-- the customers with one more, behind those that demand as much
abbrev pub queued : Instance → List ℕ → ℕ → List ℕ
queued I [] j = j ∷ []
queued I (k ∷ ks) j = if nat_lt (customer_at I k).demand (customer_at I j).demand then j ∷ k ∷ ks else k ∷ queued I ks j

-- all customers by falling demand, and in the order of the instance where they demand as much
abbrev pub by_falling_demand : Instance → List ℕ
by_falling_demand I = fold (queued I) [] (customer_places I)

-- What the customers take, as pairs of a customer's and a site's place.

abbrev pub taken_at : Instance → List (ℕ × ℕ) → ℕ → ℕ
taken_at I taken i = sum_by (λ t. (customer_at I t.0).demand) (filter (λ t. t.1 == i) taken)

-- the open sites that the customer may take a lane from: it is allowed, and the site has room left
abbrev pub takeable : Instance → Path → List ℕ → List (ℕ × ℕ) → ℕ → List ℕ
takeable I path sites taken j =
    filter (λ i. is_allowed I path (site_at I i) (customer_at I j) && holds_demand (site_at I i).cap (taken_at I taken i + (customer_at I j).demand)) sites

abbrev pub cost_at : Instance → ℕ → ℕ → ℕ
cost_at I i j = unwrap_or (lane I (site_at I i).id (customer_at I j).id) 0

-- the first of these sites among those of the cheapest lane
abbrev pub cheapest : Instance → ℕ → List ℕ → Option ℕ
cheapest I j sites = reduce (λ best i. if nat_lt (cost_at I i j) (cost_at I best j) then i else best) sites

abbrev pub with_lane : List (ℕ × ℕ) → ℕ → Option ℕ → Option (List (ℕ × ℕ))
with_lane taken j None = None
with_lane taken j (Some i) = Some (taken ++ (j, i) ∷ [])

-- what is taken once the customer took a lane too, and nothing where it finds none or one before it found none
abbrev pub taking : Instance → Path → List ℕ → Option (List (ℕ × ℕ)) → ℕ → Option (List (ℕ × ℕ))
taking I path sites None j = None
taking I path sites (Some taken) j = with_lane taken j (cheapest I j (takeable I path sites taken j))

abbrev pub all_taken : Instance → Path → List ℕ → Option (List (ℕ × ℕ))
all_taken I path sites = fold (taking I path sites) (Some []) (by_falling_demand I)

-- The plan.

abbrev pub plan_of : Instance → List ℕ → List (ℕ × ℕ) → Plan
plan_of I sites taken = record {
  sites = map (λ i. (site_at I i).id) sites;
  serves = filter_map (λ j. option_map (λ t. ((customer_at I j).id, (site_at I t.1).id)) (find (λ t. t.0 == j) taken)) (customer_places I);
}

-- the plan, where from lo to hi sites are open and each customer found a lane
abbrev pub packed : Instance → Path → List ℕ → Option Plan
packed I path hint =
    if nat_le I.lo (length (chosen I path hint)) && nat_le (length (chosen I path hint)) I.hi
    then option_map (plan_of I (chosen I path hint)) (all_taken I path (chosen I path hint))
    else None
