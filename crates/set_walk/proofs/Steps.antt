-- The steps of the loops over the sites, by place.
use Rattle.std.proofs.Common.{◌≡◌, ℕ, zero, suc, ◌+◌, ◌*◌, ◌%◌, ◌^◌, ◌<◌, ◌≤◌, List, [], ◌∷◌, ◌++◌, length, take, refl, sym, ap, ◌∙◌, subst, ⊎_elim, arith}
use Rattle.std.specs.Prelude.{Contains, map, sum_by, unwrap_or, Option, Some, None, IfSome, IsSome, SomeIff}
use Rattle.std.specs.Int.{bit_at}
use Rattle.std.proofs.Math.Nat.{pow-suc, pow-le-pow_right, mod-eq_of_lt}
use Rattle.std.proofs.lemmas.Nat.{pow_pos}
use Rattle.std.proofs.lemmas.Bool.{cases_lt}
use Rattle.std.proofs.lemmas.List.{take_all, take_more, map_push}
use Rattle.std.proofs.lemmas.List.Elements.{Contains-append_left, Contains-push}
use Rattle.std.proofs.lemmas.List.Sums.{sum_by_push, sum_by_more}
use Rattle.location_terms.specs.Instance.{Instance, IsValid, site_ids, site_at, customer_ids, customer_at, lane, fixed_of}
use Rattle.location_terms.specs.declared.limits.TheConstants.{MAX_AMOUNT}
use Rattle.location_terms.proofs.Places.{length-site_ids, length-customer_ids, slice_index-site_ids, slice_index-customer_ids, fixed_of-site_at}
use Rattle.set_walk.specs.Set.{members, opened, lane_cost, least_cost, cost_on, IsNearest}
use Rattle.set_walk.proofs.Members.{members_more_has, members_more_lacks, members-some}
use Rattle.set_walk.proofs.Costs.{least_cost_push}

-- the sites of a set before a place
abbrev pub opened_before : Instance → ℕ → ℕ → List ℕ
opened_before I set i = members set (take i (site_ids I))

pub opened_more_has : (I : Instance) (set i : ℕ) → i < length I.sites → bit_at set i ≡ 1 → opened_before I set (i + 1) ≡ opened_before I set i ++ (site_at I i).id ∷ []
opened_more_has I set i h has =
    let within : i < length (site_ids I) = omega (arith, length-site_ids I) in
    members_more_has set (site_ids I) i within has ∙ ap (λ s. opened_before I set i ++ s ∷ []) (slice_index-site_ids I i h)

pub opened_more_lacks : (I : Instance) (set i : ℕ) → i < length I.sites → (bit_at set i ≡ 1 → ⊥) → opened_before I set (i + 1) ≡ opened_before I set i
opened_more_lacks I set i h lacks = members_more_lacks set (site_ids I) i (omega (arith, length-site_ids I)) lacks

pub opened_all : (I : Instance) (set i : ℕ) → i ≡ length I.sites → opened_before I set i ≡ opened I set
opened_all I set i end = ap (members set) (take_all i (site_ids I) (omega (arith, length-site_ids I)))

-- one more site of the set is paid for
pub opening_more_has : (I : Instance) → IsValid I → (set i : ℕ) → i < length I.sites → bit_at set i ≡ 1 → sum_by (fixed_of I) (opened_before I set (i + 1)) ≡ sum_by (fixed_of I) (opened_before I set i) + (site_at I i).fixed
opening_more_has I valid set i h has = ap (sum_by (fixed_of I)) (opened_more_has I set i h has) ∙ sum_by_push (fixed_of I) (opened_before I set i) (site_at I i).id ∙ ap (λ n. sum_by (fixed_of I) (opened_before I set i) + n) (fixed_of-site_at I i valid.sites_named.rising h)

-- a site of a list that is nearest to the customer, where the list is not empty
pub record IsNearestSoFar (I : Instance) (S : List ℕ) (c site cost : ℕ) : Type 0 where
  pub least : cost ≡ least_cost I S c
  pub known : cost ≤ MAX_AMOUNT → site < length I.sites
  pub among : cost ≤ MAX_AMOUNT → Contains S (site_at I site).id
  pub priced : cost ≤ MAX_AMOUNT → lane_cost I (site_at I site).id c ≡ cost

pub IsNearestSoFar-takes : (I : Instance) (set c i site cost d : ℕ) → i < length I.sites → bit_at set i ≡ 1 → IsNearestSoFar I (opened_before I set i) c site cost → d ≡ lane_cost I (site_at I i).id c → d < cost → IsNearestSoFar I (opened_before I set (i + 1)) c i d
IsNearestSoFar-takes I set c i site cost d h has so_far is nearer =
    let S = opened_before I set i in
    let s = (site_at I i).id in
    subst (λ ids. IsNearestSoFar I ids c i d) (sym (opened_more_has I set i h has))
    (record {
      least = let before = so_far.least in omega (arith, least_cost_push I c S s);
      known = λ small. h;
      among = λ small. Contains-push S s;
      priced = λ small. sym is;
    })

pub IsNearestSoFar-keeps : (I : Instance) (set c i site cost d : ℕ) → i < length I.sites → bit_at set i ≡ 1 → IsNearestSoFar I (opened_before I set i) c site cost → d ≡ lane_cost I (site_at I i).id c → cost ≤ d → IsNearestSoFar I (opened_before I set (i + 1)) c site cost
IsNearestSoFar-keeps I set c i site cost d h has so_far is farther =
    let S = opened_before I set i in
    let s = (site_at I i).id in
    subst (λ ids. IsNearestSoFar I ids c site cost) (sym (opened_more_has I set i h has))
    (record {
      least = let before = so_far.least in omega (arith, least_cost_push I c S s);
      known = so_far.known;
      among = λ small. Contains-append_left S (s ∷ []) (site_at I site).id (so_far.among small);
      priced = so_far.priced;
    })

pub IsNearestSoFar-passes : (I : Instance) (set c i site cost : ℕ) → i < length I.sites → (bit_at set i ≡ 1 → ⊥) → IsNearestSoFar I (opened_before I set i) c site cost → IsNearestSoFar I (opened_before I set (i + 1)) c site cost
IsNearestSoFar-passes I set c i site cost h lacks so_far = subst (λ ids. IsNearestSoFar I ids c site cost) (sym (opened_more_lacks I set i h lacks)) so_far

-- lanes are small, and so is the least of some
small_or_none : (o : Option ℕ) → IfSome o (λ cost. cost ≤ MAX_AMOUNT) → unwrap_or o 0 ≤ MAX_AMOUNT
small_or_none None h = omega arith
small_or_none (Some n) h = h

pub lane_cost-small : (I : Instance) → IsValid I → (s c : ℕ) → lane_cost I s c ≤ MAX_AMOUNT
lane_cost-small I valid s c = small_or_none (lane I s c) (valid.lanes_small s c)

pub least_cost-small : (I : Instance) → IsValid I → (S : List ℕ) (c : ℕ) → 1 ≤ length S → least_cost I S c ≤ MAX_AMOUNT
least_cost-small I valid [] c some = absurd (omega arith)
least_cost-small I valid (s ∷ S) c some = omega (arith, lane_cost-small I valid s c)

-- one more customer is served
pub serving_more : (I : Instance) (S : List ℕ) (j : ℕ) → j < length I.customers → sum_by (least_cost I S) (take (j + 1) (customer_ids I)) ≡ sum_by (least_cost I S) (take j (customer_ids I)) + least_cost I S (customer_at I j).id
serving_more I S j h =
    let within : j < length (customer_ids I) = omega (arith, length-customer_ids I) in
    sum_by_more (least_cost I S) (customer_ids I) j 0 within ∙ ap (λ c. sum_by (least_cost I S) (take j (customer_ids I)) + least_cost I S c) (slice_index-customer_ids I j h)

pub served_more : (I : Instance) (serves : List (ℕ × ℕ)) (s j : ℕ) → j < length I.customers → map (λ v. v.0) serves ≡ take j (customer_ids I) → map (λ v. v.0) (serves ++ ((customer_at I j).id, s) ∷ []) ≡ take (j + 1) (customer_ids I)
served_more I serves s j h so_far =
    let within : j < length (customer_ids I) = omega (arith, length-customer_ids I) in
    map_push (λ v. v.0) serves ((customer_at I j).id, s) ∙ ap (λ ids. ids ++ (customer_at I j).id ∷ []) so_far ∙ ap (λ c. take j (customer_ids I) ++ c ∷ []) (sym (slice_index-customer_ids I j h)) ∙ sym (take_more (customer_ids I) j 0 within)

-- a set with a site holds the id of some site
pub opened_some : (I : Instance) (set : ℕ) → 1 ≤ set → set < 2 ^ length I.sites → 1 ≤ length (opened I set)
opened_some I set some below = members-some set (site_ids I) some (subst (λ n. set < 2 ^ n) (sym (length-site_ids I)) below)

-- at the end of the sites the nearest so far is the nearest
pub nearest_found : (I : Instance) → IsValid I → (set c site cost i : ℕ) → i ≡ length I.sites → 1 ≤ length (opened I set) → IsNearestSoFar I (opened_before I set i) c site cost → (site < length I.sites) × IsNearest I (opened I set) c (site_at I site).id × (cost ≡ least_cost I (opened I set) c) × (cost ≤ MAX_AMOUNT)
nearest_found I valid set c site cost i end some so_far =
    let S = opened I set in
    let found = subst (λ ids. IsNearestSoFar I ids c site cost) (opened_all I set i end) so_far in
    let least : cost ≡ least_cost I S c = found.least in
    let small : cost ≤ MAX_AMOUNT = omega (arith, least_cost-small I valid S c some) in
    (found.known small, record { among = found.among small; least = found.priced small ∙ least }, least, small)

-- a set costs least of those that are not empty and come before a number
pub record IsLeastSoFar (I : Instance) (bits best cost : ℕ) : Type 0 where
  pub some : 1 ≤ length (opened I best)
  pub priced : cost ≡ cost_on I (opened I best)
  pub least : (other : ℕ) → 1 ≤ other → other < bits → cost ≤ cost_on I (opened I other)

pub IsLeastSoFar-first : (I : Instance) (cost : ℕ) → 1 ≤ length (opened I 1) → cost ≡ cost_on I (opened I 1) → IsLeastSoFar I 2 1 cost
IsLeastSoFar-first I cost some priced =
    record {
      some = some;
      priced = priced;
      least = λ other low high.
          let is : 1 ≡ other = omega arith in
          let same = ap (λ k. cost_on I (opened I k)) is in
          omega (arith, priced, same);
    }

pub IsLeastSoFar-takes : (I : Instance) (bits best cost new : ℕ) → IsLeastSoFar I bits best cost → 1 ≤ length (opened I bits) → new ≡ cost_on I (opened I bits) → new < cost → IsLeastSoFar I (bits + 1) bits new
IsLeastSoFar-takes I bits best cost new so_far some priced less =
    record {
      some = some;
      priced = priced;
      least = λ other low high.
          ⊎_elim (λ (before : other < bits). let no_less = so_far.least other low before in omega arith)
          (λ (same : bits ≤ other). let here = ap (λ k. cost_on I (opened I k)) (let is : bits ≡ other = omega arith in is) in omega (arith, priced, here)) (cases_lt other bits);
    }

pub IsLeastSoFar-keeps : (I : Instance) (bits best cost new : ℕ) → IsLeastSoFar I bits best cost → new ≡ cost_on I (opened I bits) → cost ≤ new → IsLeastSoFar I (bits + 1) best cost
IsLeastSoFar-keeps I bits best cost new so_far priced no_less =
    record {
      some = so_far.some;
      priced = so_far.priced;
      least = λ other low high.
          ⊎_elim (λ (before : other < bits). so_far.least other low before)
          (λ (same : bits ≤ other). let here = ap (λ k. cost_on I (opened I k)) (let is : bits ≡ other = omega arith in is) in omega (arith, priced, here, no_less)) (cases_lt other bits);
    }

-- there are 2 ^ n sets of n sites, and for some sites more than the empty one
pub sets_some : (n : ℕ) → 1 ≤ n → 1 < 2 ^ n
sets_some zero some = absurd (omega arith)
sets_some (suc n) some = omega (arith, pow-suc 2 n, pow_pos n)

pub sets_are : (n sites : ℕ) → n ≡ sites → sites ≤ 12 → 1 * 2 ^ n % 2 ^ 32 ≡ 2 ^ sites
sets_are n sites same few =
    let two : 0 < 2 = omega arith in
    let le : n ≤ 12 = omega arith in
    let small : 2 ^ n ≤ 2 ^ 12 = pow-le-pow_right two le in
    let within : 1 * 2 ^ n < 2 ^ 32 = omega arith in
    mod-eq_of_lt within ∙ omega arith ∙ ap (λ k. 2 ^ k) same

-- what comes exactly where a fact holds
pub some_where_holds : {T : Type 0} (o : Option T) (P : Type 0) (v : T) → SomeIff o P v → P → IsSome o
some_where_holds None P v h p = absurd (h p)
some_where_holds (Some x) P v h p = refl
