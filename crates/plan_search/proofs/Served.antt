-- The services of a plan while they are read off the pairs that are taken.
use Rattle.std.proofs.Common.{◌≡◌, ℕ, ◌+◌, ◌<◌, ◌≤◌, Bool, true, false, cond, List, [], ◌∷◌, ◌++◌, length, take, get_or, Option, None, Some, option_map, refl, sym, ap, subst, inl, inr, ◌∙◌, arith}
use Rattle.std.specs.Prelude.{All, Contains, find, filter_map, ◌==◌}
use Rattle.std.specs.List.{range_with_len, cons_option}
use Rattle.std.specs.Option.{option_or}
use Rattle.std.proofs.Math.ListN.{set}
use Rattle.std.proofs.lemmas.Bool.{cases_eq, eq-eqb, ne_eqb}
use Rattle.std.proofs.lemmas.List.{length-set, get_or-set_same, get_or-set_other, get_or-take, length-take, take_more, take_all, append-nil}
use Rattle.std.proofs.lemmas.List.Elements.{All-contains, All-head, All-tail, All-from_get_or, filter_map-append}
use Rattle.std.proofs.lemmas.List.Folds.{find-append}
use Rattle.std.proofs.lemmas.Option.{same_Some}
use Rattle.location_terms.specs.Instance.{Instance, site_at, customer_at}
use Rattle.plan_search.specs.Packing.{server_among, ArePairs, AreServers}
use Rattle.plan_search.proofs.Among.{Contains-first, Contains-later}
use Rattle.location_terms.proofs.Places.{places_more}

-- the services of the first customers
abbrev pub first_services : Instance → List (ℕ × ℕ) → ℕ → List (ℕ × ℕ)
first_services I taken n = filter_map (λ j. option_map (λ t. ((customer_at I j).id, (site_at I t.1).id)) (find (λ t. t.0 == j) taken)) (range_with_len 0 n)

find_nowhere : (p : ℕ × ℕ → Bool) (ts : List (ℕ × ℕ)) → All (λ t. p t ≡ false) ts → find p ts ≡ None
find_nowhere p [] none = refl
find_nowhere p (t ∷ ts) none = ap (λ b. cond b (Some t) (find p ts)) (All-head (λ u. p u ≡ false) t ts none) ∙ find_nowhere p ts (All-tail (λ u. p u ≡ false) t ts none)

or_none : {X : Type 0} (o : Option X) → option_or o None ≡ o
or_none None = refl
or_none (Some x) = refl

module _ (I : Instance) (taken : List (ℕ × ℕ)) (are : ArePairs I taken) (k : ℕ) (t : ℕ × ℕ) (b : k < length taken) (is : t ≡ get_or taken k t) where
  found_more : (j : ℕ) → find (λ (u : ℕ × ℕ). u.0 == j) (take (k + 1) taken) ≡ option_or (find (λ (u : ℕ × ℕ). u.0 == j) (take k taken)) (cond (t.0 == j) (Some t) None)
  found_more j =
      ap (find (λ (u : ℕ × ℕ). u.0 == j)) (take_more taken k t b ∙ ap (λ (u : ℕ × ℕ). take k taken ++ u ∷ []) (sym is)) ∙ find-append (λ (u : ℕ × ℕ). u.0 == j) (take k taken) (t ∷ [])

  -- the customer stands in no pair before
  not_before : find (λ (u : ℕ × ℕ). u.0 == t.0) (take k taken) ≡ None
  not_before =
      find_nowhere (λ u. u.0 == t.0) (take k taken)
      (All-from_get_or (λ u. (u.0 == t.0) ≡ false) (take k taken) t
      (λ i c.
      let early : i < k = omega (arith, c, length-take k taken) in
      ne_eqb _ _ (λ e. are.apart i k t early b (ap (λ (u : ℕ × ℕ). u.0) (sym (get_or-take k taken i t early)) ∙ e ∙ ap (λ (u : ℕ × ℕ). u.0) is))))

  -- one pair more
  pub server_set : (servers : List (Option ℕ)) → AreServers I (take k taken) servers → AreServers I (take (k + 1) taken) (set servers t.0 (Some t.1))
  server_set servers so_far =
      let known : t.0 < length I.customers = subst (λ (u : ℕ × ℕ). u.0 < length I.customers) (sym is) (are.known k t b).0 in
      record {
        count = length-set servers t.0 (Some t.1) ∙ so_far.count;
        each = λ j c. elim (cases_eq j t.0) [
          | inl here ↦
              subst (λ n. get_or (set servers t.0 (Some t.1)) n None ≡ server_among (take (k + 1) taken) n) (sym here)
              (get_or-set_same servers t.0 (Some t.1) None (omega (arith, known, so_far.count))
              ∙ sym (ap (option_map (λ (u : ℕ × ℕ). u.1)) (found_more t.0 ∙ ap (λ o. option_or o (cond (t.0 == t.0) (Some t) None)) not_before ∙ ap (λ e. cond e (Some t) None) (eq-eqb t.0 t.0 refl))))
          | inr other ↦
              get_or-set_other servers t.0 j (Some t.1) None other ∙ so_far.each j c
              ∙ sym (ap (option_map (λ (u : ℕ × ℕ). u.1)) (found_more j ∙ ap (λ e. option_or (find (λ (u : ℕ × ℕ). u.0 == j) (take k taken)) (cond e (Some t) None)) (ne_eqb t.0 j (λ e. other (sym e))) ∙ or_none (find (λ (u : ℕ × ℕ). u.0 == j) (take k taken))))
        ];
      }

pub all_set : (I : Instance) (taken : List (ℕ × ℕ)) (k : ℕ) (servers : List (Option ℕ)) → length taken ≤ k → AreServers I (take k taken) servers → AreServers I taken servers
all_set I taken k servers end are = subst (λ ts. AreServers I ts servers) (take_all k taken end) are

found_in : (p : ℕ × ℕ → Bool) (ts : List (ℕ × ℕ)) (t : ℕ × ℕ) → find p ts ≡ Some t → Contains ts t
found_in p [] t e = cc
found_in p (u ∷ ts) t e = by (p u) e (found_in p ts t)
  where
    by : (b : Bool) → cond b (Some u) (find p ts) ≡ Some t → (find p ts ≡ Some t → Contains ts t) → Contains (u ∷ ts) t
    by true e rest = subst (Contains (u ∷ ts)) (same_Some u t e) (Contains-first ts u)
    by false e rest = Contains-later ts u t (rest e)

some_part : (o : Option (ℕ × ℕ)) (i : ℕ) → option_map (λ (t : ℕ × ℕ). t.1) o ≡ Some i → (t : ℕ × ℕ) × (o ≡ Some t) × (t.1 ≡ i)
some_part None i e = cc
some_part (Some t) i e = (t, refl, same_Some t.1 i e)

none_part : (o : Option (ℕ × ℕ)) → option_map (λ (t : ℕ × ℕ). t.1) o ≡ None → o ≡ None
none_part None e = refl
none_part (Some t) e = cc

-- a customer's server is a site of the instance
pub server_known : (I : Instance) (taken : List (ℕ × ℕ)) → ArePairs I taken → (j i : ℕ) → server_among taken j ≡ Some i → i < length I.sites
server_known I taken are j i e =
    let part = some_part (find (λ t. t.0 == j) taken) i e in
    subst (λ n. n < length I.sites) part.2 (All-contains (λ t. (t.0 < length I.customers) × (t.1 < length I.sites)) taken part.0 are.known (found_in (λ t. t.0 == j) taken part.0 part.1)).1

-- the services of one customer more
services_more : (I : Instance) (taken : List (ℕ × ℕ)) (j : ℕ) → first_services I taken (j + 1) ≡ first_services I taken j ++ cons_option (option_map (λ (t : ℕ × ℕ). ((customer_at I j).id, (site_at I t.1).id)) (find (λ (t : ℕ × ℕ). t.0 == j) taken)) []
services_more I taken j =
    let service : ℕ → Option (ℕ × ℕ) = λ n. option_map (λ (t : ℕ × ℕ). ((customer_at I n).id, (site_at I t.1).id)) (find (λ (t : ℕ × ℕ). t.0 == n) taken) in
    ap (filter_map service) (places_more j) ∙ filter_map-append service (range_with_len 0 j) (j ∷ [])

pub services_some : (I : Instance) (taken : List (ℕ × ℕ)) (j i : ℕ) → server_among taken j ≡ Some i → first_services I taken (j + 1) ≡ first_services I taken j ++ ((customer_at I j).id, (site_at I i).id) ∷ []
services_some I taken j i e =
    let part = some_part (find (λ t. t.0 == j) taken) i e in
    services_more I taken j
    ∙ ap (λ (o : Option (ℕ × ℕ)). first_services I taken j ++ cons_option (option_map (λ (t : ℕ × ℕ). ((customer_at I j).id, (site_at I t.1).id)) o) []) part.1
    ∙ ap (λ n. first_services I taken j ++ ((customer_at I j).id, (site_at I n).id) ∷ []) part.2

pub services_none : (I : Instance) (taken : List (ℕ × ℕ)) (j : ℕ) → server_among taken j ≡ None → first_services I taken (j + 1) ≡ first_services I taken j
services_none I taken j e =
    services_more I taken j
    ∙ ap (λ (o : Option (ℕ × ℕ)). first_services I taken j ++ cons_option (option_map (λ (t : ℕ × ℕ). ((customer_at I j).id, (site_at I t.1).id)) o) []) (none_part (find (λ t. t.0 == j) taken) e)
    ∙ append-nil (first_services I taken j)
