-- The customers of each site, with one more who is served.
use Rattle.std.proofs.Common.{◌≡◌, ℕ, ◌+◌, ◌<◌, ◌≤◌, Bool, true, false, cond, List, [], ◌∷◌, ◌++◌, length, map, take, get_or, replicate, refl, sym, ap, subst, ◌∙◌, inl, inr, arith}
use Rattle.std.specs.Prelude.{All, Contains, filter, ◌==◌, slice_index, slice_index_or}
use Rattle.std.specs.List.Sorted.{IsStrictlyIncreasing}
use Rattle.std.proofs.lemmas.Bool.{cases_eq, ne_eqb, eq-eqb}
use Rattle.std.proofs.lemmas.List.{append-nil, map-append, length-map, length-set, length-replicate, get_or-replicate, get_or-set_same, get_or-set_other, get_or_default}
use Rattle.std.proofs.lemmas.List.Elements.{filter_more, All-nil, All-cons, All-head, All-tail, All-contains, All-contains_itself}
use Rattle.location_terms.specs.Instance.{Instance, IsValid, site_at, site_ids, customer_ids}
use Rattle.location_terms.specs.Plan.{Plan, IsFeasible, served}
use Rattle.location_terms.specs.declared.limits.TheConstants.{MAX_CUSTOMERS}
use Rattle.location_terms.proofs.Rising.{one_place}
use Rattle.plan_meaning.specs.Plan.{serve_at}
use Rattle.plan_meaning.proofs.Served.{as_many_served}
use Rattle.report.specs.SiteTable.{served_from, customers_of}
use Rattle.report.specs.Figures.{AreGathered, with_cust}

-- nobody is served yet
pub nobody : (I : Instance) → AreGathered I [] (replicate (length I.sites) [])
nobody I = record { as_many = length-replicate (length I.sites) []; each = λ i within. get_or-replicate (length I.sites) i [] [] within }

module _ (serves : List (ℕ × ℕ)) (k s : ℕ) (within : k < length serves) where
  abbrev last : ℕ × ℕ
  last = get_or serves k (0, 0)

  more : served_from (take (k + 1) serves) s ≡ served_from (take k serves) s ++ map (λ v. v.0) (cond (last.1 == s) (last ∷ []) [])
  more =
      ap (map (λ (v : ℕ × ℕ). v.0)) (filter_more (λ v. v.1 == s) serves k (0, 0) within)
      ∙ map-append (λ (v : ℕ × ℕ). v.0) (filter (λ v. v.1 == s) (take k serves)) (cond (last.1 == s) (last ∷ []) [])

  from_here : last.1 ≡ s → served_from (take (k + 1) serves) s ≡ served_from (take k serves) s ++ last.0 ∷ []
  from_here same = more ∙ ap (λ b. served_from (take k serves) s ++ map (λ (v : ℕ × ℕ). v.0) (cond b (last ∷ []) [])) (eq-eqb last.1 s same)

  from_elsewhere : ¬ (last.1 ≡ s) → served_from (take (k + 1) serves) s ≡ served_from (take k serves) s
  from_elsewhere other =
      more ∙ ap (λ b. served_from (take k serves) s ++ map (λ (v : ℕ × ℕ). v.0) (cond b (last ∷ []) [])) (ne_eqb last.1 s other)
      ∙ append-nil (served_from (take k serves) s)

-- the customer at a place of the serves is put behind those of the site that serves it
module _ (I : Instance) (rising : IsStrictlyIncreasing (site_ids I)) (serves : List (ℕ × ℕ)) (k i cust : ℕ) (rows : List (List ℕ)) (within : k < length serves) (inside : i < length I.sites)
    (site : (site_at I i).id ≡ (get_or serves k (0, 0)).1) (is : cust ≡ (get_or serves k (0, 0)).0) (before : AreGathered I (take k serves) rows) where
  each_more : (j : ℕ) → j < length I.sites → slice_index_or (with_cust rows i cust) j [] ≡ served_from (take (k + 1) serves) (site_at I j).id
  each_more j there =
      elim (cases_eq j i) [
        | inl same ↦
            ap (λ n. get_or (with_cust rows i cust) n []) same
            ∙ get_or-set_same rows i (get_or rows i [] ++ cust ∷ []) [] (omega (arith, before.as_many, inside))
            ∙ ap (λ (row : List ℕ). row ++ cust ∷ []) (before.each i inside)
            ∙ ap (λ c. served_from (take k serves) (site_at I i).id ++ c ∷ []) is
            ∙ sym (from_here serves k (site_at I i).id within (sym site))
            ∙ ap (λ n. served_from (take (k + 1) serves) (site_at I n).id) (sym same)
        | inr other ↦
            get_or-set_other rows i j (get_or rows i [] ++ cust ∷ []) [] other
            ∙ before.each j there
            ∙ sym (from_elsewhere serves k (site_at I j).id within (λ e. other (one_place (λ s. s.id) I.sites _ rising j i there inside (sym e ∙ sym site))))
      ]

  pub one_more : AreGathered I (take (k + 1) serves) (with_cust rows i cust)
  one_more = record { as_many = length-set rows i (get_or rows i [] ++ cust ∷ []) ∙ before.as_many; each = each_more }

-- what holds of all who are served holds of those of a site
module _ (P : ℕ → Type 0) (s : ℕ) where
  kept : (b : Bool) (v : ℕ × ℕ) (some : List (ℕ × ℕ)) → P v.0 → All P (map (λ v. v.0) some) → All P (map (λ v. v.0) (cond b (v ∷ some) some))
  kept true v some first rest = All-cons P v.0 (map (λ v. v.0) some) first rest
  kept false v some first rest = rest

  pub all_from : (serves : List (ℕ × ℕ)) → All P (map (λ v. v.0) serves) → All P (served_from serves s)
  all_from [] all = All-nil P
  all_from (v ∷ serves) all = kept (v.1 == s) v (filter (λ v. v.1 == s) serves) (All-head P v.0 (map (λ v. v.0) serves) all) (all_from serves (All-tail P v.0 (map (λ v. v.0) serves) all))

fewer : (b : Bool) (v : ℕ × ℕ) (some : List (ℕ × ℕ)) (n : ℕ) → length some ≤ n → length (cond b (v ∷ some) some) ≤ n + 1
fewer true v some n few = omega (arith, few)
fewer false v some n few = omega (arith, few)

few_pass : (s : ℕ) (serves : List (ℕ × ℕ)) → length (filter (λ v. v.1 == s) serves) ≤ length serves
few_pass s [] = omega arith
few_pass s (v ∷ serves) = omega (arith, fewer (v.1 == s) v (filter (λ v. v.1 == s) serves) (length serves) (few_pass s serves))

-- a site serves no more customers than there are
pub few_from : (s : ℕ) (serves : List (ℕ × ℕ)) → length (served_from serves s) ≤ length serves
few_from s serves = omega (arith, length-map (filter (λ v. v.1 == s) serves) (λ v. v.0), few_pass s serves)

-- a site that serves is one of the instance
pub server_known : (I : Instance) (P : Plan) (k s : ℕ) → IsFeasible I P → k < length P.serves → s ≡ (serve_at P k).1 → Contains (site_ids I) s
server_known I P k s feasible within is =
    subst (Contains (site_ids I)) (sym is) (All-contains (Contains (site_ids I)) P.sites (serve_at P k).1 feasible.sites_known (feasible.by_open k (0, 0) within))

-- an open site is one of the instance
pub opened_known : (I : Instance) (P : Plan) (k s : ℕ) → IsFeasible I P → k < length P.sites → s ≡ slice_index P.sites k → Contains (site_ids I) s
opened_known I P k s feasible within is = subst (Contains (site_ids I)) (sym is) (feasible.sites_known k 0 within)

-- what stands in a row: the customers of a site, who are known and few
module _ (I : Instance) (P : Plan) (valid : IsValid I) (feasible : IsFeasible I P) (rows : List (List ℕ)) (i : ℕ) (row : List ℕ) (are : AreGathered I P.serves rows) (inside : i < length I.sites) (is : row ≡ get_or rows i row) where
  pub row_is : row ≡ customers_of P (site_at I i).id
  row_is = is ∙ get_or_default rows i row [] (omega (arith, are.as_many, inside)) ∙ are.each i inside

  pub row_known : All (Contains (customer_ids I)) row
  row_known =
      subst (All (Contains (customer_ids I))) (sym row_is)
      (all_from (Contains (customer_ids I)) (site_at I i).id P.serves (subst (All (Contains (customer_ids I))) (sym feasible.each_once) (All-contains_itself (customer_ids I))))

  pub row_few : length row ≤ MAX_CUSTOMERS
  row_few =
      omega
      (arith, ap (λ (xs : List ℕ). length xs) row_is, few_from (site_at I i).id P.serves, as_many_served I P feasible.each_once, valid.sizes.few_customers)
