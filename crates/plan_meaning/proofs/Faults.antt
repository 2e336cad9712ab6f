-- A plan whose lists rise is feasible, or one part of feasibility is the first that fails.
use Rattle.std.proofs.Common.{◌≡◌, ◌⊎◌, ℕ, ◌≤◌, ◌==◌, List, [], ◌∷◌, length, refl, inl, inr, arith}
use Rattle.std.specs.Prelude.{All, Contains, Option, None, Some, IfSome, IsSome, Bool, true, false, bytes_eq}
use Rattle.std.specs.Bool.{Decides}
use Rattle.std.specs.List.{list_any}
use Rattle.std.proofs.lemmas.Bool.{cases_lt}
use Rattle.std.proofs.lemmas.Bool.Decides.{Decides-eqb, Decides-by_or, not_from_Decides}
use Rattle.std.proofs.lemmas.List.Elements.{All-nil, All-cons, All-head, All-tail, Decides-contains}
use Rattle.std.proofs.lemmas.Slice.Eq.{bytes_eq-Decides}
use Rattle.location_terms.specs.declared.status.SiteStatus.{SiteStatus}
use Rattle.location_terms.specs.declared.status.SiteStatus.TheVariants.{Free, MustOpen, MustClose}
use Rattle.location_terms.specs.Instance.{Instance, Site, site_ids, customer_ids, lane}
use Rattle.location_terms.specs.Plan.{Plan, IsPlan, IsFeasible, served, load_of, KeepsStatus}
use Rattle.plan_meaning.specs.declared.fault.PlanFault.{PlanFault}
use Rattle.plan_meaning.specs.declared.fault.PlanFault.TheVariants.{UnknownSite, NotEachCustomerOnce, ServedByClosed, NoLane, OverCapacity, SiteCount, StatusBroken}
use Rattle.plan_meaning.specs.PlanFault.{KeepsCap, KeepsCount, IsFirstFault}

-- it holds, or it does not
abbrev pub OrNot : Type 0 → Type 0
OrNot P = P ⊎ (¬ P)

-- of each element
all_or_not : {X : Type 0} (P : X → Type 0) → ((x : X) → OrNot (P x)) → (xs : List X) → OrNot (All P xs)
all_or_not P each [] = inl (All-nil P)
all_or_not P each (x ∷ xs) =
    elim (each x) [
      | inl first ↦ elim (all_or_not P each xs) [
        | inl rest ↦ inl (All-cons P x xs first rest)
        | inr fails ↦ inr (λ all. fails (All-tail P x xs all))
      ]
      | inr fails ↦ inr (λ all. fails (All-head P x xs all))
    ]

by_test : {P : Type 0} (test : Bool) → Decides test P → OrNot P
by_test true decides = inl (decides.0 refl)
by_test false decides = inr (not_from_Decides false decides refl)

contains_or_not : (xs : List ℕ) (n : ℕ) → OrNot (Contains xs n)
contains_or_not xs n =
    let is_n : ℕ → Bool = λ y. y == n in
    by_test (list_any is_n xs) (Decides-contains xs n (list_any is_n xs) (Decides-by_or is_n (λ y. y ≡ n) (list_any is_n) (λ y. Decides-eqb y n) refl (λ _ _. refl) xs))

pub same_or_not-number : (m n : ℕ) → OrNot (m ≡ n)
same_or_not-number m n = by_test (m == n) (Decides-eqb m n)

same_or_not : (xs ys : List ℕ) → OrNot (xs ≡ ys)
same_or_not xs ys = by_test (bytes_eq xs ys) (bytes_eq-Decides xs ys)

some_or_not : (x : Option ℕ) → OrNot (IsSome x)
some_or_not None = inr (λ some. cc)
some_or_not (Some n) = inl refl

below_or_not : (m n : ℕ) → OrNot (m ≤ n)
below_or_not m n = elim (cases_lt n m) [ inl above ↦ inr (λ below. omega arith) | inr below ↦ inl below ]

within_or_not : (load : ℕ) (cap : Option ℕ) → OrNot (IfSome cap (λ most. load ≤ most))
within_or_not load None = inl tt
within_or_not load (Some most) = below_or_not load most

cap_or_not : (I : Instance) (P : Plan) (s : Site) → OrNot (KeepsCap I P s)
cap_or_not I P s =
    elim (contains_or_not P.sites s.id) [
      | inl opened ↦ elim (within_or_not (load_of I P s.id) s.cap) [ inl within ↦ inl (λ _. within) | inr fails ↦ inr (λ keeps. fails (keeps opened)) ]
      | inr closed ↦ inl (λ opened. absurd (closed opened))
    ]

count_or_not : (I : Instance) (P : Plan) → OrNot (KeepsCount I P)
count_or_not I P =
    elim (below_or_not I.lo (length P.sites)) [
      | inl low ↦ elim (below_or_not (length P.sites) I.hi) [ inl high ↦ inl (low, high) | inr fails ↦ inr (λ keeps. fails keeps.1) ]
      | inr fails ↦ inr (λ keeps. fails keeps.0)
    ]

not_or : {P : Type 0} → OrNot P → OrNot (P → ⊥)
not_or (inl p) = inr (λ fails. fails p)
not_or (inr fails) = inl fails

status_or_not : (P : Plan) (s : ℕ) (status : SiteStatus) → OrNot (KeepsStatus P s status)
status_or_not P s Free = inl tt
status_or_not P s MustOpen = contains_or_not P.sites s
status_or_not P s MustClose = not_or (contains_or_not P.sites s)

-- a part holds, and what follows is judged; or it is the first that fails
pub feasible_or_fault : (I : Instance) (P : Plan) → IsPlan P → IsFeasible I P ⊎ ((fault : PlanFault) × IsFirstFault I P fault)
feasible_or_fault I P plan =
    elim (all_or_not (Contains (site_ids I)) (contains_or_not (site_ids I)) P.sites) [
      | inr fails ↦ inr (UnknownSite, fails)
      | inl known ↦ elim (same_or_not (served P) (customer_ids I)) [
        | inr fails ↦ inr (NotEachCustomerOnce, (known, fails))
        | inl once ↦ elim (all_or_not (λ (v : ℕ × ℕ). Contains P.sites v.1) (λ v. contains_or_not P.sites v.1) P.serves) [
          | inr fails ↦ inr (ServedByClosed, (known, once, fails))
          | inl by_open ↦ elim (all_or_not (λ (v : ℕ × ℕ). IsSome (lane I v.1 v.0)) (λ v. some_or_not (lane I v.1 v.0)) P.serves) [
            | inr fails ↦ inr (NoLane, (known, once, by_open, fails))
            | inl by_lane ↦ elim (all_or_not (KeepsCap I P) (cap_or_not I P) I.sites) [
              | inr fails ↦ inr (OverCapacity, (known, once, by_open, by_lane, fails))
              | inl caps ↦ elim (count_or_not I P) [
                | inr fails ↦ inr (SiteCount, (known, once, by_open, by_lane, caps, fails))
                | inl count ↦ elim (all_or_not (λ (s : Site). KeepsStatus P s.id s.status) (λ s. status_or_not P s.id s.status) I.sites) [
                  | inr fails ↦ inr (StatusBroken, (known, once, by_open, by_lane, caps, count, fails))
                  | inl statuses ↦ inl (record {
                    plan = plan;
                    sites_known = known;
                    each_once = once;
                    by_open = by_open;
                    by_lane = by_lane;
                    within_cap = caps;
                    at_least = count.0;
                    at_most = count.1;
                    statuses = statuses;
                  })
                ]
              ]
            ]
          ]
        ]
      ]
    ]
