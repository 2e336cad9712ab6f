-- The steps that name a customer, chained: with one more step of a path, and along a walk.
use Rattle.std.proofs.Common.{◌≡◌, ◌==◌, ℕ, suc, zero, ◌+◌, ◌<◌, ◌≤◌, ◌++◌, ◌∷◌, [], refl, sym, ap, subst, ◌∙◌, inl, inr, true, false, not, List, length, take, get_or, slice_set, None, Some, arith}
use Rattle.std.specs.Prelude.{Contains}
use Rattle.std.specs.List.{list_any}
use Rattle.std.proofs.lemmas.Bool.{ne_eqb, and_right, cases_eq, cases_lt}
use Rattle.std.proofs.lemmas.List.{length-map, length_push, get_or-map, get_or_default, get_or-set_other, get_or_push, get_or_append_left, length-take-le, take_more}
use Rattle.std.proofs.lemmas.List.Folds.{list_any_at, list_any_none}
use Rattle.std.proofs.lemmas.Grind.{get_or-set_at}
use Rattle.location_terms.specs.Instance.{Instance, IsValid, customer_at, customer_ids}
use Rattle.location_terms.specs.Box.{Path, bars_lane}
use Rattle.location_terms.specs.declared.decision.Decision.{Decision}
use Rattle.location_terms.specs.declared.decision.Decision.TheVariants.{Opened, Closed, Yes, No}
use Rattle.location_terms.proofs.Rising.{one_place}
use Rattle.dual_value.specs.Lanes.{steps_on_lanes}
use Rattle.dual_value.specs.LaneSteps.{named_customer, Names, IsLast, IsChain, AreChains}
use Rattle.dual_value.proofs.Unbarred.{more_steps}

names_before : (path ds : Path) (c k : ℕ) → k < length path → Names (path ++ ds) c k → Names path c k
names_before path ds c k b n = ap named_customer (sym (get_or_append_left path ds (Opened 0) k b)) ∙ n

names_after : (path ds : Path) (c k : ℕ) → k < length path → Names path c k → Names (path ++ ds) c k
names_after path ds c k b n = ap named_customer (get_or_append_left path ds (Opened 0) k b) ∙ n

named_here : (path : Path) (d : Decision) (k : ℕ) → length path ≡ k → named_customer (get_or (path ++ d ∷ []) k (Opened 0)) ≡ named_customer d
named_here path d k is = ap named_customer (get_or_push path d (Opened 0) k is)

last_kept : (path ds : Path) (c from last : ℕ) → from ≤ length path → IsLast path c from last → IsLast (path ++ ds) c from last
last_kept path ds c from last short l = record {
  within = l.within;
  names = λ k is. names_after path ds c k (omega (arith, is, l.within, short)) (l.names k is);
  none = λ k a b n. l.none k a b (names_before path ds c k (omega (arith, b, short)) n);
}

-- one customer's chain with one more step
module _ (path : Path) (d : Decision) (befores : List ℕ) (c last : ℕ) (long : length befores ≡ length path) (is : IsChain path befores c last) where
  next_more : (before : ℕ) → (named_customer d ≡ Some c → before ≡ last) → (k : ℕ) → k < length (path ++ d ∷ []) → Names (path ++ d ∷ []) c k
      → (k < length (befores ++ before ∷ [])) × IsLast (path ++ d ∷ []) c k (get_or (befores ++ before ∷ []) k 0)
  next_more before link k b n = (
    omega (arith, b, long, length_push path d, length_push befores before),
    elim (cases_eq k (length path)) [
      | inl same ↦
          let here : named_customer d ≡ Some c = sym (named_here path d k (sym same)) ∙ n in
          let at : last ≡ get_or (befores ++ before ∷ []) k 0 = sym (link here) ∙ sym (get_or_push befores before 0 k (long ∙ sym same)) in
          subst (λ (p : ℕ × ℕ). IsLast (path ++ d ∷ []) c p.0 p.1) (λ i. (sym same i, at i)) (last_kept path (d ∷ []) c (length path) last (omega arith) is.start)
      | inr other ↦
          let old : k < length path = omega (arith, b, other, length_push path d) in
          subst (IsLast (path ++ d ∷ []) c k) (sym (get_or_append_left befores (before ∷ []) 0 k (omega (arith, old, long))))
          (last_kept path (d ∷ []) c k (get_or befores k 0) (omega (arith, old)) (is.next k old (names_before path (d ∷ []) c k old n)).1)
    ],
  )

  -- that names the customer
  chain_named : (place before : ℕ) → named_customer d ≡ Some c → place ≡ length path + 1 → before ≡ last → IsChain (path ++ d ∷ []) (befores ++ before ∷ []) c place
  chain_named place before names at link = record {
    start = record {
      within = omega (arith, at, length_push path d);
      names = λ k e. named_here path d k (omega (arith, at, e)) ∙ names;
      none = λ k a b _. absurd (omega (arith, a, b, at, length_push path d));
    };
    next = next_more before (λ _. link);
  }

  -- that doesn't
  chain_other : (before : ℕ) → (named_customer d ≡ Some c → ⊥) → IsChain (path ++ d ∷ []) (befores ++ before ∷ []) c last
  chain_other before other = record {
    start = record {
      within = omega (arith, is.start.within, length_push path d);
      names = λ k e. names_after path (d ∷ []) c k (omega (arith, e, is.start.within)) (is.start.names k e);
      none = λ k a b n. elim (cases_eq k (length path)) [
        | inl same ↦ other (sym (named_here path d k (sym same)) ∙ n)
        | inr differ ↦
            let old : k < length path = omega (arith, b, differ, length_push path d) in
            is.start.none k a old (names_before path (d ∷ []) c k old n)
      ];
    };
    next = next_more before (λ e. absurd (other e));
  }

-- all customers' chains, with a step that names one of them
module _ (I : Instance) (d : Decision) (path : Path) (befores lasts : List ℕ) (long : length befores ≡ length path) (are : AreChains I path lasts befores) where
  chains_other : (before : ℕ) → ((j : ℕ) → j < length I.customers → named_customer d ≡ Some (customer_at I j).id → ⊥) → AreChains I (path ++ d ∷ []) lasts (befores ++ before ∷ [])
  chains_other before other j b = chain_other path d befores (customer_at I j).id (get_or lasts j 0) long (are j b) before (other j b)

  pub chains_by_none : (before : ℕ) → named_customer d ≡ None → AreChains I (path ++ d ∷ []) lasts (befores ++ before ∷ [])
  chains_by_none before none = chains_other before (λ j _ same. let e : None ≡ Some (customer_at I j).id = sym none ∙ same in cc)

  same_customer : (c t : ℕ) → named_customer d ≡ Some c → named_customer d ≡ Some t → t ≡ c
  same_customer c t names same = let e : Some t ≡ Some c = sym same ∙ names in cc

  -- one that the instance hasn't
  pub chains_kept : (before c : ℕ) → named_customer d ≡ Some c → (Contains (customer_ids I) c → ⊥) → AreChains I (path ++ d ∷ []) lasts (befores ++ before ∷ [])
  chains_kept before c names unknown = chains_other before (λ j b same. unknown (
      let e : c ≡ (customer_at I j).id = sym (same_customer c (customer_at I j).id names same) in
      let h : j < length (customer_ids I) = rw length-map b in
      (j, h, get_or-map (λ x. x.id) I.customers j _ c b ∙ sym e)))

  -- one at place k
  pub chains_set : (place before k e c : ℕ) → IsValid I → length lasts ≡ length I.customers → (k < length I.customers) × ((customer_at I k).id ≡ c) → named_customer d ≡ Some c
      → place ≡ length path + 1 → before ≡ get_or lasts k e → AreChains I (path ++ d ∷ []) (slice_set lasts k place) (befores ++ before ∷ [])
  chains_set place before k e c valid all found names at link j b = elim (cases_eq j k) [
    | inl same ↦
        let was : before ≡ get_or lasts j 0 = link ∙ get_or_default lasts k e 0 (omega (arith, found.0, all)) ∙ ap (λ i. get_or lasts i 0) (sym same) in
        let set : place ≡ get_or (slice_set lasts k place) j 0 = sym (get_or-set_at lasts k j place 0 same (omega (arith, found.0, all))) in
        subst (IsChain (path ++ d ∷ []) (befores ++ before ∷ []) (customer_at I j).id) set
        (chain_named path d befores (customer_at I j).id (get_or lasts j 0) long (are j b) place before (names ∙ ap Some (sym found.1 ∙ ap (λ i. (customer_at I i).id) (sym same))) at was)
    | inr other ↦
        subst (IsChain (path ++ d ∷ []) (befores ++ before ∷ []) (customer_at I j).id) (sym (get_or-set_other lasts k j place 0 other))
        (chain_other path d befores (customer_at I j).id (get_or lasts j 0) long (are j b) before
        (λ same. other (one_place (λ x. x.id) I.customers _ valid.customers_named.rising j k b found.0 (same_customer c (customer_at I j).id names same ∙ sym found.1))))
  ]

-- where no step is on a lane
none_named : (path : Path) (c k : ℕ) → steps_on_lanes path ≡ 0 → Names path c k → ⊥
none_named [] c k e n = absurd cc
none_named (Opened t ∷ path) c zero e n = absurd cc
none_named (Closed t ∷ path) c zero e n = absurd cc
none_named (Opened t ∷ path) c (suc k) e n = none_named path c k (omega (arith, e, more_steps (Opened t) path)) n
none_named (Closed t ∷ path) c (suc k) e n = none_named path c k (omega (arith, e, more_steps (Closed t) path)) n
none_named (Yes t d ∷ path) c k e n = absurd (omega (arith, e, more_steps (Yes t d) path))
none_named (No t d ∷ path) c k e n = absurd (omega (arith, e, more_steps (No t d) path))

pub chain_of_sites : (path : Path) (befores : List ℕ) (c last : ℕ) → steps_on_lanes path ≡ 0 → last ≡ 0 → IsChain path befores c last
chain_of_sites path befores c last e is = record {
  start = record {
    within = omega (arith, is);
    names = λ k at. absurd (omega (arith, is, at));
    none = λ k _ _ n. none_named path c k e n;
  };
  next = λ k _ n. absurd (none_named path c k e n);
}

bars_no_other : (s c : ℕ) (d : Decision) → (named_customer d ≡ Some c → ⊥) → bars_lane s c d ≡ false
bars_no_other s c (Opened t) other = refl
bars_no_other s c (Closed t) other = refl
bars_no_other s c (Yes t e) other = and_right (not (s == t)) (c == e) (ne_eqb c e (λ same. other (ap Some (sym same))))
bars_no_other s c (No t e) other = and_right (s == t) (c == e) (ne_eqb c e (λ same. other (ap Some (sym same))))

-- a walk that has come down to a step: those from there on don't take the lane away
pub record IsWalked (path : Path) (s c at : ℕ) : Type 0 where
  pub within : at ≤ length path
  pub names : (k : ℕ) → at ≡ k + 1 → Names path c k
  pub passed : (k : ℕ) (d : Decision) → at ≤ k → k < length path → bars_lane s c (get_or path k d) ≡ false

module _ (path : Path) (s c : ℕ) where
  passed_none : (k : ℕ) (d : Decision) → k < length path → (Names path c k → ⊥) → bars_lane s c (get_or path k d) ≡ false
  passed_none k d b none = bars_no_other s c (get_or path k d) (λ n. none (ap named_customer (get_or_default path k (Opened 0) d b) ∙ n))

  pub walk_starts : (last : ℕ) → IsLast path c (length path) last → IsWalked path s c last
  walk_starts last l = record {
    within = l.within;
    names = l.names;
    passed = λ k d a b. passed_none k d b (l.none k a b);
  }

  pub walk_on : (at k next : ℕ) (d : Decision) → IsWalked path s c at → at ≡ k + 1 → IsLast path c k next → bars_lane s c (get_or path k d) ≡ false → IsWalked path s c next
  walk_on at k next d w is l tested = record {
    within = omega (arith, w.within, l.within, is);
    names = l.names;
    passed = λ m e a b. elim (cases_eq m k) [
      | inl same ↦
          ap (λ i. bars_lane s c (get_or path i e)) same ∙ ap (bars_lane s c) (get_or_default path k e d (omega (arith, w.within, is))) ∙ tested
      | inr other ↦ elim (cases_lt m k) [
        | inl below ↦ passed_none m e b (l.none m a below)
        | inr above ↦ w.passed m e (omega (arith, above, other, is)) b
      ]
    ];
  }

  pub walk_ends : (at : ℕ) → IsWalked path s c at → at ≡ 0 → list_any (bars_lane s c) path ≡ false
  walk_ends at w none = list_any_none (bars_lane s c) path (λ k d b. w.passed k d (omega (arith, none)) b)

  pub walk_finds : (at k : ℕ) (d : Decision) → IsWalked path s c at → at ≡ k + 1 → bars_lane s c (get_or path k d) ≡ true → list_any (bars_lane s c) path ≡ true
  walk_finds at k d w is found = list_any_at (bars_lane s c) path k d (omega (arith, w.within, is)) found

pub chain_none : (path : Path) (befores : List ℕ) (s c last : ℕ) → IsChain path befores c last → last ≡ 0 → list_any (bars_lane s c) path ≡ false
chain_none path befores s c last is none = walk_ends path s c last (walk_starts path s c last is.start) none

-- all chains of one more step, where the list of the last steps is written by a call
pub chains_taken : (I : Instance) (path items : Path) (k place before : ℕ) (d : Decision) (lasts new befores more : List ℕ) → items ≡ path → k < length items → d ≡ get_or items k d
    → length befores ≡ k → place ≡ length befores + 1 → more ≡ befores ++ before ∷ [] → length new ≡ length lasts
    → ((p : Path) (bs : List ℕ) → length bs ≡ length p → place ≡ length p + 1 → AreChains I p lasts bs → AreChains I (p ++ d ∷ []) new (bs ++ before ∷ []))
    → AreChains I (take k path) lasts befores → AreChains I (take (k + 1) path) new more
chains_taken I path items k place before d lasts new befores more all below is count at pushed long step are =
    let within : k < length path = omega (arith, below, ap length all) in
    let here : get_or path k d ≡ d = ap (λ xs. get_or xs k d) (sym all) ∙ sym is in
    let taken : length (take k path) ≡ k = length-take-le k path (omega (arith, within)) in
    let further : take k path ++ d ∷ [] ≡ take (k + 1) path = ap (λ x. take k path ++ x ∷ []) (sym here) ∙ sym (take_more path k d within) in
    subst (λ (p : Path × List ℕ). AreChains I p.0 new p.1) (λ i. (further i, sym pushed i)) (step (take k path) befores (omega (arith, taken, count)) (omega (arith, taken, count, at)) are)
