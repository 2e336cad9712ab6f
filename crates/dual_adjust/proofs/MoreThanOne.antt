-- Whether more than one of some numbers passes a test, found out by one who looks at them one after the other.
use Rattle.std.proofs.Common.{◌≡◌, ◌≢◌, ℕ, zero, suc, ◌+◌, ◌<◌, ◌≤◌, sym, ap, subst, ◌∙◌, inl, inr, arith, Bool, true, false, cond, List, [], ◌∷◌, length, get_or}
use Rattle.std.specs.Prelude.{All, Contains, filter}
use Rattle.std.specs.List.Sorted.{IsStrictlyIncreasing}
use Rattle.std.proofs.lemmas.Bool.{false≢true, cases_Bool, cases_lt}
use Rattle.std.proofs.lemmas.List.{get_or_default}
use Rattle.std.proofs.lemmas.List.Elements.{All-filter, All-contains_itself, filter_passes}
use Rattle.std.proofs.lemmas.List.Kept.{IsStrictlyIncreasing-filter}

contains_later : {X : Type 0} (y : X) (ys : List X) (x : X) → Contains ys x → Contains (y ∷ ys) x
contains_later y ys x c = let b = c.1 in (suc c.0, omega (arith, b), c.2)

kept_at : {X : Type 0} (p : X → Bool) (xs : List X) (x : X) (k : ℕ) → k < length xs → get_or xs k x ≡ x → p x ≡ true → Contains (filter p xs) x
kept_at p [] x k b e t = absurd (omega (arith, b))
kept_at p (y ∷ ys) x zero b e t = subst (λ (c : Bool). Contains (cond c (y ∷ filter p ys) (filter p ys)) x) (sym (ap p e ∙ t)) (0, omega arith, e)
kept_at p (y ∷ ys) x (suc k) b e t =
    let rest : Contains (filter p ys) x = kept_at p ys x k (omega (arith, b)) e t in
    elim (cases_Bool (p y)) [
      | inl passes ↦ subst (λ (c : Bool). Contains (cond c (y ∷ filter p ys) (filter p ys)) x) (sym passes) (contains_later y (filter p ys) x rest)
      | inr fails ↦ subst (λ (c : Bool). Contains (cond c (y ∷ filter p ys) (filter p ys)) x) (sym fails) rest
    ]

-- an element that passes is among those that do
pub kept_by : {X : Type 0} (p : X → Bool) (xs : List X) (x : X) → Contains xs x → p x ≡ true → Contains (filter p xs) x
kept_by p xs x c t = kept_at p xs x c.0 c.1 c.2 t

two_inside : (ys : List ℕ) (i k : ℕ) → Contains ys i → Contains ys k → i ≢ k → 1 < length ys
two_inside ys i k a b apart =
    elim (cases_lt 1 (length ys)) [
      | inl more ↦ more
      | inr few ↦
          let inside = a.1 in
          let other_inside = b.1 in
          let first : a.0 ≡ 0 = omega (arith, few, inside) in
          let second : b.0 ≡ 0 = omega (arith, few, other_inside) in
          let at_first : get_or ys 0 i ≡ i = subst (λ n. get_or ys n i ≡ i) first a.2 in
          let at_second : get_or ys 0 k ≡ k = subst (λ n. get_or ys n k ≡ k) second b.2 in
          absurd (apart (sym at_first ∙ get_or_default ys 0 i k (omega (arith, inside)) ∙ at_second))
    ]

module _ (p : ℕ → Bool) (xs : List ℕ) where
  -- two that differ pass
  pub two_pass : (i k : ℕ) → Contains xs i → Contains xs k → p i ≡ true → p k ≡ true → i ≢ k → 1 < length (filter p xs)
  two_pass i k a b s t apart = two_inside (filter p xs) i k (kept_by p xs i a s) (kept_by p xs k b t) apart

  -- where each that passes is the same one, no more than one does
  pub one_passes : IsStrictlyIncreasing xs → (one : ℕ) → ((i : ℕ) → Contains xs i → p i ≡ true → i ≡ one) → length (filter p xs) ≤ 1
  one_passes rising one same =
      elim (cases_lt 1 (length (filter p xs))) [
        | inl more ↦
            let ys = filter p xs in
            let each : All (λ i. i ≡ one) ys = λ k d b. same (get_or ys k d) (All-filter p (Contains xs) xs (All-contains_itself xs) k d b) (filter_passes p xs k d b) in
            let up : get_or ys 0 0 < get_or ys 1 0 = IsStrictlyIncreasing-filter p xs rising 0 more in
            absurd (omega (arith, up, each 0 0 (omega (arith, more)), each 1 0 more))
        | inr few ↦ few
      ]

module _ (p : ℕ → Bool) (at : ℕ → ℕ) where
  -- of the first k, none passed, or one did
  abbrev pub IsSeen : ℕ → Bool → Type 0
  IsSeen k false = (r : ℕ) → r < k → p (at r) ≡ false
  IsSeen k true = (one : ℕ) × (one < k) × (p (at one) ≡ true) × ((r : ℕ) → r < k → p (at r) ≡ true → r ≡ one)

  pub nothing_seen : IsSeen 0 false
  nothing_seen r b = absurd (omega (arith, b))

  -- those up to n fail
  pub seen_on : (seen : Bool) (k n : ℕ) → IsSeen k seen → ((r : ℕ) → k ≤ r → r < n → p (at r) ≡ false) → k ≤ n → IsSeen n seen
  seen_on false k n none later up = λ r b. elim (cases_lt r k) [ inl before ↦ none r before | inr after ↦ later r after b ]
  seen_on true k n found later up =
      let here = found.1 in
      (found.0, omega (arith, here, up), found.2, λ r b t. elim (cases_lt r k) [ inl before ↦ found.3 r before t | inr after ↦ absurd (false≢true (sym (later r after b) ∙ t)) ])

  pub seen_next : (seen : Bool) (k : ℕ) → IsSeen k seen → p (at k) ≡ false → IsSeen (k + 1) seen
  seen_next seen k so_far fails = seen_on seen k (k + 1) so_far (λ r low b. let same : r ≡ k = omega (arith, low, b) in ap (λ n. p (at n)) same ∙ fails) (omega arith)

  pub seen_first : (k : ℕ) → IsSeen k false → p (at k) ≡ true → IsSeen (k + 1) true
  seen_first k none passes =
      (k, omega arith, passes, λ r b t. elim (cases_lt r k) [ inl before ↦ absurd (false≢true (sym (none r before) ∙ t)) | inr after ↦ omega (arith, b, after) ])

  -- so that each that passes is one and the same
  pub seen_same : (seen : Bool) (n : ℕ) → IsSeen n seen → (one : ℕ) × ((r : ℕ) → r < n → p (at r) ≡ true → at r ≡ one)
  seen_same false n none = (0, λ r b t. absurd (false≢true (sym (none r b) ∙ t)))
  seen_same true n found = (at found.0, λ r b t. ap at (found.3 r b t))
