-- The first cheapest of some sites.
use Rattle.std.proofs.Common.{◌≡◌, ℕ, ◌<◌, ◌≤◌, Bool, List, [], ◌∷◌, length, get_or, None, Some, subst, ◌∙◌, arith}
use Rattle.std.specs.Prelude.{Contains, nat_lt}
use Rattle.std.specs.List.{IsFirstBest, best_of}
use Rattle.std.proofs.lemmas.Bool.{ltb-false, ltb-true}
use Rattle.std.proofs.lemmas.List.{get_or_default}
use Rattle.std.proofs.lemmas.List.MinMax.{IsStrictWeakOrder-by_number, IsFirstBest-from_best_of}
use Rattle.std.proofs.lemmas.Option.{same_Some}
use Rattle.location_terms.specs.Instance.{Instance}
use Rattle.plan_search.specs.Packed.{cost_at, cheapest}

module _ (I : Instance) (j : ℕ) where
  -- the site at i stands among these, none of which is cheaper, and those before it cost more
  pub record IsCheapest (sites : List ℕ) (i : ℕ) : Type 0 where
    pub place : ℕ
    pub within : place < length sites
    pub is : (d : ℕ) → get_or sites place d ≡ i
    pub least : (k d : ℕ) → k < length sites → cost_at I i j ≤ cost_at I (get_or sites k d) j
    pub first : (k d : ℕ) → k < place → cost_at I i j < cost_at I (get_or sites k d) j

  abbrev beats : ℕ → ℕ → Bool
  beats x y = nat_lt (cost_at I x j) (cost_at I y j)

  pub cheapest_is : (sites : List ℕ) (i : ℕ) → cheapest I j sites ≡ Some i → IsCheapest sites i
  cheapest_is [] i none = cc
  cheapest_is (a ∷ xs) i some =
      let best : (b : ℕ) × IsFirstBest beats (a ∷ xs) (length (a ∷ xs)) b × (get_or (a ∷ xs) b a ≡ best_of beats a xs) = IsFirstBest-from_best_of (IsStrictWeakOrder-by_number (λ x. cost_at I x j)) a xs in
      let b : ℕ = best.0 in
      let found : IsFirstBest beats (a ∷ xs) (length (a ∷ xs)) b = best.1 in
      let same : best_of beats a xs ≡ i = same_Some _ _ some in
      let at : (d : ℕ) → get_or (a ∷ xs) b d ≡ i = λ d. get_or_default (a ∷ xs) b d a found.0 ∙ best.2 ∙ same in
      record {
        place = b;
        within = found.0;
        is = at;
        least = λ k d c. subst (λ x. cost_at I x j ≤ cost_at I (get_or (a ∷ xs) k d) j) (at d) (ltb-false _ _ (found.1 k d c));
        first = λ k d c. subst (λ x. cost_at I x j < cost_at I (get_or (a ∷ xs) k d) j) (at d) (ltb-true _ _ (found.2 k d c));
      }

  pub cheapest_among : (sites : List ℕ) (i : ℕ) → cheapest I j sites ≡ Some i → Contains sites i
  cheapest_among sites i some = let is = cheapest_is sites i some in (is.place, is.within, is.is i)

  -- there is a cheapest one where there is one
  pub cheapest_some : (sites : List ℕ) (i : ℕ) → Contains sites i → cheapest I j sites ≡ None → ⊥
  cheapest_some [] i c none = omega (arith, c.1)
  cheapest_some (a ∷ xs) i c none = cc
