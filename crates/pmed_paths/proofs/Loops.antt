-- Walks that come to no vertex twice.
use Rattle.std.proofs.Common.{◌≡◌, ◌==◌, ℕ, zero, suc, ◌+◌, ◌<◌, ◌≤◌, Bool, true, false, cond, List, [], ◌∷◌, length, ◌⊎◌, inl, inr, refl, sym, subst, ◌∙◌, arith}
use Rattle.std.specs.List.{range_with_len}
use Rattle.std.proofs.lemmas.Bool.{cases_lt, cases_eq, eqb-true, eqb-false}
use Rattle.pmed_paths.specs.Network.{Network, IsNetwork}
use Rattle.pmed_paths.specs.Walks.{IsWalk, end_of, walk_cost}
use Rattle.pmed_paths.proofs.Edges.{second_end}

abbrev pub Has : List ℕ → ℕ → Type 0
Has [] v = ⊥
Has (x ∷ xs) v = (x ≡ v) ⊎ Has xs v

-- a list without a number
abbrev pub without : ℕ → List ℕ → List ℕ
without v [] = []
without v (x ∷ xs) = cond (x == v) (without v xs) (x ∷ without v xs)

length-without-le : (v : ℕ) (xs : List ℕ) → length (without v xs) ≤ length xs
length-without-le v [] = omega arith
length-without-le v (x ∷ xs) = elim (x == v) as (λ b. length (cond b (without v xs) (x ∷ without v xs)) ≤ suc (length xs)) [
  | true ↦ omega (arith, length-without-le v xs)
  | false ↦ omega (arith, length-without-le v xs)
]

-- it is shorter where the number was in it
pub length-without : (v : ℕ) (xs : List ℕ) → Has xs v → length (without v xs) < length xs
length-without v [] has = absurd has
length-without v (x ∷ xs) has = by (x == v) refl (λ later. length-without v xs later)
  where
    by : (b : Bool) → (x == v) ≡ b → (Has xs v → length (without v xs) < length xs) → length (cond b (without v xs) (x ∷ without v xs)) < suc (length xs)
    by true e rest = omega (arith, length-without-le v xs)
    by false e rest = elim has [
      | inl same ↦ absurd (eqb-false x v e same)
      | inr later ↦ omega (arith, rest later)
    ]

-- another number stays
pub Has-without : (v u : ℕ) (xs : List ℕ) → Has xs u → (u ≡ v → ⊥) → Has (without v xs) u
Has-without v u [] has apart = absurd has
Has-without v u (x ∷ xs) has apart = by (x == v) refl (λ later. Has-without v u xs later apart)
  where
    by : (b : Bool) → (x == v) ≡ b → (Has xs u → Has (without v xs) u) → Has (cond b (without v xs) (x ∷ without v xs)) u
    by true e rest = elim has [
      | inl same ↦ absurd (apart (sym same ∙ eqb-true x v e))
      | inr later ↦ rest later
    ]
    by false e rest = elim has [
      | inl same ↦ inl same
      | inr later ↦ inr (rest later)
    ]

pub Has-range : (n start v : ℕ) → start ≤ v → v < start + n → Has (range_with_len start n) v
Has-range zero start v from below = absurd (omega (arith, from, below))
Has-range (suc n) start v from below =
    elim (cases_lt start v) [
      | inl lt ↦ inr (Has-range n (start + 1) v (omega (arith, lt)) (omega (arith, below)))
      | inr ge ↦ inl (omega (arith, ge, from))
    ]

-- a walk comes to none but these
abbrev pub Within : List ℕ → List ℕ → Type 0
Within allowed [] = Unit {0}
Within allowed (v ∷ walk) = Has allowed v × Within allowed walk

-- a walk doesn't come to this vertex
abbrev pub Avoids : ℕ → List ℕ → Type 0
Avoids v [] = Unit {0}
Avoids v (x ∷ walk) = (x ≡ v → ⊥) × Avoids v walk

pub Within-without : (v : ℕ) (allowed walk : List ℕ) → Within allowed walk → Avoids v walk → Within (without v allowed) walk
Within-without v allowed [] within avoids = tt
Within-without v allowed (x ∷ walk) within avoids = (Has-without v x allowed within.0 avoids.0, Within-without v allowed walk within.1 avoids.1)

-- the vertices of a walk are those of the network
pub Within-walk : (N : Network) → IsNetwork N → (a : ℕ) (walk : List ℕ) → IsWalk N a walk → Within (range_with_len 1 N.vertices) walk
Within-walk N net a [] goes = tt
Within-walk N net a (v ∷ walk) goes =
    let end = second_end N net a v goes.0 in
    (Has-range N.vertices 1 v end.0 (omega (arith, end.1)), Within-walk N net v walk goes.1)

-- a walk from v that doesn't come back to it, and ends where a walk from s does, for no more
pub record Straight (N : Network) (allowed : List ℕ) (v s : ℕ) (walk : List ℕ) : Type 0 where
  pub way : List ℕ
  pub goes : IsWalk N v way
  pub arrives : end_of v way ≡ end_of s walk
  pub cheaper : walk_cost N v way ≤ walk_cost N s walk
  pub within : Within allowed way
  pub avoids : Avoids v way

-- a walk doesn't come to v, or one from v is part of it
last_visit : (N : Network) (allowed : List ℕ) (v s : ℕ) (walk : List ℕ) → IsWalk N s walk → Within allowed walk → Avoids v walk ⊎ Straight N allowed v s walk
last_visit N allowed v s [] goes within = inl tt
last_visit N allowed v s (x ∷ walk) goes within =
    elim (last_visit N allowed v x walk goes.1 within.1) [
      | inl avoids ↦ elim (cases_eq x v) [
        | inl same ↦ inr (subst (λ u. Straight N allowed u s (x ∷ walk)) same (record {
          way = walk;
          goes = goes.1;
          arrives = refl;
          cheaper = omega arith;
          within = within.1;
          avoids = subst (λ u. Avoids u walk) (sym same) avoids;
        }))
        | inr apart ↦ inl (apart, avoids)
      ]
      | inr way ↦ inr (record {
        way = way.way;
        goes = way.goes;
        arrives = way.arrives;
        cheaper = omega (arith, way.cheaper);
        within = way.within;
        avoids = way.avoids;
      })
    ]

-- of a walk from v, one that doesn't come back to it
pub straight : (N : Network) (allowed : List ℕ) (v : ℕ) (walk : List ℕ) → IsWalk N v walk → Within allowed walk → Straight N allowed v v walk
straight N allowed v walk goes within =
    elim (last_visit N allowed v v walk goes within) [
      | inl avoids ↦ record { way = walk; goes = goes; arrives = refl; cheaper = omega arith; within = within; avoids = avoids }
      | inr way ↦ way
    ]
