-- The leaves of a tree against the low end that it shows.
use Rattle.std.proofs.Common.{◌≡◌, ℕ, ◌+◌, ◌*◌, ◌-◌, ◌/◌, ◌<◌, ◌≤◌, zero, suc, inl, inr, arith, sym, subst, List, [], ◌∷◌, length, get_or, min, None, Some, ℤ, pos, negsuc, ◌-ℤ◌, ◌*ℤ◌, ◌≤ℤ◌, ◌<ℤ◌}
use Rattle.std.specs.Prelude.{All, nat_lt}
use Rattle.std.proofs.lemmas.Int.{ints}
use Rattle.std.proofs.lemmas.Bool.{cases_eq, lt-ltb, cond_both, cond-true}
use Rattle.std.proofs.lemmas.Nat.{mul-le}
use Rattle.std.proofs.Math.Nat.{min-le_left, min-le_right}
use Rattle.location_terms.specs.declared.limits.TheConstants.{MAX_COST}
use Rattle.location_terms.specs.Instance.{Instance}
use Rattle.location_terms.specs.Box.{Path}
use Rattle.location_terms.specs.Bound.{Duals}
use Rattle.location_terms.specs.Fit.{BoundCloses}
use Rattle.location_terms.specs.Leaf.{leaf_bound, LeafFits, LeafCloses}
use Rattle.location_terms.specs.Tree.{Tree, leaves_of, AllClose, low_end, low_of}
use Rattle.branch_tree.specs.Walk.{lowered, lowered_all}
use Rattle.branch_tree.proofs.Judged.{lowered_is}

-- a number within the ceiling of b / q, less one, is within b / q
below_ceiling : (b q t : ℕ) → 1 ≤ q → suc t ≤ (b + (q - 1)) / q → q * t < b
below_ceiling b q t scaled within =
    let product : q * suc t ≤ q * ((b + (q - 1)) / q) = mul-le q (suc t) q ((b + (q - 1)) / q) (omega arith) within in
    omega (arith, product)

-- a bound closes against each target up to its own low end
pub low_end_closes : (bound : ℤ) (q low : ℕ) → 1 ≤ q → (pos 0 -ℤ pos q) <ℤ bound → low ≤ low_end bound q → (pos q *ℤ (pos low -ℤ pos 1)) <ℤ bound
low_end_closes bound q zero scaled above within = omega (arith, ints)
low_end_closes (pos b) q (suc t) scaled above within =
    let one_less : (pos (suc t) -ℤ pos 1) ≡ pos t = omega (arith, ints) in
    rw one_less (omega (arith, ints, below_ceiling b q t scaled (omega (arith, min-le_left ((b + (q - 1)) / q) MAX_COST))))
low_end_closes (negsuc b) q (suc t) scaled above within = absurd (omega arith)

-- what closes at scale 0 is a ray
pub ray_above : (bound : ℤ) → BoundCloses bound 0 None → pos 1 ≤ℤ bound
ray_above bound (inl ray) = ray.1
ray_above bound (inr scaled) = absurd (omega arith)

module _ (I : Instance) where
  lowered_below : (a : ℕ) (l : Path × Duals) → lowered I a l ≤ a
  lowered_below a l = cond_both (nat_lt 0 l.1.q) (min a (low_end (leaf_bound I l.0 l.1) l.1.q)) a (λ n. n ≤ a) (λ _. min-le_left a (low_end (leaf_bound I l.0 l.1) l.1.q)) (λ _. omega arith)

  lowered_within : (a : ℕ) (l : Path × Duals) → 1 ≤ l.1.q → lowered I a l ≤ low_end (leaf_bound I l.0 l.1) l.1.q
  lowered_within a l scaled =
      let end : ℕ = low_end (leaf_bound I l.0 l.1) l.1.q in
      subst (λ n. n ≤ end) (sym (cond-true (nat_lt 0 l.1.q) (min a end) a (lt-ltb 0 l.1.q scaled))) (min-le_right a end)

  all_below : (a : ℕ) (ls : List (Path × Duals)) → lowered_all I a ls ≤ a
  all_below a [] = omega arith
  all_below a (l ∷ ls) = omega (arith, all_below (lowered I a l) ls, lowered_below a l)

  -- the low end of all is at most that of each leaf with a scale
  all_within : (a : ℕ) (ls : List (Path × Duals)) (k : ℕ) (d : Path × Duals) → k < length ls → 1 ≤ (get_or ls k d).1.q → lowered_all I a ls ≤ low_end (leaf_bound I (get_or ls k d).0 (get_or ls k d).1) (get_or ls k d).1.q
  all_within a [] k d inside scaled = absurd (omega arith)
  all_within a (l ∷ ls) zero d inside scaled = omega (arith, all_below (lowered I a l) ls, lowered_within a l scaled)
  all_within a (l ∷ ls) (suc k) d inside scaled = all_within (lowered I a l) ls k d (omega arith) scaled

  leaf_closes : (path : Path) (d : Duals) (low : ℕ) → LeafFits I d → (d.q ≡ 0 → BoundCloses (leaf_bound I path d) 0 None) → (1 ≤ d.q → (pos 0 -ℤ pos d.q) <ℤ leaf_bound I path d) → (1 ≤ d.q → low ≤ low_end (leaf_bound I path d) d.q) → LeafCloses I path d (Some low)
  leaf_closes path d low fit ray above within =
      record {
        fit = fit;
        closed = elim (cases_eq d.q 0) [
          | inl unscaled ↦ inl (unscaled, ray_above (leaf_bound I path d) (ray unscaled))
          | inr scaled ↦ inr (omega arith, low_end_closes (leaf_bound I path d) d.q low (omega arith) (above (omega arith)) (within (omega arith)))
        ];
      }

  pub closes_against_low : (t : Tree) → All (λ l. LeafFits I l.1) (leaves_of t) → All (λ l. l.1.q ≡ 0 → BoundCloses (leaf_bound I l.0 l.1) 0 None) (leaves_of t) → All (λ l. 1 ≤ l.1.q → (pos 0 -ℤ pos l.1.q) <ℤ leaf_bound I l.0 l.1) (leaves_of t) → AllClose I t (Some (low_of I t))
  closes_against_low t fit rays above k d inside =
      leaf_closes (get_or (leaves_of t) k d).0 (get_or (leaves_of t) k d).1 (low_of I t) (fit k d inside) (rays k d inside) (above k d inside)
      (λ scaled. subst (λ n. n ≤ low_end (leaf_bound I (get_or (leaves_of t) k d).0 (get_or (leaves_of t) k d).1) (get_or (leaves_of t) k d).1.q) (sym (lowered_is I MAX_COST (leaves_of t))) (all_within MAX_COST (leaves_of t) k d inside scaled))
