-- When one step of the dual adjustment gains: the dual of a customer that pays more than one tight site is lowered, the
-- others rise, then all rise. After Erlenkotter, Operations Research 26 (1978).
use Rattle.std.specs.Prelude.{ℕ, ◌<◌, List, [], ◌∷◌, length, filter, Option, None, Some, unwrap_or, ℤ, ◌<ℤ◌, int_lt, IsTrue}
use Rattle.std.specs.List.{fold}
use Rattle.std.specs.Int.{int_max}
use Rattle.location_terms.specs.Instance.{Instance}
use Rattle.location_terms.specs.Box.{Path}
use Rattle.location_terms.specs.Bound.{Duals, v_at, bound_of}
use Rattle.dual_ascent.specs.Levels.{levels_of}
use Rattle.dual_ascent.specs.Ascent.{with_v, IsAscended, IsAscendedApart}
use Rattle.dual_adjust.specs.Slackness.{tight_sites, is_violating}

-- the greatest of some numbers, where there is one
abbrev pub greatest : List ℤ → Option ℤ
greatest [] = None
greatest (x ∷ xs) = Some (fold int_max x xs)

-- the duals with the customer's at its greatest level below it, where there is one
abbrev pub lowered : Instance → Path → Duals → ℕ → Duals
lowered I path d j = with_v d j (unwrap_or (greatest (filter (λ l. int_lt l (v_at d j)) (levels_of I path d j))) (v_at d j))

-- what comes of lowering the customer's dual: the ascent apart from that customer, and then over all
abbrev pub IsCandidate : Instance → Path → Duals → ℕ → Duals → Type 0
IsCandidate I path d j result = (risen : Duals) × IsAscendedApart I path j (lowered I path d j) risen × IsAscended I path risen result

-- lowering some customer that violates complementary slackness with the tight sites leads to a greater bound
pub record Gains (I : Instance) (path : Path) (d : Duals) : Type 0 where
  -- by its place
  pub customer : ℕ
  pub within : customer < length I.customers
  pub violating : IsTrue (is_violating I path d (tight_sites I path d) customer)
  pub candidate : Duals
  pub is_candidate : IsCandidate I path d customer candidate
  pub greater : bound_of I path d <ℤ bound_of I path candidate
