-- What an ascent keeps of the duals from which it starts.
use Rattle.std.specs.Prelude.{◌≡◌, ℕ, ◌<◌, length, pos, ◌≤ℤ◌}
use Rattle.location_terms.specs.Instance.{Instance}
use Rattle.location_terms.specs.Box.{Path}
use Rattle.location_terms.specs.Bound.{Duals, v_at, slack_of, bound_of}
use Rattle.location_terms.specs.Fit.{AreTame}
use Rattle.dual_ascent.specs.Levels.{servers}

-- the form, the scale and the prices stay, the duals stay tame, no dual and no bound is lower, no slack falls below 0, and the dual of a customer without an allowed lane stays
pub record Keeps (I : Instance) (path : Path) (start result : Duals) : Type 0 where
  pub form : result.form ≡ start.form
  pub scale : result.q ≡ start.q
  pub count_price : result.nu ≡ start.nu
  pub prices : result.u ≡ start.u
  pub tame : AreTame I result
  pub no_lower : (k : ℕ) → v_at start k ≤ℤ v_at result k
  pub bound : bound_of I path start ≤ℤ bound_of I path result
  pub slacks : (i : ℕ) → i < length I.sites → pos 0 ≤ℤ slack_of I path start i → pos 0 ≤ℤ slack_of I path result i
  pub unserved : (k : ℕ) → length (servers I path k) ≡ 0 → v_at result k ≡ v_at start k
