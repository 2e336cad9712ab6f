-- Duals and prices of 0 are within the limits of every instance.
use Rattle.std.proofs.Common.{◌≡◌, ℕ, ◌<◌, ◌≤◌, length, arith}
use Rattle.std.specs.Prelude.{pos, unsigned_abs}
use Rattle.std.proofs.lemmas.List.{length-replicate, get_or-replicate}
use Rattle.std.proofs.lemmas.List.Elements.{All-replicate}
use Rattle.location_terms.specs.Instance.{Instance}
use Rattle.location_terms.specs.Bound.{v_at, u_at}
use Rattle.location_terms.specs.Fit.{DualsFit}
use Rattle.location_terms.specs.declared.limits.TheConstants.{MAX_SCALE, MAX_VALUE, MAX_MULTIPLIER}
use Rattle.dual_value.specs.Zeros.{zeros}

module _ (I : Instance) (q : ℕ) where
  pub zero_v : (k : ℕ) → k < length I.customers → v_at (zeros I q) k ≡ pos 0
  zero_v k b = get_or-replicate (length I.customers) k (pos 0) (pos 0) b

  pub zero_u : (i : ℕ) → i < length I.sites → u_at (zeros I q) i ≡ 0
  zero_u i b = get_or-replicate (length I.sites) i 0 0 b

  pub zeros_fit : q ≤ MAX_SCALE → DualsFit I (zeros I q)
  zeros_fit small = record {
    in_limits = record {
      scale = small;
      count_price = omega arith;
      values = All-replicate (λ v. unsigned_abs v ≤ MAX_VALUE) (length I.customers) (pos 0) (omega arith);
      multipliers = All-replicate (λ u. u ≤ MAX_MULTIPLIER) (length I.sites) 0 (omega arith);
    };
    of_instance = record {
      customers = length-replicate (length I.customers) (pos 0);
      sites = length-replicate (length I.sites) 0;
      unpriced = λ i b _. zero_u i b;
    };
  }
