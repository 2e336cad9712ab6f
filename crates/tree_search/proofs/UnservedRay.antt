-- The ray of a customer without an allowed lane: its bound is 1 at scale 0.
use Rattle.std.proofs.Common.{◌≡◌, ◌≢◌, ℕ, ◌*◌, ◌<◌, ◌≤◌, refl, inl, inr, sym, ap, subst, ◌∙◌, arith, Bool, true, false, length, Option, ℤ, pos, ◌≤ℤ◌}
use Rattle.std.specs.Prelude.{unsigned_abs, if◌then◌else◌}
use Rattle.std.specs.Int.{int_min}
use Rattle.std.proofs.lemmas.Int.{ints, clamps}
use Rattle.std.proofs.lemmas.Bool.{cases_eq}
use Rattle.std.proofs.lemmas.List.{length-set, get_or-set_same, get_or-set_other, length-replicate}
use Rattle.std.proofs.lemmas.List.Elements.{All-set}
use Rattle.location_terms.specs.Instance.{Instance, site_at, customer_at}
use Rattle.location_terms.specs.Box.{Path, is_allowed, is_opened, is_free}
use Rattle.location_terms.specs.Bound.{Duals, v_at, u_at, level_at, paid_at, slack_of, share_of, bound_of}
use Rattle.location_terms.specs.Fit.{DualsFit}
use Rattle.location_terms.specs.declared.limits.TheConstants.{MAX_VALUE}
use Rattle.location_terms.proofs.Totals.{total_zero, total_one}
use Rattle.dual_value.specs.Zeros.{zeros}
use Rattle.dual_value.proofs.Zeros.{zero_v, zero_u, zeros_fit}
use Rattle.dual_ascent.specs.Levels.{servers}
use Rattle.dual_ascent.specs.Ascent.{with_v}
use Rattle.dual_ascent.proofs.Plain.{nothing_paid, no_cap_price}
use Rattle.dual_adjust.proofs.Violating.{is_server}
use Rattle.tree_search.specs.Made.{IsMadeLeaf}

pub no_share : (opened free : Bool) (slack : ℤ) → slack ≡ pos 0 → (if opened then slack else (if free then int_min (pos 0) slack else pos 0)) ≡ pos 0
no_share true free slack e = e
no_share false true slack e = omega (arith, ints, clamps)
no_share false false slack e = refl

module _ (I : Instance) (path : Path) (j : ℕ) (within : j < length I.customers) where
  abbrev pub ray : Duals
  ray = with_v (zeros I 0) j (pos 1)

  inside : j < length (zeros I 0).v
  inside = omega (arith, within, length-replicate (length I.customers) (pos 0))

  ray_here : v_at ray j ≡ pos 1
  ray_here = get_or-set_same (zeros I 0).v j (pos 1) (pos 0) inside

  ray_elsewhere : (k : ℕ) → k < length I.customers → k ≢ j → v_at ray k ≡ pos 0
  ray_elsewhere k b other = get_or-set_other (zeros I 0).v j k (pos 1) (pos 0) other ∙ zero_v I 0 k b

  pub ray_fits : DualsFit I ray
  ray_fits =
      let zero = zeros_fit I 0 (omega arith) in
      record {
        in_limits = record {
          scale = zero.in_limits.scale;
          count_price = zero.in_limits.count_price;
          values = All-set (λ v. unsigned_abs v ≤ MAX_VALUE) (zeros I 0).v j (pos 1) (omega arith) zero.in_limits.values;
          multipliers = zero.in_limits.multipliers;
        };
        of_instance = record { customers = length-set (zeros I 0).v j (pos 1) ∙ zero.of_instance.customers; sites = zero.of_instance.sites; unpriced = zero.of_instance.unpriced };
      }

  ray_level : (i k : ℕ) → pos 0 ≤ℤ level_at I ray i k
  ray_level i k = omega (arith, ints)

  module _ (unserved : length (servers I path j) ≡ 0) where
    ray_unpaid : (i k : ℕ) → i < length I.sites → k < length I.customers → paid_at I path ray i k ≡ pos 0
    ray_unpaid i k b c =
        nothing_paid (is_allowed I path (site_at I i) (customer_at I k)) (v_at ray k) (level_at I ray i k) (λ allowed.
        elim (cases_eq k j) [
          | inl same ↦
              let server = is_server I path i j b (ap (λ n. is_allowed I path (site_at I i) (customer_at I n)) (sym same) ∙ allowed) in
              let place = server.1 in
              absurd (omega (arith, place, unserved))
          | inr other ↦ omega (arith, ints, ray_elsewhere k c other, ray_level i k)
        ])

    ray_slack : (i : ℕ) → i < length I.sites → slack_of I path ray i ≡ pos 0
    ray_slack i b =
        let unpaid = total_zero (paid_at I path ray i) (length I.customers) (λ k c. ray_unpaid i k b c) in
        let free : 0 * (site_at I i).fixed ≡ 0 = omega arith in
        omega (arith, ints, unpaid, free, no_cap_price (u_at ray i) (site_at I i).cap (zero_u I 0 i b))

    pub ray_bound : bound_of I path ray ≡ pos 1
    ray_bound =
        let values = total_one (v_at ray) (length I.customers) j within (λ k c other. ray_elsewhere k c other) ∙ ray_here in
        let shares = total_zero (share_of I path ray) (length I.sites) (λ i b. no_share (is_opened path (site_at I i)) (is_free path (site_at I i)) (slack_of I path ray i) (ray_slack i b)) in
        let free : 0 * I.hi ≡ 0 = omega arith in
        omega (arith, ints, values, shares, free)

    pub ray_is_made : (cost : Option ℕ) (old_path : Path) (old d : Duals) → d ≡ ray → IsMadeLeaf I cost old_path old path d
    ray_is_made cost old_path old d is =
        subst (IsMadeLeaf I cost old_path old path) (sym is) (record { fit = ray_fits; ray = λ _. omega (arith, ints, ray_bound); scaled = λ some. absurd (omega (arith, some)) })
