-- The numbers that the code makes of a row's when one site's slack or the price on the number of sites changes.
use Rattle.std.proofs.Common.{◌≡◌, ℕ, ◌<◌, ◌≤◌, ◌+◌, ◌*◌, ◌^◌, refl, sym, ap, subst, ◌∙◌, arith, List, length, get_or, pos, ℤ, ◌+ℤ◌, ◌-ℤ◌}
use mir.Syntax.{w128}
use mir.Val.{to_z, of_z}
use Rattle.std.specs.Prelude.{All, slice_set}
use Rattle.std.specs.Int.RustNames.{unsigned_abs}
use Rattle.std.proofs.lemmas.List.{get_or_default}
use Rattle.std.proofs.lemmas.List.FromFn.{length-map-range_with_len}
use Rattle.location_terms.specs.declared.limits.TheConstants.{MAX_SITES, MAX_VALUE}
use Rattle.location_terms.specs.Instance.{Instance, IsValid, site_at}
use Rattle.location_terms.specs.Box.{Path}
use Rattle.location_terms.specs.Bound.{Duals, count_price, slack_of}
use Rattle.location_terms.specs.Fit.{DualsFit}
use Rattle.dual_value.specs.Paid.{share_with}
use Rattle.dual_value.specs.declared.bounds.TheConstants.{MAX_SLACK, MAX_BOUND}
use Rattle.dual_value.proofs.Sizes.{kept}
use Rattle.leaf_book.specs.Sums.{LeafSums, sums_of}
use Rattle.leaf_book.specs.Changes.{DifferInCount}
use Rattle.leaf_book.specs.Counts.{price_of}
use Rattle.leaf_book.specs.Due.{AreTouched}
use Rattle.leaf_book.proofs.Sized.{bound_small, moved_kept}
use Rattle.leaf_book.proofs.Touched.{many, row_touched, row_counted}

abbrev pub bits : ℤ → ℤ
bits x = to_z w128 (of_z w128 x)

abbrev pub shown : ℕ → List ℤ → ℤ → LeafSums
shown q slacks bound = record { q = q; slacks = slacks; bound = bound }

-- a place of the instance is one of the row
pub place_within : (I : Instance) (d : Duals) (J : Instance) (e : Duals) (s : ℕ) (touched : AreTouched I d J e s) (path : Path) (sums : LeafSums) (k n : ℕ) → sums ≡ sums_of J (path, e) → length sums.slacks ≡ n → k < length I.sites → k < n
place_within I d J e s touched path sums k n is len b =
    omega (arith, b, len, many I d J e s touched path, ap (λ (x : LeafSums). length x.slacks) is, length-map-range_with_len (slack_of J path e) 0 (length J.sites))

-- an element that is read is within what each is
pub read_small : (slacks : List ℤ) (k : ℕ) (old : ℤ) → All (λ x. unsigned_abs x ≤ MAX_SLACK) slacks → k < length slacks → old ≡ get_or slacks k old → unsigned_abs old ≤ MAX_SLACK
read_small slacks k old small b is = subst (λ x. unsigned_abs x ≤ MAX_SLACK) (sym is) (small k old b)

-- and, as the code takes it, the element there
pub old_read : (slacks : List ℤ) (k : ℕ) (old : ℤ) → All (λ x. unsigned_abs x ≤ MAX_SLACK) slacks → k < length slacks → old ≡ get_or slacks k old → bits old ≡ get_or slacks k (pos 0)
old_read slacks k old small b is = kept old MAX_SLACK (read_small slacks k old small b is) (omega arith) ∙ is ∙ get_or_default slacks k old (pos 0) b

pub bits_small : (x : ℤ) → unsigned_abs x ≤ MAX_SLACK → unsigned_abs (bits x) ≤ MAX_SLACK
bits_small x small = subst (λ y. unsigned_abs y ≤ MAX_SLACK) (sym (kept x MAX_SLACK small (omega arith))) small

module _ (I : Instance) (d : Duals) (J : Instance) (e : Duals) (s : ℕ) (touched : AreTouched I d J e s) (path : Path) (valid : IsValid I) (fit : DualsFit I d) (k : ℕ) (inside : k < length I.sites) (here : (site_at I k).id ≡ s) where
  module _ (q : ℕ) (slacks : List ℤ) (bound : ℤ) (is : shown q slacks bound ≡ sums_of J (path, e)) (small : All (λ x. unsigned_abs x ≤ MAX_SLACK) slacks) (few : unsigned_abs bound ≤ MAX_BOUND) where
    module _ (old new own former : ℤ) (read : old ≡ get_or slacks k old) (new_is : new ≡ slack_of I path d k) (new_small : unsigned_abs new ≤ MAX_SLACK)
        (own_is : own ≡ share_with path (site_at I k) (bits new)) (own_small : unsigned_abs own ≤ MAX_SLACK) (former_is : former ≡ share_with path (site_at I k) (bits old)) (former_small : unsigned_abs former ≤ MAX_SLACK) where
      within : k < length slacks
      within = place_within I d J e s touched path (shown q slacks bound) k (length slacks) is refl inside

      pub row_moved : shown q (slice_set slacks k (bits new)) (bits (bits bound +ℤ bits (bits own -ℤ bits former))) ≡ sums_of I (path, d)
      row_moved =
          let same_new : bits new ≡ new = kept new MAX_SLACK new_small (omega arith) in
          let same_old : bits old ≡ old = kept old MAX_SLACK (read_small slacks k old small within read) (omega arith) in
          let sum : bits (bits bound +ℤ bits (bits own -ℤ bits former)) ≡ bound +ℤ (own -ℤ former) = moved_kept bound own former MAX_BOUND MAX_SLACK MAX_SLACK few own_small former_small (omega arith) in
          let read_is : old ≡ get_or slacks k (pos 0) = read ∙ get_or_default slacks k old (pos 0) within in
          (λ x. shown q (slice_set slacks k (same_new x)) (sum x))
          ∙ row_touched I d J e s touched path valid k inside here q slacks bound is new own former new_is (own_is ∙ ap (share_with path (site_at I k)) same_new) (former_is ∙ ap (share_with path (site_at I k)) (same_old ∙ read_is))

      pub moved_small : unsigned_abs (bits (bits bound +ℤ bits (bits own -ℤ bits former))) ≤ MAX_BOUND
      moved_small = subst (λ x. unsigned_abs x ≤ MAX_BOUND) (sym (ap (λ (r : LeafSums). r.bound) row_moved)) (bound_small I path d valid fit)

module _ (I J : Instance) (differ : DifferInCount I J) (path : Path) (d : Duals) (valid : IsValid I) (fit : DualsFit I d) (lo hi : ℕ) (low : J.lo ≡ lo) (high : J.hi ≡ hi) where
  module _ (q : ℕ) (slacks : List ℤ) (bound : ℤ) (is : shown q slacks bound ≡ sums_of J (path, d)) (few : unsigned_abs bound ≤ MAX_BOUND) where
    module _ (nu former own : ℤ) (nu_is : nu ≡ d.nu) (former_is : former ≡ price_of lo hi (bits nu)) (former_small : unsigned_abs former ≤ MAX_SITES * MAX_VALUE) (own_is : own ≡ count_price I (bits nu)) (own_small : unsigned_abs own ≤ MAX_SITES * MAX_VALUE) where
      pub row_recounted : shown q slacks (bits (bits bound +ℤ bits (bits former -ℤ bits own))) ≡ sums_of I (path, d)
      row_recounted =
          let price : bits nu ≡ d.nu = ap bits nu_is ∙ kept d.nu MAX_VALUE fit.in_limits.count_price (omega arith) in
          let sum : bits (bits bound +ℤ bits (bits former -ℤ bits own)) ≡ bound +ℤ (former -ℤ own) = moved_kept bound former own MAX_BOUND (MAX_SITES * MAX_VALUE) (MAX_SITES * MAX_VALUE) few former_small own_small (omega arith) in
          ap (shown q slacks) sum ∙ row_counted I J differ path d lo hi low high q slacks bound is former own (former_is ∙ ap (price_of lo hi) price) (own_is ∙ ap (count_price I) price)

      pub recounted_small : unsigned_abs (bits (bits bound +ℤ bits (bits former -ℤ bits own))) ≤ MAX_BOUND
      recounted_small = subst (λ x. unsigned_abs x ≤ MAX_BOUND) (sym (ap (λ (r : LeafSums). r.bound) row_recounted)) (bound_small I path d valid fit)

-- the slack that the code makes of the one before
pub slack_moved : (old x y : ℤ) (m n : ℕ) → unsigned_abs old ≤ MAX_SLACK → unsigned_abs x ≤ m → unsigned_abs y ≤ n → MAX_SLACK + (m + n) < 2 ^ 127 → bits (bits old +ℤ bits (bits x -ℤ bits y)) ≡ old +ℤ (x -ℤ y)
slack_moved old x y m n = moved_kept old x y MAX_SLACK m n
