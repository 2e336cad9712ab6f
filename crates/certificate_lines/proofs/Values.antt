-- Duals by the values that a walk over a line gives, which are held at a limit far above that of duals.
use Rattle.std.proofs.Common.{rules, ◌≡◌, ℕ, refl, ap, sym, ◌∙◌, arith, ◌≤◌, true, false, ◌&&◌, List, [], ◌∷◌, map}
use Rattle.std.specs.Prelude.{Ok, Err, ℤ, unsigned_abs}
use Rattle.std.specs.List.{list_all}
use Rattle.std.proofs.lemmas.Bool.{and_parts, leb-true}
use Rattle.std.proofs.lemmas.Int.{ints, clamps}
use Rattle.location_terms.specs.declared.claim.Claim.{Claim}
use Rattle.location_terms.specs.declared.limits.TheConstants.{MAX_VALUE}
use Rattle.location_terms.specs.Box.{Path}
use Rattle.number_words.specs.Number.{clamped}
use Rattle.certificate_lines.specs.declared.kind.CertKind.TheVariants.{OutOfRange}
use Rattle.certificate_lines.specs.Due.{PricesDue, NothingShown}
use Rattle.certificate_lines.specs.Lines.{is_of_size, values_said}
use Rattle.certificate_lines.proofs.Shapes.{unless-holds, unless-fails}

small_clamped : (z : ℤ) → is_of_size MAX_VALUE (clamped z) ≡ is_of_size MAX_VALUE z
small_clamped z = search rules

clamped_small : (z : ℤ) → is_of_size MAX_VALUE z ≡ true → clamped z ≡ z
clamped_small z small =
    let low : unsigned_abs z ≤ MAX_VALUE = leb-true (unsigned_abs z) MAX_VALUE small in
    omega (arith, ints, clamps, low)

all_small : (zs : List ℤ) → list_all (is_of_size MAX_VALUE) (map clamped zs) ≡ list_all (is_of_size MAX_VALUE) zs
all_small [] = refl
all_small (z ∷ zs) = ap (λ b. b && list_all (is_of_size MAX_VALUE) (map clamped zs)) (small_clamped z) ∙ ap (λ b. is_of_size MAX_VALUE z && b) (all_small zs)

all_exact : (zs : List ℤ) → list_all (is_of_size MAX_VALUE) zs ≡ true → map clamped zs ≡ zs
all_exact [] small = refl
all_exact (z ∷ zs) small =
    let both = and_parts (is_of_size MAX_VALUE z) (list_all (is_of_size MAX_VALUE) zs) small in
    ap (λ y. y ∷ map clamped zs) (clamped_small z both.0) ∙ ap (λ ys. z ∷ ys) (all_exact zs both.1)

-- what they say
pub values_large : (claim : Claim) (path : Path) (q : ℕ) (nu : ℤ) (zs vs : List ℤ) → vs ≡ map clamped zs → list_all (is_of_size MAX_VALUE) vs ≡ false → values_said claim path q nu zs ≡ Err OutOfRange
values_large claim path q nu zs vs are large = unless-fails _ _ _ (sym (all_small zs) ∙ ap (list_all (is_of_size MAX_VALUE)) (sym are) ∙ large)

pub values_small : (claim : Claim) (path : Path) (q : ℕ) (nu : ℤ) (zs vs : List ℤ) → vs ≡ map clamped zs → list_all (is_of_size MAX_VALUE) vs ≡ true → values_said claim path q nu zs ≡ Ok (PricesDue claim path q nu vs, NothingShown)
values_small claim path q nu zs vs are small =
    let within : list_all (is_of_size MAX_VALUE) zs ≡ true = sym (all_small zs) ∙ ap (list_all (is_of_size MAX_VALUE)) (sym are) ∙ small in
    unless-holds _ _ _ within ∙ ap (λ xs. Ok (PricesDue claim path q nu xs, NothingShown)) (sym (are ∙ all_exact zs within))
