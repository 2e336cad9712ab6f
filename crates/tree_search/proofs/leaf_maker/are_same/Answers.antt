use Rattle.std.proofs.Common.{◌≡◌, ◌∙◌, refl, sym, ap, Bool, true, false, not, ℕ, ℤ, List, arith}
use Rattle.std.proofs.lemmas.Int.{ints}
use Rattle.std.proofs.lemmas.Bool.Decides.{Decides-int_eq, Decides-eqb}
use Rattle.std.proofs.lemmas.Slice.Eq.{slice_eq-Decides}
use denote.Enum.Bare.{sameb}
use Rattle.location_terms.specs.contracts.form.LeafForm.{the_type}
use Rattle.location_terms.specs.declared.form.LeafForm.{LeafForm}
use Rattle.location_terms.specs.declared.form.LeafForm.TheVariants.{Prices, Whole}
use Rattle.location_terms.specs.Bound.{Duals}
use Rattle.tree_search.proofs.leaf_maker.are_same.Goals as goal

by_not : (b : Bool) → not b ≡ false → b ≡ true
by_not true same = refl
by_not false same = sym same

abbrev duals_of : LeafForm × ℕ × ℤ × List ℤ × List ℕ → Duals
duals_of p = record { form = p.0; q = p.1; nu = p.2; v = p.3; u = p.4 }

same_parts : (f g : LeafForm) (q r : ℕ) (nu mu : ℤ) (v w : List ℤ) (u t : List ℕ) → f ≡ g → q ≡ r → nu ≡ mu → v ≡ w → u ≡ t → duals_of (f, q, nu, v, u) ≡ duals_of (g, r, mu, w, t)
same_parts f g q r nu mu v w u t is_f is_q is_nu is_v is_u =
    ap (λ x. duals_of (x, q, nu, v, u)) is_f ∙ ap (λ x. duals_of (g, x, nu, v, u)) is_q ∙ ap (λ x. duals_of (g, r, x, v, u)) is_nu ∙ ap (λ x. duals_of (g, r, mu, x, u)) is_v ∙ ap (λ x. duals_of (g, r, mu, w, x)) is_u

same_form : (f g : LeafForm) → false ≡ not (sameb the_type f g) → f ≡ g
same_form Prices Prices test = refl
same_form Prices Whole test = cc
same_form Whole Prices test = cc
same_form Whole Whole test = refl

pub returns : goal.returns
returns c = λ same.
    let d = c.args.duals.now in
    let e = c.args.other.now in
    let q_test = c.if-q.false in
    let nu_test = c.if-nu.false in
    let form : c.form.result ≡ c.form-2.result = same_form c.form.result c.form-2.result c.if-ne.ensures in
    let q : c.q.result ≡ c.q-2.result = omega (arith, q_test) in
    let nu : c.nu.result ≡ c.nu-2.result = omega (arith, ints, nu_test) in
    let v : c.values.result.now ≡ c.values-2.result.now = (slice_eq-Decides Decides-int_eq _ _ _ refl).0 (by_not _ (sym c.ne-2.ensures ∙ c.if-ne-2.false)) in
    let u : c.prices.result.now ≡ c.prices-2.result.now = (slice_eq-Decides Decides-eqb _ _ _ c.eq.ensures).0 same in
    same_parts d.form e.form d.q e.q d.nu e.nu d.v e.v d.u e.u (sym c.form.ensures ∙ form ∙ c.form-2.ensures) (sym c.q.ensures ∙ q ∙ c.q-2.ensures) (sym c.nu.ensures ∙ nu ∙ c.nu-2.ensures) (sym c.values.ensures ∙ v ∙ c.values-2.ensures) (sym c.prices.ensures ∙ u ∙ c.prices-2.ensures)
