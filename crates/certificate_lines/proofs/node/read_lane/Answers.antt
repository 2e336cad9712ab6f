use Rattle.std.proofs.Common.{◌≡◌, ◌∙◌, ◌&&◌, Bool, true, false, ℕ, [], ◌∷◌, refl, sym, ap, subst}
use Rattle.std.specs.Prelude.{ℤ, Option, None, Some, unsigned_abs, if◌then◌else◌}
use Rattle.std.proofs.lemmas.Bool.{and_from}
use Rattle.location_terms.specs.declared.claim.Claim.{Claim}
use Rattle.location_terms.specs.declared.split.Split.TheVariants.{Lane}
use Rattle.location_terms.specs.Instance.{Instance, site_ids, customer_ids}
use Rattle.location_terms.specs.Box.{Path}
use Rattle.number_words.specs.Number.{number_of}
use Rattle.certificate_lines.specs.declared.kind.CertKind.TheVariants.{UnknownId}
use Rattle.certificate_lines.specs.Lines.{unless, is_id, is_among, split_said, lane_said}
use Rattle.certificate_lines.specs.Model.{Answers}
use Rattle.certificate_lines.proofs.Shapes.{unless-holds}
use Rattle.certificate_lines.proofs.node.read_lane.Goals as goal

-- what two ids say, of which it is known whether they are the instance's
ids_said : (I : Instance) (claim : Claim) (path : Path) (s c : ℤ) (known : Bool) → is_id s ≡ true → is_id c ≡ true → known ≡ (is_among (site_ids I) s && is_among (customer_ids I) c)
    → lane_said I claim path (s ∷ c ∷ []) ≡ unless known UnknownId (split_said claim path (Lane (unsigned_abs s) (unsigned_abs c)))
ids_said I claim path s c known site customer is =
    unless-holds _ _ _ (and_from _ _ site customer) ∙ ap (λ k. unless k UnknownId (split_said claim path (Lane (unsigned_abs s) (unsigned_abs c)))) (sym is)

-- the id that a number is
id_from : (known : Bool) (n m : ℕ) → Some n ≡ (if known then Some m else None) → (known ≡ true) × (n ≡ m)
id_from true n m e = (refl, cc)
id_from false n m e = absurd (cc)

pub returns-then-not-are_known : goal.returns-then-not-are_known
returns-then-not-are_known c =
    let I = c.args.inst.now in
    let s = number_of c.in_ok-site.site.now in
    let k = number_of c.in_ok-site.cust.now in
    let site = id_from (is_id s) _ _ c.in-Some-Some.ensures in
    let cust = id_from (is_id k) _ _ c.in-Some-Some.ensures' in
    let unknown : false ≡ (is_among (site_ids I) s && is_among (customer_ids I) k) = sym c.if-not-are_known.true ∙ c.are_known.ensures in
    c.in_ok-site.ensures.said (lane_said I c.args.claim c.args.path) ∙ ids_said I c.args.claim c.args.path s k false site.0 cust.0 unknown

pub returns : goal.returns
returns c =
    let I = c.args.inst.now in
    let s = number_of c.in_ok-site.site.now in
    let k = number_of c.in_ok-site.cust.now in
    let site = id_from (is_id s) _ _ c.in-Some-Some.ensures in
    let cust = id_from (is_id k) _ _ c.in-Some-Some.ensures' in
    let known : true ≡ (is_among (site_ids I) s && is_among (customer_ids I) k) = sym c.if-not-are_known.false ∙ c.are_known.ensures in
    subst (Answers c.split_shown.result)
    (ap (λ x. split_said c.args.claim c.args.path (Lane x c.new-2.result)) (c.new.ensures ∙ site.1)
    ∙ ap (λ y. split_said c.args.claim c.args.path (Lane (unsigned_abs s) y)) (c.new-2.ensures ∙ cust.1)
    ∙ sym (c.in_ok-site.ensures.said (lane_said I c.args.claim c.args.path) ∙ ids_said I c.args.claim c.args.path s k true site.0 cust.0 known))
    c.split_shown.ensures
