-- What is found of a leaf while it is made.
use Rattle.std.proofs.Common.{◌≡◌, ℕ, ◌≤◌, refl, inl, sym, ap, subst, ◌∙◌, arith, length, true, false, List, ℤ, pos}
use Rattle.std.specs.Prelude.{unsigned_abs}
use mir.Syntax.{w128}
use mir.Val.{to_z, of_z}
use Rattle.std.proofs.lemmas.Int.{ints}
use Rattle.std.proofs.lemmas.List.{length-replicate}
use Rattle.location_terms.specs.Instance.{Instance}
use Rattle.location_terms.specs.Box.{Path}
use Rattle.location_terms.specs.declared.form.LeafForm.TheVariants.{Prices}
use Rattle.location_terms.specs.Bound.{Duals, bound_of}
use Rattle.location_terms.specs.Fit.{AreTame}
use Rattle.location_terms.specs.declared.limits.TheConstants.{MAX_SCALE}
use Rattle.dual_value.specs.Zeros.{zeros}
use Rattle.dual_value.specs.declared.bounds.TheConstants.{MAX_BOUND}
use Rattle.dual_value.proofs.Sizes.{kept}
use Rattle.dual_value.specs.Scales.{IsAtLeast, IsGreater}
use Rattle.dual_ascent.specs.Levels.{customer_places}
use Rattle.dual_ascent.proofs.Plain.{zeros_are_tame}
use Rattle.dual_ascent.proofs.Results.{all_known}
use Rattle.dual_ascent.proofs.Rounds.{ascended_is_risen, bound_is_risen}
use Rattle.dual_ascent.specs.Ascent.{IsAscended}
use Rattle.dual_ascent.specs.Kept.{Keeps}
use Rattle.dual_ascent.specs.Work.{IsWorkFor}
use Rattle.dual_adjust.specs.Slackness.{tight_sites}
use Rattle.dual_adjust.specs.Adjustment.{Gains}
use Rattle.dual_adjust.specs.Present.{Present, IsStart, HasAscended}
use Rattle.dual_adjust.specs.Adjusted.{IsAdjusted, IsRiseAbove}
use Rattle.tree_search.specs.Made.{plain_scale, IsPlainAscent, IsMadeScale, AreServed, IsMadeByPrices}
use Rattle.tree_search.specs.Making.{Making, IsMakerFor, LowersNone, IsMaking, StaysMaking}
use Rattle.tree_search.specs.Stored.{making_of, AreAsLong, AreAlike}
use Rattle.tree_search.specs.declared.leaf_maker.LeafMaker.TheInside.{Inside}
use Rattle.tree_search.proofs.ZeroBound.{plain_scale_fits}
use Rattle.tree_search.proofs.Comparing.{at_least_trans, same_at_least, same_greater, greater_is_at_least, not_greater}

-- what is found of the plain ascent stays
pub record HasPlain (m : Making) (start d : Duals) (kept : ℤ) (sites : List ℕ) : Type 0 where
  pub zeros : start ≡ m.zeros
  pub plain : d ≡ m.plain
  pub bound : kept ≡ m.plain_bound
  pub hint : sites ≡ m.hint

pub has_plain : (a : Inside) (m : Making) → making_of a ≡ m → HasPlain m a.zeros a.plain a.plain_bound a.hint.items
has_plain a m is = record { zeros = ap (λ (x : Making). x.zeros) is; plain = ap (λ (x : Making). x.plain) is; bound = ap (λ (x : Making). x.plain_bound) is; hint = ap (λ (x : Making). x.hint) is }

-- the scale of the best duals is within its limits
pub scale_fits_in : (a : Inside) (m : Making) (q : ℕ) (d : Duals) → AreAlike a → making_of a ≡ m → q ≡ d.q → d ≡ m.best.duals → (1 ≤ q) × (q ≤ MAX_SCALE)
scale_fits_in a m q d inv is scale best =
    let same : a.best.duals.q ≡ q = ap (λ (x : Making). x.best.duals.q) is ∙ ap (λ (x : Duals). x.q) (sym best) ∙ sym scale in
    subst (λ n. (1 ≤ n) × (n ≤ MAX_SCALE)) same (inv.scaled, inv.scale)

-- what is told of two bounds and their scales, where they are the same as others
pub told_of : (P : ℤ → ℕ → ℤ → ℕ → Type 0) (x x' : ℤ) (q q' : ℕ) (y y' : ℤ) (r r' : ℕ) → x ≡ x' → q ≡ q' → y ≡ y' → r ≡ r' → P x q y r → P x' q' y' r'
told_of P x x' q q' y y' r r' first scale second other h =
    subst (λ n. P x' q' y' n) other (subst (λ z. P x' q' z r) second (subst (λ n. P x' n y r) scale (subst (λ z. P z q y r) first h)))

pub long_again : (d e f : Duals) → AreAsLong d e → AreAsLong d f → AreAsLong e f
long_again d e f first second = record { customers = second.customers ∙ sym first.customers; sites = second.sites ∙ sym first.sites }

module _ (I : Instance) (path : Path) where
  -- the best duals are replaced by others that are no worse
  pub stays_from : (old new : Making) → HasPlain old new.zeros new.plain new.plain_bound new.hint → HasAscended I path new.best → new.best.duals.form ≡ Prices → IsMadeScale I new.best.duals.q → new.bound ≡ bound_of I path new.best.duals
      → IsAtLeast (bound_of I path new.best.duals) new.best.duals.q (bound_of I path old.best.duals) old.best.duals.q → StaysMaking I path old new
  stays_from old new has risen form scale bound more =
      record {
        making = λ old_path replaced m.
            let above : IsAtLeast (bound_of I path new.best.duals) new.best.duals.q (bound_of I path old.plain) old.plain.q =
            at_least_trans _ _ _ new.best.duals.q old.best.duals.q old.plain.q m.best_risen.tame.scaled more m.above in
            record {
              maker = has.zeros ∙ m.maker;
              plain_tame = subst (AreTame I) (sym has.plain) m.plain_tame;
              plain_risen = subst (λ (d : Duals). IsAscended I path d d) (sym has.plain) m.plain_risen;
              is_plain = subst (IsPlainAscent I path) (sym has.plain) m.is_plain;
              plain_bound = has.bound ∙ m.plain_bound ∙ ap (bound_of I path) (sym has.plain);
              hint = has.hint ∙ m.hint ∙ ap (tight_sites I path) (sym has.plain);
              best_risen = risen;
              form = form;
              bound = bound;
              scale = scale;
              above = subst (λ (d : Duals). IsAtLeast (bound_of I path new.best.duals) new.best.duals.q (bound_of I path d) d.q) (sym has.plain) above;
              replaced = λ priced tame made. at_least_trans _ _ _ new.best.duals.q old.best.duals.q replaced.q m.best_risen.tame.scaled more (m.replaced priced tame made);
            };
        risen = more;
      }

  -- the leaf is made where its best duals are better than the plain ascent wherever that gains
  pub made_from : (old_path : Path) (old : Duals) (m : Making) → AreServed I path → IsMaking I old_path old path m
      → (Gains I path m.plain → IsGreater (bound_of I path m.best.duals) m.best.duals.q (bound_of I path m.plain) m.plain.q) → IsMadeByPrices I old_path old path m.best.duals
  made_from old_path old m served making gains =
      let scaled = making.best_risen.tame.scaled in
      record {
        fit = making.best_risen.tame.fit;
        ray = λ none. absurd (omega (arith, none, scaled));
        scaled = λ _. record {
          served = served;
          scale = making.scale;
          tame = making.best_risen.tame;
          blocked = making.best_risen.blocked;
          ascent = m.plain;
          is_plain = making.is_plain;
          plain = making.above;
          gains = gains;
          replaced = making.replaced;
        };
      }

  -- the ascent of some duals is no worse than they
  pub ascent_at_least : (d e : Duals) → Keeps I path d e → IsAtLeast (bound_of I path e) e.q (bound_of I path d) d.q
  ascent_at_least d e keeps =
      subst (λ q. IsAtLeast (bound_of I path e) q (bound_of I path d) d.q) (sym keeps.scale) (same_at_least (bound_of I path e) (bound_of I path d) d.q keeps.bound)

  -- the scale of the plain ascent
  pub plain_scale_of : (d : Duals) → IsPlainAscent I path d → d.q ≡ plain_scale I
  plain_scale_of d asc = (ascended_is_risen I path (customer_places I) (all_known I path) (zeros I (plain_scale I)) d (length-replicate (length I.customers) (pos 0)) asc).scale

  -- it is by prices
  pub plain_form_of : (d : Duals) → IsPlainAscent I path d → d.form ≡ Prices
  plain_form_of d asc = (ascended_is_risen I path (customer_places I) (all_known I path) (zeros I (plain_scale I)) d (length-replicate (length I.customers) (pos 0)) asc).form

  -- duals of the instance are as long as its zeros
  pub tame_is_long : (a : Inside) (d : Duals) → a.zeros ≡ zeros I (plain_scale I) → AreTame I d → AreAsLong a.zeros d
  tame_is_long a d zero tame = record {
    customers = tame.fit.of_instance.customers ∙ sym (ap (λ (x : Duals). length x.v) zero ∙ length-replicate (length I.customers) (pos 0));
    sites = tame.fit.of_instance.sites ∙ sym (ap (λ (x : Duals). length x.u) zero ∙ length-replicate (length I.sites) 0);
  }

  -- what is stored where there are other best duals, that have ascended
  pub alike_best : (a : Inside) (e : Present) (x : ℤ) → AreAlike a → a.zeros ≡ zeros I (plain_scale I) → HasAscended I path e → unsigned_abs x ≤ MAX_BOUND → AreAlike (let b : Inside = record a { best = e; bound = x } in b)
  alike_best a e x inv zero risen bound = record {
    plain = inv.plain;
    best = tame_is_long a e.duals zero risen.tame;
    slacks = risen.work.slacks ∙ sym (ap (λ (z : Duals). length z.u) zero ∙ length-replicate (length I.sites) 0);
    blockers = risen.work.blockers ∙ sym (ap (λ (z : Duals). length z.v) zero ∙ length-replicate (length I.customers) (pos 0));
    scaled = risen.tame.scaled;
    scale = risen.tame.fit.in_limits.scale;
    plain_bound = inv.plain_bound;
    bound = bound;
  }

  -- and where they are those of the plain ascent
  pub alike_plain : (a b : Inside) (e : Present) (x : ℤ) → AreAlike a → a.zeros ≡ zeros I (plain_scale I) → HasAscended I path e → unsigned_abs x ≤ MAX_BOUND → b.zeros ≡ a.zeros → b.plain ≡ e.duals → b.plain_bound ≡ x → b.best ≡ e → b.bound ≡ x → AreAlike b
  alike_plain a b e x inv zero risen small zeros_same plain plain_bound best bound =
      let here : b.zeros ≡ zeros I (plain_scale I) = zeros_same ∙ zero in
      let now : AreAsLong b.zeros e.duals = tame_is_long b e.duals here risen.tame in
      record {
        plain = subst (AreAsLong b.zeros) (sym plain) now;
        best = subst (λ (p : Present). AreAsLong b.zeros p.duals) (sym best) now;
        slacks = ap (λ (p : Present). length p.work.slacks) best ∙ risen.work.slacks ∙ sym (ap (λ (z : Duals). length z.u) here ∙ length-replicate (length I.sites) 0);
        blockers = ap (λ (p : Present). length p.work.blockers) best ∙ risen.work.blockers ∙ sym (ap (λ (z : Duals). length z.v) here ∙ length-replicate (length I.customers) (pos 0));
        scaled = subst (λ (p : Present). 1 ≤ p.duals.q) (sym best) risen.tame.scaled;
        scale = subst (λ (p : Present). p.duals.q ≤ MAX_SCALE) (sym best) risen.tame.fit.in_limits.scale;
        plain_bound = subst (λ y. unsigned_abs y ≤ MAX_BOUND) (sym plain_bound) small;
        bound = subst (λ y. unsigned_abs y ≤ MAX_BOUND) (sym bound) small;
      }

  pub work_for : (a : Inside) → AreAlike a → a.zeros ≡ zeros I (plain_scale I) → IsWorkFor I a.best.work
  work_for a inv zero = record {
    slacks = inv.slacks ∙ ap (λ (z : Duals). length z.u) zero ∙ length-replicate (length I.sites) 0;
    blockers = inv.blockers ∙ ap (λ (z : Duals). length z.v) zero ∙ length-replicate (length I.customers) (pos 0);
  }

  -- an ascent from duals that were copied may start
  pub copy_starts : (a : Inside) (n : Present) (d : Duals) → AreAlike a → a.zeros ≡ zeros I (plain_scale I) → n.duals ≡ d → n.work ≡ a.best.work → AreTame I d → IsStart I n
  copy_starts a n d inv zero is work tame = record { tame = subst (AreTame I) (sym is) tame; work = subst (IsWorkFor I) (sym work) (work_for a inv zero) }

  pub zeros_start : (a : Inside) (n : Present) → AreAlike a → a.zeros ≡ zeros I (plain_scale I) → n.duals ≡ a.zeros → n.work ≡ a.best.work → IsStart I n
  zeros_start a n inv zero is work = copy_starts a n (zeros I (plain_scale I)) inv zero (is ∙ zero) work (zeros_are_tame I path (plain_scale I) (plain_scale_fits I).0 (plain_scale_fits I).1)

  -- duals were tried: their ascent is better than the best so far, or it isn't
  module _ (m : Making) (d : Duals) (old new : Present) (bound : ℤ) (scale : ℕ) (is_bound : bound ≡ bound_of I path m.best.duals) (is_scale : scale ≡ m.best.duals.q) where
    pub risen_more : IsRiseAbove I path d old new bound scale true → IsAtLeast (bound_of I path new.duals) new.duals.q (bound_of I path m.best.duals) m.best.duals.q
    risen_more rise = greater_is_at_least (bound_of I path new.duals) (bound_of I path m.best.duals) new.duals.q m.best.duals.q (told_of IsGreater _ _ _ _ _ _ _ _ refl refl is_bound is_scale rise.2)

    pub kept_taken : IsRiseAbove I path d old new bound scale false → 1 ≤ d.q → IsAtLeast (bound_of I path m.best.duals) m.best.duals.q (bound_of I path d) d.q
    kept_taken rise scaled =
        let risen : Duals = rise.1.0 in
        let known : IsAtLeast bound scale (bound_of I path risen) risen.q = not_greater (bound_of I path risen) bound risen.q scale rise.1.2 in
        at_least_trans _ _ _ m.best.duals.q risen.q d.q (subst (λ q. 1 ≤ q) (sym rise.1.1.scale) scaled) (told_of IsAtLeast _ _ _ _ _ _ _ _ is_bound is_scale refl refl known) (ascent_at_least d risen rise.1.1)

  -- a round from the plain ascent, where the best duals were no better than that
  module _ (old new : Making) (old_path : Path) (replaced : Duals) (making : IsMaking I old_path replaced path old) (has : HasPlain old new.zeros new.plain new.plain_bound new.hint) (bound : new.bound ≡ bound_of I path new.best.duals) (adjusted : IsAdjusted I path 1 old.plain new.best.duals) (risen : HasAscended I path new.best) (fails : IsGreater old.bound old.best.duals.q old.plain_bound old.plain.q → ⊥) where
    abbrev e : Duals
    e = new.best.duals

    scale_is : new.best.duals.q ≡ old.plain.q
    scale_is = adjusted.same_prices.scale

    no_better : IsAtLeast (bound_of I path old.plain) old.plain.q (bound_of I path old.best.duals) old.best.duals.q
    no_better =
        let known : IsAtLeast old.plain_bound old.plain.q old.bound old.best.duals.q = not_greater old.bound old.plain_bound old.best.duals.q old.plain.q fails in
        subst (λ x. IsAtLeast (bound_of I path old.plain) old.plain.q x old.best.duals.q) making.bound (subst (λ x. IsAtLeast x old.plain.q old.bound old.best.duals.q) making.plain_bound known)

    pub settled_stays : StaysMaking I path old new
    settled_stays =
        let up : IsAtLeast (bound_of I path e) e.q (bound_of I path old.plain) old.plain.q =
        subst (λ q. IsAtLeast (bound_of I path e) q (bound_of I path old.plain) old.plain.q) (sym scale_is) (same_at_least (bound_of I path e) (bound_of I path old.plain) old.plain.q adjusted.bound) in
        stays_from old new has risen (adjusted.same_prices.form ∙ plain_form_of old.plain making.is_plain) (inl (scale_is ∙ plain_scale_of old.plain making.is_plain)) bound (at_least_trans _ _ _ e.q old.plain.q old.best.duals.q making.plain_tame.scaled up no_better)

    settled_gains : Gains I path old.plain → IsGreater (bound_of I path e) e.q (bound_of I path old.plain) old.plain.q
    settled_gains gains =
        subst (λ q. IsGreater (bound_of I path e) q (bound_of I path old.plain) old.plain.q) (sym scale_is)
        (same_greater (bound_of I path e) (bound_of I path old.plain) old.plain.q making.plain_tame.scaled (adjusted.gain old.plain making.plain_risen (omega arith) gains))

    pub settled_made : AreServed I path → IsMadeByPrices I old_path replaced path new.best.duals
    settled_made served =
        made_from old_path replaced new served (settled_stays.making old_path replaced making)
        (λ gains. subst (λ (d : Duals). IsGreater (bound_of I path e) e.q (bound_of I path d) d.q) (sym has.plain) (settled_gains (subst (Gains I path) has.plain gains)))

  -- the bound of the plain ascent is not below that of zeros
  pub zeros_below : (m : Making) (old_path : Path) (old d : Duals) → IsMaking I old_path old path m → d ≡ m.zeros → IsAtLeast (bound_of I path m.best.duals) m.best.duals.q (bound_of I path d) d.q
  zeros_below m old_path old d making is =
      let start : Duals = zeros I (plain_scale I) in
      let risen = ascended_is_risen I path (customer_places I) (all_known I path) start m.plain (length-replicate (length I.customers) (pos 0)) making.is_plain in
      let up : IsAtLeast (bound_of I path m.plain) m.plain.q (bound_of I path start) start.q =
      subst (λ q. IsAtLeast (bound_of I path m.plain) q (bound_of I path start) start.q) (sym risen.scale) (same_at_least (bound_of I path m.plain) (bound_of I path start) start.q (bound_is_risen I path start m.plain risen)) in
      subst (λ (x : Duals). IsAtLeast (bound_of I path m.best.duals) m.best.duals.q (bound_of I path x) x.q) (sym (is ∙ making.maker)) (at_least_trans _ _ _ m.best.duals.q m.plain.q start.q making.plain_tame.scaled making.above up)

  -- the plain ascent as the best duals, below no leaf yet: duals of scale 0 are never replaced
  pub begun : (m : Making) → IsMakerFor I m → m.plain ≡ m.best.duals → m.plain_bound ≡ bound_of I path m.best.duals → m.hint ≡ tight_sites I path m.best.duals → m.bound ≡ bound_of I path m.best.duals → HasAscended I path m.best → IsPlainAscent I path m.best.duals
      → IsMaking I path (zeros I 0) path m
  begun m maker is plain_bound hint bound risen plain =
      record {
        maker = maker;
        plain_tame = subst (AreTame I) (sym is) risen.tame;
        plain_risen = subst (λ (d : Duals). IsAscended I path d d) (sym is) risen.ascended;
        is_plain = subst (IsPlainAscent I path) (sym is) plain;
        plain_bound = plain_bound ∙ ap (bound_of I path) (sym is);
        hint = hint ∙ ap (tight_sites I path) (sym is);
        best_risen = risen;
        form = plain_form_of m.best.duals plain;
        bound = bound;
        scale = inl (plain_scale_of m.best.duals plain);
        above = subst (λ (d : Duals). IsAtLeast (bound_of I path m.best.duals) m.best.duals.q (bound_of I path d) d.q) (sym is) (same_at_least (bound_of I path m.best.duals) (bound_of I path m.best.duals) m.best.duals.q (omega (arith, ints)));
        replaced = λ _ tame _. let none = tame.scaled in absurd (omega (arith, none));
      }

  -- below a leaf whose duals were taken
  pub below_leaf : (m : Making) (old : Duals) → IsMaking I path (zeros I 0) path m → (old.form ≡ Prices → AreTame I old → IsMadeScale I old.q → IsAtLeast (bound_of I path m.best.duals) m.best.duals.q (bound_of I path old) old.q) → (old_path : Path) → LowersNone I old_path path → IsMaking I old_path old path m
  below_leaf m old making taken old_path lowers =
      record {
        maker = making.maker;
        plain_tame = making.plain_tame;
        plain_risen = making.plain_risen;
        is_plain = making.is_plain;
        plain_bound = making.plain_bound;
        hint = making.hint;
        best_risen = making.best_risen;
        form = making.form;
        bound = making.bound;
        scale = making.scale;
        above = making.above;
        replaced = λ priced tame made. at_least_trans _ _ _ m.best.duals.q old.q old.q tame.scaled (taken priced tame made) (same_at_least (bound_of I path old) (bound_of I old_path old) old.q (lowers old));
      }

-- a bound as the code has it
pub bound_bits : (b : ℤ) → unsigned_abs b ≤ MAX_BOUND → to_z w128 (of_z w128 b) ≡ b
bound_bits b small = kept b MAX_BOUND small (omega arith)

pub small_bits : (b : ℤ) → unsigned_abs b ≤ MAX_BOUND → unsigned_abs (to_z w128 (of_z w128 b)) ≤ MAX_BOUND
small_bits b small = subst (λ x. unsigned_abs x ≤ MAX_BOUND) (sym (bound_bits b small)) small

-- Before the first box.
module _ (J : Instance) where
  pub first_alike : (a : Inside) → a.zeros ≡ zeros J (plain_scale J) → a.plain ≡ a.zeros → a.best.duals ≡ a.zeros → IsWorkFor J a.best.work → a.plain_bound ≡ pos 0 → a.bound ≡ pos 0 → AreAlike a
  first_alike a zero plain best work plain_bound bound =
      let scale : a.best.duals.q ≡ plain_scale J = ap (λ (x : Duals). x.q) (best ∙ zero) in
      record {
        plain = record { customers = ap (λ (x : Duals). length x.v) plain; sites = ap (λ (x : Duals). length x.u) plain };
        best = record { customers = ap (λ (x : Duals). length x.v) best; sites = ap (λ (x : Duals). length x.u) best };
        slacks = work.slacks ∙ sym (ap (λ (z : Duals). length z.u) zero ∙ length-replicate (length J.sites) 0);
        blockers = work.blockers ∙ sym (ap (λ (z : Duals). length z.v) zero ∙ length-replicate (length J.customers) (pos 0));
        scaled = subst (λ n. 1 ≤ n) (sym scale) (plain_scale_fits J).0;
        scale = subst (λ n. n ≤ MAX_SCALE) (sym scale) (plain_scale_fits J).1;
        plain_bound = subst (λ x. unsigned_abs x ≤ MAX_BOUND) (sym plain_bound) (omega arith);
        bound = subst (λ x. unsigned_abs x ≤ MAX_BOUND) (sym bound) (omega arith);
      }
