-- The free sites of a hint while it is read.
use Rattle.std.proofs.Common.{◌≡◌, ℕ, ◌+◌, ◌<◌, ◌≤◌, Bool, true, false, List, [], length, take, get_or, refl, sym, ap, subst, inl, inr, ◌∙◌, arith}
use Rattle.std.specs.Prelude.{Contains, ◌==◌, ◌&&◌, ◌||◌}
use Rattle.std.proofs.Math.ListN.{set}
use Rattle.std.proofs.lemmas.Bool.{cases_eq, eq-eqb, ne_eqb, or_right, and_right}
use Rattle.std.proofs.lemmas.List.{length-set, get_or-set_same, get_or-set_other, take_all}
use Rattle.std.proofs.lemmas.List.Folds.{list_any_more}
use Rattle.location_terms.specs.Instance.{Instance, IsValid, site_at, site_ids}
use Rattle.location_terms.specs.Box.{Path, is_free}
use Rattle.location_terms.proofs.Rising.{one_place}
use Rattle.dual_value.proofs.Torn.{knows_site}
use Rattle.plan_search.specs.Packed.{is_among}
use Rattle.plan_search.specs.Flags.{is_set, AreFlags}

-- the free sites of the hint are flagged
abbrev pub AreHinted : Instance → Path → List ℕ → List Bool → Type 0
AreHinted I path hint flags = AreFlags (λ i. is_free path (site_at I i) && is_among hint (site_at I i).id) (length I.sites) flags

same_but : (free among is : Bool) → is ≡ false → (free && (among || is)) ≡ (free && among)
same_but free true is e = refl
same_but free false is e = ap (λ b. free && b) e

when_named : (free among is : Bool) → is ≡ true → (free && (among || is)) ≡ free
when_named true among is e = or_right among is e
when_named false among is e = refl

module _ (I : Instance) (path : Path) where
  pub none_hinted : (flags : List Bool) → length flags ≡ length I.sites → ((i : ℕ) → is_set flags i ≡ false) → AreHinted I path [] flags
  none_hinted flags long none = record { long = long; each = λ i _. none i ∙ sym (and_right (is_free path (site_at I i)) false refl) }

  module _ (hint : List ℕ) (k id : ℕ) (flags : List Bool) (b : k < length hint) (is : id ≡ get_or hint k id) (are : AreHinted I path (take k hint) flags) where
    -- one id more of the hint
    among_more : (i : ℕ) → is_among (take (k + 1) hint) (site_at I i).id ≡ (is_among (take k hint) (site_at I i).id || (id == (site_at I i).id))
    among_more i = list_any_more (λ n. n == (site_at I i).id) hint k id b ∙ ap (λ n. is_among (take k hint) (site_at I i).id || (n == (site_at I i).id)) (sym is)

    unnamed : (i : ℕ) → (id == (site_at I i).id) ≡ false → (is_free path (site_at I i) && is_among (take (k + 1) hint) (site_at I i).id) ≡ (is_free path (site_at I i) && is_among (take k hint) (site_at I i).id)
    unnamed i other = ap (λ t. is_free path (site_at I i) && t) (among_more i) ∙ same_but (is_free path (site_at I i)) (is_among (take k hint) (site_at I i).id) (id == (site_at I i).id) other

    -- it names no site
    pub hint_unknown : (Contains (site_ids I) id → ⊥) → AreHinted I path (take (k + 1) hint) flags
    hint_unknown unknown =
        record { long = are.long; each = λ i c. are.each i c ∙ sym (unnamed i (ne_eqb _ _ (λ e. unknown (knows_site I i id c e)))) }

    -- it names the site at a place
    pub hint_flagged : IsValid I → (site : ℕ) (free : Bool) → site < length I.sites → (site_at I site).id ≡ id → free ≡ is_free path (site_at I site) → AreHinted I path (take (k + 1) hint) (set flags site free)
    hint_flagged valid site free within named same =
        record {
          long = length-set flags site free ∙ are.long;
          each = λ i c. elim (cases_eq i site) [
            | inl here ↦
                subst (λ n. is_set (set flags site free) n ≡ (is_free path (site_at I n) && is_among (take (k + 1) hint) (site_at I n).id)) (sym here)
                (get_or-set_same flags site free false (omega (arith, within, are.long)) ∙ same ∙ sym (ap (λ t. is_free path (site_at I site) && t) (among_more site) ∙ when_named (is_free path (site_at I site)) (is_among (take k hint) (site_at I site).id) (id == (site_at I site).id) (eq-eqb _ _ (sym named))))
            | inr other ↦
                get_or-set_other flags site i free false other ∙ are.each i c
                ∙ sym (unnamed i (ne_eqb _ _ (λ e. other (one_place (λ s. s.id) I.sites _ valid.sites_named.rising i site c within (sym (named ∙ e))))))
          ];
        }

  pub all_hinted : (hint : List ℕ) (k : ℕ) (flags : List Bool) → length hint ≤ k → AreHinted I path (take k hint) flags → AreHinted I path hint flags
  all_hinted hint k flags end are = subst (λ h. AreHinted I path h flags) (take_all k hint end) are
