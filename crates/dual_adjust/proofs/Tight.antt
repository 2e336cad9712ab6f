-- A customer that is blocked reaches a tight site, where some lane to it is allowed.
use Rattle.std.proofs.Common.{◌≡◌, ◌≢◌, ℕ, ◌<◌, refl, sym, ◌∙◌, Bool, true, false, length, ◌≤ℤ◌}
use Rattle.std.specs.Prelude.{◌&&◌, ◌||◌, not, pos, int_le}
use Rattle.std.proofs.lemmas.Bool.{false≢true, false_from_ne_true}
use Rattle.location_terms.specs.Instance.{Instance, site_at, customer_at}
use Rattle.location_terms.specs.Box.{Path, is_allowed, is_called_for, is_closed}
use Rattle.location_terms.specs.Bound.{Duals, v_at, level_at, slack_of}
use Rattle.dual_value.proofs.Unpaid.{closed_bars}
use Rattle.dual_ascent.specs.Levels.{servers}
use Rattle.dual_ascent.specs.Ascent.{is_spent, is_blocked}
use Rattle.dual_ascent.proofs.Blocked.{blocked_reaches}
use Rattle.dual_adjust.specs.Slackness.{is_tight}

tight_from : (called closed nothing : Bool) → closed ≡ false → ((called && not closed) || nothing) ≡ true → ((called && not closed) || ((not called && not closed) && nothing)) ≡ true
tight_from called true nothing e spent = absurd (false≢true (sym e))
tight_from true false nothing e spent = refl
tight_from false false nothing e spent = spent

module _ (I : Instance) (path : Path) (d : Duals) where
  -- a spent site that is not closed is tight
  pub spent_is_tight : (i : ℕ) → is_closed path (site_at I i) ≡ false → is_spent I path d i ≡ true → is_tight I path d i ≡ true
  spent_is_tight i not_closed spent = tight_from (is_called_for path (site_at I i)) (is_closed path (site_at I i)) (int_le (slack_of I path d i) (pos 0)) not_closed spent

  pub blocked_reaches_tight : (j : ℕ) → length (servers I path j) ≢ 0 → is_blocked I path d j ≡ true
      → (i : ℕ) × (i < length I.sites) × (is_allowed I path (site_at I i) (customer_at I j) ≡ true) × (level_at I d i j ≤ℤ v_at d j) × (is_tight I path d i ≡ true)
  blocked_reaches_tight j some blocked =
      let at = blocked_reaches I path d j some blocked in
      let not_closed : is_closed path (site_at I at.0) ≡ false = false_from_ne_true (is_closed path (site_at I at.0)) (λ t. false≢true (sym (closed_bars I path (site_at I at.0) (customer_at I j) t) ∙ at.2)) in
      (at.0, at.1, at.2, at.3, spent_is_tight at.0 not_closed at.4)
