-- Nothing is paid at a closed site, nor where the path is torn.
use Rattle.std.proofs.Common.{◌≡◌, ℕ, Bool, true, false, ◌&&◌, not, pos, ◌-ℤ◌}
use Rattle.std.specs.Prelude.{is_some}
use Rattle.std.specs.Int.{int_max}
use Rattle.std.specs.List.{list_any}
use Rattle.std.proofs.lemmas.Bool.{and_left, and_right, not_from_true, cond-false}
use Rattle.location_terms.specs.Instance.{Instance, Site, Customer, site_at, customer_at, lane}
use Rattle.location_terms.specs.Box.{Path, is_torn, is_closed, is_allowed, bars_lane, holds_demand}
use Rattle.location_terms.specs.Bound.{Duals, total, paid_at, v_at, level_at}
use Rattle.location_terms.proofs.Totals.{total_zero}

first_fails : (a b c d e : Bool) → a ≡ true → (not a && b && c && d && e) ≡ false
first_fails a b c d e h = and_left (not a && b && c && d) e (and_left (not a && b && c) d (and_left (not a && b) c (and_left (not a) b (not_from_true a h))))

third_fails : (a b c d e : Bool) → c ≡ true → (a && b && not c && d && e) ≡ false
third_fails a b c d e h = and_left (a && b && not c && d) e (and_left (a && b && not c) d (and_right (a && b) (not c) (not_from_true c h)))

pub torn_bars : (I : Instance) (path : Path) (s : Site) (c : Customer) → is_torn I path ≡ true → is_allowed I path s c ≡ false
torn_bars I path s c h = first_fails (is_torn I path) (is_some (lane I s.id c.id)) (not (is_closed path s)) (not (list_any (bars_lane s.id c.id) path)) (holds_demand s.cap c.demand) h

pub closed_bars : (I : Instance) (path : Path) (s : Site) (c : Customer) → is_closed path s ≡ true → is_allowed I path s c ≡ false
closed_bars I path s c h = third_fails (not (is_torn I path)) (is_some (lane I s.id c.id)) (is_closed path s) (not (list_any (bars_lane s.id c.id) path)) (holds_demand s.cap c.demand) h

module _ (I : Instance) (path : Path) (d : Duals) (i n : ℕ) where
  unpaid : ((c : Customer) → is_allowed I path (site_at I i) c ≡ false) → total (paid_at I path d i) n ≡ pos 0
  unpaid h = total_zero (paid_at I path d i) n (λ j _. cond-false (is_allowed I path (site_at I i) (customer_at I j)) (int_max (pos 0) (v_at d j -ℤ level_at I d i j)) (pos 0) (h (customer_at I j)))

  pub unpaid_torn : is_torn I path ≡ true → total (paid_at I path d i) n ≡ pos 0
  unpaid_torn h = unpaid (λ c. torn_bars I path (site_at I i) c h)

  pub unpaid_closed : is_closed path (site_at I i) ≡ true → total (paid_at I path d i) n ≡ pos 0
  unpaid_closed h = unpaid (λ c. closed_bars I path (site_at I i) c h)
