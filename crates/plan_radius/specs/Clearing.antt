-- For private functions alone: no public contract cites this page.
-- Sites that cost nothing to open, one after another.
use Rattle.std.specs.Prelude.{◌≡◌, ◌⊎◌, ℕ, ◌<◌, map, length}
use Rattle.location_terms.specs.Instance.{Instance, site_at}
use Rattle.plan_radius.specs.Cheaper.{costless}

-- the instance where no site costs anything to open
abbrev pub without_fixed : Instance → Instance
without_fixed I = record I { sites = map costless I.sites }

-- the first n sites cost nothing to open, and nothing else is changed
pub record ArePartlyCostless (n : ℕ) (old new : Instance) : Type 0 where
  pub rest : new ≡ record old { sites = new.sites }
  pub count : length new.sites ≡ length old.sites
  pub first : (i : ℕ) → i < n → i < length old.sites → site_at new i ≡ costless (site_at old i)
  -- the others are changed already or are as they were
  pub others : (i : ℕ) → i < length old.sites → (site_at new i ≡ site_at old i) ⊎ (site_at new i ≡ costless (site_at old i))
