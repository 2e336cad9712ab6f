-- For private functions alone: no public contract cites this page.
-- What the steps of an ascent find out, and what holds between them.
use Rattle.std.specs.Prelude.{◌≡◌, ◌⊎◌, ℕ, ◌<◌, ◌==◌, not, Bool, true, false, List, length, filter, Option, None, Some, ℤ, pos, ◌+ℤ◌, ◌≤ℤ◌, ◌<ℤ◌, slice_index_or, unwrap_or}
use Rattle.location_terms.specs.Instance.{Instance, site_at, customer_at}
use Rattle.location_terms.specs.Box.{Path, is_allowed}
use Rattle.location_terms.specs.Bound.{Duals, v_at, level_at, slack_of, total}
use Rattle.dual_ascent.specs.Levels.{customer_places}
use Rattle.dual_ascent.specs.Ascent.{is_spent, is_blocked, rise_of, round, rounds}
use Rattle.dual_ascent.specs.declared.looking.Offer.{Offer}
use Rattle.dual_ascent.specs.declared.looking.Offer.TheVariants.{Barred, Blocks, UpTo}
use Rattle.dual_ascent.specs.declared.looking.Outlook.{Outlook}
use Rattle.dual_ascent.specs.declared.looking.Outlook.TheVariants.{Rises, Blocked}

-- whether an ascent takes the customer's turns, which passes over one customer or over none
abbrev pub picks : Option ℕ → ℕ → Bool
picks None j = true
picks (Some apart) j = not (j == apart)

-- the customers whose turns it takes, in order
abbrev pub picked : Instance → Option ℕ → List ℕ
picked I apart = filter (picks apart) (customer_places I)

-- the customer's dual reaches the site, by an allowed lane
pub record IsReached (I : Instance) (path : Path) (d : Duals) (j i : ℕ) : Type 0 where
  pub within : i < length I.sites
  pub allowed : is_allowed I path (site_at I i) (customer_at I j) ≡ true
  pub under : level_at I d i j ≤ℤ v_at d j

-- the customer reaches the site that blocked it, where one did
abbrev pub IsBlocker : Instance → Path → Duals → ℕ → Option ℕ → Type 0
IsBlocker I path d j None = Unit {0}
IsBlocker I path d j (Some i) = IsReached I path d j i

pub record AreBlockers (I : Instance) (path : Path) (d : Duals) (blockers : List (Option ℕ)) : Type 0 where
  pub count : length blockers ≡ length I.customers
  pub each : (j : ℕ) → j < length I.customers → IsBlocker I path d j (slice_index_or blockers j None)

-- what the lane from the site at i does to a rise of the customer's dual: it stops it at once, or lets it come so far
abbrev pub IsOffer : Instance → Path → Duals → ℕ → ℕ → Offer → Type 0
IsOffer I path d j i Barred = is_allowed I path (site_at I i) (customer_at I j) ≡ false
IsOffer I path d j i Blocks = (is_allowed I path (site_at I i) (customer_at I j) ≡ true) × (level_at I d i j ≤ℤ v_at d j) × (is_spent I path d i ≡ true)
IsOffer I path d j i (UpTo rise) = (is_allowed I path (site_at I i) (customer_at I j) ≡ true) × (pos 0 <ℤ rise)
    × (((level_at I d i j ≤ℤ v_at d j) × (is_spent I path d i ≡ false) × (slack_of I path d i ≡ rise)) ⊎ ((v_at d j <ℤ level_at I d i j) × (level_at I d i j ≡ v_at d j +ℤ rise)))

-- how far the customer's dual rises, or a site that blocks it
abbrev pub IsOutlook : Instance → Path → Duals → ℕ → Outlook → Type 0
IsOutlook I path d j (Rises by) = (is_blocked I path d j ≡ false) × (unwrap_or (rise_of I path d j) (pos 0) ≡ by)
IsOutlook I path d j (Blocked site) = (is_blocked I path d j ≡ true) × IsBlocker I path d j site

-- what the least rise that the lanes let comes to
abbrev pub shown : Option ℤ → Outlook
shown None = Blocked None
shown (Some rise) = Rises rise

-- so many rounds later no more changes anything
pub record IsClimbed (I : Instance) (path : Path) (customers : List ℕ) (start result : Duals) : Type 0 where
  pub count : ℕ
  pub after : result ≡ rounds I path customers start count
  pub settled : round I path customers result ≡ result

-- where a dual rose the sum of the duals is greater, and else nothing changed
abbrev pub HasMoved : Instance → Duals → Duals → Bool → Type 0
HasMoved I d e false = e ≡ d
HasMoved I d e true = total (v_at d) (length I.customers) <ℤ total (v_at e) (length I.customers)
