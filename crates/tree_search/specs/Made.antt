-- What a search puts into the place of a leaf that is open: a tree whose leaves either close by whole knapsacks or are at least as good
-- as the plain ascent's, and which splits no box that needs no split. The rule is the suite's own.
use Rattle.std.specs.Prelude.{◌≡◌, ◌≢◌, ◌⊎◌, ℕ, Bool, ◌<◌, ◌≤◌, length, Contains, Option, Some, IfSome, is_some, IsTrue, IsFalse, pos, ◌≤ℤ◌, if◌then◌else◌}
use Rattle.std.specs.List.{list_any}
use Rattle.location_terms.specs.Instance.{Instance, site_at, customer_at}
use Rattle.location_terms.specs.Plan.{Plan, cost_of}
use Rattle.location_terms.specs.Box.{Path, is_free, is_allowed}
use Rattle.location_terms.specs.declared.decision.Decision.TheVariants.{Yes}
use Rattle.location_terms.specs.declared.split.Split.{Split}
use Rattle.location_terms.specs.declared.split.Split.TheVariants.{Site, Lane}
use Rattle.location_terms.specs.Bound.{Duals, bound_of}
use Rattle.location_terms.specs.declared.form.LeafForm.{LeafForm}
use Rattle.location_terms.specs.declared.form.LeafForm.TheVariants.{Prices, Whole}
use Rattle.location_terms.specs.Fit.{DualsFit, AreTame, BoundCloses}
use Rattle.location_terms.specs.Leaf.{LeafCloses}
use Rattle.location_terms.specs.Tree.{Node}
use Rattle.location_terms.specs.declared.limits.TheConstants.{MAX_SCALE}
use Rattle.dual_ascent.specs.Levels.{servers}
use Rattle.dual_value.specs.Zeros.{zeros}
use Rattle.dual_value.specs.Scales.{IsAtLeast, IsGreater}
use Rattle.dual_ascent.specs.Ascent.{IsAscended, IsBlocked}
use Rattle.dual_adjust.specs.Slackness.{tight_sites}
use Rattle.dual_adjust.specs.Adjustment.{Gains}
use Rattle.plan_search.specs.Packed.{packed}
use Rattle.branch_tree.specs.Built.{IsBuiltOf}

-- The plain ascent of a box.

-- some site has a capacity
abbrev pub has_cap : Instance → Bool
has_cap I = list_any (λ s. is_some s.cap) I.sites

-- its scale: 1 where no site has a capacity, and else 1,000
abbrev pub plain_scale : Instance → ℕ
plain_scale I = if has_cap I then 1000 else 1

-- the duals of the ascent from zeros in the box
abbrev pub IsPlainAscent : Instance → Path → Duals → Type 0
IsPlainAscent I path d = IsAscended I path (zeros I (plain_scale I)) d

-- Leaves.

-- The scale of a made leaf that isn't a ray: that of the plain ascent, which is 1 where no site has a capacity, or there the greatest that a leaf may
-- have. Which of the two is the search's choice.
abbrev pub IsMadeScale : Instance → ℕ → Type 0
IsMadeScale I q = (q ≡ plain_scale I) ⊎ ((plain_scale I ≡ 1) × (q ≡ MAX_SCALE))

-- every customer has an allowed lane in the box
abbrev pub AreServed : Instance → Path → Type 0
AreServed I path = (j : ℕ) → j < length I.customers → length (servers I path j) ≢ 0

-- A leaf of at least scale 1 in a box, made below a leaf whose path and duals are `old_path` and `old`: it is no weaker than the
-- plain ascent of its box, stronger where that gains, and no weaker than the leaf that it replaces, where that one has prices too:
-- prices may not reach the bound of whole knapsacks.
pub record IsMadeAtScale (I : Instance) (old_path : Path) (old : Duals) (path : Path) (d : Duals) : Type 0 where
  -- a box in which some customer has no allowed lane gets a ray instead
  pub served : AreServed I path
  pub scale : IsMadeScale I d.q
  pub tame : AreTame I d
  pub blocked : IsBlocked I path d
  pub ascent : Duals
  pub is_plain : IsPlainAscent I path ascent
  pub plain : IsAtLeast (bound_of I path d) d.q (bound_of I path ascent) ascent.q
  pub gains : Gains I path ascent → IsGreater (bound_of I path d) d.q (bound_of I path ascent) ascent.q
  pub replaced : old.form ≡ Prices → AreTame I old → IsMadeScale I old.q → IsAtLeast (bound_of I path d) d.q (bound_of I old_path old) old.q

-- a leaf by prices made in a box: a ray, that is duals of scale 0, which shows the box to be empty, or duals of scale 1 or more
pub record IsMadeByPrices (I : Instance) (old_path : Path) (old : Duals) (path : Path) (d : Duals) : Type 0 where
  pub fit : DualsFit I d
  -- at scale 0 it closes, whatever the target is
  pub ray : d.q ≡ 0 → pos 1 ≤ℤ bound_of I path d
  pub scaled : 1 ≤ d.q → IsMadeAtScale I old_path old path d

-- A leaf made in a box, where the answer's plan costs this, if there is one. Of whole knapsacks nothing is asked but that they close with that cost or,
-- at scale 0, without any: so a made leaf that is open has prices.
abbrev pub IsMadeIn : LeafForm → Instance → Option ℕ → Path → Duals → Path → Duals → Type 0
IsMadeIn Prices I cost old_path old path d = IsMadeByPrices I old_path old path d
IsMadeIn Whole I cost old_path old path d = LeafCloses I path d cost

abbrev pub IsMadeLeaf : Instance → Option ℕ → Path → Duals → Path → Duals → Type 0
IsMadeLeaf I cost old_path old path d = IsMadeIn d.form I cost old_path old path d

-- Splits.

-- The box needs a split: every customer has an allowed lane, and the plain ascent closes it neither with the target nor with the
-- cost of the plan that its own tight sites give. So a search that packs at these sites too never meets an open leaf whose box may not be split.
pub record NeedsSplit (I : Instance) (target : Option ℕ) (path : Path) : Type 0 where
  pub served : AreServed I path
  pub ascent : Duals
  pub is_plain : IsPlainAscent I path ascent
  pub target_open : IfSome target (λ T. BoundCloses (bound_of I path ascent) ascent.q (Some T) → ⊥)
  pub packed_open : (P : Plan) → packed I path (tight_sites I path ascent) ≡ Some P → BoundCloses (bound_of I path ascent) ascent.q (Some (cost_of I P)) → ⊥

-- the site of this id is free in the box
pub record IsFreeSite (I : Instance) (path : Path) (s : ℕ) : Type 0 where
  pub place : ℕ
  pub within : place < length I.sites
  pub named : (site_at I place).id ≡ s
  pub free : IsTrue (is_free path (site_at I place))

-- The lane may be split on: some site has a capacity, no site is free, the box allows the lane, no decision uses it, and the
-- customer has another allowed lane.
pub record IsOpenLane (I : Instance) (path : Path) (s c : ℕ) : Type 0 where
  pub capacitated : IsTrue (has_cap I)
  pub none_free : (i : ℕ) → i < length I.sites → IsFalse (is_free path (site_at I i))
  pub site : ℕ
  pub customer : ℕ
  pub site_within : site < length I.sites
  pub customer_within : customer < length I.customers
  pub site_named : (site_at I site).id ≡ s
  pub customer_named : (customer_at I customer).id ≡ c
  pub allowed : IsTrue (is_allowed I path (site_at I site) (customer_at I customer))
  pub undecided : Contains path (Yes s c) → ⊥
  pub others : 1 < length (servers I path customer)

-- the box may be split so
abbrev pub IsOpenSplit : Instance → Path → Split → Type 0
IsOpenSplit I path (Site s) = IsFreeSite I path s
IsOpenSplit I path (Lane s c) = IsOpenLane I path s c

-- a split of a box that needs one
abbrev pub IsDueSplit : Instance → Option ℕ → Path → Split → Type 0
IsDueSplit I target path split = NeedsSplit I target path × IsOpenSplit I path split

-- a tree whose root is the box of `path`, made for a leaf that had the duals `old` at `old_path`, where the answer's plan costs `cost`: each of its leaves is made for it, and each of
-- its splits is due
abbrev pub IsMade : Instance → (target cost : Option ℕ) → Path → Duals → Path → Node → Type 0
IsMade I target cost old_path old = IsBuiltOf (IsMadeLeaf I cost old_path old) (IsDueSplit I target)
