-- The slack, the bound and the closing of a leaf, in the form of its duals: by prices, or by whole knapsacks.
use Rattle.std.specs.Prelude.{◌≡◌, ℕ, ◌*◌, IsTrue, List, length, All, Option, ℤ, pos, ◌+ℤ◌, ◌-ℤ◌, if◌then◌else◌}
use Rattle.std.specs.Int.{int_min}
use Rattle.location_terms.specs.declared.form.LeafForm.{LeafForm}
use Rattle.location_terms.specs.declared.form.LeafForm.TheVariants.{Prices, Whole}
use Rattle.location_terms.specs.Instance.{Instance, site_at}
use Rattle.location_terms.specs.Box.{Path, is_opened, is_free}
use Rattle.location_terms.specs.Bound.{Duals, v_at, total, count_price, slack_of}
use Rattle.location_terms.specs.Knapsack.{best_set, has_small_knapsacks}
use Rattle.location_terms.specs.Fit.{DualsFit, BoundCloses}

-- what is left of the site's scaled fixed cost, where duals are taken in this form
abbrev pub slack_in : LeafForm → Instance → Path → Duals → ℕ → ℤ
slack_in Prices I path d i = slack_of I path d i
slack_in Whole I path d i = (pos (d.q * (site_at I i).fixed) +ℤ d.nu) -ℤ best_set I path d i

-- what a site adds to the bound: its slack where it is opened, that but nothing above 0 where it is free, nothing where it is closed
abbrev pub share_in : LeafForm → Instance → Path → Duals → ℕ → ℤ
share_in form I path d i = if is_opened path (site_at I i) then slack_in form I path d i else (if is_free path (site_at I i) then int_min (pos 0) (slack_in form I path d i) else pos 0)

-- q times the cost of each feasible plan of the box is at least this
abbrev pub bound_in : LeafForm → Instance → Path → Duals → ℤ
bound_in form I path d = (total (v_at d) (length I.customers) -ℤ count_price I d.nu) +ℤ total (share_in form I path d) (length I.sites)

-- the same in the duals' own form

abbrev pub leaf_slack : Instance → Path → Duals → ℕ → ℤ
leaf_slack I path d i = slack_in d.form I path d i

abbrev pub leaf_bound : Instance → Path → Duals → ℤ
leaf_bound I path d = bound_in d.form I path d

-- whole knapsacks have no prices of capacities: these are 0
abbrev pub PricesSuit : LeafForm → List ℕ → Type 0
PricesSuit Prices u = Unit {0}
PricesSuit Whole u = All (λ price. price ≡ 0) u

-- whole knapsacks are small
abbrev pub KnapsacksSuit : LeafForm → Instance → Type 0
KnapsacksSuit Prices I = Unit {0}
KnapsacksSuit Whole I = IsTrue (has_small_knapsacks I)

-- duals of the instance, within their limits, that suit their form
pub record LeafFits (I : Instance) (d : Duals) : Type 0 where
  pub numbers : DualsFit I d
  pub prices : PricesSuit d.form d.u
  pub knapsacks : KnapsacksSuit d.form I

-- the leaf closes its box against the target, or without a target
pub record LeafCloses (I : Instance) (path : Path) (d : Duals) (target : Option ℕ) : Type 0 where
  pub fit : LeafFits I d
  pub closed : BoundCloses (leaf_bound I path d) d.q target
