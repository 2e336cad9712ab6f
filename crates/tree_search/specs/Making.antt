-- For private functions alone: no public contract cites this page.
-- A leaf while it is made: the plain ascent of its box, and the best duals that were found so far.
use Rattle.std.specs.Prelude.{◌≡◌, ◌≤ℤ◌, ℕ, List, ℤ, Option, refl}
use Rattle.std.specs.Coded.{Coded, code_by, coded_ℕ, coded_ℤ, coded_list, coded_option, coded×}
use Rattle.location_terms.specs.Instance.{Instance}
use Rattle.location_terms.specs.Box.{Path}
use Rattle.location_terms.specs.declared.form.LeafForm.TheVariants.{Prices}
use Rattle.location_terms.specs.Bound.{Duals, bound_of}
use Rattle.location_terms.specs.Fit.{AreTame}
use Rattle.dual_value.specs.Scales.{IsAtLeast}
use Rattle.dual_ascent.specs.Ascent.{IsAscended}
use Rattle.dual_ascent.specs.Work.{Work}
use Rattle.dual_adjust.specs.Slackness.{tight_sites}
use Rattle.dual_adjust.specs.Present.{Present, HasAscended}
use Rattle.dual_value.specs.Zeros.{zeros}
use Rattle.branch_tree.specs.Preorder.{duals_code}
use Rattle.tree_search.specs.Made.{IsMadeScale, IsPlainAscent, plain_scale}

-- the zeros from which plain ascents start; the duals of the plain ascent, their bound and tight sites; the best duals and their bound
pub record Making : Type 0 where
  pub zeros : Duals
  pub plain : Duals
  pub plain_bound : ℤ
  pub hint : List ℕ
  pub best : Present
  pub bound : ℤ

-- the codes by which a struct can have this as its value

abbrev pub work_code : Coded Work
work_code = code_by (List ℤ × List (Option ℕ)) (coded× (coded_list coded_ℤ) (coded_list (coded_option coded_ℕ))) (λ w. (w.slacks, w.blockers)) (λ p. record { slacks = p.0; blockers = p.1 }) (λ _. refl)

abbrev pub present_code : Coded Present
present_code = code_by (Duals × Work) (coded× duals_code work_code) (λ p. (p.duals, p.work)) (λ p. record { duals = p.0; work = p.1 }) (λ _. refl)

abbrev pub making_code : Coded Making
making_code =
    code_by (Duals × (Duals × (ℤ × (List ℕ × (Present × ℤ))))) (coded× duals_code (coded× duals_code (coded× coded_ℤ (coded× (coded_list coded_ℕ) (coded× present_code coded_ℤ)))))
    (λ m. (m.zeros, (m.plain, (m.plain_bound, (m.hint, (m.best, m.bound))))))
    (λ p. record { zeros = p.0; plain = p.1.0; plain_bound = p.1.1.0; hint = p.1.1.1.0; best = p.1.1.1.1.0; bound = p.1.1.1.1.1 }) (λ _. refl)

-- its plain ascents start where those of the instance do
abbrev pub IsMakerFor : Instance → Making → Type 0
IsMakerFor I m = m.zeros ≡ zeros I (plain_scale I)

-- no duals have a lower bound in the box of the path than in that of the old path: so it is where the path goes on from the old one by decisions on free sites and allowed lanes
abbrev pub LowersNone : Instance → Path → Path → Type 0
LowersNone I old_path path = (d : Duals) → bound_of I old_path d ≤ℤ bound_of I path d

-- What the best duals have below a leaf whose path and duals are `old_path` and `old`. A made leaf of a scale needs two things more: an allowed lane for
-- every customer, and a greater bound than the plain ascent where that gains.
pub record IsMaking (I : Instance) (old_path : Path) (old : Duals) (path : Path) (m : Making) : Type 0 where
  pub maker : IsMakerFor I m
  pub plain_tame : AreTame I m.plain
  pub plain_risen : IsAscended I path m.plain m.plain
  pub is_plain : IsPlainAscent I path m.plain
  pub plain_bound : m.plain_bound ≡ bound_of I path m.plain
  pub hint : m.hint ≡ tight_sites I path m.plain
  pub best_risen : HasAscended I path m.best
  pub form : m.best.duals.form ≡ Prices
  pub bound : m.bound ≡ bound_of I path m.best.duals
  pub scale : IsMadeScale I m.best.duals.q
  pub above : IsAtLeast (bound_of I path m.best.duals) m.best.duals.q (bound_of I path m.plain) m.plain.q
  pub replaced : old.form ≡ Prices → AreTame I old → IsMadeScale I old.q → IsAtLeast (bound_of I path m.best.duals) m.best.duals.q (bound_of I old_path old) old.q

-- it is making below some leaf
abbrev pub Makes : Instance → Path → Making → Type 0
Makes I path m = (old_path : Path) × (old : Duals) × IsMaking I old_path old path m

-- whatever leaf is replaced, what was making is so afterwards, and the bound of the best duals is no lower
pub record StaysMaking (I : Instance) (path : Path) (old new : Making) : Type 0 where
  pub making : (old_path : Path) → (replaced : Duals) → IsMaking I old_path replaced path old → IsMaking I old_path replaced path new
  pub risen : IsAtLeast (bound_of I path new.best.duals) new.best.duals.q (bound_of I path old.best.duals) old.best.duals.q
