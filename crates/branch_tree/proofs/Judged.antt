-- The leaves judged one after another, and what the tree shows then.
use Rattle.std.proofs.Common.{◌≡◌, ℕ, refl, sym, ap, subst, ◌∙◌, arith, Bool, true, false, cond, List, [], ◌∷◌, length, drop, min, Option, Some, None}
use Rattle.std.specs.Prelude.{All, IfSome, IfNone, fold, filter, nat_lt, slice_get}
use Rattle.std.proofs.lemmas.List.Elements.{All-cons, All-head, All-tail, All-weaker}
use Rattle.location_terms.specs.Instance.{Instance, IsValid}
use Rattle.location_terms.specs.Optimal.{IsLowEnd, IsImpossible}
use Rattle.location_terms.specs.Box.{Path}
use Rattle.location_terms.specs.Bound.{Duals, AreDualsOf}
use Rattle.location_terms.specs.Fit.{DualsFit}
use Rattle.location_terms.specs.Leaf.{leaf_bound, LeafFits}
use Rattle.location_terms.specs.Tree.{Tree, IsTree, StandsOn, HasLists, leaves_of, AllClose, low_end}
use Rattle.location_terms.proofs.LowEnds.{shows_low_end, shows_impossible}
use Rattle.location_terms.proofs.Places.{length-site_ids, length-customer_ids}
use Rattle.dual_value.specs.declared.fit.RangeFault.{RangeFault}
use Rattle.dual_value.specs.declared.fit.RangeFault.TheVariants.{Scale, Value, Multiplier, NoCapacity}
use Rattle.dual_value.specs.RangeFault.{IsFirstRangeFault}
use Rattle.leaf_bounds.specs.declared.fit.LeafFault.{LeafFault}
use Rattle.leaf_bounds.specs.declared.fit.LeafFault.TheVariants.{Range, Priced, LargeKnapsacks}
use Rattle.leaf_bounds.specs.LeafFault.{IsFirstLeafFault}
use Rattle.branch_tree.specs.Walk.{lowered, lowered_all}

pub no_step : (path : Path) → length path ≡ 0 → path ≡ []
no_step [] h = refl
no_step (d ∷ ds) h = absurd (omega arith)

-- the leaf at hand and those behind it
module _ (P : Path × Duals → Type 0) where
  pub first_has : (ls : List (Path × Duals)) (l : Path × Duals) → slice_get ls 0 ≡ Some l → All P ls → P l
  first_has [] l h all = cc
  first_has (x ∷ xs) l h all = let same : x ≡ l = cc in subst P same (All-head P x xs all)

  pub rest_has : (ls rest : List (Path × Duals)) (l : Path × Duals) → slice_get ls 0 ≡ Some l → rest ≡ drop 1 ls → All P ls → All P rest
  rest_has [] rest l h is all = cc
  rest_has (x ∷ xs) rest l h is all = subst (All P) (sym is) (All-tail P x xs all)

  pub all_have : (ls rest : List (Path × Duals)) (l : Path × Duals) → slice_get ls 0 ≡ Some l → rest ≡ drop 1 ls → P l → All P rest → All P ls
  all_have [] rest l h is first all = cc
  all_have (x ∷ xs) rest l h is first all = let same : x ≡ l = cc in All-cons P x xs (subst P (sym same) first) (subst (All P) is all)

-- none is left
pub none_left : (ls : List (Path × Duals)) → length ls ≡ 0 → ls ≡ []
none_left [] h = refl
none_left (l ∷ ls) h = absurd (omega arith)

pub lower_first : (I : Instance) (ls rest : List (Path × Duals)) (l : Path × Duals) (least : ℕ) → slice_get ls 0 ≡ Some l → rest ≡ drop 1 ls → lowered_all I (lowered I least l) rest ≡ lowered_all I least ls
lower_first I [] rest l least h is = cc
lower_first I (x ∷ xs) rest l least h is = let same : x ≡ l = cc in ap (lowered_all I (lowered I least l)) is ∙ ap (λ y. lowered_all I (lowered I least y) xs) (sym same)

fold_cond : {X Y : Type 0} (f : Y → X → Y) (a : Y) (x : X) (ys : List X) (b : Bool) → fold f a (cond b (x ∷ ys) ys) ≡ fold f (cond b (f a x) a) ys
fold_cond f a x ys true = refl
fold_cond f a x ys false = refl

-- the least over the leaves with a scale, leaf by leaf
pub lowered_is : (I : Instance) (a : ℕ) (ls : List (Path × Duals)) → fold (λ least l. min least (low_end (leaf_bound I l.0 l.1) l.1.q)) a (filter (λ l. nat_lt 0 l.1.q) ls) ≡ lowered_all I a ls
lowered_is I a [] = refl
lowered_is I a (l ∷ ls) =
    fold_cond (λ least l. min least (low_end (leaf_bound I l.0 l.1) l.1.q)) a l (filter (λ l. nat_lt 0 l.1.q) ls) (nat_lt 0 l.1.q)
    ∙ lowered_is I (lowered I a l) ls

pub all_of_instance : (I : Instance) (ls : List (Path × Duals)) → All (λ l. LeafFits I l.1) ls → All (λ l. AreDualsOf I l.1) ls
all_of_instance I ls fit = λ k d b. (fit k d b).numbers.of_instance

-- on an instance's ids, each leaf has its lists
pub lists_on : (I : Instance) (t : Tree) → IsTree t → StandsOn t I → All (λ l. HasLists (length I.sites) (length I.customers) l.1) (leaves_of t)
lists_on I t tree stands =
    All-weaker (λ l. HasLists (length t.sites) (length t.customers) l.1) (λ l. HasLists (length I.sites) (length I.customers) l.1)
    (λ l has. (has.0 ∙ ap length stands.sites ∙ length-site_ids I, has.1 ∙ ap length stands.customers ∙ length-customer_ids I, has.2, has.3)) (leaves_of t) tree.leaves

module _ (I : Instance) (valid : IsValid I) (t : Tree) where
  pub low_end_shown : (target : Option ℕ) → AllClose I t target → IfSome target (IsLowEnd I)
  low_end_shown None h = tt
  low_end_shown (Some T) h = shows_low_end I valid t T h

  pub impossible_shown : (target : Option ℕ) → AllClose I t target → IfNone target (IsImpossible I)
  impossible_shown None h = shows_impossible I valid t h
  impossible_shown (Some T) h = tt

module _ (I : Instance) (d : Duals) where
  out_of_range : (fault : RangeFault) → IsFirstRangeFault I d fault → DualsFit I d → ⊥
  out_of_range Scale first fit = first fit.in_limits.scale
  out_of_range Value first fit = first.1 (fit.in_limits.count_price, fit.in_limits.values)
  out_of_range Multiplier first fit = first.2 fit.in_limits.multipliers
  out_of_range NoCapacity first fit = first.3 fit.of_instance.unpriced

  -- duals with a fault don't fit
  pub unfit : (fault : LeafFault) → IsFirstLeafFault I d fault → LeafFits I d → ⊥
  unfit (Range fault) first fits = out_of_range fault first fits.numbers
  unfit Priced first fits = first.1 fits.prices
  unfit LargeKnapsacks first fits = first.2 fits.knapsacks
