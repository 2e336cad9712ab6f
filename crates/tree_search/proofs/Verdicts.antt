-- What is decided on a leaf that is worked, and what is shown of it.
use Rattle.std.proofs.Common.{◌≡◌, ℕ, ◌≤◌, Bool, sym, subst, inl, inr, arith, [], Option, Some, None, IfSome}
use Rattle.std.specs.Prelude.{IfNone, IsTrue, IsSomeAnd, ℤ}
use Rattle.location_terms.specs.Instance.{Instance, IsValid}
use Rattle.location_terms.specs.Plan.{Plan, cost_of}
use Rattle.location_terms.specs.Box.{Path}
use Rattle.location_terms.specs.declared.form.LeafForm.TheVariants.{Prices}
use Rattle.location_terms.specs.Bound.{Duals, bound_of}
use Rattle.location_terms.specs.Fit.{BoundCloses}
use Rattle.location_terms.specs.Leaf.{leaf_bound}
use Rattle.dual_value.specs.Prepared.{Prepared}
use Rattle.dual_value.specs.Scales.{IsAtLeast}
use Rattle.dual_adjust.specs.Slackness.{tight_sites}
use Rattle.plan_search.specs.InBox.{IsPathOf, IsNoWorse}
use Rattle.plan_search.specs.Packed.{packed}
use Rattle.location_terms.specs.declared.split.Split.{Split}
use Rattle.tree_search.specs.Made.{IsMadeByPrices, NeedsSplit, IsOpenSplit}
use Rattle.tree_search.specs.Rays.{IsRayIn, IsRayless}
use Rattle.tree_search.specs.Making.{Making, LowersNone, IsMaking, StaysMaking}
use Rattle.tree_search.specs.Answer.{cost_in}
use Rattle.tree_search.specs.Working.{ClosesWith, IsSoughtAt, IsSettled, IsPressed, IsClosingLeaf, IsVerdict, IsWorked}
use Rattle.tree_search.proofs.Closer.{closes_at_least, closes_no_worse, closes_still, sought_still}
use Rattle.tree_search.proofs.Comparing.{at_least_trans}
use Rattle.tree_search.proofs.MadeLeaf.{by_prices, made_by_prices, made_closing, made_ray}
use Rattle.tree_search.proofs.Offered.{closed_sought}
use Rattle.tree_search.proofs.Settled.{settled}

module _ (I : Instance) (path : Path) where
  pub verdict_on : (d : Duals) (plan : Option Plan) (may_split : Bool) (split : Option Split) → (1 ≤ d.q → IsSoughtAt I plan path d) → IsTrue may_split → (ClosesWith I plan path d → ⊥) → IfSome split (IsOpenSplit I path) → IfNone split (IsSettled I path) → IsVerdict I plan may_split path d split
  verdict_on d plan may_split None sought may unclosed some none = record { sought = sought; whole = λ e. inr (inr none); halved = tt }
  verdict_on d plan may_split (Some s) sought may unclosed some none = record { sought = sought; whole = λ e. cc; halved = (unclosed, may, some) }

  no_worse_some : (plan : Option Plan) (P : Plan) → IsSomeAnd plan (λ Q. cost_of I Q ≤ cost_of I P) → IsNoWorse I plan (Some P)
  no_worse_some None P h = absurd h
  no_worse_some (Some Q) P h = h

  open_target : (bound : ℤ) (q : ℕ) (target : Option ℕ) → (BoundCloses bound q target → ⊥) → IfSome target (λ T. BoundCloses bound q (Some T) → ⊥)
  open_target bound q None fails = tt
  open_target bound q (Some T) fails = fails

  closes_in_form : (x : Making) → x.best.duals.form ≡ Prices → (target : Option ℕ) → BoundCloses (bound_of I path x.best.duals) x.best.duals.q target → BoundCloses (leaf_bound I path x.best.duals) x.best.duals.q target
  closes_in_form x is target closes = subst (λ b. BoundCloses b x.best.duals.q target) (sym (by_prices I path x.best.duals is)) closes

  closes_by_prices : (x : Making) → x.best.duals.form ≡ Prices → (target : Option ℕ) → BoundCloses (leaf_bound I path x.best.duals) x.best.duals.q target → BoundCloses (bound_of I path x.best.duals) x.best.duals.q target
  closes_by_prices x is target closes = subst (λ b. BoundCloses b x.best.duals.q target) (by_prices I path x.best.duals is) closes

  -- A leaf that was pressed and then settled.
  module _ (valid : IsValid I) (known : IsPathOf I path) (rayless : IsRayless I path) where
    module _ (m m' m'' : Making) (old_path : Path) (old : Duals) (making : IsMaking I old_path old path m) (first : StaysMaking I path m m') (second : StaysMaking I path m' m'') (plan plan' : Option Plan) (later : IsNoWorse I plan' plan) (pressed : IsPressed I plan path m.plain m'.best.duals) where
      making' : IsMaking I old_path old path m'
      making' = first.making old_path old making

      making'' : IsMaking I old_path old path m''
      making'' = second.making old_path old making'

      -- what the plain ascent closes the best duals close
      plain_closes : (target : Option ℕ) → BoundCloses (bound_of I path m.plain) m.plain.q target → BoundCloses (leaf_bound I path m''.best.duals) m''.best.duals.q target
      plain_closes target closes =
          let bound : Duals → ℤ = bound_of I path in
          let so_far : IsAtLeast (bound m'.best.duals) m'.best.duals.q (bound m.plain) m.plain.q =
          at_least_trans (bound m'.best.duals) (bound m.best.duals) (bound m.plain) m'.best.duals.q m.best.duals.q m.plain.q making.best_risen.tame.scaled first.risen making.above in
          closes_in_form m'' making''.form target
          (closes_at_least (bound m''.best.duals) (bound m.plain) m''.best.duals.q m.plain.q target making''.best_risen.tame.scaled making.plain_tame.scaled
          (at_least_trans (bound m''.best.duals) (bound m'.best.duals) (bound m.plain) m''.best.duals.q m'.best.duals.q m.plain.q making'.best_risen.tame.scaled second.risen so_far)
          closes)

      -- where the plain ascent closes against what is packed, the best duals close
      packed_closes : (P : Plan) → packed I path (tight_sites I path m.plain) ≡ Some P → BoundCloses (bound_of I path m.plain) m.plain.q (Some (cost_of I P)) → ClosesWith I plan' path m''.best.duals
      packed_closes P is closes =
          elim pressed [
            | inl closed ↦
                closes_still I path plan' plan later m''.best.duals
                (closes_in_form m'' making''.form (cost_in I plan)
                (closes_at_least (bound_of I path m''.best.duals) (bound_of I path m'.best.duals) m''.best.duals.q m'.best.duals.q (cost_in I plan) making''.best_risen.tame.scaled making'.best_risen.tame.scaled second.risen
                (closes_by_prices m' making'.form (cost_in I plan) closed)))
            | inr sought ↦
                closes_no_worse I (leaf_bound I path m''.best.duals) m''.best.duals.q plan' (Some P) (no_worse_some plan' P (sought_still I path plan' plan later m.plain sought P is))
                (plain_closes (Some (cost_of I P)) closes)
          ]

      open_box : (ClosesWith I plan' path m''.best.duals → ⊥) → (handed : Option Plan) → IsNoWorse I plan' handed → NeedsSplit I (cost_in I handed) path
      open_box unclosed handed no_worse = record {
        served = rayless.served;
        ascent = m.plain;
        is_plain = making.is_plain;
        target_open = open_target (bound_of I path m.plain) m.plain.q (cost_in I handed)
            (λ closes. unclosed (closes_no_worse I (leaf_bound I path m''.best.duals) m''.best.duals.q plan' handed no_worse (plain_closes (cost_in I handed) closes)));
        packed_open = λ P is closes. unclosed (packed_closes P is closes);
      }

      halved_on : (may_split : Bool) (split : Option Split) → IfSome split (λ s. (ClosesWith I plan' path m''.best.duals → ⊥) × IsTrue may_split × IsOpenSplit I path s)
          → IfSome split (λ s. IsTrue may_split × IsOpenSplit I path s × ((handed : Option Plan) → IsNoWorse I plan' handed → NeedsSplit I (cost_in I handed) path))
      halved_on may_split None h = tt
      halved_on may_split (Some s) h = (h.1, h.2, open_box h.0)

      pub worked_from : (may_split : Bool) (split : Option Split) (replaced : Duals) → IsVerdict I plan' may_split path m''.best.duals split → ((path' : Path) → LowersNone I path' path → IsMadeByPrices I path' replaced path m''.best.duals) → IsWorked I plan' may_split replaced path m''.best.duals split
      worked_from may_split split replaced verdict made = record {
        made = λ path' lowers. made_by_prices I path m''.best.duals path' replaced (cost_in I plan') making''.form (made path' lowers);
        sought = verdict.sought;
        whole = λ none. elim (verdict.whole none) [
          | inl closes ↦ inl closes
          | inr left ↦ elim left [
            | inl must ↦ inr must
            | inr nothing ↦
                let end = settled I path valid known rayless nothing m.plain making.is_plain (tight_sites I path m.plain) in
                inl (packed_closes end.0 end.1 end.2)
          ]
        ];
        halved = halved_on may_split split verdict.halved;
      }

-- in the box as it is named
pub worked_in : (b : Prepared) (J I : Instance) (path : Path) (plan : Option Plan) (may_split : Bool) (old d : Duals) (split : Option Split) → b ≡ record { instance = J; path = path } → J ≡ I → IsWorked b.instance plan may_split old b.path d split → IsWorked I plan may_split old path d split
worked_in b J I path plan may_split old d split is same worked =
    let at : IsWorked J plan may_split old path d split = subst (λ (x : Prepared). IsWorked x.instance plan may_split old x.path d split) is worked in
    subst (λ x. IsWorked x plan may_split old path d split) same at

-- a box that a ray closes
pub ray_worked : (I : Instance) (path : Path) (plan : Option Plan) (may_split : Bool) (old d : Duals) → IsRayIn I path d → IsWorked I plan may_split old path d None
ray_worked I path plan may_split old d ray = record {
  made = λ old_path lowers. ray.made (cost_in I plan) old_path old;
  sought = λ scaled. absurd (omega (arith, scaled, ray.scale));
  whole = λ none. inl (inl (ray.scale, made_ray I path d [] old (cost_in I plan) (ray.made (cost_in I plan) [] old) ray.scale));
  halved = tt;
}

-- a box that whole knapsacks or a ray close
pub closing_worked : (I : Instance) (path : Path) (plan : Option Plan) (may_split : Bool) (old d : Duals) → IsValid I → IsPathOf I path → IsClosingLeaf I plan path d → IsWorked I plan may_split old path d None
closing_worked I path plan may_split old d valid known closing = record {
  made = λ old_path lowers. made_closing I path d old_path old (cost_in I plan) closing.form closing.closes;
  sought = closed_sought I path d plan valid known closing.closes.fit.numbers.of_instance closing.closes.closed;
  whole = λ none. inl closing.closes.closed;
  halved = tt;
}
