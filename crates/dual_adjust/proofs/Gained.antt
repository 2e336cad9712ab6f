-- What trials, rounds and the whole adjustment come to.
use Rattle.std.proofs.Common.{◌≡◌, ℕ, ◌<◌, ◌≤◌, refl, Bool, true, false, sym, ap, subst, ◌∙◌, arith, length, Option, Some, unwrap_or, ℤ, ◌≤ℤ◌, ◌<ℤ◌, None}
use mir.Syntax.{w128}
use mir.Val.{to_z, of_z}
use Rattle.std.specs.Prelude.{int_lt}
use Rattle.std.proofs.lemmas.Int.{ints}
use Rattle.location_terms.specs.Instance.{Instance, IsValid}
use Rattle.location_terms.specs.Box.{Path}
use Rattle.location_terms.specs.Bound.{Duals, v_at, bound_of}
use Rattle.location_terms.specs.Fit.{AreTame}
use Rattle.location_terms.specs.declared.limits.TheConstants.{MAX_VALUE}
use Rattle.dual_value.specs.Prepared.{Prepared}
use Rattle.dual_value.specs.Slacks.{AreSlacks}
use Rattle.dual_value.proofs.Sizes.{kept}
use Rattle.dual_ascent.specs.Levels.{customer_places}
use Rattle.dual_ascent.specs.Ascent.{with_v, IsAscended, IsAscendedApart, IsBlocked}
use Rattle.dual_ascent.specs.Kept.{Keeps}
use Rattle.dual_ascent.specs.Work.{IsWorkFor}
use Rattle.dual_ascent.proofs.Tested.{int_lt-less, int_lt-not}
use Rattle.dual_ascent.proofs.Again.{again}
use Rattle.dual_ascent.proofs.Results.{all_known}
use Rattle.dual_ascent.proofs.Rounds.{one_ascent}
use Rattle.dual_adjust.specs.Slackness.{tight_sites, is_violating}
use Rattle.dual_adjust.specs.Adjustment.{greatest, lowered, IsCandidate, Gains}
use Rattle.dual_adjust.specs.Paid.{levels_below}
use Rattle.dual_adjust.specs.Present.{Present, HasAscended, HaveSamePrices}
use Rattle.dual_adjust.specs.Adjusted.{IsTried, IsTrial, AreTrials, HasGained, IsAdjusted, IsGain}
use Rattle.dual_adjust.proofs.Lowered.{no_gain, lower_level_small, lowered_is_tame, candidate_keeps}
use Rattle.dual_adjust.specs.Stored.{AreAlike}
use Rattle.dual_adjust.specs.declared.trials.Trials.TheInside.{Inside}

module _ (I : Instance) (path : Path) where
  -- what an ascent over all customers leaves
  pub risen_from : (start : Duals) (p : Present) → AreTame I start → IsAscended I path start p.duals → Keeps I path start p.duals → IsBlocked I path p.duals → AreSlacks I path p.duals p.work.slacks → IsWorkFor I p.work → HasAscended I path p
  risen_from start p tame asc keeps blocked slacks work =
      record { tame = keeps.tame; ascended = again I path (customer_places I) (all_known I path) start tame.fit.of_instance.customers p.duals asc; blocked = blocked; slacks = slacks; work = work }

  -- the duals of the trial, a copy of the present ones with the customer's dual lowered
  lowered_from : (d a b : Duals) (j : ℕ) (l : ℤ) → IsValid I → AreTame I d → j < length I.customers → greatest (levels_below I path d j) ≡ Some l → a ≡ d → b ≡ with_v a j (to_z w128 (of_z w128 l)) → b ≡ lowered I path d j
  lowered_from d a b j l valid tame inside is copied set =
      let bits : to_z w128 (of_z w128 l) ≡ l = kept l MAX_VALUE (lower_level_small I path d j valid tame inside l is) (omega arith) in
      let value : unwrap_or (greatest (levels_below I path d j)) (v_at d j) ≡ l = ap (λ (o : Option ℤ). unwrap_or o (v_at d j)) is in
      set ∙ ap (λ (e : Duals). with_v e j (to_z w128 (of_z w128 l))) copied ∙ ap (with_v d j) (bits ∙ sym value)

  -- what comes of it is the customer's candidate
  candidate_from : (d b e : Duals) (j : ℕ) → b ≡ lowered I path d j → (risen : Duals) × IsAscendedApart I path j b risen × IsAscended I path risen e → IsCandidate I path d j e
  candidate_from d b e j is found = (found.0, subst (λ (f : Duals). IsAscendedApart I path j f found.0) is found.1, found.2)

  -- duals and arrays of one instance are stored alike
  pub alike_from : (a : Inside) → AreTame I a.present.duals → AreTame I a.trial.duals → IsWorkFor I a.present.work → IsWorkFor I a.trial.work → AreAlike a
  alike_from a here there work trial_work =
      record {
        customers = there.fit.of_instance.customers ∙ sym here.fit.of_instance.customers;
        sites = there.fit.of_instance.sites ∙ sym here.fit.of_instance.sites;
        slacks = trial_work.slacks ∙ sym work.slacks;
        blockers = trial_work.blockers ∙ sym work.blockers;
      }

  pub tried_again : (p q r : Present) → IsTried I path p q → IsTried I path q r → IsTried I path p r
  tried_again p q r one two =
      record {
        same_prices = record { form = two.same_prices.form ∙ one.same_prices.form; scale = two.same_prices.scale ∙ one.same_prices.scale; count_price = two.same_prices.count_price ∙ one.same_prices.count_price; prices = two.same_prices.prices ∙ one.same_prices.prices };
        risen = two.risen;
      }

  -- after the ascent of the start, and rounds that don't lower the bound
  pub adjusted_from : (rounds : ℕ) (start a : Duals) (p : Present) → IsAscended I path start a → Keeps I path start a → HaveSamePrices a p.duals → HasAscended I path p → bound_of I path a ≤ℤ bound_of I path p.duals
      → (1 ≤ rounds → Gains I path a → bound_of I path a <ℤ bound_of I path p.duals) → IsAdjusted I path rounds start p.duals
  adjusted_from rounds start a p asc keeps prices risen no_lower gains =
      let first = keeps.bound in
      record {
        same_prices = record { form = prices.form ∙ keeps.form; scale = prices.scale ∙ keeps.scale; count_price = prices.count_price ∙ keeps.count_price; prices = prices.prices ∙ keeps.prices };
        tame = risen.tame;
        ascended = risen.ascended;
        blocked = risen.blocked;
        bound = omega (arith, ints, first, no_lower);
        ascent = λ b other. subst (λ (e : Duals). bound_of I path e ≤ℤ bound_of I path p.duals) (one_ascent I path (customer_places I) start a b asc other) no_lower;
        gain = λ b other some gain. let same : a ≡ b = one_ascent I path (customer_places I) start a b asc other in
            subst (λ (e : Duals). bound_of I path e <ℤ bound_of I path p.duals) same (gains some (subst (Gains I path) (sym same) gain));
      }

  -- after the ascent of the start, and trials up to the first that gains
  pub adjusted_once : (start a : Duals) (p : Present) (found : Option ℕ) → IsAscended I path start a → Keeps I path start a → HaveSamePrices a p.duals → HasAscended I path p → AreTrials I path a p.duals 0 found → IsAdjusted I path 1 start p.duals
  adjusted_once start a p None asc keeps prices risen trials =
      let same : bound_of I path p.duals ≡ bound_of I path a = ap (bound_of I path) trials.0 in
      adjusted_from 1 start a p asc keeps prices risen (omega (arith, ints, same)) (λ _ gain. absurd (no_gain I path a (λ j c. trials.1 j (omega arith) c) gain))
  adjusted_once start a p (Some next) asc keeps prices risen trials =
      let greater = trials.2.greater in
      adjusted_from 1 start a p asc keeps prices risen (omega (arith, ints, greater)) (λ _ _. greater)

-- a trial: the present duals are copied, the customer's dual falls to the greatest level below it, and the duals rise again
module _ (I : Instance) (path : Path) (old p : Present) (same : p ≡ old) (risen : HasAscended I path old) where
  pub has_ascended : HasAscended I path p
  has_ascended = subst (HasAscended I path) (sym same) risen

  module _ (valid : IsValid I) (j : ℕ) (within : j < length I.customers) (violating : is_violating I path p.duals (tight_sites I path p.duals) j ≡ true) (l : ℤ) (is : greatest (levels_below I path p.duals j) ≡ Some l) (copied set : Duals) (copy : copied ≡ p.duals) (falls : set ≡ with_v copied j (to_z w128 (of_z w128 l))) where
    has_fallen : set ≡ lowered I path p.duals j
    has_fallen = lowered_from I path p.duals copied set j l valid has_ascended.tame within is copy falls

    pub fallen_tame : AreTame I set
    fallen_tame = subst (AreTame I) (sym has_fallen) (lowered_is_tame I path p.duals j valid has_ascended.tame within)

    module _ (new : Present) (found : (r : Duals) × IsAscendedApart I path j set r × IsAscended I path r new.duals) where
      candidate : IsCandidate I path p.duals j new.duals
      candidate = candidate_from I path p.duals set new.duals j has_fallen found

      pub tried_from : HasAscended I path new → IsTried I path old new
      tried_from ascended =
          let stays = candidate_keeps I path p.duals j valid has_ascended.tame within new.duals candidate in
          subst (λ (q : Present). IsTried I path q new) same (record { same_prices = record { form = stays.0; scale = stays.1; count_price = stays.2; prices = stays.3 }; risen = ascended })

      -- by the test of the code, which has the bound of the present duals
      module _ (bound : ℤ) (size : to_z w128 (of_z w128 bound) ≡ bound) (bound_is : bound ≡ bound_of I path old.duals) where
        tested : (t : Bool) → int_lt (to_z w128 (of_z w128 bound)) (bound_of I path new.duals) ≡ t → int_lt (bound_of I path p.duals) (bound_of I path new.duals) ≡ t
        tested t test = subst (λ b. int_lt b (bound_of I path new.duals) ≡ t) (size ∙ bound_is ∙ ap (λ (q : Present). bound_of I path q.duals) (sym same)) test

        pub trial_fails : int_lt (to_z w128 (of_z w128 bound)) (bound_of I path new.duals) ≡ false → IsTrial I path old.duals p.duals j false
        trial_fails test =
            let trial : IsTrial I path p.duals p.duals j false = (refl, λ _. (new.duals, candidate, int_lt-not (bound_of I path p.duals) (bound_of I path new.duals) (tested false test))) in
            subst (λ (q : Present). IsTrial I path q.duals p.duals j false) same trial

        pub trial_gains : int_lt (to_z w128 (of_z w128 bound)) (bound_of I path new.duals) ≡ true → HasGained I path old.duals new.duals
        trial_gains test =
            let greater = int_lt-less (bound_of I path p.duals) (bound_of I path new.duals) (tested true test) in
            let gains : Gains I path p.duals = record { customer = j; within = within; violating = violating; candidate = new.duals; is_candidate = candidate; greater = greater } in
            subst (λ (q : Present). HasGained I path q.duals new.duals) same (record { gains = gains; greater = greater })

-- a search for the first step that gains, from duals that are their own ascent, in the prepared box
module _ (I : Instance) (path : Path) (b : Prepared) (same_box : b ≡ (let box : Prepared = record { instance = I; path = path } in box)) (d s : Duals) (same_start : s ≡ d) (own : IsAscended I path d d) (old : Present) (asc : IsAscended b.instance b.path s old.duals) where
  is_start : old.duals ≡ d
  is_start =
      let from_start : IsAscended b.instance b.path d old.duals = subst (λ (x : Duals). IsAscended b.instance b.path x old.duals) same_start asc in
      one_ascent I path (customer_places I) d old.duals d (subst (λ (x : Prepared). IsAscended x.instance x.path d old.duals) same_box from_start) own

  trials_from : (e : Duals) (o : Option ℕ) → AreTrials b.instance b.path old.duals e 0 o → AreTrials I path d e 0 o
  trials_from e o trials = subst (λ (x : Duals). AreTrials I path x e 0 o) is_start (subst (λ (x : Prepared). AreTrials x.instance x.path old.duals e 0 o) same_box trials)

  pub no_first_gain : (e : Duals) → AreTrials b.instance b.path old.duals e 0 None → Gains I path d → ⊥
  no_first_gain e trials = no_gain I path d (λ j c. (trials_from e None trials).1 j (omega arith) c)

  pub first_gain : (new : Present) (next : ℕ) → IsTried b.instance b.path old new → AreTrials b.instance b.path old.duals new.duals 0 (Some next) → IsGain I path d new.duals
  first_gain new next tried trials =
      let gained = (trials_from new.duals (Some next) trials).2 in
      let risen : HasAscended I path new = subst (λ (x : Prepared). HasAscended x.instance x.path new) same_box tried.risen in
      let same : HaveSamePrices d new.duals = subst (λ (x : Duals). HaveSamePrices x new.duals) is_start tried.same_prices in
      record { gains = gained.gains; same_prices = same; tame = risen.tame; ascended = risen.ascended; blocked = risen.blocked; greater = gained.greater }
