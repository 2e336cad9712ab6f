-- A `keep` and a later `load`.
use Rattle.std.proofs.Common.{◌≡◌, ◌⊎◌, inl, inr, ℕ, true, cond, List, Option, None, Some, refl, sym, ap, subst, ◌∙◌}
use Rattle.std.proofs.lemmas.Cmp.{nat_list_cmp_total}
use Rattle.std.proofs.lemmas.Slice.Eq.{bytes_eq-Decides}
use Rattle.std.specs.Ordering.{eq_by_cmp, nat_cmp}
use Rattle.std.specs.Cmp.Lexicographic.{slice_cmp, texts_ties}
use Rattle.std.specs.FinMap.{get, insert, get-insert}
use Rattle.scenario_keeper.specs.Scenario.{Scenario}
use Rattle.scenario_keeper.specs.Table.{Finds, Table, with_scenario}
use Rattle.session_lines.specs.Replies.{ok_text}
use Rattle.desk_session.specs.declared.fault.DeskFault.TheVariants.{KeeperFailed}
use Rattle.desk_session.specs.Lines.{Keep, Load}
use Rattle.desk_session.specs.Loaded.{loaded}
use Rattle.desk_session.specs.Reloaded.{CanBeLoaded, IsKeptAndLoaded, TakesUpKept}
use Rattle.desk_session.specs.Replies.{desk_refusal_text}
use Rattle.desk_session.specs.State.{DeskMoment, scenario_of}
use Rattle.desk_session.specs.Step.{DeskDoes, DoesAsAsked, FailsAtKeeper, TakesUp, Loads}
use Rattle.desk_session.proofs.Reloads.{loads_again}

-- what was put under a name stands there
stands_put : (told : Option Table) (name : List ℕ) (what : Scenario) (table : Table) → Some table ≡ with_scenario told name what → get table name ≡ Some what
stands_put None name what table put = cc
stands_put (Some before) name what table put =
    let is : table ≡ insert before name what = cc in
    let same : eq_by_cmp (slice_cmp nat_cmp) name name ≡ true = sym (texts_ties name name) ∙ (bytes_eq-Decides name name).1 refl in
    ap (λ t. get t name) is ∙ get-insert nat_list_cmp_total before name what name ∙ ap (λ b. cond b (Some what) (get before name)) same

module _ (old kept later : DeskMoment) (reply : List ℕ) (new : DeskMoment) (can : CanBeLoaded old.moment.session) (both : IsKeptAndLoaded old kept later reply new) where
  abbrev what : Scenario
  what = scenario_of old.moment.session old.lines

  put : DoesAsAsked (Keep both.name) old ok_text kept ⊎ FailsAtKeeper old ok_text kept → get both.table both.name ≡ Some what
  put (inl done) = stands_put old.keeper.table both.name what both.table (sym both.told ∙ done.table_is)
  put (inr failed) =
      let other : ok_text ≡ desk_refusal_text KeeperFailed = failed.1.reply_is in
      absurd cc

  keeps : DeskDoes (Some (Keep both.name)) both.keep old ok_text kept
  keeps = subst (λ o. DeskDoes o both.keep old ok_text kept) both.asks_to_keep both.keeps.does

  found : (o : Option Scenario) → o ≡ Some what → Loads o later reply new → TakesUpKept old later reply new
  found None is done = cc
  found (Some scenario) is done =
      let same : scenario ≡ what = cc in
      let order = both.keeps.before in
      subst (λ due. TakesUp old.lines due later reply new) (loads_again old.moment.session old.lines order.instance can order.lines_of order.present)
      (subst (λ s. TakesUp s.edits (loaded s) later reply new) same done)

  -- what was kept is taken up
  pub takes_up : TakesUpKept old later reply new ⊎ FailsAtKeeper later reply new
  takes_up = by_load (subst (λ o. DeskDoes o both.load later reply new) both.asks_to_load both.loads.does)
    where
      by_load : DoesAsAsked (Load both.name) later reply new ⊎ FailsAtKeeper later reply new → TakesUpKept old later reply new ⊎ FailsAtKeeper later reply new
      by_load (inr failed) = inr failed
      by_load (inl done) =
          let finds : done.0 ≡ get both.table_later both.name = subst (λ told. Finds told both.name done.0) both.told_later done.1 in
          inl (found done.0 (finds ∙ both.stands ∙ put keeps) done.2)
