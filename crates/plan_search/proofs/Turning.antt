-- The customers take their lanes turn by turn.
use Rattle.std.proofs.Common.{◌≡◌, ℕ, ◌+◌, ◌-◌, ◌<◌, ◌≤◌, Bool, true, List, [], ◌∷◌, ◌++◌, map, length, take, get_or, Option, None, Some, option_map, refl, sym, ap, subst, ◌∙◌, arith}
use Rattle.std.specs.Prelude.{All, Contains, ◌&&◌}
use Rattle.std.specs.List.{fold}
use Rattle.std.proofs.Math.ListN.{set}
use Rattle.std.proofs.lemmas.Bool.{and_parts}
use Rattle.std.proofs.lemmas.List.{take_all, get_or-map}
use Rattle.std.proofs.lemmas.List.Elements.{All-contains, All-weaker}
use Rattle.std.proofs.lemmas.List.Folds.{fold_stuck}
use Rattle.std.proofs.lemmas.List.Sums.{fold_more}
use Rattle.location_terms.specs.Instance.{Instance, site_at, customer_at}
use Rattle.location_terms.specs.Box.{Path, is_allowed, holds_demand}
use Rattle.plan_search.specs.Packed.{cheapest, with_lane, taking}
use Rattle.plan_search.specs.Packing.{room_at, AreRooms, roomy}
use Rattle.plan_search.specs.Flags.{is_set, flagged}
use Rattle.plan_search.specs.declared.turns.Turn.{Turn}
use Rattle.plan_search.proofs.Among.{passed}
use Rattle.plan_search.proofs.Flagging.{passing_below}
use Rattle.plan_search.proofs.Picked.{cheapest_among}
use Rattle.plan_search.proofs.Rooms.{roomy_is, rooms_less}

-- what is taken after the first turns
abbrev pub after_turns : Instance → Path → List ℕ → List ℕ → ℕ → Option (List (ℕ × ℕ))
after_turns I path sites js k = fold (taking I path sites) (Some []) (take k js)

module _ (I : Instance) (path : Path) (sites : List ℕ) (below : All (λ i. i < length I.sites) sites) (js : List ℕ) where
  module _ (k j : ℕ) (taken : List (ℕ × ℕ)) (rooms : List (Option ℕ)) (b : k < length js) (at : (d : ℕ) → get_or js k d ≡ j) (so_far : after_turns I path sites js k ≡ Some taken) (are : AreRooms I taken rooms) where
    turn_is : taking I path sites (after_turns I path sites js k) (get_or js k 0) ≡ with_lane taken j (cheapest I j (roomy I path sites rooms j))
    turn_is =
        ap (λ o. taking I path sites o (get_or js k 0)) so_far ∙ ap (taking I path sites (Some taken)) (at 0)
        ∙ ap (λ xs. with_lane taken j (cheapest I j xs)) (sym (roomy_is I taken rooms are path sites j below))

    pub none_takes : None ≡ cheapest I j (roomy I path sites rooms j) → None ≡ fold (taking I path sites) (Some []) js
    none_takes none = fold_stuck (taking I path sites) None (λ _. refl) (Some []) js k 0 b (turn_is ∙ ap (with_lane taken j) (sym none))

    module _ (i : ℕ) (is : Some i ≡ cheapest I j (roomy I path sites rooms j)) where
      pub one_takes : after_turns I path sites js (k + 1) ≡ Some (taken ++ (j, i) ∷ [])
      one_takes = fold_more (taking I path sites) (Some []) js k 0 b ∙ turn_is ∙ ap (with_lane taken j) (sym is)

      may : Contains sites i × ((is_allowed I path (site_at I i) (customer_at I j) && holds_demand (room_at rooms i) (customer_at I j).demand) ≡ true)
      may = passed (λ n. is_allowed I path (site_at I n) (customer_at I j) && holds_demand (room_at rooms n) (customer_at I j).demand) sites i (cheapest_among I j (roomy I path sites rooms j) i (sym is))

      pub site_known : i < length I.sites
      site_known = All-contains (λ n. n < length I.sites) sites i below may.0

      pub site_holds : holds_demand (room_at rooms i) (customer_at I j).demand ≡ true
      site_holds = (and_parts _ _ may.1).1

      -- the pair is taken, and its room
      pub turn_taken : (taken' : List (ℕ × ℕ)) (demand : ℕ) (rooms' : List (Option ℕ)) → demand ≡ (customer_at I j).demand → taken' ≡ taken ++ (j, i) ∷ [] → rooms' ≡ set rooms i (option_map (λ left. left - demand) (room_at rooms i))
          → (after_turns I path sites js (k + 1) ≡ Some taken') × AreRooms I taken' rooms'
      turn_taken taken' demand rooms' asked more less =
          let rooms_are : rooms' ≡ set rooms i (option_map (λ left. left - (customer_at I j).demand) (room_at rooms i)) = less ∙ ap (λ n. set rooms i (option_map (λ left. left - n) (room_at rooms i))) asked in
          (one_takes ∙ ap Some (sym more), subst (λ (p : List (ℕ × ℕ) × List (Option ℕ)). AreRooms I p.0 p.1) (λ n. (sym more n, sym rooms_are n)) (rooms_less I taken rooms are j i site_known site_holds))

  pub all_turns : (k : ℕ) → length js ≤ k → after_turns I path sites js k ≡ fold (taking I path sites) (Some []) js
  all_turns k end = ap (fold (taking I path sites) (Some [])) (take_all k js end)

pub flagged_below : (I : Instance) (flags : List Bool) → length flags ≡ length I.sites → All (λ i. i < length I.sites) (flagged flags)
flagged_below I flags long = All-weaker (λ i. i < length flags) (λ i. i < length I.sites) (λ i b. omega (arith, b, long)) (flagged flags) (passing_below (is_set flags) (length flags))

pub turn_at : (turns : List Turn) (k : ℕ) (e : Turn) → k < length turns → (d : ℕ) → get_or (map (λ t. t.cust) turns) k d ≡ (get_or turns k e).cust
turn_at turns k e b d = get_or-map (λ t. t.cust) turns k e d b
