-- What is left of the sites' capacities while lanes are taken.
use Rattle.std.proofs.Common.{◌≡◌, ℕ, ◌+◌, ◌-◌, ◌<◌, ◌≤◌, true, cond, List, [], ◌∷◌, ◌++◌, map, length, get_or, Option, None, Some, option_map, refl, sym, ap, subst, inl, inr, ◌∙◌, arith}
use Rattle.std.specs.Prelude.{All, ◌&&◌}
use Rattle.std.specs.List.{range_with_len}
use Rattle.std.proofs.Math.ListN.{set}
use Rattle.std.proofs.lemmas.Bool.{leb-true, le-leb, lt-leb, cases_lt, cases_eq, eq-eqb, ne_eqb}
use Rattle.std.proofs.lemmas.List.{length-set, get_or-set_same, get_or-set_other}
use Rattle.std.proofs.lemmas.List.FromFn.{length-map-range_with_len, get_or-map-range_with_len}
use Rattle.location_terms.specs.Instance.{Instance, site_at, customer_at}
use Rattle.location_terms.specs.Box.{Path, is_allowed, holds_demand}
use Rattle.plan_search.specs.Packed.{taken_at, takeable}
use Rattle.plan_search.specs.Packing.{IsRoom, room_at, AreRooms, roomy}
use Rattle.plan_search.proofs.Flagging.{filter_same}
use Rattle.plan_search.proofs.Taken.{taken_push}

whole_room : (cap : Option ℕ) → IsRoom cap 0 cap
whole_room None = refl
whole_room (Some cap) = (cap, refl, omega arith)

pub whole_rooms_are : (I : Instance) (n : ℕ) (rooms : List (Option ℕ)) → n ≡ length I.sites → rooms ≡ map (λ i. (site_at I i).cap) (range_with_len 0 n) → AreRooms I [] rooms
whole_rooms_are I n rooms end is =
    record {
      count = ap length is ∙ length-map-range_with_len (λ i. (site_at I i).cap) 0 n ∙ end;
      each = λ i b.
          let at : room_at rooms i ≡ (site_at I i).cap = ap (λ xs. room_at xs i) is ∙ get_or-map-range_with_len (λ k. (site_at I k).cap) 0 n i i None (omega (arith, b, end)) (omega arith) in
          subst (IsRoom (site_at I i).cap 0) (sym at) (whole_room (site_at I i).cap);
    }

-- what is left holds a demand just where the capacity holds what is taken and the demand
room_holds : (cap : Option ℕ) (taken : ℕ) (room : Option ℕ) (demand : ℕ) → IsRoom cap taken room → holds_demand room demand ≡ holds_demand cap (taken + demand)
room_holds None taken room demand is = ap (λ r. holds_demand r demand) is
room_holds (Some cap) taken room demand is =
    ap (λ r. holds_demand r demand) is.1 ∙ elim (cases_lt is.0 demand) [
      | inl over ↦ lt-leb demand is.0 over ∙ sym (lt-leb (taken + demand) cap (omega (arith, over, is.2)))
      | inr under ↦ le-leb demand is.0 under ∙ sym (le-leb (taken + demand) cap (omega (arith, under, is.2)))
    ]

-- what is left behind one more demand
room_less : (cap : Option ℕ) (taken : ℕ) (room : Option ℕ) (demand : ℕ) → IsRoom cap taken room → holds_demand room demand ≡ true → IsRoom cap (taken + demand) (option_map (λ left. left - demand) room)
room_less None taken room demand is holds = ap (option_map (λ left. left - demand)) is
room_less (Some cap) taken room demand is holds =
    let least : demand ≤ is.0 = leb-true demand is.0 (subst (λ r. holds_demand r demand ≡ true) is.1 holds) in
    (is.0 - demand, ap (option_map (λ left. left - demand)) is.1, omega (arith, least, is.2))

module _ (I : Instance) (taken : List (ℕ × ℕ)) (rooms : List (Option ℕ)) (are : AreRooms I taken rooms) where
  -- the rooms behind one more pair
  pub rooms_less : (j i : ℕ) → i < length I.sites → holds_demand (room_at rooms i) (customer_at I j).demand ≡ true
      → AreRooms I (taken ++ (j, i) ∷ []) (set rooms i (option_map (λ left. left - (customer_at I j).demand) (room_at rooms i)))
  rooms_less j i b holds =
      let demand : ℕ = (customer_at I j).demand in
      let less : Option ℕ = option_map (λ left. left - demand) (room_at rooms i) in
      record {
        count = length-set rooms i less ∙ are.count;
        each = λ k c. elim (cases_eq k i) [
          | inl here ↦
              let more : taken_at I (taken ++ (j, i) ∷ []) i ≡ taken_at I taken i + demand = taken_push I taken (j, i) i ∙ ap (λ t. taken_at I taken i + cond t demand 0) (eq-eqb i i refl) in
              subst (λ n. IsRoom (site_at I n).cap (taken_at I (taken ++ (j, i) ∷ []) n) (room_at (set rooms i less) n)) (sym here)
              (subst (λ (p : ℕ × Option ℕ). IsRoom (site_at I i).cap p.0 p.1) (λ n. (sym more n, sym (get_or-set_same rooms i less None (omega (arith, b, are.count))) n)) (room_less (site_at I i).cap (taken_at I taken i) (room_at rooms i) demand (are.each i b) holds))
          | inr other ↦
              let same : taken_at I (taken ++ (j, i) ∷ []) k ≡ taken_at I taken k =
              taken_push I taken (j, i) k ∙ ap (λ t. taken_at I taken k + cond t demand 0) (ne_eqb i k (λ e. other (sym e))) ∙ omega arith in
              subst (λ (p : ℕ × Option ℕ). IsRoom (site_at I k).cap p.0 p.1) (λ n. (sym same n, sym (get_or-set_other rooms i k less None other) n)) (are.each k c)
        ];
      }

  -- the sites with room are those that are takeable
  pub roomy_is : (path : Path) (sites : List ℕ) (j : ℕ) → All (λ i. i < length I.sites) sites → roomy I path sites rooms j ≡ takeable I path sites taken j
  roomy_is path sites j below =
      filter_same (λ i. is_allowed I path (site_at I i) (customer_at I j) && holds_demand (room_at rooms i) (customer_at I j).demand)
      (λ i. is_allowed I path (site_at I i) (customer_at I j) && holds_demand (site_at I i).cap (taken_at I taken i + (customer_at I j).demand)) sites
      (λ k d b. let i : ℕ = get_or sites k d in ap (λ t. is_allowed I path (site_at I i) (customer_at I j) && t) (room_holds (site_at I i).cap (taken_at I taken i) (room_at rooms i) (customer_at I j).demand (are.each i (below k d b))))
