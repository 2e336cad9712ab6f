-- The lists of the customers while they are made and while they get more room, and what they are in the end.
use Rattle.std.proofs.Common.{◌≡◌, ℕ, ◌+◌, ◌-◌, ◌<◌, ◌≤◌, suc, inl, inr, ◌∷◌, ◌++◌, List, [], map, length, take, drop, vec_len, vec_capacity, All, AllPairs, get_or, refl, sym, ap, subst, ◌∙◌, arith}
use Rattle.std.proofs.lemmas.Bool.{cases_eq}
use Rattle.std.proofs.lemmas.List.{length-map, take-append-le, take_all, get_or-map, get_or_push, get_or_append_left}
use Rattle.std.proofs.lemmas.List.Elements.{All-nil}
use Rattle.std.specs.List.Sorted.{IsStrictlyIncreasing}
use Rattle.location_terms.specs.Instance.{Instance, IsValid, customer_at, site_ids}
use Rattle.location_terms.proofs.Places.{length-site_ids}
use Rattle.lane_order.specs.declared.order.LaneOrder.TheInside.{Inside}
use Rattle.lane_order.specs.Order.{Order, AreLanesTo, IsOrderOf, lanes_to}
use Rattle.lane_order.specs.Placed.{named}
use Rattle.lane_order.specs.Listed.{Listed, IsPlacedBefore, IsList, IsFresh}
use Rattle.lane_order.specs.declared.order.PlacedLane.{PlacedLane}
use Rattle.lane_order.specs.Grown.{HaveGrown}
use Rattle.lane_order.specs.Stored.{stored_order, IsStored}
use Rattle.lane_order.specs.Building.{AreSortedLanes, AreListsOf}
use Rattle.lane_order.proofs.Ranked.{lanes_known, lanes_ascend, AreLanesTo-sorted}

-- the list of one more customer
pub one_more_list : (I : Instance) (j : ℕ) (lists more : List Listed) (list : Listed) → length lists ≡ j → ((k : ℕ) (d : Listed) → k < j → AreSortedLanes I k (get_or lists k d).lanes) → AreSortedLanes I j list.lanes
    → more ≡ lists ++ list ∷ [] → (k : ℕ) (d : Listed) → k < j + 1 → AreSortedLanes I k (get_or more k d).lanes
one_more_list I j lists more list count each one is k d below =
    subst (λ ls. AreSortedLanes I k (get_or ls k d).lanes) (sym is) (elim (cases_eq k j) [
      | inl same ↦
          subst (λ (p : ℕ × Listed). AreSortedLanes I p.0 p.1.lanes) (λ m. (sym same m, sym (get_or_push lists list d k (count ∙ sym same)) m)) one
      | inr other ↦
          let early : k < j = omega (arith, other, below) in
          subst (λ (l : Listed). AreSortedLanes I k l.lanes) (sym (get_or_append_left lists (list ∷ []) d k (omega (arith, early, count)))) (each k d early)
    ])

-- lists of an instance's customers, with the ids of its sites, are its order
module _ (a : Inside) (I : Instance) (ids : a.site_ids.items ≡ site_ids I) (of : AreListsOf I a.lists.items) where
  each_list : a.spare ≡ 0 → All (IsList (length a.site_ids.items) a.spare) a.lists.items
  each_list none = λ k d below.
      let list = get_or a.lists.items k d in
      let sorted = of.each k d (omega (arith, below, of.count)) in
      record {
        known = λ m e within. omega (arith, lanes_known I k list.lanes sorted m e within, ap length ids, length-site_ids I);
        ascending = λ i m e before within. lanes_ascend I k list.lanes sorted i m e before within;
        room = omega (arith, none);
      }

  pub IsStored-lists : IsValid I → a.spare ≡ 0 → a.fresh.items ≡ [] → IsStored a
  IsStored-lists valid none empty = record {
    rising = subst IsStrictlyIncreasing (sym ids) valid.sites_named.rising;
    few = omega (arith, ap length ids, length-site_ids I, valid.sizes.few_sites);
    lists = each_list none;
    fresh = subst (All (IsFresh (length a.site_ids.items + a.spare))) (sym empty) (All-nil (IsFresh (length a.site_ids.items + a.spare)));
    site_room = omega (arith, none);
    list_room = omega (arith, none);
    fresh_room = omega (arith, none);
  }

  pub IsOrderOf-lists : IsValid I → IsOrderOf (stored_order a) I
  IsOrderOf-lists valid =
      let seen = λ (l : Listed). map (named a.site_ids.items) l.lanes in
      let none : Listed = record { lanes = []; spare = 0 } in
      record {
        same_sites = ids;
        same_count = length-map a.lists.items seen ∙ of.count;
        each = λ j within.
            let l = get_or a.lists.items j none in
            let lanes : AreLanesTo I (customer_at I j).id (map (named (site_ids I)) l.lanes) = AreLanesTo-sorted I j l.lanes (of.each j none within) valid.sites_named.rising valid in
            subst (AreLanesTo I (customer_at I j).id) (ap (λ ns. map (named ns) l.lanes) (sym ids) ∙ sym (get_or-map seen a.lists.items j none [] (omega (arith, within, of.count)))) lanes;
      }

-- the list of a customer, as a clause sees it
module _ (a : Inside) (stored : IsStored a) (order : Order) (view : stored_order a ≡ order) (j : ℕ) (l : Listed) (within : j < length order.lanes) (item : l ≡ get_or a.lists.items j l) where
  pub list-inside : j < length a.lists.items
  list-inside = omega (arith, within, length-map a.lists.items (λ (x : Listed). map (named a.site_ids.items) x.lanes), ap (λ (o : Order). length o.lanes) view)

  pub sites-seen : a.site_ids.items ≡ order.sites
  sites-seen = ap (λ (o : Order). o.sites) view

  pub rising-seen : IsStrictlyIncreasing order.sites
  rising-seen = subst IsStrictlyIncreasing sites-seen stored.rising

  is_list : IsList (length a.site_ids.items) a.spare l
  is_list = subst (IsList (length a.site_ids.items) a.spare) (sym item) (stored.lists j l list-inside)

  pub list-seen : map (named order.sites) l.lanes ≡ lanes_to order j
  list-seen =
      ap (λ ns. map (named ns) l.lanes) (sym sites-seen) ∙ ap (λ (x : Listed). map (named a.site_ids.items) x.lanes) item
      ∙ sym (get_or-map (λ (x : Listed). map (named a.site_ids.items) x.lanes) a.lists.items j l [] list-inside) ∙ ap (λ (o : Order). lanes_to o j) view

  pub known-seen : All (λ lane. lane.site < length order.sites) l.lanes
  known-seen = subst (λ (ns : List ℕ). All (λ lane. lane.site < length ns) l.lanes) sites-seen is_list.known

  pub ascending-seen : AllPairs IsPlacedBefore l.lanes
  ascending-seen = is_list.ascending

-- more room leaves the lanes
pub grown_lanes : (f : List PlacedLane → List (ℕ × ℕ)) (old new : List Listed) → HaveGrown old new → map (λ l. f l.lanes) new ≡ map (λ l. f l.lanes) old
grown_lanes f [] [] grown = refl
grown_lanes f [] (y ∷ ys) grown = absurd (omega (arith, grown.count))
grown_lanes f (x ∷ xs) [] grown = absurd (omega (arith, grown.count))
grown_lanes f (x ∷ xs) (y ∷ ys) grown =
    let first : y.lanes ≡ x.lanes = (grown.each 0 x (omega arith)).lanes in
    let rest = grown_lanes f xs ys (record { count = omega (arith, grown.count); each = λ j d b. grown.each (suc j) d (omega (arith, b)) }) in
    (λ k. f (first k) ∷ rest k)

-- a list that is written whole into the room of one that is as long
pub written_whole : {X : Type 0} (old new : List X) (n : ℕ) → n ≡ length old → length new ≡ length old → take n (new ++ drop (length new) old) ≡ new
written_whole old new n room long = take-append-le n new (drop (length new) old) (omega (arith, room, long)) ∙ take_all n new (omega (arith, room, long))

-- an order with more room
module _ (a : Inside) (stored : IsStored a) (new : List Listed) (grown : HaveGrown a.lists.items new) where
  pub lanes_kept : (ids : List ℕ) (order : Order) → ids ≡ a.site_ids.items → stored_order a ≡ order → map (λ l. map (named ids) l.lanes) new ≡ order.lanes
  lanes_kept ids order same view =
      ap (λ ns. map (λ (l : Listed). map (named ns) l.lanes) new) same ∙ grown_lanes (map (named a.site_ids.items)) a.lists.items new grown ∙ ap (λ (o : Order). o.lanes) view

  pub room_kept : All (λ l. a.spare ≤ l.spare) new
  room_kept k d below = let within : k < length a.lists.items = omega (arith, below, grown.count) in omega (arith, (stored.lists k d within).room, (grown.each k d within).room)

  lists_wide : (spare : ℕ) → All (λ l. spare ≤ l.spare) new → All (IsList (length a.site_ids.items) spare) new
  lists_wide spare there k d below =
      let within : k < length a.lists.items = omega (arith, below, grown.count) in
      let more = grown.each k d within in
      let was = stored.lists k d within in
      record {
        known = subst (All (λ lane. lane.site < length a.site_ids.items)) (sym more.lanes) was.known;
        ascending = subst (AllPairs IsPlacedBefore) (sym more.lanes) was.ascending;
        room = there k d below;
      }

  pub IsStored-wide : (b : Inside) → b.site_ids.items ≡ a.site_ids.items → b.lists.items ≡ new → All (λ l. b.spare ≤ l.spare) new → All (IsFresh (length a.site_ids.items + b.spare)) b.fresh.items
      → b.spare ≤ vec_capacity b.site_ids - vec_len b.site_ids → b.spare ≤ vec_capacity b.lists - vec_len b.lists → b.spare ≤ vec_len b.fresh → IsStored b
  IsStored-wide b ids are wide fresh site_room list_room fresh_room = record {
    rising = subst IsStrictlyIncreasing (sym ids) stored.rising;
    few = omega (arith, ap (λ (xs : List ℕ). length xs) ids, stored.few);
    lists = subst (λ (p : List ℕ × List Listed). All (IsList (length p.0) b.spare) p.1) (λ k. (sym ids k, sym are k)) (lists_wide b.spare wide);
    fresh = subst (λ (ns : List ℕ). All (IsFresh (length ns + b.spare)) b.fresh.items) (sym ids) fresh;
    site_room = site_room;
    list_room = list_room;
    fresh_room = fresh_room;
  }

-- empty lists with more room
pub fresh_grown : (old new : List Listed) → HaveGrown old new → (room : ℕ) → All (IsFresh room) old → All (IsFresh room) new
fresh_grown old new grown room fresh = λ k d b.
    let was = fresh k d (omega (arith, b, grown.count)) in
    let more = grown.each k d (omega (arith, b, grown.count)) in
    record { empty = more.lanes ∙ was.empty; room = omega (arith, was.room, more.room) }

pub fresh_wide : (old new : List Listed) → HaveGrown old new → (lanes : ℕ) → All (λ l. lanes ≤ l.spare) new → All (IsFresh 0) old → All (IsFresh lanes) new
fresh_wide old new grown lanes wide fresh = λ k d b.
    let was = fresh k d (omega (arith, b, grown.count)) in
    let more = grown.each k d (omega (arith, b, grown.count)) in
    record { empty = more.lanes ∙ was.empty; room = wide k d b }

-- what holds of the lists with more room holds of those that are written back
pub written : (Q : List Listed → Type 0) (old start new : List Listed) (n : ℕ) → start ≡ old → length start ≡ n → HaveGrown start new → (HaveGrown old new → Q new) → Q (take n (new ++ drop (length new) old))
written Q old start new n is long more holds =
    let grown : HaveGrown old new = subst (λ xs. HaveGrown xs new) is more in
    subst Q (sym (written_whole old new n (sym long ∙ ap length is) grown.count)) (holds grown)

-- room for more is room for less
pub fresh_less : (more less : ℕ) (lists : List Listed) → less ≤ more → All (IsFresh more) lists → All (IsFresh less) lists
fresh_less more less lists fewer fresh = λ k d b. let was = fresh k d b in record { empty = was.empty; room = omega (arith, was.room, fewer) }
