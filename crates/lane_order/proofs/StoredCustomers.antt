-- A stored order to which a customer has come.
use Rattle.std.proofs.Common.{◌≡◌, ℕ, ◌<◌, ◌≤◌, inl, inr, List, [], ◌∷◌, ◌++◌, map, insert, length, Option, All, get_or, slice_index, refl, sym, ap, subst, ◌∙◌, arith}
use Rattle.std.proofs.lemmas.Bool.{cases_eq}
use Rattle.std.proofs.lemmas.List.{length_push, get_or_push, get_or_append_left}
use Rattle.std.proofs.lemmas.List.Edits.{length-insert, get_or-insert_at}
use Rattle.location_terms.specs.Instance.{Instance, IsValid, site_ids, lane}
use Rattle.location_terms.proofs.Places.{length-site_ids, slice_index-site_ids}
use Rattle.lane_order.specs.Order.{AreLanesTo}
use Rattle.lane_order.specs.Placed.{named}
use Rattle.lane_order.specs.Listed.{Listed, IsFresh, IsFilled, IsLaneFrom, place_up, place_down}
use Rattle.lane_order.specs.Changed.{HasCustMore}
use Rattle.lane_order.proofs.Skipped.{up-down, down-within, get_or-insert_up}
use Rattle.lane_order.proofs.Sites.{lanes_from_places}

pub all_insert : (P : Listed → Type 0) (xs : List Listed) (place : ℕ) (y : Listed) → place ≤ length xs → All P xs → P y → All P (insert xs place y)
all_insert P xs place y inside all one k d b =
    elim (cases_eq k place) [
      | inl same ↦ subst P (sym (ap (λ n. get_or (insert xs place y) n d) same ∙ get_or-insert_at xs place y d inside)) one
      | inr other ↦
          let i = place_down place k in
          let back : place_up place i ≡ k = up-down place k other in
          let early : i < length xs = down-within place k (length xs) inside (omega (arith, b, length-insert xs place y inside)) other in
          subst P (sym (ap (λ n. get_or (insert xs place y) n d) (sym back) ∙ get_or-insert_up place xs d y i inside)) (all i d early)
    ]

-- the list that is taken, and those that are left
pub last_fresh : (n : ℕ) (old left : List Listed) (l : Listed) → old ≡ left ++ l ∷ [] → All (IsFresh n) old → IsFresh n l
last_fresh n old left l is all =
    let ours = subst (All (IsFresh n)) is all in
    subst (IsFresh n) (get_or_push left l l (length left) refl) (ours (length left) l (omega (arith, length_push left l)))

pub left_fresh : (n : ℕ) (old left : List Listed) (l : Listed) → old ≡ left ++ l ∷ [] → All (IsFresh n) old → All (IsFresh n) left
left_fresh n old left l is all k d b =
    let ours = subst (All (IsFresh n)) is all in
    subst (IsFresh n) (get_or_append_left left (l ∷ []) d k b) (ours k d (omega (arith, b, length_push left l)))

pub filled_lanes : (I J : Instance) (place c : ℕ) (row : List (Option ℕ)) (old l : Listed) → IsValid J → HasCustMore I J place c row → length row ≡ length (site_ids I) → IsFilled row old l → AreLanesTo J c (map (named (site_ids J)) l.lanes)
filled_lanes I J place c row old l valid more long filled =
    let same : length (site_ids J) ≡ length row = ap (λ (xs : List ℕ). length xs) more.sites ∙ sym long in
    lanes_from_places J valid c l.lanes (λ k d b. omega (arith, same, filled.known k d b)) filled.ascending (λ i b.
    let within : i < length I.sites = omega (arith, b, same, long, length-site_ids I) in
    let is = ap (λ s. lane J s c) (ap (λ (xs : List ℕ). slice_index xs i) more.sites ∙ slice_index-site_ids I i within) ∙ more.own i within in
    subst (λ (o : Option ℕ). IsLaneFrom i o l.lanes) (sym is) (filled.each i (omega (arith, b, same))))
