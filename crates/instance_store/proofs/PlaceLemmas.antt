-- The place of an id among ids.
use Rattle.std.proofs.Common.{◌≡◌, ℕ, ◌+◌, ◌<◌, ◌↔◌, ◌==◌, Bool, true, false, cond, nat_eq, nat_lt, List, [], ◌∷◌, ◌++◌, map, length, take, position, Contains, Option, None, Some, IfSome, IsSome, is_some, eqb, slice_index, get_or, refl, sym, ap, ◌∙◌, arith, if◌then◌else◌}
use Rattle.std.proofs.lemmas.Bool.{ne_eqb, eq-eqb, eqb-true, eqb-false, lt-ltb, ltb-false}
use Rattle.std.proofs.lemmas.List.{length-map, get_or-map, get_or_default, get_or-take, take_more, length-take-le}
use Rattle.std.proofs.lemmas.List.Folds.{list_any_none}
use Rattle.std.proofs.lemmas.List.Kept.{AllPairs-from_increasing}
use Rattle.std.proofs.lemmas.List.Quantifiers.{position-Some}
use Rattle.std.proofs.lemmas.List.Sums.{position_or_len_is, fails_before_first}
use Rattle.std.proofs.lemmas.Cmp.{nat_eq_equiv}
use Rattle.std.specs.List.{list_any, position_or_len}
use Rattle.std.specs.List.Sorted.{IsStrictlyIncreasing}
use Rattle.indexmap.specs.IndexSet.{insert_key}
use Rattle.instance_store.specs.Places.{place_of}

-- an id that is the next of ids that rise goes last
pub insert_key-next : (ids : List ℕ) (i : ℕ) → IsStrictlyIncreasing ids → i < length ids → insert_key nat_eq (take i ids) (slice_index ids i) ≡ take (i + 1) ids
insert_key-next ids i rise within =
    let id = slice_index ids i in
    let none : list_any (nat_eq id) (take i ids) ≡ false =
    list_any_none (nat_eq id) (take i ids) (λ k d below.
    let early : k < i = omega (arith, length-take-le i ids) in
    let less = AllPairs-from_increasing ids rise k i 0 early within in
    ne_eqb id (get_or (take i ids) k d) (λ same. omega (arith, less, same, get_or-take i ids k d early, get_or_default ids k d 0 (omega arith)))) in
    ap (λ b. if b then take i ids else take i ids ++ id ∷ []) none ∙ sym (take_more ids i 0 within)

-- a loop's step: the id of the item at i, after the ids of the items before it
pub insert_key-item : {X : Type 0} (id : X → ℕ) (xs : List X) (i : ℕ) (x : X) (keys : List ℕ) → IsStrictlyIncreasing (map id xs) → i < length xs → x ≡ get_or xs i x → keys ≡ take i (map id xs) → insert_key nat_eq keys (id x) ≡ take (i + 1) (map id xs)
insert_key-item id xs i x keys rise within item are =
    let at : id x ≡ slice_index (map id xs) i = ap id item ∙ sym (get_or-map id xs i x 0 within) in
    (λ k. insert_key nat_eq (are k) (at k)) ∙ insert_key-next (map id xs) i rise (omega (arith, within, length-map xs id))

-- the sides of the test may be turned
pub position-turned : (id : ℕ) (ids : List ℕ) → position (nat_eq id) ids ≡ place_of id ids
position-turned id ids = ap (λ (p : ℕ → Bool). position p ids) (λ k x. nat_eq_equiv.symm id x k)

-- at the place of an id stands the id
pub place_of_found : (id : ℕ) (ids : List ℕ) → IfSome (place_of id ids) (λ i. (i < length ids) × (slice_index ids i ≡ id))
place_of_found id ids = by (place_of id ids) refl
  where
    by : (o : Option ℕ) → place_of id ids ≡ o → IfSome o (λ i. (i < length ids) × (slice_index ids i ≡ id))
    by None e = tt
    by (Some i) e = let at = position-Some (λ x. x == id) ids i 0 e in (at.0, eqb-true (slice_index ids i) id at.1)

-- an id has a place just where it is among the ids
pub place_of_known : (id : ℕ) (ids : List ℕ) → IsSome (place_of id ids) ↔ Contains ids id
place_of_known id ids = (there (place_of id ids) (place_of_found id ids), λ k. here (nat_lt (position_or_len (λ x. x == id) ids) (length ids)) refl k)
  where
    there : (o : Option ℕ) → IfSome o (λ i. (i < length ids) × (slice_index ids i ≡ id)) → IsSome o → Contains ids id
    there None found some = cc
    there (Some i) found some = (i, found.0, get_or_default ids i id 0 found.0 ∙ found.1)

    here : (b : Bool) → nat_lt (position_or_len (λ x. x == id) ids) (length ids) ≡ b → Contains ids id → IsSome (place_of id ids)
    here true less k = ap (λ b. is_some (cond b (Some (position_or_len (λ x. x == id) ids)) None)) less
    here false more k =
        let fails : eqb (get_or ids k.0 id) id ≡ false = fails_before_first (λ x. x == id) ids k.0 id (let past = ltb-false _ _ more in omega (arith, past, k.1)) in
        absurd (eqb-false _ _ fails k.2)

-- an id that stands at a place has that place, where ids rise
pub place_of-slice_index : (ids : List ℕ) (i : ℕ) → IsStrictlyIncreasing ids → i < length ids → place_of (slice_index ids i) ids ≡ Some i
place_of-slice_index ids i rise within =
    let id = slice_index ids i in
    let first : position_or_len (λ x. x == id) ids ≡ i =
    position_or_len_is (λ x. x == id) ids i 0 (omega arith)
    (λ k below. let less = AllPairs-from_increasing ids rise k i 0 below within in ne_eqb (slice_index ids k) id (λ same. omega (arith, less, same)))
    (λ _. eq-eqb id id refl) in
    ap (λ n. cond (nat_lt n (length ids)) (Some n) None) first ∙ ap (λ b. cond b (Some i) None) (lt-ltb i (length ids) within)
