-- Where the leaves of a tree stand, found in one walk over its nodes.
use Rattle.std.proofs.Common.{◌≡◌, add-one, ℕ, ◌<◌, ◌≤◌, ◌+◌, zero, suc, refl, ap, sym, subst, ◌∙◌, arith, List, [], ◌∷◌, ◌++◌, map, length, drop, get_or, cond, Bool, true, false, Option, None, Some, append_assoc}
use Rattle.std.specs.Prelude.{All, filter, slice_get}
use Rattle.std.specs.Option.{option_and_then, option_to_list}
use Rattle.std.proofs.lemmas.List.{map-append, append-nil, length-map, get_or-map}
use Rattle.std.proofs.lemmas.List.Elements.{All-cons, All-head, All-tail}
use Rattle.location_terms.specs.Instance.{Instance}
use Rattle.location_terms.specs.Box.{Path}
use Rattle.location_terms.specs.Split.{first_step, second_step}
use Rattle.location_terms.specs.Bound.{Duals}
use Rattle.location_terms.specs.Tree.{Node, Leaf, Fork, Tree, leaves_below, leaves_of}
use Rattle.branch_tree.specs.declared.entry.Entry.{Entry}
use Rattle.branch_tree.specs.declared.entry.Entry.TheVariants.{End, Branch}
use Rattle.branch_tree.specs.Preorder.{flat}
use Rattle.branch_tree.specs.Made.{duals_of, duals_at}
use Rattle.leaf_book.specs.declared.places.LeafPlace.{LeafPlace}
use Rattle.leaf_book.specs.Book.{placed_leaf, AreLeafPlaces}
use Rattle.leaf_book.specs.Kept.{keeps, kept_leaves}

-- the duals of the leaves among these nodes
abbrev pub duals_in : List Entry → List Duals
duals_in [] = []
duals_in (End d ∷ es) = d ∷ duals_in es
duals_in (Branch split ∷ es) = duals_in es

duals_in-append : (xs ys : List Entry) → duals_in (xs ++ ys) ≡ duals_in xs ++ duals_in ys
duals_in-append [] ys = refl
duals_in-append (End d ∷ xs) ys = ap (λ ds. d ∷ ds) (duals_in-append xs ys)
duals_in-append (Branch split ∷ xs) ys = duals_in-append xs ys

pub leaf_duals : (n : Node) (path : Path) → map (λ l. l.1) (leaves_below path n) ≡ duals_in (flat n)
leaf_duals (Leaf d) path = refl
leaf_duals (Fork split a b) path =
    map-append (λ l. l.1) (leaves_below (path ++ first_step split ∷ []) a) (leaves_below (path ++ second_step split ∷ []) b)
    ∙ (λ k. leaf_duals a (path ++ first_step split ∷ []) k ++ leaf_duals b (path ++ second_step split ∷ []) k)
    ∙ sym (duals_in-append (flat a) (flat b))

-- one node further
one_ahead : (es : List Entry) (n : ℕ) (o : Option Duals) → n < length es → option_and_then duals_of (slice_get es n) ≡ o → duals_in (drop n es) ≡ option_to_list o ++ duals_in (drop (suc n) es)
one_ahead [] n o b h = absurd (omega (arith, b))
one_ahead (End d ∷ es) zero o b h = ap (λ x. option_to_list x ++ duals_in es) h
one_ahead (Branch split ∷ es) zero o b h = ap (λ x. option_to_list x ++ duals_in es) h
one_ahead (e ∷ es) (suc n) o b h = one_ahead es n o (omega (arith, b)) h

pub duals_ahead : (es : List Entry) (n : ℕ) (o : Option Duals) → n < length es → option_and_then duals_of (slice_get es n) ≡ o → duals_in (drop n es) ≡ option_to_list o ++ duals_in (drop (n + 1) es)
duals_ahead es n o b h = rw add-one (one_ahead es n o b h)

-- the walk stands at the leaf whose node is looked at
pub met : (walk : List (Path × Duals)) (l : Path × Duals) (d : Duals) (rest : List Duals) → slice_get walk 0 ≡ Some l → map (λ a. a.1) walk ≡ d ∷ rest → (l.1 ≡ d) × (map (λ a. a.1) (drop 1 walk) ≡ rest)
met [] l d rest here ahead = cc
met (a ∷ walk) l d rest here ahead = (let same : a ≡ l = cc in let first : a.1 ≡ d = cc in ap (λ x. x.1) (sym same) ∙ first, cc)

pub some_ahead : (walk : List (Path × Duals)) (d : Duals) (rest : List Duals) → map (λ a. a.1) walk ≡ d ∷ rest → 0 < length walk
some_ahead [] d rest e = cc
some_ahead (a ∷ walk) d rest e = omega arith

pub none_ahead : (walk : List (Path × Duals)) → map (λ a. a.1) walk ≡ [] → walk ≡ []
none_ahead [] e = refl
none_ahead (a ∷ walk) e = cc

abbrev shown : Path × Duals → Path × Option Duals
shown l = (l.0, Some l.1)

-- its place is put behind those before it
pub placed_more : (xs : List (Path × Option Duals)) (walk : List (Path × Duals)) (l : Path × Duals) (y : Path × Option Duals) → slice_get walk 0 ≡ Some l → y ≡ shown l → (xs ++ y ∷ []) ++ map shown (drop 1 walk) ≡ xs ++ map shown walk
placed_more xs [] l y here is = cc
placed_more xs (a ∷ walk) l y here is = let same : y ≡ shown a = is ∙ ap shown (let e : l ≡ a = cc in e) in append_assoc xs (y ∷ []) (map shown walk) ∙ ap (λ z. xs ++ z ∷ map shown walk) same

-- what is so of all leaves ahead, with the first one taken off
pub all_ahead : (P : Path × Duals → Type 0) (walk : List (Path × Duals)) (l : Path × Duals) → slice_get walk 0 ≡ Some l → P l → All P (drop 1 walk) → All P walk
all_ahead P [] l here first rest = cc
all_ahead P (a ∷ walk) l here first rest = All-cons P a walk (subst P (let e : l ≡ a = cc in e) first) rest

pub first_ahead : (P : Path × Duals → Type 0) (walk : List (Path × Duals)) (l : Path × Duals) → slice_get walk 0 ≡ Some l → All P walk → P l × All P (drop 1 walk)
first_ahead P [] l here all = cc
first_ahead P (a ∷ walk) l here all = (subst P (let e : a ≡ l = cc in e) (All-head P a walk all), All-tail P a walk all)

-- as many places as leaves are kept
pub kept_places : (I : Instance) (t : Tree) (places : List LeafPlace) (leaves : List (Path × Duals)) → map (placed_leaf t) places ≡ map (λ l. (l.0, Some l.1)) leaves → length (filter (λ p. keeps I p.path) places) ≡ length (kept_leaves I leaves)
kept_places I t [] [] e = refl
kept_places I t [] (l ∷ leaves) e = cc
kept_places I t (p ∷ places) [] e = cc
kept_places I t (p ∷ places) (l ∷ leaves) e =
    let first : placed_leaf t p ≡ shown l = cc in
    let path : p.path ≡ l.0 = ap (λ x. x.0) first in
    let rest : map (placed_leaf t) places ≡ map (λ a. (a.0, Some a.1)) leaves = cc in
    (λ k. length (cond (keeps I (path k)) (p ∷ filter (λ q. keeps I q.path) places) (filter (λ q. keeps I q.path) places)))
    ∙ along (keeps I l.0) (kept_places I t places leaves rest)
  where
    along : (b : Bool) → length (filter (λ q. keeps I q.path) places) ≡ length (kept_leaves I leaves) → length (cond b (p ∷ filter (λ q. keeps I q.path) places) (filter (λ q. keeps I q.path) places)) ≡ length (cond b (l ∷ kept_leaves I leaves) (kept_leaves I leaves))
    along true h = ap suc h
    along false h = h

-- what stands at a place
pub place_is : (t : Tree) (places : List LeafPlace) (k : ℕ) (p : LeafPlace) (l : Path × Duals) → AreLeafPlaces t places → k < length places → placed_leaf t (get_or places k p) ≡ shown (get_or (leaves_of t) k l)
place_is t places k p l are b =
    let many : length places ≡ length (leaves_of t) = sym (length-map places (placed_leaf t)) ∙ ap length are ∙ length-map (leaves_of t) shown in
    sym (get_or-map (placed_leaf t) places k p (placed_leaf t p) b) ∙ ap (λ (xs : List (Path × Option Duals)). get_or xs k (placed_leaf t p)) are
    ∙ get_or-map shown (leaves_of t) k l (placed_leaf t p) (omega (arith, b, many))

pub places_count : (t : Tree) (places : List LeafPlace) → AreLeafPlaces t places → length places ≡ length (leaves_of t)
places_count t places are = sym (length-map places (placed_leaf t)) ∙ ap length are ∙ length-map (leaves_of t) shown

drop_past : {A : Type 0} (xs : List A) (n : ℕ) → length xs ≤ n → drop n xs ≡ []
drop_past [] zero h = refl
drop_past [] (suc n) h = refl
drop_past (x ∷ xs) zero h = absurd (omega (arith, h))
drop_past (x ∷ xs) (suc n) h = drop_past xs n (omega (arith, h))

-- A walk over the nodes: the leaves ahead, and the places of those that were passed.
module _ (t : Tree) (walk : List (Path × Duals)) (node : ℕ) (inside : node < length (flat t.root)) (ahead : map (λ a. a.1) walk ≡ duals_in (drop node (flat t.root))) where
  module _ (d : Duals) (found : duals_at t.root node ≡ Some d) where
    due : map (λ a. a.1) walk ≡ d ∷ duals_in (drop (node + 1) (flat t.root))
    due = ahead ∙ duals_ahead (flat t.root) node (Some d) inside found

    pub leaf_ahead : 0 < length walk
    leaf_ahead = some_ahead walk d (duals_in (drop (node + 1) (flat t.root))) due

    module _ (l : Path × Duals) (here : slice_get walk 0 ≡ Some l) (after : List (Path × Duals)) (passed : after ≡ drop 1 walk) where
      pub passed_ahead : map (λ a. a.1) after ≡ duals_in (drop (node + 1) (flat t.root))
      passed_ahead = ap (λ (w : List (Path × Duals)). map (λ a. a.1) w) passed ∙ (met walk l d (duals_in (drop (node + 1) (flat t.root))) here due).1

      pub passed_told : (places more : List LeafPlace) (p : LeafPlace) → more ≡ places ++ p ∷ [] → p.path ≡ l.0 → p.node ≡ node → map (placed_leaf t) more ++ map (λ a. (a.0, Some a.1)) after ≡ map (placed_leaf t) places ++ map (λ a. (a.0, Some a.1)) walk
      passed_told places more p is path at =
          let same : l.1 ≡ d = (met walk l d (duals_in (drop (node + 1) (flat t.root))) here due).0 in
          let stands : duals_at t.root p.node ≡ Some l.1 = ap (duals_at t.root) at ∙ found ∙ ap Some (sym same) in
          (λ k. map (placed_leaf t) (is k) ++ map shown (passed k))
          ∙ ap (λ (xs : List (Path × Option Duals)). xs ++ map shown (drop 1 walk)) (map-append (placed_leaf t) places (p ∷ []))
          ∙ placed_more (map (placed_leaf t) places) walk l (placed_leaf t p) here (λ k. (path k, stands k))

  pub skipped_ahead : duals_at t.root node ≡ None → map (λ a. a.1) walk ≡ duals_in (drop (node + 1) (flat t.root))
  skipped_ahead none = ahead ∙ duals_ahead (flat t.root) node None inside none

pub all_placed : (t : Tree) (places : List LeafPlace) (walk : List (Path × Duals)) (node : ℕ) → length (flat t.root) ≤ node → map (λ a. a.1) walk ≡ duals_in (drop node (flat t.root))
    → map (placed_leaf t) places ++ map (λ a. (a.0, Some a.1)) walk ≡ map (λ a. (a.0, Some a.1)) (leaves_of t) → AreLeafPlaces t places
all_placed t places walk node past ahead told =
    let none : walk ≡ [] = none_ahead walk (ahead ∙ ap duals_in (drop_past (flat t.root) node past)) in
    sym (append-nil (map (placed_leaf t) places)) ∙ ap (λ (w : List (Path × Duals)). map (placed_leaf t) places ++ map shown w) (sym none) ∙ told

-- The leaf that stands at a place.
module _ (t : Tree) (places : List LeafPlace) (are : AreLeafPlaces t places) (k : ℕ) (inside : k < length places) (e : LeafPlace) (l : Path × Duals) where
  here : placed_leaf t (get_or places k e) ≡ shown (get_or (leaves_of t) k l)
  here = place_is t places k e l are inside

  pub path_is : (get_or places k e).path ≡ (get_or (leaves_of t) k l).0
  path_is = ap (λ (x : Path × Option Duals). x.0) here

  pub duals_are : duals_at t.root (get_or places k e).node ≡ Some (get_or (leaves_of t) k l).1
  duals_are = ap (λ (x : Path × Option Duals). x.1) here

  pub leaf_is : (d : Duals) → duals_at t.root (get_or places k e).node ≡ Some d → get_or (leaves_of t) k l ≡ ((get_or places k e).path, d)
  leaf_is d found =
      let same : (get_or (leaves_of t) k l).1 ≡ d = (let h : Some (get_or (leaves_of t) k l).1 ≡ Some d = sym duals_are ∙ found in cc) in
      λ x. (sym path_is x, same x)

  pub keep_is : (I : Instance) (path : Path) (b c : Bool) → path ≡ (get_or places k e).path → b ≡ keeps I path → b ≡ c → keeps I (get_or (leaves_of t) k l).0 ≡ c
  keep_is I path b c is keep told = ap (keeps I) (sym (is ∙ path_is)) ∙ sym keep ∙ told
