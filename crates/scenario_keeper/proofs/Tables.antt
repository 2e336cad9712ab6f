-- A tree of scenarios as a table.
use Rattle.std.proofs.Common.{◌≡◌, ℕ, List, [], ◌∷◌, ◌++◌, map, length, Bool, true, false, cond, not, ◌&&◌, T, Ordering, Less, Equal, Greater, Option, None, Some, is_some, String, string_bytes, refl, sym, ap, subst, ◌∙◌, append-nil}
use Rattle.std.proofs.lemmas.Cmp.{nat_list_cmp_total}
use Rattle.std.proofs.lemmas.Slice.Eq.{bytes_eq-Decides}
use Rattle.std.specs.Ordering.{nat_cmp, is_lt, is_eq, eq_by_cmp, match_ordering}
use Rattle.std.specs.String.{string_cmp}
use Rattle.std.specs.Cmp.Lexicographic.{slice_cmp, texts_ties}
use Rattle.std.specs.List.{AllByRecursion}
use Rattle.std.specs.List.Sorted.{IsStrictlySortedBy}
use Rattle.std.specs.Map.{keys_of, lookup, remove_entry}
use Rattle.std.specs.BTreeMap.{insert_entry, is_at}
use Rattle.std.specs.FinMap.{find, put, is_sorted, entries, get, insert, remove, from_entries, from_sorted, get-from_entries, get-from_sorted, get-remove, entries-from_sorted, entries-insert, same_entries_map, same_map, slice_cmp-IsAntisymmetric, nat_cmp-IsAntisymmetric}
use Rattle.std.specs.FinMap.Entries.{below_all, by_order}
use Rattle.scenario_keeper.specs.Scenario.{Scenario}
use Rattle.scenario_keeper.specs.Table.{Table, names_of}
use Rattle.scenario_keeper.specs.Names.{NamesRise, IsAbove}
use Rattle.scenario_keeper.proofs.Names.{order, above-front}

abbrev same : List ℕ → List ℕ → Bool
same = eq_by_cmp order

exact : (x y : List ℕ) → order x y ≡ Equal → x ≡ y
exact = slice_cmp-IsAntisymmetric nat_cmp-IsAntisymmetric

tied : (x y : List ℕ) → same x y ≡ true → x ≡ y
tied x y e = (bytes_eq-Decides x y).0 (texts_ties x y ∙ e)

both : (a b : Bool) → T a → T b → T (a && b)
both true b p q = q
both false b p q = absurd p

module _ {Y : Type 0} where
  -- the entries of a tree, by the bytes of their names
  abbrev pub named : List (String Y × Scenario) → List (List ℕ × Scenario)
  named es = map (λ e. (string_bytes e.0, e.1)) es

  -- a name of a tree with its number of edits
  abbrev pub counted : String Y × Scenario → List ℕ × ℕ
  counted e = (string_bytes e.0, length e.1.edits)

  below-named : (x : String Y) (es : List (String Y × Scenario)) → AllByRecursion (λ y. string_cmp x y ≡ Less) (keys_of es) → T (below_all order (string_bytes x) (named es))
  below-named x [] below = tt
  below-named x (e ∷ es) below = both _ _ (subst (λ o. T (is_lt o)) (sym below.0) tt) (below-named x es below.1)

  sorted-named : (es : List (String Y × Scenario)) → IsStrictlySortedBy string_cmp (keys_of es) → T (is_sorted order (named es))
  unfolding IsStrictlySortedBy
  sorted-named [] rise = tt
  sorted-named (e ∷ es) rise = both _ _ (below-named e.0 es rise.0) (sorted-named es rise.1)

  entries-named : (es : List (String Y × Scenario)) → IsStrictlySortedBy string_cmp (keys_of es) → entries (from_entries {R = order} (named es)) ≡ named es
  entries-named es rise =
      let sorted = sorted-named es rise in
      ap entries (same_map nat_list_cmp_total exact (from_entries (named es)) (from_sorted (named es)) (λ q. get-from_entries nat_list_cmp_total (named es) q ∙ sym (get-from_sorted order (named es) q sorted)))
      ∙ entries-from_sorted order (named es) sorted

  put-named : (es : List (String Y × Scenario)) (k : String Y) (v : Scenario) → put order (string_bytes k) v (named es) ≡ named (insert_entry string_cmp es k v)
  put-named [] k v = refl
  put-named (e ∷ es) k v =
      elim (order (string_bytes k) (string_bytes e.0)) as (λ o. by_order o ((string_bytes k, v) ∷ named (e ∷ es)) ((string_bytes e.0, v) ∷ named es) ((string_bytes e.0, e.1) ∷ put order (string_bytes k) v (named es))
      ≡ named (match_ordering o ((k, v) ∷ e ∷ es) ((e.0, v) ∷ es) (e ∷ insert_entry string_cmp es k v))) [
        | Less ↦ refl
        | Equal ↦ refl
        | Greater ↦ ap (λ rest. (string_bytes e.0, e.1) ∷ rest) (put-named es k v)
      ]

  -- the table of the entries of a tree
  abbrev pub table : List (String Y × Scenario) → Table
  table es = from_entries (named es)

  -- to insert into a tree is to insert into its table
  pub table-insert : (old new : List (String Y × Scenario)) (k : String Y) (v : Scenario) (name : List ℕ) (what : Scenario)
      → IsStrictlySortedBy string_cmp (keys_of old) → IsStrictlySortedBy string_cmp (keys_of new)
      → new ≡ insert_entry string_cmp old k v → string_bytes k ≡ name → v ≡ what → table new ≡ insert (table old) name what
  table-insert old new k v name what old_rise new_rise step is copy =
      same_entries_map (table new) (insert (table old) (string_bytes k) v)
      (entries-named new new_rise
      ∙ ap named step
      ∙ sym (put-named old k v)
      ∙ ap (put order (string_bytes k) v) (sym (entries-named old old_rise))
      ∙ sym (entries-insert nat_list_cmp_total (table old) (string_bytes k) v))
      ∙ (λ i. insert (table old) (is i) (copy i))

  find-lookup : (q : List ℕ) (es : List (String Y × Scenario)) → find order q (named es) ≡ lookup (is_at (λ k. order q (string_bytes k))) es
  find-lookup q [] = refl
  find-lookup q (e ∷ es) = ap (cond (same q (string_bytes e.0)) (Some e.1)) (find-lookup q es)

  -- the table has what the tree finds
  pub get-table : (es : List (String Y × Scenario)) (q : List ℕ) → lookup (is_at (λ k. order q (string_bytes k))) es ≡ get (table es) q
  get-table es q = sym (get-from_entries nat_list_cmp_total (named es) q ∙ find-lookup q es)

  -- another name is found as before, once the entry of a name is taken out
  find-other : (name q : List ℕ) (es : List (String Y × Scenario)) → same q name ≡ false
      → find order q (named (remove_entry (is_at (λ k. order name (string_bytes k))) es)) ≡ find order q (named es)
  find-other name q [] apart = refl
  find-other name q (e ∷ es) apart =
      let x : List ℕ = string_bytes e.0 in
      let rest : Option Scenario = find order q (named es) in
      elim (same name x) as (λ b. same name x ≡ b → find order q (named (cond b es (e ∷ remove_entry (is_at (λ k. order name (string_bytes k))) es))) ≡ cond (same q x) (Some e.1) rest) [
        | true ↦ λ here. sym (ap (λ b. cond b (Some e.1) rest) (subst (λ y. same q y ≡ false) (tied name x here) apart))
        | false ↦ λ other. ap (cond (same q x) (Some e.1)) (find-other name q es apart)
      ] refl

  -- to take a name out of a tree is to take it out of its table
  pub table-remove : (old new : List (String Y × Scenario)) (name : List ℕ)
      → new ≡ remove_entry (is_at (λ k. order name (string_bytes k))) old → lookup (is_at (λ k. order name (string_bytes k))) new ≡ None
      → table new ≡ remove (table old) name
  table-remove old new name step gone =
      same_map nat_list_cmp_total exact (table new) (remove (table old) name) (λ q. found q (same q name) refl ∙ sym (get-remove nat_list_cmp_total (table old) name q))
    where
      found : (q : List ℕ) (b : Bool) → same q name ≡ b → get (table new) q ≡ cond (same q name) None (get (table old) q)
      found q true here =
          subst (λ y. get (table new) y ≡ None) (sym (tied q name here)) (sym (get-table new name) ∙ gone)
          ∙ sym (ap (λ b. cond b None (get (table old) q)) here)
      found q false other =
          get-from_entries nat_list_cmp_total (named new) q
          ∙ ap (λ es. find order q (named es)) step
          ∙ find-other name q old other
          ∙ sym (get-from_entries nat_list_cmp_total (named old) q)
          ∙ sym (ap (λ b. cond b None (get (table old) q)) other)

  below-counted : (x : String Y) (es : List (String Y × Scenario)) → AllByRecursion (λ y. string_cmp x y ≡ Less) (keys_of es) → AllByRecursion (λ n. order (string_bytes x) n ≡ Less) (map (λ e. e.0) (map counted es))
  below-counted x [] below = tt
  below-counted x (e ∷ es) below = (below.0, below-counted x es below.1)

  -- the names of a tree rise
  pub rise-counted : (es : List (String Y × Scenario)) → IsStrictlySortedBy string_cmp (keys_of es) → NamesRise (map counted es)
  unfolding IsStrictlySortedBy
  rise-counted [] rise = tt
  rise-counted (e ∷ es) rise = (below-counted e.0 es rise.0, rise-counted es rise.1)

  counted-named : (es : List (String Y × Scenario)) → map counted es ≡ map (λ e. (e.0, length e.1.edits)) (named es)
  counted-named [] = refl
  counted-named (e ∷ es) = ap (λ rest. counted e ∷ rest) (counted-named es)

  -- the names of a tree are those of its table
  names_of-table : (es : List (String Y × Scenario)) → IsStrictlySortedBy string_cmp (keys_of es) → map counted es ≡ names_of (table es)
  names_of-table es rise = counted-named es ∙ ap (map (λ e. (e.0, length e.1.edits))) (sym (entries-named es rise))

  -- The names of a tree, listed one by one: those so far, and the entries that are left.

  pub listed-above : (es : List (String Y × Scenario)) (names : List (List ℕ × ℕ)) (left rest : List (String Y × Scenario)) (e : String Y × Scenario) (bytes name : List ℕ)
      → IsStrictlySortedBy string_cmp (keys_of es) → names ++ map counted left ≡ map counted es → left ≡ e ∷ rest → bytes ≡ name → name ≡ string_bytes e.0 → IsAbove names bytes
  listed-above es names left rest e bytes name rise so_far is copied at =
      let whole : map counted es ≡ names ++ counted e ∷ map counted rest = sym so_far ∙ ap (λ es. names ++ map counted es) is in
      subst (IsAbove names) (sym (copied ∙ at)) (above-front names (counted e) (map counted rest) (subst NamesRise whole (rise-counted es rise)))

  pub listed-all : (es : List (String Y × Scenario)) (names : List (List ℕ × ℕ)) (left : List (String Y × Scenario))
      → IsStrictlySortedBy string_cmp (keys_of es) → names ++ map counted left ≡ map counted es → left ≡ [] → names ≡ names_of (table es)
  listed-all es names left rise so_far none =
      sym (append-nil names) ∙ ap (λ es. names ++ map counted es) (sym none) ∙ so_far ∙ names_of-table es rise
