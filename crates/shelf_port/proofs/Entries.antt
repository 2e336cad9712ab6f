-- A list of named files as a map: where a name stands first, what stands there, and what a change there changes.
use Rattle.std.proofs.Common.{◌≡◌, ℕ, zero, suc, ◌+◌, ◌<◌, List, [], ◌∷◌, ◌++◌, length, get_or, set, map, Bool, true, false, cond, refl, ap, sym, ◌∙◌, subst, arith}
use Rattle.std.proofs.lemmas.List.{map-append, map-set, set-get_or}
use Rattle.std.proofs.lemmas.Cmp.{nat_list_cmp_total}
use Rattle.std.proofs.lemmas.Slice.Eq.{bytes_eq-Decides}
use Rattle.std.specs.Prelude.{Option, None, Some, Vec, String, string_bytes}
use Rattle.std.specs.List.{position_from}
use Rattle.std.specs.Ordering.{nat_cmp, eq_by_cmp}
use Rattle.std.specs.Cmp.Lexicographic.{slice_cmp, texts_ties}
use Rattle.std.specs.FinMap.{get, insert, find, from_entries, from_entries_push, get-insert, get-from_entries, same_map, slice_cmp-IsAntisymmetric, nat_cmp-IsAntisymmetric}
use Rattle.shelf_port.specs.Memory.{entries_of, files_of_list, is_named}
use Rattle.shelf_port.proofs.Told.{cond_twice}

abbrev names : List ℕ → List ℕ → Bool
names = eq_by_cmp (slice_cmp nat_cmp)

same_names : (q name : List ℕ) → names q name ≡ true → q ≡ name
same_names q name e = (bytes_eq-Decides q name).0 (texts_ties q name ∙ e)

cond_swap : {A : Type 0} (a b : Bool) (x y z : A) → (a ≡ true → b ≡ true → ⊥) → cond a x (cond b y z) ≡ cond b y (cond a x z)
cond_swap true true x y z apart = absurd (apart refl refl)
cond_swap true false x y z apart = refl
cond_swap false true x y z apart = refl
cond_swap false false x y z apart = refl

module _ {Y Z : Type 0} where
  -- the file at place k has the name, and none before it
  abbrev pub IsFirst : List ℕ → List (String Y × Vec ℕ Z) → ℕ → Type 0
  IsFirst name [] k = ⊥
  IsFirst name (f ∷ fs) zero = is_named name f ≡ true
  IsFirst name (f ∷ fs) (suc k) = (is_named name f ≡ false) × IsFirst name fs k

  first_from : (name : List ℕ) (t : ℕ) (fs : List (String Y × Vec ℕ Z)) (i : ℕ)
      → position_from (λ f. is_named name f) t fs ≡ Some i → (k : ℕ) × (i ≡ t + k) × IsFirst name fs k
  first_from name t [] i e = cc
  first_from name t (f ∷ fs) i e =
      elim (is_named name f) as (λ b. is_named name f ≡ b → cond b (Some t) (position_from (λ f. is_named name f) (t + 1) fs) ≡ Some i → (k : ℕ) × (i ≡ t + k) × IsFirst name (f ∷ fs) k) [
        | true ↦ λ b here. let same : t ≡ i = cc in (0, omega arith, b)
        | false ↦ λ b later. let rest = first_from name (t + 1) fs i later in (suc rest.0, omega arith, (b, rest.2))
      ] refl e

  -- where a search by name found it
  pub first_of : (name : List ℕ) (fs items : List (String Y × Vec ℕ Z)) (i : ℕ)
      → Some i ≡ position_from (λ f. is_named name f) 0 fs → fs ≡ items → IsFirst name items i
  first_of name fs items i e same =
      let found = first_from name 0 fs i (sym e) in
      let at : found.0 ≡ i = omega arith in
      subst (λ l. IsFirst name l i) same (subst (IsFirst name fs) at found.2)

  pub first_within : (name : List ℕ) (fs : List (String Y × Vec ℕ Z)) (k : ℕ) → IsFirst name fs k → k < length fs
  first_within name [] k first = absurd first
  first_within name (f ∷ fs) zero first = omega arith
  first_within name (f ∷ fs) (suc k) first = omega (arith, first_within name fs k first.1)

  find_first : (name : List ℕ) (fs : List (String Y × Vec ℕ Z)) (k : ℕ) (d : String Y × Vec ℕ Z)
      → IsFirst name fs k → find (slice_cmp nat_cmp) name (entries_of fs) ≡ Some (get_or fs k d).1.items
  find_first name [] k d first = absurd first
  find_first name (f ∷ fs) zero d first =
      ap (λ b. cond b (Some f.1.items) (find (slice_cmp nat_cmp) name (entries_of fs))) (sym (texts_ties name (string_bytes f.0)) ∙ first)
  find_first name (f ∷ fs) (suc k) d first =
      ap (λ b. cond b (Some f.1.items) (find (slice_cmp nat_cmp) name (entries_of fs))) (sym (texts_ties name (string_bytes f.0)) ∙ first.0)
      ∙ find_first name fs k d first.1

  -- the bytes of the file at the first place with a name are those of the map at that name
  pub get_first : (name : List ℕ) (fs : List (String Y × Vec ℕ Z)) (k : ℕ) (x : String Y × Vec ℕ Z)
      → IsFirst name fs k → x ≡ get_or fs k x → get (files_of_list fs) name ≡ Some x.1.items
  get_first name fs k x first is =
      get-from_entries nat_list_cmp_total (entries_of fs) name ∙ find_first name fs k x first ∙ ap (λ f. Some f.1.items) (sym is)

  name_at : (name : List ℕ) (fs : List (String Y × Vec ℕ Z)) (k : ℕ) (d : String Y × Vec ℕ Z)
      → IsFirst name fs k → string_bytes (get_or fs k d).0 ≡ name
  name_at name [] k d first = absurd first
  name_at name (f ∷ fs) zero d first = sym ((bytes_eq-Decides name (string_bytes f.0)).0 first)
  name_at name (f ∷ fs) (suc k) d first = name_at name fs k d first.1

  find_missing : (name : List ℕ) (t : ℕ) (fs : List (String Y × Vec ℕ Z))
      → position_from (λ f. is_named name f) t fs ≡ None → find (slice_cmp nat_cmp) name (entries_of fs) ≡ None
  find_missing name t [] e = refl
  find_missing name t (f ∷ fs) e =
      elim (is_named name f) as (λ b. is_named name f ≡ b → cond b (Some t) (position_from (λ f. is_named name f) (t + 1) fs) ≡ None → find (slice_cmp nat_cmp) name (entries_of (f ∷ fs)) ≡ None) [
        | true ↦ λ b here. cc
        | false ↦ λ b later.
            ap (λ b. cond b (Some f.1.items) (find (slice_cmp nat_cmp) name (entries_of fs))) (sym (texts_ties name (string_bytes f.0)) ∙ b)
            ∙ find_missing name (t + 1) fs later
      ] refl e

  -- a name that a search did not find is not in the map
  pub get_missing : (name : List ℕ) (fs items : List (String Y × Vec ℕ Z))
      → None ≡ position_from (λ f. is_named name f) 0 fs → fs ≡ items → get (files_of_list items) name ≡ None
  get_missing name fs items e same =
      ap (λ l. get (files_of_list l) name) (sym same)
      ∙ get-from_entries nat_list_cmp_total (entries_of fs) name ∙ find_missing name 0 fs (sym e)

  find_set : (name : List ℕ) (fs : List (String Y × Vec ℕ Z)) (k : ℕ) (g : String Y × Vec ℕ Z) (q : List ℕ)
      → IsFirst name fs k → string_bytes g.0 ≡ name
      → find (slice_cmp nat_cmp) q (entries_of (set fs k g)) ≡ cond (names q name) (Some g.1.items) (find (slice_cmp nat_cmp) q (entries_of fs))
  find_set name [] k g q first same = absurd first
  find_set name (f ∷ fs) zero g q first same =
      let rest : Option (List ℕ) = find (slice_cmp nat_cmp) q (entries_of fs) in
      let as_f : name ≡ string_bytes f.0 = (bytes_eq-Decides name (string_bytes f.0)).0 first in
      ap (λ n. cond (names q n) (Some g.1.items) rest) same
      ∙ sym (cond_twice (names q name) (Some g.1.items) (Some f.1.items) rest)
      ∙ ap (λ n. cond (names q name) (Some g.1.items) (cond (names q n) (Some f.1.items) rest)) as_f
  find_set name (f ∷ fs) (suc k) g q first same =
      let rest : Option (List ℕ) = find (slice_cmp nat_cmp) q (entries_of fs) in
      let apart : names q (string_bytes f.0) ≡ true → names q name ≡ true → ⊥ =
      λ is_f is_name.
      let both : name ≡ string_bytes f.0 = sym (same_names q name is_name) ∙ same_names q (string_bytes f.0) is_f in
      let yes : is_named name f ≡ true = (bytes_eq-Decides name (string_bytes f.0)).1 both in
      let no : is_named name f ≡ false = first.0 in
      cc in
      ap (cond (names q (string_bytes f.0)) (Some f.1.items)) (find_set name fs k g q first.1 same)
      ∙ cond_swap (names q (string_bytes f.0)) (names q name) (Some f.1.items) (Some g.1.items) rest apart

  put_first : (name : List ℕ) (fs : List (String Y × Vec ℕ Z)) (k : ℕ) (g : String Y × Vec ℕ Z)
      → IsFirst name fs k → string_bytes g.0 ≡ name → files_of_list (set fs k g) ≡ insert (files_of_list fs) name g.1.items
  put_first name fs k g first same =
      same_map nat_list_cmp_total (slice_cmp-IsAntisymmetric nat_cmp-IsAntisymmetric) _ _ (λ q.
      get-from_entries nat_list_cmp_total (entries_of (set fs k g)) q
      ∙ find_set name fs k g q first same
      ∙ ap (cond (names q name) (Some g.1.items)) (sym (get-from_entries nat_list_cmp_total (entries_of fs) q))
      ∙ sym (get-insert nat_list_cmp_total (files_of_list fs) name g.1.items q))

  -- to change the bytes of the file at the first place with its name is to put them into the map
  pub changed_there : (name : List ℕ) (fs : List (String Y × Vec ℕ Z)) (k : ℕ) (x : String Y × Vec ℕ Z) (v : Vec ℕ Z) (bytes : List ℕ)
      → IsFirst name fs k → x ≡ get_or fs k x → v.items ≡ bytes
      → files_of_list (set fs k (x.0, v)) ≡ insert (files_of_list fs) name bytes
  changed_there name fs k x v bytes first is to =
      put_first name fs k (x.0, v) first (ap (λ f. string_bytes f.0) is ∙ name_at name fs k x first)
      ∙ ap (insert (files_of_list fs) name) to

  -- bytes that stay change nothing
  pub same_there : (fs : List (String Y × Vec ℕ Z)) (k : ℕ) (x : String Y × Vec ℕ Z) (v : Vec ℕ Z)
      → x ≡ get_or fs k x → v.items ≡ x.1.items → files_of_list (set fs k (x.0, v)) ≡ files_of_list fs
  same_there fs k x v is same =
      let entry : String Y × Vec ℕ Z → List ℕ × List ℕ = λ f. (string_bytes f.0, f.1.items) in
      ap from_entries
      (map-set entry fs k (x.0, v)
      ∙ ap (λ bytes. set (map entry fs) k (string_bytes x.0, bytes)) same
      ∙ sym (map-set entry fs k x)
      ∙ ap (λ f. map entry (set fs k f)) is
      ∙ ap (map entry) (set-get_or fs k x))

  -- to add a file under a name that is not there is to put it into the map
  pub added_new : (name : List ℕ) (fs items next : List (String Y × Vec ℕ Z)) (s : String Y) (v : Vec ℕ Z) (bytes : List ℕ)
      → None ≡ position_from (λ f. is_named name f) 0 fs → fs ≡ items
      → string_bytes s ≡ name → v.items ≡ bytes → next ≡ items ++ (s, v) ∷ []
      → files_of_list next ≡ insert (files_of_list items) name bytes
  added_new name fs items next s v bytes e same named with step =
      ap files_of_list (step ∙ ap (λ l. l ++ (s, v) ∷ []) (sym same))
      ∙ ap from_entries (map-append (λ f. (string_bytes f.0, f.1.items)) fs ((s, v) ∷ []))
      ∙ ap (λ n. from_entries (entries_of fs ++ (n, v.items) ∷ [])) named
      ∙ from_entries_push nat_list_cmp_total (slice_cmp-IsAntisymmetric nat_cmp-IsAntisymmetric) (entries_of fs) name v.items (find_missing name 0 fs (sym e))
      ∙ ap (λ l. insert (files_of_list l) name v.items) same
      ∙ ap (insert (files_of_list items) name) with
