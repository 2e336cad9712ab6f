-- Files and bytes that are told or not, after one call and another.
use Rattle.std.proofs.Common.{◌≡◌, ℕ, ◌+◌, ◌-◌, List, [], ◌++◌, length, take, drop, Bool, true, false, cond, refl, ap, sym, ◌∙◌, append_assoc, append-nil, inl, inr, arith}
use Rattle.std.proofs.lemmas.List.{take_rest, take-append-drop, drop-drop}
use Rattle.std.proofs.lemmas.Cmp.{nat_list_cmp_total, eq_by_cmp_equiv}
use Rattle.std.specs.Prelude.{Option, None, Some, unwrap_or}
use Rattle.std.specs.Ordering.{nat_cmp, eq_by_cmp}
use Rattle.std.specs.Cmp.Lexicographic.{slice_cmp}
use Rattle.std.specs.FinMap.{get, insert, get-insert, same_map, slice_cmp-IsAntisymmetric, nat_cmp-IsAntisymmetric}
use Rattle.shelf_port.specs.Files.{Files, IsPiece, with_file, with_added, bytes_of, LeavesPrefix, AddsPrefix}
use Rattle.shelf_port.specs.Streams.{with_front, with_back}
use Rattle.shelf_port.proofs.Lists.{take-add}

pub with_back-nil : (told : Option (List ℕ)) → told ≡ with_back told []
with_back-nil None = refl
with_back-nil (Some front) = ap Some (sym (append-nil front))

pub with_back-with_back : (told : Option (List ℕ)) (xs ys : List ℕ) → with_back (with_back told xs) ys ≡ with_back told (xs ++ ys)
with_back-with_back None xs ys = refl
with_back-with_back (Some front) xs ys = ap Some (append_assoc front xs ys)

-- the first n bytes, and then the first m of the rest, are the first n + m
pieces : (bytes : List ℕ) (n m : ℕ) → take n bytes ++ take m (take (length bytes - n) (drop n bytes)) ≡ take (n + m) bytes
pieces bytes n m = ap (λ rest. take n bytes ++ take m rest) (take_rest bytes n) ∙ sym (take-add n m bytes)

-- two pieces written in a row are one of both
pub written_further : (start before after : Option (List ℕ)) (bytes : List ℕ) (n m : ℕ)
    → before ≡ with_back start (take n bytes)
    → after ≡ with_back before (take m (take (length bytes - n) (drop n bytes)))
    → after ≡ with_back start (take (n + m) bytes)
written_further start before after bytes n m first second =
    second
    ∙ ap (λ told. with_back told (take m (take (length bytes - n) (drop n bytes)))) first
    ∙ with_back-with_back start (take n bytes) (take m (take (length bytes - n) (drop n bytes)))
    ∙ ap (with_back start) (pieces bytes n m)

same_name : (name : List ℕ) → eq_by_cmp (slice_cmp nat_cmp) name name ≡ true
same_name name = (eq_by_cmp_equiv nat_list_cmp_total).refl name

bytes_of-insert : (files : Files) (name bytes : List ℕ) → bytes_of (insert files name bytes) name ≡ bytes
bytes_of-insert files name bytes =
    ap (λ found. unwrap_or found []) (get-insert nat_list_cmp_total files name bytes name)
    ∙ ap (λ b. unwrap_or (cond b (Some bytes) (get files name)) []) (same_name name)

-- of two tests that are the same the first decides
pub cond_twice : {A : Type 0} (b : Bool) (x y z : A) → cond b x (cond b y z) ≡ cond b x z
cond_twice true x y z = refl
cond_twice false x y z = refl

-- an entry that is put in twice is there as it was put in last
pub insert_twice : (files : Files) (name xs ys : List ℕ) → insert (insert files name xs) name ys ≡ insert files name ys
insert_twice files name xs ys =
    same_map nat_list_cmp_total (slice_cmp-IsAntisymmetric nat_cmp-IsAntisymmetric) _ _ (λ q.
    let b : Bool = eq_by_cmp (slice_cmp nat_cmp) q name in
    get-insert nat_list_cmp_total (insert files name xs) name ys q
    ∙ ap (cond b (Some ys)) (get-insert nat_list_cmp_total files name xs q)
    ∙ cond_twice b (Some ys) (Some xs) (get files q)
    ∙ sym (get-insert nat_list_cmp_total files name ys q))

-- what stands in the named file after it held some bytes and more were added
pub with_added-with_file : (told : Option Files) (name xs ys : List ℕ) → with_added (with_file told name xs) name ys ≡ with_file told name (xs ++ ys)
with_added-with_file None name xs ys = refl
with_added-with_file (Some files) name xs ys =
    ap Some (ap (λ front. insert (insert files name xs) name (front ++ ys)) (bytes_of-insert files name xs) ∙ insert_twice files name xs (xs ++ ys))

with_added-with_added : (told : Option Files) (name xs ys : List ℕ) → with_added (with_added told name xs) name ys ≡ with_added told name (xs ++ ys)
with_added-with_added None name xs ys = refl
with_added-with_added (Some files) name xs ys =
    let had : List ℕ = bytes_of files name in
    ap Some
    (ap (λ front. insert (insert files name (had ++ xs)) name (front ++ ys)) (bytes_of-insert files name (had ++ xs))
    ∙ insert_twice files name (had ++ xs) ((had ++ xs) ++ ys)
    ∙ ap (insert files name) (append_assoc had xs ys))

-- two pieces added to a file in a row are one of both
pub added_further : (start before after : Option Files) (name bytes : List ℕ) (n m : ℕ)
    → before ≡ with_added start name (take n bytes)
    → after ≡ with_added before name (take m (take (length bytes - n) (drop n bytes)))
    → after ≡ with_added start name (take (n + m) bytes)
added_further start before after name bytes n m first second =
    second
    ∙ ap (λ told. with_added told name (take m (take (length bytes - n) (drop n bytes)))) first
    ∙ with_added-with_added start name (take n bytes) (take m (take (length bytes - n) (drop n bytes)))
    ∙ ap (with_added start name) (pieces bytes n m)

-- bytes added to a file that is empty are what it holds
pub put_all : (start emptied after : Option Files) (name bytes : List ℕ)
    → emptied ≡ with_file start name []
    → after ≡ with_added emptied name bytes
    → after ≡ with_file start name bytes
put_all start emptied after name bytes first second =
    second ∙ ap (λ told. with_added told name bytes) first ∙ with_added-with_file start name [] bytes

-- where some of the bytes were added to a file that is empty, it holds a prefix of them
pub put_some : (start emptied after : Option Files) (name bytes : List ℕ)
    → emptied ≡ with_file start name []
    → AddsPrefix emptied after name bytes
    → LeavesPrefix start after name bytes
put_some start emptied after name bytes first (inl same) = inr (0, omega arith, same ∙ first)
put_some start emptied after name bytes first (inr some) =
    inr (some.0, some.1, put_all start emptied after name (take some.0 bytes) first some.2)

-- what is left behind a place is what a read gave there, and what is left behind that
pub given_further : (bytes file old new : List ℕ) (at n : ℕ) → bytes ≡ file → IsPiece bytes at n old new
    → ◌≡◌ {A = Option (List ℕ)} (Some (drop at file)) (with_front (take n new) (Some (drop (at + n) file)))
given_further bytes file old new at n same read =
    ap Some
    (sym (take-append-drop n (drop at file))
    ∙ ap (λ front. front ++ drop n (drop at file)) (ap (λ l. take n (drop at l)) (sym same) ∙ sym read.front)
    ∙ ap (λ rest. take n new ++ rest) (drop-drop n at file))
