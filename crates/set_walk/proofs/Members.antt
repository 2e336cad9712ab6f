-- What a set holds of a list of ids, as the set and the list are walked.
use Rattle.std.proofs.Common.{◌≡◌, ℕ, zero, suc, ◌+◌, ◌*◌, ◌/◌, ◌%◌, ◌^◌, ◌<◌, ◌≤◌, List, [], ◌∷◌, ◌++◌, length, get_or, take, refl, sym, ap, ◌∙◌, subst, ⊎_elim, arith, add-one, pow-suc}
use Rattle.std.specs.Prelude.{All, AllPairs, Contains}
use Rattle.std.specs.Int.{bit_at}
use Rattle.std.specs.List.Sorted.{IsStrictlyIncreasing}
use Rattle.std.proofs.lemmas.Bool.{cases_eq, eq-eqb, ne_eqb}
use Rattle.std.proofs.lemmas.Nat.Bits.{bit_at-suc, bit_at_lowest}
use Rattle.std.proofs.lemmas.List.Elements.{All-nil, All-cons, All-head, All-tail, All-contains}
use Rattle.std.proofs.lemmas.List.Kept.{AllPairs-cons}
use Rattle.std.proofs.lemmas.Map.Made.{Contains-tail}
use Rattle.set_walk.specs.Set.{members}

-- each is below all later ones
abbrev pub Rises : List ℕ → Type 0
Rises xs = AllPairs (λ x y. x < y) xs

pub Rises-head : (x : ℕ) (xs : List ℕ) → Rises (x ∷ xs) → All (λ y. x < y) xs
Rises-head x xs up k d h = up 0 (suc k) d (omega arith) (omega arith)

pub Rises-tail : (x : ℕ) (xs : List ℕ) → Rises (x ∷ xs) → Rises xs
Rises-tail x xs up i j d h l = up (suc i) (suc j) d (omega arith) (omega arith)

pub increasing_from_Rises : (xs : List ℕ) → Rises xs → IsStrictlyIncreasing xs
increasing_from_Rises xs up k h = up k (k + 1) 0 (omega arith) h

-- what a set holds at a list whose first id it has, or has not
members-yes : (set s : ℕ) (ss : List ℕ) → set % 2 ≡ 1 → members set (s ∷ ss) ≡ s ∷ members (set / 2) ss
members-yes set s ss h = rw (eq-eqb (set % 2) 1 h) refl

members-no : (set s : ℕ) (ss : List ℕ) → (set % 2 ≡ 1 → ⊥) → members set (s ∷ ss) ≡ members (set / 2) ss
members-no set s ss h = rw (ne_eqb (set % 2) 1 h) refl

-- what holds of all ids holds of those in the set
pub All-members : (P : ℕ → Type 0) (set : ℕ) (ss : List ℕ) → All P ss → All P (members set ss)
All-members P set [] h = h
All-members P set (s ∷ ss) h =
    let rest = All-members P (set / 2) ss (All-tail P s ss h) in
    ⊎_elim (λ yes. subst (All P) (sym (members-yes set s ss yes)) (All-cons P s _ (All-head P s ss h) rest))
    (λ no. subst (All P) (sym (members-no set s ss no)) rest) (cases_eq (set % 2) 1)

pub Rises-members : (set : ℕ) (ss : List ℕ) → Rises ss → Rises (members set ss)
Rises-members set [] h = h
Rises-members set (s ∷ ss) h =
    let rest = Rises-members (set / 2) ss (Rises-tail s ss h) in
    ⊎_elim
    (λ yes. subst Rises (sym (members-yes set s ss yes)) (AllPairs-cons (λ x y. x < y) s _ (All-members (λ y. s < y) (set / 2) ss (Rises-head s ss h)) rest))
    (λ no. subst Rises (sym (members-no set s ss no)) rest) (cases_eq (set % 2) 1)

-- a set has at most as many ids as there are
pub length-members : (set : ℕ) (ss : List ℕ) → length (members set ss) ≤ length ss
length-members set [] = omega arith
length-members set (s ∷ ss) =
    let rest = length-members (set / 2) ss in
    ⊎_elim (λ yes. rw (members-yes set s ss yes) (omega arith)) (λ no. rw (members-no set s ss no) (omega arith)) (cases_eq (set % 2) 1)

-- a set that is not empty has an id
pub members-some : (set : ℕ) (ss : List ℕ) → 1 ≤ set → set < 2 ^ length ss → 1 ≤ length (members set ss)
members-some set [] some few = omega arith
members-some set (s ∷ ss) some few =
    ⊎_elim (λ yes. rw (members-yes set s ss yes) (omega arith))
    (λ no. rw (members-no set s ss no) (members-some (set / 2) ss (omega arith) (omega (arith, pow-suc 2 (length ss))))) (cases_eq (set % 2) 1)

-- one more id of the list, which the set has or has not
more_has : (set : ℕ) (ss : List ℕ) (i : ℕ) → i < length ss → bit_at set i ≡ 1 → members set (take (suc i) ss) ≡ members set (take i ss) ++ get_or ss i 0 ∷ []
more_has set [] i h has = absurd (omega arith)
more_has set (s ∷ ss) zero h has = members-yes set s [] (sym (bit_at_lowest set) ∙ has)
more_has set (s ∷ ss) (suc i) h has =
    let rest = more_has (set / 2) ss i (omega arith) (sym (bit_at-suc set i) ∙ has) in
    ⊎_elim
    (λ yes. members-yes set s (take (suc i) ss) yes ∙ ap (λ xs. s ∷ xs) rest ∙ ap (λ xs. xs ++ get_or ss i 0 ∷ []) (sym (members-yes set s (take i ss) yes)))
    (λ no. members-no set s (take (suc i) ss) no ∙ rest ∙ ap (λ xs. xs ++ get_or ss i 0 ∷ []) (sym (members-no set s (take i ss) no)))
    (cases_eq (set % 2) 1)

more_lacks : (set : ℕ) (ss : List ℕ) (i : ℕ) → i < length ss → (bit_at set i ≡ 1 → ⊥) → members set (take (suc i) ss) ≡ members set (take i ss)
more_lacks set [] i h lacks = absurd (omega arith)
more_lacks set (s ∷ ss) zero h lacks = members-no set s [] (λ e. lacks (bit_at_lowest set ∙ e))
more_lacks set (s ∷ ss) (suc i) h lacks =
    let rest = more_lacks (set / 2) ss i (omega arith) (λ e. lacks (bit_at-suc set i ∙ e)) in
    ⊎_elim
    (λ yes. members-yes set s (take (suc i) ss) yes ∙ ap (λ xs. s ∷ xs) rest ∙ sym (members-yes set s (take i ss) yes))
    (λ no. members-no set s (take (suc i) ss) no ∙ rest ∙ sym (members-no set s (take i ss) no))
    (cases_eq (set % 2) 1)

pub members_more_has : (set : ℕ) (ss : List ℕ) (i : ℕ) → i < length ss → bit_at set i ≡ 1 → members set (take (i + 1) ss) ≡ members set (take i ss) ++ get_or ss i 0 ∷ []
members_more_has set ss i h has = rw add-one (more_has set ss i h has)

pub members_more_lacks : (set : ℕ) (ss : List ℕ) (i : ℕ) → i < length ss → (bit_at set i ≡ 1 → ⊥) → members set (take (i + 1) ss) ≡ members set (take i ss)
members_more_lacks set ss i h lacks = rw add-one (more_lacks set ss i h lacks)

-- a set whose ids are these
pub record SetOf (ids ss : List ℕ) : Type 0 where
  pub set : ℕ
  pub below : set < 2 ^ length ss
  pub is : members set ss ≡ ids

with_first : (s : ℕ) (ss ids : List ℕ) → SetOf ids ss → SetOf (s ∷ ids) (s ∷ ss)
with_first s ss ids rest =
    record {
      set = rest.set * 2 + 1;
      below = let few = rest.below in omega (arith, pow-suc 2 (length ss));
      is = let half : (rest.set * 2 + 1) / 2 ≡ rest.set = omega arith in members-yes (rest.set * 2 + 1) s ss (omega arith) ∙ ap (λ k. s ∷ members k ss) half ∙ ap (λ xs. s ∷ xs) rest.is;
    }

without_first : (s : ℕ) (ss ids : List ℕ) → SetOf ids ss → SetOf ids (s ∷ ss)
without_first s ss ids rest =
    record {
      set = rest.set * 2;
      below = let few = rest.below in omega (arith, pow-suc 2 (length ss));
      is = let half : (rest.set * 2) / 2 ≡ rest.set = omega arith in members-no (rest.set * 2) s ss (λ odd. omega arith) ∙ ap (λ k. members k ss) half ∙ rest.is;
    }

known_after : (s : ℕ) (ss xs : List ℕ) → All (λ x. s < x) xs → All (Contains (s ∷ ss)) xs → All (Contains ss) xs
known_after s ss xs above known k d h = Contains-tail s ss (get_or xs k d) (λ e. let over = above k d h in omega arith) (known k d h)

known_above : (s : ℕ) (ss : List ℕ) (x : ℕ) → Rises (s ∷ ss) → (s ≡ x → ⊥) → Contains (s ∷ ss) x → s < x
known_above s ss x up other known = All-contains (λ y. s < y) ss x (Rises-head s ss up) (Contains-tail s ss x other known)

-- each rising list of known ids is what some set holds
pub set_of : (ss xs : List ℕ) → Rises ss → Rises xs → All (Contains ss) xs → SetOf xs ss
set_of [] [] up rise known = record { set = 0; below = omega arith; is = refl }
set_of [] (x ∷ xs) up rise known = absurd (let at = known 0 0 (omega arith) in omega arith)
set_of (s ∷ ss) [] up rise known = without_first s ss [] (set_of ss [] (Rises-tail s ss up) rise (All-nil (Contains ss)))
set_of (s ∷ ss) (x ∷ xs) up rise known =
    ⊎_elim
    (λ same. subst (λ y. SetOf (y ∷ xs) (s ∷ ss)) same (with_first s ss xs (set_of ss xs (Rises-tail s ss up) (Rises-tail x xs rise) (known_after s ss xs (subst (λ y. All (λ z. y < z) xs) (sym same) (Rises-head x xs rise)) (All-tail (Contains (s ∷ ss)) x xs known)))))
    (λ other.
    let above : s < x = known_above s ss x up other (known 0 0 (omega arith)) in
    let all_above : All (λ z. s < z) (x ∷ xs) = All-cons (λ z. s < z) x xs above (λ k d h. let over = Rises-head x xs rise k d h in omega arith) in
    without_first s ss (x ∷ xs) (set_of ss (x ∷ xs) (Rises-tail s ss up) rise (known_after s ss (x ∷ xs) all_above known)))
    (cases_eq s x)

pub members-zero : (ss : List ℕ) → members 0 ss ≡ []
members-zero [] = refl
members-zero (s ∷ ss) = members-no 0 s ss (λ e. omega arith) ∙ members-zero ss
