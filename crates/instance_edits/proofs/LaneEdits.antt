-- Lanes of which one is set, or those of a site or a customer come or go: what puts the lanes back.
use Rattle.std.proofs.Common.{◌≡◌, ℕ, zero, suc, ◌<◌, Bool, true, false, cond, not, List, [], ◌∷◌, map, length, Contains, Option, None, Some, IfSome, IsSome, is_some, slice_index, refl, sym, ap, subst, ◌∙◌, arith}
use Rattle.std.proofs.lemmas.List.{get_or_default}
use Rattle.std.proofs.lemmas.List.Elements.{Contains-get_or, Contains-append_right}
use Rattle.std.specs.Ordering.{eq_by_cmp}
use Rattle.std.specs.FinMap.{get, insert, retain_keys, get-insert, get-remove, get-retain_keys, same_map}
use Rattle.location_terms.specs.Instance.{Lanes, pair_cmp, row_entries}
use Rattle.location_terms.proofs.Table.{pair_cmp-total, pair_cmp-exact, tied, pair_tied, pair_apart}
use Rattle.instance_store.specs.Changes.{lanes_with, lanes_and}

-- a pair that ties with another one is that
same_pair : (p q : ℕ × ℕ) → eq_by_cmp pair_cmp p q ≡ true → p ≡ q
same_pair p q e = pair_cmp-exact p q (tied _ e)

false_of : (b : Bool) → b ≡ true → b ≡ false → ⊥
false_of true e f = cc
false_of false e f = cc

Contains-first : {X : Type 0} (x : X) (xs : List X) → Contains (x ∷ xs) x
Contains-first x xs = Contains-get_or (x ∷ xs) 0 x (omega arith)

Contains-later : {X : Type 0} (x : X) (xs : List X) (y : X) → Contains xs y → Contains (x ∷ xs) y
Contains-later x xs y h = Contains-append_right (x ∷ []) xs y h

-- what is found once a lane is set
pub get-lanes_with : (m : Lanes) (s c : ℕ) (o : Option ℕ) (q : ℕ × ℕ) → get (lanes_with m s c o) q ≡ cond (eq_by_cmp pair_cmp q (s, c)) o (get m q)
get-lanes_with m s c (Some cost) q = get-insert pair_cmp-total m (s, c) cost q
get-lanes_with m s c None q = get-remove pair_cmp-total m (s, c) q

-- a lane that is set, and set back
pub lanes_with_back : (m : Lanes) (s c : ℕ) (o : Option ℕ) → lanes_with (lanes_with m s c o) s c (get m (s, c)) ≡ m
lanes_with_back m s c o = same_map pair_cmp-total pair_cmp-exact _ m (λ q.
    get-lanes_with (lanes_with m s c o) s c (get m (s, c)) q
    ∙ ap (λ x. cond (eq_by_cmp pair_cmp q (s, c)) (get m (s, c)) x) (get-lanes_with m s c o q)
    ∙ by q (eq_by_cmp pair_cmp q (s, c)) refl)
  where
    by : (q : ℕ × ℕ) (b : Bool) → eq_by_cmp pair_cmp q (s, c) ≡ b → cond (eq_by_cmp pair_cmp q (s, c)) (get m (s, c)) (cond (eq_by_cmp pair_cmp q (s, c)) o (get m q)) ≡ get m q
    by q true e = ap (λ b. cond b (get m (s, c)) (cond b o (get m q))) e ∙ ap (get m) (sym (same_pair q (s, c) e))
    by q false e = ap (λ b. cond b (get m (s, c)) (cond b o (get m q))) e

-- lanes of one site, or to one customer: `pair` makes the pair of an id of the other kind
module _ (pair : ℕ → ℕ × ℕ) where
  -- other lanes stay
  pub get-lanes_and_other : (m : Lanes) (cs : List ℕ) (row : List (Option ℕ)) (q : ℕ × ℕ) → ((c : ℕ) → q ≡ pair c → ⊥) → get (lanes_and m (row_entries pair cs row)) q ≡ get m q
  get-lanes_and_other m [] row q apart = refl
  get-lanes_and_other m (c ∷ cs) [] q apart = refl
  get-lanes_and_other m (c ∷ cs) (None ∷ row) q apart = get-lanes_and_other m cs row q apart
  get-lanes_and_other m (c ∷ cs) (Some cost ∷ row) q apart =
      get-lanes_and_other (insert m (pair c) cost) cs row q apart
      ∙ get-insert pair_cmp-total m (pair c) cost q
      ∙ ap (λ b. cond b (Some cost) (get m q)) (pair_apart q (pair c) (apart c))

  -- where the lanes that come are those of another map, what is there already as in that map stays so
  module _ (l : Lanes) where
    abbrev row_of : List ℕ → List (Option ℕ)
    row_of cs = map (λ c. get l (pair c)) cs

    get-insert_alike : (m : Lanes) (c cost : ℕ) (q : ℕ × ℕ) → get l (pair c) ≡ Some cost → get m q ≡ get l q → get (insert m (pair c) cost) q ≡ get l q
    get-insert_alike m c cost q is same = get-insert pair_cmp-total m (pair c) cost q ∙ by (eq_by_cmp pair_cmp q (pair c)) refl
      where
        by : (b : Bool) → eq_by_cmp pair_cmp q (pair c) ≡ b → cond b (Some cost) (get m q) ≡ get l q
        by true e = sym is ∙ ap (get l) (sym (same_pair q (pair c) e))
        by false e = same

    pub get-lanes_and_alike : (m : Lanes) (cs : List ℕ) (q : ℕ × ℕ) → get m q ≡ get l q → get (lanes_and m (row_entries pair cs (row_of cs))) q ≡ get l q
    get-lanes_and_alike m [] q same = same
    get-lanes_and_alike m (c ∷ cs) q same = by (λ n is. get-lanes_and_alike n cs q is) (get l (pair c)) refl
      where
        by : ((n : Lanes) → get n q ≡ get l q → get (lanes_and n (row_entries pair cs (row_of cs))) q ≡ get l q) → (o : Option ℕ) → get l (pair c) ≡ o → get (lanes_and m (row_entries pair (c ∷ cs) (get l (pair c) ∷ row_of cs))) q ≡ get l q
        by rest None e = ap (λ o. get (lanes_and m (row_entries pair (c ∷ cs) (o ∷ row_of cs))) q) e ∙ rest m same
        by rest (Some cost) e =
            ap (λ o. get (lanes_and m (row_entries pair (c ∷ cs) (o ∷ row_of cs))) q) e
            ∙ rest (insert m (pair c) cost) (get-insert_alike m c cost q e same)

    -- and a lane that comes is as in that map
    pub get-lanes_and_listed : (m : Lanes) (cs : List ℕ) (j cost : ℕ) → j < length cs → get l (pair (slice_index cs j)) ≡ Some cost → get (lanes_and m (row_entries pair cs (row_of cs))) (pair (slice_index cs j)) ≡ get l (pair (slice_index cs j))
    get-lanes_and_listed m [] j cost below there = absurd (omega arith)
    get-lanes_and_listed m (c ∷ cs) zero cost below there =
        ap (λ o. get (lanes_and m (row_entries pair (c ∷ cs) (o ∷ row_of cs))) (pair c)) there
        ∙ get-lanes_and_alike (insert m (pair c) cost) cs (pair c)
        (get-insert pair_cmp-total m (pair c) cost (pair c) ∙ ap (λ b. cond b (Some cost) (get m (pair c))) (pair_tied (pair c)) ∙ sym there)
    get-lanes_and_listed m (c ∷ cs) (suc j) cost below there = by (λ n. get-lanes_and_listed n cs j cost (omega arith) there) (get l (pair c)) refl
      where
        by : ((n : Lanes) → get (lanes_and n (row_entries pair cs (row_of cs))) (pair (slice_index cs j)) ≡ get l (pair (slice_index cs j))) → (o : Option ℕ) → get l (pair c) ≡ o → get (lanes_and m (row_entries pair (c ∷ cs) (get l (pair c) ∷ row_of cs))) (pair (slice_index cs j)) ≡ get l (pair (slice_index cs j))
        by rest None e = ap (λ o. get (lanes_and m (row_entries pair (c ∷ cs) (o ∷ row_of cs))) (pair (slice_index cs j))) e ∙ rest m
        by rest (Some n) e = ap (λ o. get (lanes_and m (row_entries pair (c ∷ cs) (o ∷ row_of cs))) (pair (slice_index cs j))) e ∙ rest (insert m (pair c) n)

    -- lanes of a map between known ids that were taken out come back, where `of` says which these are
    pub lanes_and_back : (of : ℕ × ℕ → Bool) (cs : List ℕ) → ((q : ℕ × ℕ) → of q ≡ true → IsSome (get l q) → (c : ℕ) × Contains cs c × (q ≡ pair c)) → lanes_and (retain_keys l (λ q. not (of q))) (row_entries pair cs (row_of cs)) ≡ l
    lanes_and_back of cs known = same_map pair_cmp-total pair_cmp-exact _ l (λ q. by q (of q) refl)
      where
        kept : (q : ℕ × ℕ) → get (retain_keys l (λ q. not (of q))) q ≡ cond (not (of q)) (get l q) None
        kept q = get-retain_keys l (λ q. not (of q)) q (λ x tie. ap (λ (p : ℕ × ℕ). not (of p)) (sym (pair_cmp-exact q x tie)))

        taken : (q : ℕ × ℕ) → of q ≡ true → (o : Option ℕ) → get l q ≡ o → get (lanes_and (retain_keys l (λ q. not (of q))) (row_entries pair cs (row_of cs))) q ≡ get l q
        taken q is None e = get-lanes_and_alike (retain_keys l (λ q. not (of q))) cs q (kept q ∙ ap (λ b. cond (not b) (get l q) None) is ∙ sym e)
        taken q is (Some cost) e =
            let k = known q is (ap is_some e) in
            let at : pair (slice_index cs k.1.0) ≡ q = ap pair (get_or_default cs k.1.0 0 k.0 k.1.1 ∙ k.1.2) ∙ sym k.2 in
            subst (λ p. get (lanes_and (retain_keys l (λ q. not (of q))) (row_entries pair cs (row_of cs))) p ≡ get l p) at
            (get-lanes_and_listed (retain_keys l (λ q. not (of q))) cs k.1.0 cost k.1.1 (ap (get l) at ∙ e))

        by : (q : ℕ × ℕ) (b : Bool) → of q ≡ b → get (lanes_and (retain_keys l (λ q. not (of q))) (row_entries pair cs (row_of cs))) q ≡ get l q
        by q true is = taken q is (get l q) refl
        by q false isnt = get-lanes_and_alike (retain_keys l (λ q. not (of q))) cs q (kept q ∙ ap (λ b. cond (not b) (get l q) None) isnt)

  -- lanes that came are taken out again, where there was none of theirs before
  pub lanes_and_out : (l : Lanes) (of : ℕ × ℕ → Bool) (cs : List ℕ) (row : List (Option ℕ)) → ((q : ℕ × ℕ) → of q ≡ true → get l q ≡ None) → ((c : ℕ) → of (pair c) ≡ true) → retain_keys (lanes_and l (row_entries pair cs row)) (λ q. not (of q)) ≡ l
  lanes_and_out l of cs row none of-pair = same_map pair_cmp-total pair_cmp-exact _ l (λ q. kept q ∙ by q (of q) refl)
    where
      kept : (q : ℕ × ℕ) → get (retain_keys (lanes_and l (row_entries pair cs row)) (λ q. not (of q))) q ≡ cond (not (of q)) (get (lanes_and l (row_entries pair cs row)) q) None
      kept q = get-retain_keys (lanes_and l (row_entries pair cs row)) (λ q. not (of q)) q (λ x tie. ap (λ (p : ℕ × ℕ). not (of p)) (sym (pair_cmp-exact q x tie)))

      by : (q : ℕ × ℕ) (b : Bool) → of q ≡ b → cond (not (of q)) (get (lanes_and l (row_entries pair cs row)) q) None ≡ get l q
      by q true is = ap (λ b. cond (not b) (get (lanes_and l (row_entries pair cs row)) q) None) is ∙ sym (none q is)
      by q false isnt =
          ap (λ b. cond (not b) (get (lanes_and l (row_entries pair cs row)) q) None) isnt
          ∙ get-lanes_and_other l cs row q (λ c same. false_of (of (pair c)) (of-pair c) (sym (ap of same) ∙ isnt))

  -- what holds of the lanes that are there and of those that come holds of all
  pub lanes_and_hold : (P : ℕ × ℕ → ℕ → Type 0) (m : Lanes) (cs : List ℕ) (row : List (Option ℕ)) (q : ℕ × ℕ) → IfSome (get m q) (P q) → ((c cost : ℕ) → Contains cs c → Contains row (Some cost) → P (pair c) cost) → IfSome (get (lanes_and m (row_entries pair cs row)) q) (P q)
  lanes_and_hold P m [] row q old new = old
  lanes_and_hold P m (c ∷ cs) [] q old new = old
  lanes_and_hold P m (c ∷ cs) (None ∷ row) q old new = lanes_and_hold P m cs row q old (λ d cost i k. new d cost (Contains-later c cs d i) (Contains-later None row (Some cost) k))
  lanes_and_hold P m (c ∷ cs) (Some cost ∷ row) q old new =
      lanes_and_hold P (insert m (pair c) cost) cs row q
      (subst (λ o. IfSome o (P q)) (sym (get-insert pair_cmp-total m (pair c) cost q)) (by (eq_by_cmp pair_cmp q (pair c)) refl (new c cost (Contains-first c cs) (Contains-first (Some cost) row))))
      (λ d n i k. new d n (Contains-later c cs d i) (Contains-later (Some cost) row (Some n) k))
    where
      by : (b : Bool) → eq_by_cmp pair_cmp q (pair c) ≡ b → P (pair c) cost → IfSome (cond b (Some cost) (get m q)) (P q)
      by true e h = subst (λ p. P p cost) (sym (same_pair q (pair c) e)) h
      by false e h = old
