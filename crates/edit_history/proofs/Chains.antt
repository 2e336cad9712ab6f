-- A chain of edits that gets one more or loses its last.
use Rattle.std.proofs.Common.{◌≡◌, ℕ, suc, ◌-◌, ◌<◌, Bool, true, false, List, [], ◌∷◌, ◌++◌, length, Some, None, Ok, refl, sym, ap, subst, ◌∙◌, arith, rules}
use Rattle.std.specs.Prelude.{Option, map, fold, take, slice_get, unwrap_or, IsSomeAnd}
use Rattle.std.proofs.lemmas.List.{map-append}
use Rattle.std.specs.Bool.{then_some}
use Rattle.location_terms.specs.Instance.{Instance, IsValid}
use Rattle.instance_edits.specs.declared.edit.Inverse.{Inverse}
use Rattle.instance_edits.specs.Edits.{edited, edited_next, edits_applied}
use Rattle.instance_edits.specs.Undo.{put_back, undone, suits, LeadsBack}
use Rattle.edit_history.specs.declared.history.Held.{Held}
use Rattle.edit_history.specs.History.{HeldEdit}
use Rattle.edit_history.specs.Chain.{instance_before, IsStepTo, IsEditChain, told_held}

base_of-push : (I : Instance) (hs : List Held) (h : Held) → instance_before I (hs ++ h ∷ []) ≡ instance_before (put_back I h.back) hs
base_of-push I [] h = refl
base_of-push I (x ∷ hs) h = ap (λ B. put_back B x.back) (base_of-push I hs h)

chain-push : (I : Instance) (hs : List Held) (h : Held) → IsEditChain (put_back I h.back) hs → IsStepTo I h → IsEditChain I (hs ++ h ∷ [])
chain-push I [] h chain step = (step, tt)
chain-push I (x ∷ hs) h chain step = (subst (λ B. IsStepTo B x) (sym (base_of-push I hs h)) chain.0, chain-push I hs h chain.1 step)

chain-pop : (I : Instance) (hs : List Held) (h : Held) → IsEditChain I (hs ++ h ∷ []) → IsEditChain (put_back I h.back) hs × IsStepTo I h
chain-pop I [] h chain = (tt, chain.0)
chain-pop I (x ∷ hs) h chain =
    let rest : IsEditChain (put_back I h.back) hs × IsStepTo I h = chain-pop I hs h chain.1 in
    ((subst (λ B. IsStepTo B x) (base_of-push I hs h) chain.0, rest.0), rest.1)

-- the edits of a chain lead from its base to its end
pub leads_on : (I : Instance) (hs : List Held) → IsEditChain I hs → edits_applied (instance_before I hs) (map (λ held. held.edit) (map told_held hs)) ≡ Ok I
leads_on I [] chain = refl
leads_on I (h ∷ hs) chain = ap (λ r. fold edited_next r (map (λ held. held.edit) (map told_held hs))) chain.0.made ∙ leads_on I hs chain.1

-- what is undone is what is put back
then_put : (suit : Bool) (J K : Instance) → then_some suit J ≡ Some K → J ≡ K
then_put true J K is = ap (λ o. unwrap_or o J) is
then_put false J K is = absurd cc

pub put_back-is : (I J : Instance) (b : Inverse) → undone I b ≡ Some J → put_back I b ≡ J
put_back-is I J b is = then_put (suits I b) (put_back I b) J is

-- one more edit, which led on and is led back
module _ (I J : Instance) (hs more : List Held) (h : Held) (is : more ≡ hs ++ h ∷ []) where
  module _ (chain : IsEditChain I hs) (valid : IsValid I) (made : edited I h.edit ≡ Ok J) (back : undone J h.back ≡ Some I) where
    before : put_back J h.back ≡ I
    before = put_back-is J I h.back back

    step : IsStepTo J h
    step = record {
      back = subst (λ o. IsSomeAnd o IsValid) (sym back) valid;
      made = subst (λ K. edited K h.edit ≡ Ok J) (sym before) made;
    }

    pub longer_chain : IsEditChain J more
    longer_chain = subst (IsEditChain J) (sym is) (chain-push J hs h (subst (λ K. IsEditChain K hs) (sym before) chain) step)

    pub same_base : instance_before J more ≡ instance_before I hs
    same_base = ap (instance_before J) is ∙ base_of-push J hs h ∙ ap (λ K. instance_before K hs) before

  -- the last edit of a chain leads back
  pub last_step : IsEditChain J more → IsStepTo J h
  last_step chain = (chain-pop J hs h (subst (IsEditChain J) is chain)).1

  module _ (chain : IsEditChain J more) (back : undone J h.back ≡ Some I) where
    pub shorter_chain : IsEditChain I hs
    shorter_chain = subst (λ K. IsEditChain K hs) (put_back-is J I h.back back) (chain-pop J hs h (subst (IsEditChain J) is chain)).0

    pub base_stays : instance_before I hs ≡ instance_before J more
    base_stays = sym (ap (instance_before J) is ∙ base_of-push J hs h ∙ ap (λ K. instance_before K hs) (put_back-is J I h.back back))

-- The edits before the last one.
module _ {X : Type 0} where
  some_behind : (xs : List X) (x : X) → 0 < length (xs ++ x ∷ [])
  some_behind [] x = omega arith
  some_behind (y ∷ ys) x = omega arith

  front_of : (xs : List X) (x : X) → take (length (xs ++ x ∷ []) - 1) (xs ++ x ∷ []) ≡ xs
  front_of [] x = refl
  front_of (y ∷ xs) x =
      let e : length (y ∷ (xs ++ x ∷ [])) - 1 ≡ suc (length (xs ++ x ∷ []) - 1) = omega (arith, some_behind xs x) in
      ap (λ n. take n (y ∷ (xs ++ x ∷ []))) e ∙ ap (λ es. y ∷ es) (front_of xs x)

  same_front : (xs ys : List X) (x y : X) → xs ++ x ∷ [] ≡ ys ++ y ∷ [] → xs ≡ ys
  same_front xs ys x y is = sym (front_of xs x) ∙ ap (λ es. take (length es - 1) es) is ∙ front_of ys y

  -- what stands at the end of a list is behind all others
  pub split_last : (xs : List X) (x : X) → Some x ≡ slice_get xs (length xs - 1) → (front : List X) × (xs ≡ front ++ x ∷ [])
  split_last [] x at = absurd (search rules)
  split_last (y ∷ []) x at = ([], ap (λ o. unwrap_or o y ∷ []) (sym at))
  split_last (y ∷ z ∷ xs) x at =
      let e : length (y ∷ z ∷ xs) - 1 ≡ suc (length (z ∷ xs) - 1) = omega arith in
      let rest = split_last (z ∷ xs) x (at ∙ ap (slice_get (y ∷ z ∷ xs)) e) in
      (y ∷ rest.0, ap (λ es. y ∷ es) rest.1)

-- they lead to the instance before it
pub leads_before : (I : Instance) (hs more : List Held) (h : Held) → more ≡ hs ++ h ∷ [] → IsEditChain I more → (former : List HeldEdit) (last : HeldEdit) → map told_held more ≡ former ++ last ∷ []
    → edits_applied (instance_before I more) (map (λ held. held.edit) former) ≡ Ok (put_back I h.back)
leads_before I hs more h is chain former last told =
    let whole : map told_held (hs ++ h ∷ []) ≡ map told_held hs ++ told_held h ∷ [] = map-append told_held hs (h ∷ []) in
    let front : map told_held hs ≡ former = same_front (map told_held hs) former (told_held h) last (sym whole ∙ ap (map told_held) (sym is) ∙ told) in
    let base : instance_before I more ≡ instance_before (put_back I h.back) hs = ap (instance_before I) is ∙ base_of-push I hs h in
    let rest : IsEditChain (put_back I h.back) hs = (chain-pop I hs h (subst (IsEditChain I) is chain)).0 in
    subst (λ es. edits_applied (instance_before I more) (map (λ held. held.edit) es) ≡ Ok (put_back I h.back)) front
    (subst (λ B. edits_applied B (map (λ held. held.edit) (map told_held hs)) ≡ Ok (put_back I h.back)) (sym base) (leads_on (put_back I h.back) hs rest))
