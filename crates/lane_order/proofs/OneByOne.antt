-- Lists that are changed one after the other.
use Rattle.std.proofs.Common.{◌≡◌, ℕ, ◌+◌, ◌<◌, ◌≤◌, inl, inr, List, length, get_or, set, sym, ap, subst, ◌∙◌, arith}
use Rattle.std.proofs.lemmas.Bool.{cases_eq}
use Rattle.std.proofs.lemmas.List.{length-set, get_or_default, get_or-set_same, get_or-set_other}
use Rattle.lane_order.specs.Listed.{Listed}

module _ (Q : ℕ → Listed → Listed → Type 0) (old lists : List Listed) (k : ℕ) (was new : Listed) (within : k < length old) (count : length lists ≡ length old)
    (done : (j : ℕ) (d : Listed) → j < k → Q j (get_or old j d) (get_or lists j d)) (left : (j : ℕ) (d : Listed) → k ≤ j → get_or lists j d ≡ get_or old j d) (one : Q k (get_or lists k was) new) where
  pub count-next : length (set lists k new) ≡ length old
  count-next = length-set lists k new ∙ count

  pub done-next : (j : ℕ) (d : Listed) → j < k + 1 → Q j (get_or old j d) (get_or (set lists k new) j d)
  done-next j d b =
      elim (cases_eq j k) [
        | inl same ↦
            let before : get_or lists k was ≡ get_or old j d = left k was (omega arith) ∙ get_or_default old k was d within ∙ ap (λ n. get_or old n d) (sym same) in
            let after : new ≡ get_or (set lists k new) j d = sym (get_or-set_same lists k new d (omega (arith, within, count))) ∙ ap (λ n. get_or (set lists k new) n d) (sym same) in
            subst (λ (p : ℕ × Listed × Listed). Q p.0 p.1 p.2) (λ n. (sym same n, before n, after n)) one
        | inr other ↦ subst (Q j (get_or old j d)) (sym (get_or-set_other lists k j new d other)) (done j d (omega (arith, b, other)))
      ]

  pub left-next : (j : ℕ) (d : Listed) → k + 1 ≤ j → get_or (set lists k new) j d ≡ get_or old j d
  left-next j d b = get_or-set_other lists k j new d (λ same. absurd (omega (arith, same, b))) ∙ left j d (omega (arith, b))
