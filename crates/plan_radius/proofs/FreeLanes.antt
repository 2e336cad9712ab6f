-- What is found in the lanes that are left, and in those that cost nothing.
use Rattle.std.proofs.Common.{◌≡◌, ℕ, Bool, true, false, cond, List, [], ◌∷◌, map, Option, None, Some, option_map, is_some, refl, sym, ap, ◌∙◌}
use Rattle.std.specs.Ordering.{eq_by_cmp}
use Rattle.std.specs.FinMap.{get, entries, find, get-entries, get-from_entries, get-retain_keys}
use Rattle.location_terms.specs.Instance.{Instance, Lanes, pair_cmp, lane}
use Rattle.location_terms.proofs.Table.{pair_cmp-total, pair_cmp-exact}
use Rattle.plan_radius.specs.Cheaper.{is_cheaper, below_cost, free_lanes, without_costs}

pub lane-below : (I : Instance) (r s c : ℕ) → lane (below_cost I r) s c ≡ cond (is_cheaper r (lane I s c)) (lane I s c) None
lane-below I r s c = get-retain_keys I.lanes (λ pair. is_cheaper r (lane I pair.0 pair.1)) (s, c) (λ x tie. ap (λ (p : ℕ × ℕ). is_cheaper r (lane I p.0 p.1)) (sym (pair_cmp-exact (s, c) x tie)))

-- each entry at no cost
abbrev unpriced : List ((ℕ × ℕ) × ℕ) → List ((ℕ × ℕ) × ℕ)
unpriced es = map (λ (e : (ℕ × ℕ) × ℕ). (e.0, 0)) es

abbrev nothing : ℕ → ℕ
nothing cost = 0

find-free : (es : List ((ℕ × ℕ) × ℕ)) (q : ℕ × ℕ) → find pair_cmp q (unpriced es) ≡ option_map nothing (find pair_cmp q es)
find-free [] q = refl
find-free (e ∷ es) q = by (eq_by_cmp pair_cmp q e.0) (find-free es q)
  where
    by : (b : Bool) → find pair_cmp q (unpriced es) ≡ option_map nothing (find pair_cmp q es) → cond b (Some 0) (find pair_cmp q (unpriced es)) ≡ option_map nothing (cond b (Some e.1) (find pair_cmp q es))
    by true rest = refl
    by false rest = rest

get-free : (lanes : Lanes) (q : ℕ × ℕ) → get (free_lanes lanes) q ≡ option_map nothing (get lanes q)
get-free lanes q = get-from_entries pair_cmp-total (unpriced (entries lanes)) q ∙ find-free (entries lanes) q ∙ ap (option_map nothing) (sym (get-entries lanes q))

pub lane-free : (I : Instance) (s c : ℕ) → lane (without_costs I) s c ≡ option_map nothing (lane I s c)
lane-free I s c = get-free I.lanes (s, c)

is_some-map : (o : Option ℕ) → is_some (option_map nothing o) ≡ is_some o
is_some-map None = refl
is_some-map (Some cost) = refl

pub is_some-free : (I : Instance) (s c : ℕ) → is_some (lane (without_costs I) s c) ≡ is_some (lane I s c)
is_some-free I s c = ap is_some (lane-free I s c) ∙ is_some-map (lane I s c)
