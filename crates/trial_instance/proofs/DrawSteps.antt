-- Draws behind draws.
use Rattle.std.proofs.Common.{◌≡◌, ℕ, zero, suc, ◌+◌, ◌*◌, ◌/◌, ◌%◌, List, [], ◌∷◌, ◌++◌, map, refl, sym, ap, ◌∙◌, arith}
use Rattle.std.specs.List.{range_with_len}
use Rattle.std.proofs.lemmas.List.FromFn.{map-range_with_len_more}
use Rattle.trial_instance.specs.Draws.{next_state, state_after, draw_at}
use Rattle.trial_instance.specs.declared.square.Place.{Place}
use Rattle.trial_instance.specs.declared.square.PlacedSite.{PlacedSite}
use Rattle.trial_instance.specs.Trial.{place_at, placed_site_at, trial_site, trial_customer, trial_sites, trial_customers}

-- the state after more draws
pub after_more : (seed a b : ℕ) → state_after (state_after seed a) b ≡ state_after seed (a + b)
unfolding state_after
after_more seed a zero =
    let e : a ≡ a + zero = omega arith in
    ap (state_after seed) e
after_more seed a (suc b) =
    let e : a + suc b ≡ suc (a + b) = omega arith in
    rw e (ap next_state (after_more seed a b))

pub state_from : (seed a b c : ℕ) → a + b ≡ c → state_after (state_after seed a) b ≡ state_after seed c
state_from seed a b c e = after_more seed a b ∙ ap (state_after seed) e

-- a draw, a place and a site behind so many draws
draw_from : (seed a b c : ℕ) → a + b ≡ c → draw_at (state_after seed a) b ≡ draw_at seed c
draw_from seed a b c e =
    let next : a + suc b ≡ suc c = omega (arith, e) in
    ap (λ s. s / 65536) (state_from seed a (suc b) (suc c) next)

pub place_from : (seed a b c : ℕ) → a + b ≡ c → place_at (state_after seed a) b ≡ place_at seed c
place_from seed a b c e =
    let next : a + (b + 1) ≡ c + 1 = omega (arith, e) in
    rw (draw_from seed a b c e, draw_from seed a (b + 1) (c + 1) next) refl

pub site_from : (seed a b c : ℕ) → a + b ≡ c → placed_site_at (state_after seed a) b ≡ placed_site_at seed c
site_from seed a b c e =
    let next : a + (b + 2) ≡ c + 2 = omega (arith, e) in
    rw (place_from seed a b c e, draw_from seed a (b + 2) (c + 2) next) refl

-- one more site, and one more customer
pub sites_more : (seed k : ℕ) → trial_sites seed k ++ placed_site_at (state_after seed (3 * k)) 0 ∷ [] ≡ trial_sites seed (k + 1)
sites_more seed k =
    ap (λ s. trial_sites seed k ++ s ∷ []) (site_from seed (3 * k) 0 (3 * k) (omega arith)) ∙ sym (map-range_with_len_more (trial_site seed) 0 k k (omega arith))

pub customers_more : (seed k : ℕ) → trial_customers seed 0 k ++ place_at (state_after seed (2 * k)) 0 ∷ [] ≡ trial_customers seed 0 (k + 1)
customers_more seed k =
    ap (λ s. trial_customers seed 0 k ++ s ∷ []) (place_from seed (2 * k) 0 (3 * 0 + 2 * k) (omega arith)) ∙ sym (map-range_with_len_more (trial_customer seed 0) 0 k k (omega arith))

-- the customers of a seed stand behind its sites
pub customers_behind : (seed m : ℕ) (at : ℕ) (n : ℕ) → map (trial_customer (state_after seed (3 * m)) 0) (range_with_len at n) ≡ map (trial_customer seed m) (range_with_len at n)
customers_behind seed m at zero = refl
customers_behind seed m at (suc n) =
    rw (place_from seed (3 * m) (3 * 0 + 2 * at) (3 * m + 2 * at) (omega arith), customers_behind seed m (at + 1) n) refl

-- two and three draws in a row
pub after_two : (s : ℕ) → next_state (next_state s) ≡ state_after s 2
unfolding state_after
after_two s = refl

pub after_three : (s : ℕ) → next_state (state_after s 2) ≡ state_after s 3
unfolding state_after
after_three s = refl

pub place_drawn : (s : ℕ) → ◌≡◌ {A = Place} (record { x = draw_at s 0 % 1000; y = draw_at (next_state s) 0 % 1000 }) (place_at s 0)
unfolding state_after
place_drawn s = refl

pub site_drawn : (s : ℕ) → ◌≡◌ {A = PlacedSite} (record { place = place_at s 0; opening = 500 + draw_at (state_after s 2) 0 % 1000 }) (placed_site_at s 0)
unfolding state_after
site_drawn s = refl

pub no_draws : (s : ℕ) → s ≡ state_after s 0
unfolding state_after
no_draws s = refl

pub first_draw : (s x : ℕ) → x ≡ s → (1103515245 * x + 12345) % 2147483648 / 65536 % 1000 ≡ draw_at s 0 % 1000
unfolding state_after
first_draw s x e = rw e refl

-- a step of the loop over sites, and of that over customers
pub sites_step : (seed k s : ℕ) (before after : List PlacedSite) (site : PlacedSite) → before ≡ trial_sites seed k → s ≡ state_after seed (3 * k) → site ≡ placed_site_at s 0 → after ≡ before ++ site ∷ []
    → after ≡ trial_sites seed (k + 1)
sites_step seed k s before after site so_far at drawn pushed = pushed ∙ rw (so_far, drawn, at) (sites_more seed k)

pub sites_state : (seed k s t : ℕ) → s ≡ state_after seed (3 * k) → t ≡ state_after s 3 → t ≡ state_after seed (3 * (k + 1))
sites_state seed k s t at next = next ∙ ap (λ x. state_after x 3) at ∙ state_from seed (3 * k) 3 (3 * (k + 1)) (omega arith)

pub customers_step : (seed k s : ℕ) (before after : List Place) (place : Place) → before ≡ trial_customers seed 0 k → s ≡ state_after seed (2 * k) → place ≡ place_at s 0 → after ≡ before ++ place ∷ []
    → after ≡ trial_customers seed 0 (k + 1)
customers_step seed k s before after place so_far at drawn pushed = pushed ∙ rw (so_far, drawn, at) (customers_more seed k)

pub customers_state : (seed k s t : ℕ) → s ≡ state_after seed (2 * k) → t ≡ state_after s 2 → t ≡ state_after seed (2 * (k + 1))
customers_state seed k s t at next = next ∙ ap (λ x. state_after x 2) at ∙ state_from seed (2 * k) 2 (2 * (k + 1)) (omega arith)
