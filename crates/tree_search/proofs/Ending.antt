-- A tree that was made in the place of a leaf has less than 2 ^ (decisions + 1) nodes, where the decisions are the sites and, where some site has a capacity, the lanes.
use Rattle.std.proofs.Common.{◌≡◌, ℕ, zero, suc, ◌+◌, ◌*◌, ◌^◌, ◌<◌, ◌≤◌, Bool, true, false, cond, List, [], ◌∷◌, ◌++◌, length, Option, get_or, refl, sym, ap, subst, ◌∙◌, inl, inr, arith}
use Rattle.std.specs.Prelude.{Contains, ◌&&◌, ◌||◌, ◌==◌, not, filter, sum_by, if◌then◌else◌}
use Rattle.std.specs.List.{list_any}
use Rattle.std.proofs.lemmas.Bool.{both_ways, cases_eq, eq-eqb, eqb-true, ne_eqb, or_right, and_parts, and_from, not_from_false, false_from_ne_true}
use Rattle.std.proofs.lemmas.Nat.{pow-add, pow_pos}
use Rattle.std.proofs.lemmas.List.{get_or_default}
use Rattle.std.proofs.lemmas.List.Elements.{Contains-push}
use Rattle.std.proofs.lemmas.List.Folds.{list_any-append, list_any_at, list_any-from_Any, Any-from_list_any}
use Rattle.std.proofs.lemmas.List.FromFn.{length-range_with_len}
use Rattle.std.proofs.lemmas.List.Sums.{length-filter, count_by-le-length, sum_by-cons, sum_by-le}
use Rattle.location_terms.specs.declared.decision.Decision.{Decision}
use Rattle.location_terms.specs.declared.decision.Decision.TheVariants.{Opened, Closed, Yes, No}
use Rattle.location_terms.specs.Instance.{Instance, Site, Customer, site_at, customer_at}
use Rattle.location_terms.specs.Box.{Path, closes_site, opens_site, bars_lane, must_open, must_close, is_closed, is_called_for, is_free, is_torn, is_allowed}
use Rattle.location_terms.specs.Split.{first_step, second_step}
use Rattle.location_terms.specs.declared.split.Split.{Split}
use Rattle.location_terms.specs.declared.split.Split.TheVariants as splits
use Rattle.location_terms.specs.Bound.{Duals}
use Rattle.location_terms.specs.Tree.{Node, Leaf, Fork, size_of}
use Rattle.dual_ascent.specs.Levels.{site_places, customer_places, servers}
use Rattle.plan_search.proofs.Among.{place-contained}
use Rattle.dual_ascent.proofs.Walked.{lane_parts}
use Rattle.plan_search.proofs.Sums.{sum_by-below}
use Rattle.tree_search.specs.Made.{has_cap, IsFreeSite, IsOpenLane, IsOpenSplit, IsMade}
use Rattle.tree_search.specs.Answer.{most_decisions}

module _ {X : Type 0} where
  -- one element in front of those that pass the narrower test, and of those that pass the wider one
  heads : (x : X) (wide narrow : Bool) (ps qs : List X) → (narrow ≡ true → wide ≡ true) → length qs ≤ length ps → length (cond narrow (x ∷ qs) qs) ≤ length (cond wide (x ∷ ps) ps)
  heads x true true ps qs less rest = omega (arith, rest)
  heads x true false ps qs less rest = omega (arith, rest)
  heads x false false ps qs less rest = rest
  heads x false true ps qs less rest = let wrong = less refl in cc

  heads_less : (x : X) (wide narrow : Bool) (ps qs : List X) → (narrow ≡ true → wide ≡ true) → length qs < length ps → length (cond narrow (x ∷ qs) qs) < length (cond wide (x ∷ ps) ps)
  heads_less x true true ps qs less rest = omega (arith, rest)
  heads_less x true false ps qs less rest = omega (arith, rest)
  heads_less x false false ps qs less rest = rest
  heads_less x false true ps qs less rest = let wrong = less refl in cc

  head_falls : (x : X) (wide narrow : Bool) (ps qs : List X) → wide ≡ true → narrow ≡ false → length qs ≤ length ps → length (cond narrow (x ∷ qs) qs) < length (cond wide (x ∷ ps) ps)
  head_falls x true false ps qs w n rest = omega (arith, rest)
  head_falls x true true ps qs w n rest = cc
  head_falls x false narrow ps qs w n rest = cc

  module _ (wide narrow : X → Bool) (less : (x : X) → narrow x ≡ true → wide x ≡ true) where
    no_more : (xs : List X) → length (filter narrow xs) ≤ length (filter wide xs)
    no_more [] = omega arith
    no_more (x ∷ xs) = heads x (wide x) (narrow x) (filter wide xs) (filter narrow xs) (less x) (no_more xs)

    -- fewer pass the narrower test where an element passes the wider one alone
    fewer : (xs : List X) (x : X) → Contains xs x → wide x ≡ true → narrow x ≡ false → length (filter narrow xs) < length (filter wide xs)
    fewer [] x c w n = absurd (omega (arith, c.1))
    fewer (y ∷ ys) x (zero, within, same) w n =
        head_falls y (wide y) (narrow y) (filter wide ys) (filter narrow ys) (subst (λ z. wide z ≡ true) (sym same) w) (subst (λ z. narrow z ≡ false) (sym same) n) (no_more ys)
    fewer (y ∷ ys) x (suc k, within, same) w n =
        heads_less y (wide y) (narrow y) (filter wide ys) (filter narrow ys) (less y) (fewer ys x (k, omega (arith, within), same) w n)

free_before : (must_open opens opens_now must_close closes closes_now : Bool) → (not (must_open || (opens || opens_now)) && not (must_close || (closes || closes_now))) ≡ true → (not (must_open || opens) && not (must_close || closes)) ≡ true
free_before true o o_now mc c c_now e = cc
free_before false true o_now mc c c_now e = cc
free_before false false true mc c c_now e = cc
free_before false false false true c c_now e = cc
free_before false false false false true c_now e = cc
free_before false false false false false c_now e = refl

free_not_closed : (called closed : Bool) → closed ≡ true → (not called && not closed) ≡ false
free_not_closed true closed e = refl
free_not_closed false true e = refl
free_not_closed false false e = cc

free_not_called : (called closed : Bool) → called ≡ true → (not called && not closed) ≡ false
free_not_called true closed e = refl
free_not_called false closed e = cc

module _ (I : Instance) where
  -- how many sites are free in the box
  abbrev free_sites : Path → ℕ
  free_sites path = length (filter (is_free path) I.sites)

  module _ (path : Path) (e : Decision) where
    abbrev further : Path
    further = path ++ e ∷ []

    -- a site that is free after a decision was free before it
    was_free : (s : Site) → is_free further s ≡ true → is_free path s ≡ true
    was_free s free =
        let opens : list_any (opens_site s.id) further ≡ (list_any (opens_site s.id) path || list_any (opens_site s.id) (e ∷ [])) = list_any-append (opens_site s.id) path (e ∷ []) in
        let closes : list_any (closes_site s.id) further ≡ (list_any (closes_site s.id) path || list_any (closes_site s.id) (e ∷ [])) = list_any-append (closes_site s.id) path (e ∷ []) in
        free_before (must_open s.status) (list_any (opens_site s.id) path) (list_any (opens_site s.id) (e ∷ [])) (must_close s.status) (list_any (closes_site s.id) path) (list_any (closes_site s.id) (e ∷ []))
        (subst (λ (t : Bool × Bool). (not (must_open s.status || t.0) && not (must_close s.status || t.1)) ≡ true) (λ n. (opens n, closes n)) free)

    decides : (test : Decision → Bool) → test e ≡ true → list_any test further ≡ true
    decides test t = let c = Contains-push path e in list_any_at test further c.0 e c.1 (subst (λ f. test f ≡ true) (sym c.2) t)

    -- a decision that takes a site out of the free ones leaves fewer
    fewer_free : (i : ℕ) → i < length I.sites → is_free path (site_at I i) ≡ true → is_free further (site_at I i) ≡ false → free_sites further < free_sites path
    fewer_free i b free taken = fewer (is_free path) (is_free further) was_free I.sites (site_at I i) (i, b, get_or_default I.sites i _ _ b) free taken

  module _ (path : Path) (s : ℕ) (site : IsFreeSite I path s) where
    fewer_closed : free_sites (path ++ Closed s ∷ []) < free_sites path
    fewer_closed =
        let x : Site = site_at I site.place in
        let closed : is_closed (path ++ Closed s ∷ []) x ≡ true = or_right _ _ (decides path (Closed s) (closes_site x.id) (eq-eqb _ _ site.named)) in
        fewer_free path (Closed s) site.place site.within site.free (free_not_closed (is_called_for (path ++ Closed s ∷ []) x) (is_closed (path ++ Closed s ∷ []) x) closed)

    fewer_opened : free_sites (path ++ Opened s ∷ []) < free_sites path
    fewer_opened =
        let x : Site = site_at I site.place in
        let called : is_called_for (path ++ Opened s ∷ []) x ≡ true = or_right _ _ (decides path (Opened s) (opens_site x.id) (eq-eqb _ _ site.named)) in
        fewer_free path (Opened s) site.place site.within site.free (free_not_called (is_called_for (path ++ Opened s ∷ []) x) (is_closed (path ++ Opened s ∷ []) x) called)

two_at_least : (m : ℕ) → 2 ≤ 2 ^ (m + 1)
two_at_least m = omega (arith, pow-add 2 m 1, pow_pos m)

twice : (n : ℕ) → 2 ^ (suc n + 1) ≡ 2 ^ (n + 1) + 2 ^ (n + 1)
twice n =
    let more : suc n + 1 ≡ (n + 1) + 1 = omega arith in
    let power : 2 ^ (suc n + 1) ≡ 2 ^ ((n + 1) + 1) = ap (λ k. 2 ^ k) more in
    omega (arith, power, pow-add 2 (n + 1) 1)

-- from one truth value to another
abbrev Implies : Bool → Bool → Type 0
Implies a b = a ≡ true → b ≡ true

or_first : (a b : Bool) → Implies a (a || b)
or_first true b h = refl
or_first false b h = cc

or_grows : (m a b : Bool) → Implies a b → Implies (m || a) (m || b)
or_grows true a b h t = refl
or_grows false a b h t = h t

not_shrinks : (a b : Bool) → Implies a b → Implies (not b) (not a)
not_shrinks false b h t = refl
not_shrinks true true h t = t
not_shrinks true false h t = let wrong = h refl in cc

and_grows : (a b x y : Bool) → Implies a b → Implies x y → Implies (a && x) (b && y)
and_grows a b x y h k t = let parts = and_parts a x t in and_from b y (h parts.0) (k parts.1)

any_grows : {X : Type 0} (p q : X → Bool) → ((x : X) → Implies (p x) (q x)) → (xs : List X) → Implies (list_any p xs) (list_any q xs)
any_grows p q h xs t = let a = Any-from_list_any p xs t in list_any-from_Any q xs (a.0, a.1, a.2, a.3, h a.1 a.4)

-- a customer's choices fall where it gets fewer lanes or a decision on one, and rise nowhere
choices_fall : (decided now : Bool) (lanes fewer : ℕ) → Implies decided now → fewer ≤ lanes → (if now then 0 else fewer) ≤ (if decided then 0 else lanes)
choices_fall decided true lanes fewer h less = omega arith
choices_fall false false lanes fewer h less = less
choices_fall true false lanes fewer h less = let wrong = h refl in cc

lane_gone : (decided now : Bool) (lanes fewer : ℕ) → decided ≡ false → fewer < lanes → (if now then 0 else fewer) < (if decided then 0 else lanes)
lane_gone false true lanes fewer e less = omega (arith, less)
lane_gone false false lanes fewer e less = less
lane_gone true now lanes fewer e less = cc

lane_decided : (decided now : Bool) (lanes fewer : ℕ) → decided ≡ false → now ≡ true → 0 < lanes → (if now then 0 else fewer) < (if decided then 0 else lanes)
lane_decided false true lanes fewer e d some = some
lane_decided false false lanes fewer e d some = cc
lane_decided true now lanes fewer e d some = cc

module _ {X : Type 0} (f g : X → ℕ) where
  -- a sum falls where one term does and none rises
  pub sum_falls : (xs : List X) (x : X) → Contains xs x → ((y : X) → g y ≤ f y) → g x < f x → sum_by g xs < sum_by f xs
  sum_falls [] x c less falls = absurd (omega (arith, c.1))
  sum_falls (y ∷ ys) x (zero, within, same) less falls =
      let here : g y < f y = subst (λ z. g z < f z) (sym same) falls in
      omega (arith, here, sum_by-cons f y ys, sum_by-cons g y ys, sum_by-below g f ys (λ k d b. less (get_or ys k d)))
  sum_falls (y ∷ ys) x (suc k, within, same) less falls =
      let rest : sum_by g ys < sum_by f ys = sum_falls ys x (k, omega (arith, within), same) less falls in
      omega (arith, rest, less y, sum_by-cons f y ys, sum_by-cons g y ys)

-- What is left to decide.

-- a yes to a lane to the customer of this id
abbrev serves_customer : ℕ → Decision → Bool
serves_customer c (Yes t d) = c == d
serves_customer c _ = false

-- a yes serves the customer by this lane, or bars the lane
yes_or_bars : (s c : ℕ) (e : Decision) → serves_customer c e ≡ true → (bars_lane s c e ≡ true → ⊥) → e ≡ Yes s c
yes_or_bars s c (Yes t d) serves open_lane =
    let customer : c ≡ d = eqb-true c d serves in
    elim (cases_eq s t) [
      | inl site ↦ ap (λ n. Yes n d) (sym site) ∙ ap (λ n. Yes s n) (sym customer)
      | inr other ↦ absurd (open_lane (and_from _ _ (not_from_false _ (ne_eqb s t other)) serves))
    ]
yes_or_bars s c (No t d) serves open_lane = cc
yes_or_bars s c (Opened t) serves open_lane = cc
yes_or_bars s c (Closed t) serves open_lane = cc

module _ (I : Instance) where
  abbrev is_decided : Path → ℕ → Bool
  is_decided path j = list_any (serves_customer (customer_at I j).id) path

  -- the lanes to choose among for a customer, none once one is decided
  abbrev choices : Path → ℕ → ℕ
  choices path j = if is_decided path j then 0 else length (servers I path j)

  abbrev all_choices : Path → ℕ
  all_choices path = sum_by (choices path) (customer_places I)

  -- how much is left to decide in the box
  abbrev left : Path → ℕ
  left path = free_sites I path + (if has_cap I then all_choices path else 0)

  module _ (path : Path) (e : Decision) where
    any_further : (p : Decision → Bool) → Implies (list_any p path) (list_any p (further I path e))
    any_further p t = list_any-append p path (e ∷ []) ∙ or_first (list_any p path) (list_any p (e ∷ [])) t

    closed_further : (s : Site) → Implies (is_closed path s) (is_closed (further I path e) s)
    closed_further s = or_grows (must_close s.status) (list_any (closes_site s.id) path) (list_any (closes_site s.id) (further I path e)) (any_further (closes_site s.id))

    called_further : (s : Site) → Implies (is_called_for path s) (is_called_for (further I path e) s)
    called_further s = or_grows (must_open s.status) (list_any (opens_site s.id) path) (list_any (opens_site s.id) (further I path e)) (any_further (opens_site s.id))

    torn_further : Implies (is_torn I path) (is_torn I (further I path e))
    torn_further = any_grows (λ s. is_called_for path s && is_closed path s) (λ s. is_called_for (further I path e) s && is_closed (further I path e) s) (λ s. and_grows _ _ _ _ (called_further s) (closed_further s)) I.sites

    allowed_before : (s : Site) (c : Customer) → Implies (is_allowed I (further I path e) s c) (is_allowed I path s c)
    allowed_before s c =
        and_grows _ _ _ _ (and_grows _ _ _ _ (and_grows _ _ _ _ (and_grows _ _ _ _ (not_shrinks _ _ torn_further) (λ t. t)) (not_shrinks _ _ (closed_further s))) (not_shrinks _ _ (any_further (bars_lane s.id c.id)))) (λ t. t)

    servers_before : (j : ℕ) → length (servers I (further I path e) j) ≤ length (servers I path j)
    servers_before j =
        no_more (λ i. is_allowed I path (site_at I i) (customer_at I j)) (λ i. is_allowed I (further I path e) (site_at I i) (customer_at I j)) (λ i. allowed_before (site_at I i) (customer_at I j)) (site_places I)

    choices_before : (j : ℕ) → choices (further I path e) j ≤ choices path j
    choices_before j =
        choices_fall (is_decided path j) (is_decided (further I path e) j) (length (servers I path j)) (length (servers I (further I path e) j)) (any_further (serves_customer (customer_at I j).id)) (servers_before j)

    free_before_it : free_sites I (further I path e) ≤ free_sites I path
    free_before_it = no_more (is_free path) (is_free (further I path e)) (was_free I path e) I.sites

    -- one site less is free
    fewer_left : free_sites I (further I path e) < free_sites I path → left (further I path e) < left path
    fewer_left less =
        let others : all_choices (further I path e) ≤ all_choices path = sum_by-below (choices (further I path e)) (choices path) (customer_places I) (λ k d b. choices_before (get_or (customer_places I) k d)) in
        by (has_cap I) others
      where
        by : (b : Bool) → all_choices (further I path e) ≤ all_choices path → free_sites I (further I path e) + (if b then all_choices (further I path e) else 0) < free_sites I path + (if b then all_choices path else 0)
        by true others = omega (arith, less, others)
        by false others = omega (arith, less)

    -- a customer has less to choose
    less_choice : has_cap I ≡ true → (j : ℕ) → j < length I.customers → choices (further I path e) j < choices path j → left (further I path e) < left path
    less_choice caps j b less =
        let falls : all_choices (further I path e) < all_choices path = sum_falls (choices path) (choices (further I path e)) (customer_places I) j (place-contained (length I.customers) j b) choices_before less in
        by (has_cap I) caps falls
      where
        by : (b : Bool) → b ≡ true → all_choices (further I path e) < all_choices path → free_sites I (further I path e) + (if b then all_choices (further I path e) else 0) < free_sites I path + (if b then all_choices path else 0)
        by true is falls = omega (arith, falls, free_before_it)
        by false is falls = cc

  -- A split on a lane.
  module _ (path : Path) (s c : ℕ) (lane : IsOpenLane I path s c) where
    -- no decision serves the customer yet
    not_decided : is_decided path lane.customer ≡ false
    not_decided =
        false_from_ne_true _ (λ decided.
        let yes_at = Any-from_list_any (serves_customer (customer_at I lane.customer).id) path decided in
        let open_lane : bars_lane (site_at I lane.site).id (customer_at I lane.customer).id yes_at.1 ≡ true → ⊥ =
        λ bars. both_ways (list_any (bars_lane (site_at I lane.site).id (customer_at I lane.customer).id) path) (lane_parts I path lane.site lane.customer lane.allowed).3
        (list_any-from_Any (bars_lane (site_at I lane.site).id (customer_at I lane.customer).id) path (yes_at.0, yes_at.1, yes_at.2, yes_at.3, bars)) in
        let is : yes_at.1 ≡ Yes s c = yes_or_bars (site_at I lane.site).id (customer_at I lane.customer).id yes_at.1 yes_at.4 open_lane ∙ ap (λ n. Yes n (customer_at I lane.customer).id) lane.site_named ∙ ap (λ n. Yes s n) lane.customer_named in
        lane.undecided (subst (Contains path) is (yes_at.0, yes_at.2, yes_at.3)))

    capacitated : has_cap I ≡ true
    capacitated = lane.capacitated

    barred : is_allowed I (path ++ No s c ∷ []) (site_at I lane.site) (customer_at I lane.customer) ≡ false
    barred =
        false_from_ne_true _ (λ allowed.
        both_ways (list_any (bars_lane (site_at I lane.site).id (customer_at I lane.customer).id) (path ++ No s c ∷ [])) (lane_parts I (path ++ No s c ∷ []) lane.site lane.customer allowed).3
        (decides I path (No s c) (bars_lane (site_at I lane.site).id (customer_at I lane.customer).id) (and_from _ _ (eq-eqb _ _ lane.site_named) (eq-eqb _ _ lane.customer_named))))

    less_without : left (path ++ No s c ∷ []) < left path
    less_without =
        let less : length (servers I (path ++ No s c ∷ []) lane.customer) < length (servers I path lane.customer) =
        fewer (λ i. is_allowed I path (site_at I i) (customer_at I lane.customer)) (λ i. is_allowed I (path ++ No s c ∷ []) (site_at I i) (customer_at I lane.customer))
        (λ i. allowed_before path (No s c) (site_at I i) (customer_at I lane.customer)) (site_places I) lane.site (place-contained (length I.sites) lane.site lane.site_within) lane.allowed barred in
        less_choice path (No s c) capacitated lane.customer lane.customer_within
        (lane_gone (is_decided path lane.customer) (is_decided (path ++ No s c ∷ []) lane.customer) (length (servers I path lane.customer)) (length (servers I (path ++ No s c ∷ []) lane.customer)) not_decided less)

    less_using : left (path ++ Yes s c ∷ []) < left path
    less_using =
        less_choice path (Yes s c) capacitated lane.customer lane.customer_within
        (lane_decided (is_decided path lane.customer) (is_decided (path ++ Yes s c ∷ []) lane.customer) (length (servers I path lane.customer)) (length (servers I (path ++ Yes s c ∷ []) lane.customer)) not_decided
        (decides I path (Yes s c) (serves_customer (customer_at I lane.customer).id) (eq-eqb _ _ lane.customer_named)) (omega (arith, lane.others)))

  two_children : (a b n : ℕ) → a + 1 ≤ 2 ^ (n + 1) → b + 1 ≤ 2 ^ (n + 1) → (1 + a + b) + 1 ≤ 2 ^ (suc n + 1)
  two_children a b n first second = omega (arith, first, second, twice n)

  -- each child of a split that is due has less left to decide
  first_less : (path : Path) (split : Split) → IsOpenSplit I path split → left (path ++ first_step split ∷ []) < left path
  first_less path (splits.Site s) is = fewer_left path (Closed s) (fewer_closed I path s is)
  first_less path (splits.Lane s c) is = less_without path s c is

  second_less : (path : Path) (split : Split) → IsOpenSplit I path split → left (path ++ second_step split ∷ []) < left path
  second_less path (splits.Site s) is = fewer_left path (Opened s) (fewer_opened I path s is)
  second_less path (splits.Lane s c) is = less_using path s c is

  -- a tree that was made in a box with at most m decisions left has less than 2 ^ (m + 1) nodes
  made_small : (target cost : Option ℕ) (old_path : Path) (old : Duals) (t : Node) (path : Path) (m : ℕ) → left path ≤ m → IsMade I target cost old_path old path t → size_of t + 1 ≤ 2 ^ (m + 1)
  made_small target cost old_path old (Leaf d) path m few made = omega (arith, two_at_least m)
  made_small target cost old_path old (Fork split first second) path zero few made =
      let less = first_less path split made.0.1 in absurd (omega (arith, few, less))
  made_small target cost old_path old (Fork split first second) path (suc n) few made =
      two_children (size_of first) (size_of second) n
      (made_small target cost old_path old first (path ++ first_step split ∷ []) n (omega (arith, few, first_less path split made.0.1)) made.1)
      (made_small target cost old_path old second (path ++ second_step split ∷ []) n (omega (arith, few, second_less path split made.0.1)) made.2)

  -- at most so much is left to decide in any box
  left_within : (path : Path) → left path ≤ most_decisions I
  left_within path =
      let free : free_sites I path ≤ length I.sites = omega (arith, length-filter (is_free path) I.sites, count_by-le-length (is_free path) I.sites) in
      let sum : all_choices path ≤ length (customer_places I) * length I.sites = sum_by-le (choices path) (length I.sites) (customer_places I) (λ k d b. choices_few (get_or (customer_places I) k d)) in
      let lanes : all_choices path ≤ length I.sites * length I.customers = omega (arith, sum, ap (λ n. n * length I.sites) (length-range_with_len 0 (length I.customers))) in
      by (has_cap I) free lanes
    where
      choices_few : (j : ℕ) → choices path j ≤ length I.sites
      choices_few j =
          choices_fall false (is_decided path j) (length I.sites) (length (servers I path j)) (λ e. cc)
          (omega (arith, length-filter (λ i. is_allowed I path (site_at I i) (customer_at I j)) (site_places I), count_by-le-length (λ i. is_allowed I path (site_at I i) (customer_at I j)) (site_places I), length-range_with_len 0 (length I.sites)))

      by : (b : Bool) → free_sites I path ≤ length I.sites → all_choices path ≤ length I.sites * length I.customers
          → free_sites I path + (if b then all_choices path else 0) ≤ (if b then length I.sites + length I.sites * length I.customers else length I.sites)
      by true free lanes = omega (arith, free, lanes)
      by false free lanes = omega (arith, free)

  pub made_within : (target cost : Option ℕ) (old_path : Path) (old : Duals) (t : Node) (path : Path) → IsMade I target cost old_path old path t → size_of t + 1 ≤ 2 ^ (most_decisions I + 1)
  made_within target cost old_path old t path made = made_small target cost old_path old t path (most_decisions I) (left_within path) made
