-- Lists of names that rise.
use Rattle.std.proofs.Common.{◌≡◌, ◌↔◌, ℕ, Bool, true, List, [], ◌∷◌, ◌++◌, map, length, All, Ordering, Less, Equal, Greater, IsTrue, string_bytes, refl, sym, ap, subst, ◌∙◌}
use Rattle.std.proofs.lemmas.Cmp.{nat_list_cmp_total}
use Rattle.std.proofs.lemmas.List.{map-append}
use Rattle.std.proofs.lemmas.List.Elements.{All-nil, All-head, All-tail, All-cons, All-push, All-weaker}
use Rattle.std.proofs.lemmas.Map.Keys.{sorted_head, sorted_tail}
use Rattle.std.specs.Ordering.{is_lt, nat_cmp}
use Rattle.std.specs.Cmp.Lexicographic.{slice_cmp}
use Rattle.std.specs.List.{AllByRecursion, IsLastAndRest}
use Rattle.std.specs.List.Sorted.{IsStrictlySortedBy}
use Rattle.scenario_keeper.specs.declared.name_list.Named.{Named}
use Rattle.scenario_keeper.specs.Named.{names_in}
use Rattle.scenario_keeper.specs.Names.{NamesRise, IsAbove}

-- the order of names
abbrev pub order : List ℕ → List ℕ → Ordering
order = slice_cmp nat_cmp

-- an entry is below a name
abbrev pub is_under : List ℕ → List ℕ × ℕ → Type 0
is_under name e = order e.0 name ≡ Less

pub no_names-rise : NamesRise []
unfolding IsStrictlySortedBy
no_names-rise = tt

-- what holds of all names and of one more
and_one : (P : List ℕ → Type 0) (names : List (List ℕ × ℕ)) (x : List ℕ × ℕ)
    → AllByRecursion P (map (λ e. e.0) names) → P x.0 → AllByRecursion P (map (λ e. e.0) (names ++ x ∷ []))
and_one P [] x all one = (one, tt)
and_one P (y ∷ names) x all one = (all.0, and_one P names x all.1 one)

-- names rise with one more above them
pub rise-push : (names : List (List ℕ × ℕ)) (x : List ℕ × ℕ) → NamesRise names → IsAbove names x.0 → NamesRise (names ++ x ∷ [])
unfolding IsStrictlySortedBy
rise-push [] x rise above = (tt, tt)
rise-push (y ∷ names) x rise above =
    (and_one (λ n. order y.0 n ≡ Less) names x rise.0 (All-head (is_under x.0) y names above), rise-push names x rise.1 (All-tail (is_under x.0) y names above))

-- what holds of all names holds of one between others
between : (P : List ℕ → Type 0) (front : List (List ℕ × ℕ)) (x : List ℕ × ℕ) (rest : List (List ℕ × ℕ))
    → AllByRecursion P (map (λ e. e.0) (front ++ x ∷ rest)) → P x.0
between P [] x rest all = all.0
between P (y ∷ front) x rest all = between P front x rest all.1

-- of names that rise each is above those before it
pub above-front : (front : List (List ℕ × ℕ)) (x : List ℕ × ℕ) (rest : List (List ℕ × ℕ)) → NamesRise (front ++ x ∷ rest) → IsAbove front x.0
above-front [] x rest rise = All-nil (is_under x.0)
above-front (y ∷ front) x rest rise =
    All-cons (is_under x.0) y front (between (λ n. order y.0 n ≡ Less) front x rest (sorted_head order _ _ rise)) (above-front front x rest (sorted_tail order _ _ rise))

last_of : (P : List ℕ × ℕ → Type 0) (front : List (List ℕ × ℕ)) (x : List ℕ × ℕ) → All P (front ++ x ∷ []) → P x
last_of P [] x all = All-head P x [] all
last_of P (y ∷ front) x all = last_of P front x (All-tail P y (front ++ x ∷ []) all)

is_less : (o : Ordering) → is_lt o ≡ true → o ≡ Less
is_less Less e = refl
is_less Equal e = cc
is_less Greater e = cc

-- a name is above all where it is above the last
above-last : (front : List (List ℕ × ℕ)) (x : List ℕ × ℕ) (name : List ℕ) → NamesRise (front ++ x ∷ []) → order x.0 name ≡ Less → IsAbove (front ++ x ∷ []) name
above-last front x name rise below =
    All-push (is_under name) front x (All-weaker (is_under x.0) (is_under name) (λ e first. nat_list_cmp_total.trans e.0 x.0 name first below) front (above-front front x [] rise)) below

-- The same of a list as it is stored, where a clause sees its value.

stored-push : (old new : List Named) (x : Named) → new ≡ old ++ x ∷ [] → names_in new ≡ names_in old ++ (string_bytes x.name, x.lines) ∷ []
stored-push old new x step = ap names_in step ∙ map-append (λ e. (string_bytes e.name, e.lines)) old (x ∷ [])

pub pushed-rise : (old new : List Named) (x : Named) (value : List (List ℕ × ℕ)) → names_in old ≡ value → new ≡ old ++ x ∷ []
    → NamesRise (names_in old) → IsAbove value (string_bytes x.name) → NamesRise (names_in new)
pushed-rise old new x value is step rise above =
    subst NamesRise (sym (stored-push old new x step))
    (rise-push (names_in old) (string_bytes x.name, x.lines) rise (subst (λ names. IsAbove names (string_bytes x.name)) (sym is) above))

pub above-by-last : (items xs front : List Named) (last : Named) (value : List (List ℕ × ℕ)) (name : List ℕ) (b : Bool)
    → names_in items ≡ value → NamesRise (names_in items) → xs ≡ items → IsLastAndRest xs last front
    → b ≡ is_lt (order (string_bytes last.name) name) → IsTrue b ↔ IsAbove value name
above-by-last items xs front last value name b is rise same parts answer =
    let x : List ℕ × ℕ = (string_bytes last.name, last.lines) in
    let whole : names_in items ≡ names_in front ++ x ∷ [] = stored-push front items last (sym same ∙ parts.0) in (
      λ yes. subst (λ names. IsAbove names name) (sym whole ∙ is)
          (above-last (names_in front) x name (subst NamesRise whole rise) (is_less _ (sym answer ∙ yes))),
      λ above. answer ∙ ap is_lt (last_of (is_under name) (names_in front) x (subst (λ names. IsAbove names name) (sym is ∙ whole) above)),
    )
