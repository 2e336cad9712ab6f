-- Rows of names, read one after another.
use Rattle.std.proofs.Common.{◌≡◌, ◌≢◌, ◌<◌, ◌≤◌, ◌+◌, ℕ, List, [], ◌∷◌, ◌++◌, map, length, drop, get_or, All, refl, sym, ap, subst, ◌∙◌}
use Rattle.std.proofs.lemmas.List.{append-nil, append_assoc, map-append, get_or_default, drop_more, drop_all}
use Rattle.std.proofs.lemmas.List.Elements.{All-nil, All-push, All-head, All-tail}
use Rattle.sqlite_value.specs.Order.{Row}
use Rattle.scenario_keeper.specs.Names.{NamesRise, IsAbove}
use Rattle.scenario_keeper.proofs.Names.{no_names-rise, rise-push, above-front}
use Rattle.scenario_keeper.specs.Spelling.{IsName}
use Rattle.sqlite_rows.specs.Named.{name_row, AreOfNames}

abbrev pub Entry : Type 0
Entry = List ℕ × ℕ

-- some names were read, and their rows stand before those that are left
pub record AreListed (names : List Entry) (rows : List Row) (k : ℕ) : Type 0 where
  pub split : map name_row names ++ drop k rows ≡ rows
  pub rise : NamesRise names
  pub named : All (λ e. IsName e.0) names

pub listed-none : (rows : List Row) → AreListed [] rows 0
listed-none rows = record { split = refl; rise = no_names-rise; named = All-nil (λ e. IsName e.0) }

-- one more name was read
pub listed-one : (names new : List Entry) (rows : List Row) (k : ℕ) (r : Row) (e : Entry) → k < length rows → AreListed names rows k
    → r ≡ get_or rows k r → r ≡ name_row e → IsName e.0 → IsAbove names e.0 → new ≡ names ++ e ∷ [] → AreListed new rows (k + 1)
listed-one names new rows k r e within read at r_is named above is =
    let row : get_or rows k [] ≡ name_row e = sym (at ∙ get_or_default rows k r [] within) ∙ r_is in
    let whole : map name_row (names ++ e ∷ []) ++ drop (k + 1) rows ≡ rows =
    ap (λ t. t ++ drop (k + 1) rows) (map-append name_row names (e ∷ []))
    ∙ append_assoc (map name_row names) (name_row e ∷ []) (drop (k + 1) rows)
    ∙ ap (λ r. map name_row names ++ r ∷ drop (k + 1) rows) (sym row)
    ∙ ap (λ t. map name_row names ++ t) (sym (drop_more rows k [] within))
    ∙ read.split in
    let all : AreListed (names ++ e ∷ []) rows (k + 1) =
    record { split = whole; rise = rise-push names e read.rise above; named = All-push (λ e. IsName e.0) names e read.named named } in
    subst (λ t. AreListed t rows (k + 1)) (sym is) all

-- all names were read
pub listed-all : (names : List Entry) (rows : List Row) (k : ℕ) → length rows ≤ k → AreListed names rows k → AreOfNames names rows
listed-all names rows k end read =
    record {
      rows_are = sym (sym (append-nil (map name_row names)) ∙ ap (λ t. map name_row names ++ t) (sym (drop_all k rows end)) ∙ read.split);
      rise = read.rise;
      named = read.named;
    }

-- an entry among others, behind those that were read
record IsNext (done names : List Entry) (row : Row) : Type 0 where
  entry : Entry
  rest : List Entry
  names_are : names ≡ done ++ entry ∷ rest
  row_is : row ≡ name_row entry

same_entry : (a b : Entry) → name_row a ≡ name_row b → a ≡ b
same_entry (m, i) (n, j) e =
    let names : m ≡ n = cc in
    let counts : i ≡ j = cc in
    ap (λ t. (t, i)) names ∙ ap (λ t. (n, t)) counts

next_entry : (done names : List Entry) (row : Row) (rest : List Row) → map name_row done ++ row ∷ rest ≡ map name_row names → IsNext done names row
next_entry [] [] row rest e = cc
next_entry [] (x ∷ names) row rest e =
    let head : row ≡ name_row x = cc in
    record { entry = x; rest = names; names_are = refl; row_is = head }
next_entry (d ∷ done) [] row rest e = cc
next_entry (d ∷ done) (x ∷ names) row rest e =
    let head : name_row d ≡ name_row x = cc in
    let tail : map name_row done ++ row ∷ rest ≡ map name_row names = cc in
    let next = next_entry done names row rest tail in
    record {
      entry = next.entry;
      rest = next.rest;
      names_are = ap (λ t. t ∷ names) (sym (same_entry d x head)) ∙ ap (λ t. d ∷ t) next.names_are;
      row_is = next.row_is;
    }

next_of : (done names : List Entry) (rows : List Row) (k : ℕ) → k < length rows → AreListed done rows k → AreOfNames names rows
    → IsNext done names (get_or rows k [])
next_of done names rows k within read are =
    next_entry done names _ (drop (k + 1) rows)
    (ap (λ t. map name_row done ++ t) (sym (drop_more rows k [] within)) ∙ read.split ∙ are.rows_are)

all_behind : (P : Entry → Type 0) (done : List Entry) (x : Entry) (rest : List Entry) → All P (done ++ x ∷ rest) → P x
all_behind P [] x rest all = All-head P x rest all
all_behind P (d ∷ done) x rest all = all_behind P done x rest (All-tail P d (done ++ x ∷ rest) all)

-- a row that is no name's speaks against all lists of names
pub none-listed : (done : List Entry) (rows : List Row) (k : ℕ) (r : Row) → k < length rows → AreListed done rows k → r ≡ get_or rows k r
    → ((e : Entry) → IsName e.0 → r ≢ name_row e) → (names : List Entry) → ¬ AreOfNames names rows
none-listed done rows k r within read at unlike names are =
    let next = next_of done names rows k within read are in
    let all = subst (All (λ e. IsName e.0)) next.names_are are.named in
    unlike next.entry (all_behind (λ e. IsName e.0) done next.entry next.rest all) (at ∙ get_or_default rows k r [] within ∙ next.row_is)

-- and so does a name that isn't above those before it
pub none-rise : (done : List Entry) (rows : List Row) (k : ℕ) (r : Row) (e : Entry) → k < length rows → AreListed done rows k
    → r ≡ get_or rows k r → r ≡ name_row e → (¬ IsAbove done e.0) → (names : List Entry) → ¬ AreOfNames names rows
none-rise done rows k r e within read at r_is not_above names are =
    let row : get_or rows k [] ≡ name_row e = sym (at ∙ get_or_default rows k r [] within) ∙ r_is in
    let next = next_of done names rows k within read are in
    let same : next.entry ≡ e = same_entry next.entry e (sym next.row_is ∙ row) in
    let above = above-front done next.entry next.rest (subst NamesRise next.names_are are.rise) in
    not_above (subst (λ x. IsAbove done x.0) same above)
