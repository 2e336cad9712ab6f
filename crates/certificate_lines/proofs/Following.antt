-- Lines that are read one behind another: to the first, from the first, and lists of lines joined; and where a walk turns below a split.
use Rattle.std.proofs.Common.{◌≡◌, ℕ, refl, sym, ap, ◌∙◌, List, [], ◌∷◌, ◌++◌, append_assoc, Some, None}
use Rattle.std.specs.Prelude.{Option, Ok, Err}
use Rattle.location_terms.specs.declared.split.Split.{Split}
use Rattle.location_terms.specs.Instance.{Instance}
use Rattle.location_terms.specs.Box.{Path}
use Rattle.location_terms.specs.Split.{first_step, second_step}
use Rattle.branch_tree.specs.Walk.{turned}
use Rattle.branch_tree.proofs.Ahead.{turned_first, turned_second, then_second, then_none}
use Rattle.certificate_lines.specs.Due.{Due, Shown}
use Rattle.certificate_lines.specs.Lines.{Said, read_line}
use Rattle.certificate_lines.specs.Follow.{shown_list, shown_first, follow_said, follow}

-- a first line is read, and what it shows comes before what the lines behind it show
pub record FirstRead (I : Instance) (due : Due) (line : List ℕ) (lines : List (List ℕ)) (end : Due) (all : List Shown) : Type 0 where
  pub next : Due
  pub shown : Shown
  pub rest : List Shown
  pub reads : read_line I due line ≡ Ok (next, shown)
  pub follows : follow I next lines ≡ Some (end, rest)
  pub whole : all ≡ shown_list shown ++ rest

some_parts : (p q : Due × List Shown) → Some p ≡ Some q → (p.0 ≡ q.0) × (p.1 ≡ q.1)
some_parts p q e =
    let both : p ≡ q = cc in
    (ap (λ (r : Due × List Shown). r.0) both, ap (λ (r : Due × List Shown). r.1) both)

shown_first-parts : (shown : Shown) (o : Option (Due × List Shown)) (end : Due) (all : List Shown) → shown_first shown o ≡ Some (end, all) → (rest : List Shown) × (o ≡ Some (end, rest)) × (all ≡ shown_list shown ++ rest)
shown_first-parts shown None end all e = absurd (cc)
shown_first-parts shown (Some p) end all e =
    let parts = some_parts (p.0, shown_list shown ++ p.1) (end, all) e in
    (p.1, ap (λ d. Some (d, p.1)) parts.0, sym parts.1)

first_of : (I : Instance) (due : Due) (line : List ℕ) (lines : List (List ℕ)) (end : Due) (all : List Shown) (said : Said) → read_line I due line ≡ said → follow_said said (λ next. follow I next lines) ≡ Some (end, all) → FirstRead I due line lines end all
first_of I due line lines end all (Err kind) is e = absurd (cc)
first_of I due line lines end all (Ok p) is e =
    let parts = shown_first-parts p.1 (follow I p.0 lines) end all e in
    record { next = p.0; shown = p.1; rest = parts.0; reads = is; follows = parts.1; whole = parts.2 }

pub first_read : (I : Instance) (due : Due) (line : List ℕ) (lines : List (List ℕ)) (end : Due) (all : List Shown) → follow I due (line ∷ lines) ≡ Some (end, all) → FirstRead I due line lines end all
first_read I due line lines end all e = first_of I due line lines end all (read_line I due line) refl e

-- where no line is left, what is due is what was to come to
pub none_left : (I : Instance) (due end : Due) (all : List Shown) → follow I due [] ≡ Some (end, all) → due ≡ end
none_left I due end all e = (some_parts (due, []) (end, all) e).0

pub none_shown : (I : Instance) (due end : Due) (all : List Shown) → follow I due [] ≡ Some (end, all) → [] ≡ all
none_shown I due end all e = (some_parts (due, []) (end, all) e).1

-- a line in front of lines that are read
pub follow-line : (I : Instance) (due next end : Due) (line : List ℕ) (lines : List (List ℕ)) (shown : Shown) (all : List Shown) → read_line I due line ≡ Ok (next, shown) → follow I next lines ≡ Some (end, all) → follow I due (line ∷ lines) ≡ Some (end, shown_list shown ++ all)
follow-line I due next end line lines shown all is e = ap (λ said. follow_said said (λ d. follow I d lines)) is ∙ ap (shown_first shown) e

-- lines behind lines
pub follow-append : (I : Instance) (due mid end : Due) (xs ys : List (List ℕ)) (before after : List Shown) → follow I due xs ≡ Some (mid, before) → follow I mid ys ≡ Some (end, after) → follow I due (xs ++ ys) ≡ Some (end, before ++ after)
follow-append I due mid end [] ys before after e f =
    ap (λ d. follow I d ys) (none_left I due mid before e) ∙ f ∙ ap (λ shown. Some (end, shown ++ after)) (none_shown I due mid before e)
follow-append I due mid end (x ∷ xs) ys before after e f =
    let first = first_read I due x xs mid before e in
    follow-line I due first.next end x (xs ++ ys) first.shown (first.rest ++ after) first.reads (follow-append I first.next mid end xs ys first.rest after first.follows f)
    ∙ ap (λ shown. Some (end, shown)) (sym (append_assoc (shown_list first.shown) first.rest after) ∙ ap (λ shown. shown ++ after) (sym first.whole))

-- behind a split's first child its second one is due, and behind that what is due behind the split
pub turned_below_first : (split : Split) (path : Path) → turned (path ++ first_step split ∷ []) ≡ Some (path ++ second_step split ∷ [])
turned_below_first split path = turned_first (first_step split) (second_step split) path (then_second split)

pub turned_below_second : (split : Split) (path : Path) → turned (path ++ second_step split ∷ []) ≡ turned path
turned_below_second split path = turned_second (second_step split) path (then_none split)
