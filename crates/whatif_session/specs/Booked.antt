-- The book of a session: the slacks and bounds of the leaves of the present tree, carried over to the present instance.
use Rattle.std.specs.Prelude.{◌==◌, ℕ, List, Option, None, Some, option_and_then, if◌then◌else◌}
use Rattle.location_terms.specs.Instance.{Instance}
use Rattle.location_terms.specs.Tree.{Tree}
use Rattle.leaf_book.specs.Book.{Book, IsBookOf, IsByPrices}
use Rattle.whatif_session.specs.State.{Solved, SessionState, last_of, found_in}

-- the tree of the last of these solves, where that is the one of this serial number
abbrev pub last_tree_in : List Solved → Option ℕ → Option Tree
last_tree_in solves present = option_and_then (λ solved. if solved.serial == last_of solves then Some solved.tree else None) (option_and_then (found_in solves) present)

-- the tree of the last solve, as long as it is the present one: no undo has brought back another since
abbrev pub last_tree : SessionState → Option Tree
last_tree state = last_tree_in state.solves state.present

-- There is a book of the tree on the instance where each of the tree's leaves takes prices of capacities. There is none where some leaf takes whole knapsacks, or where there is no tree.
abbrev pub KeepsBook : Option Book → Instance → Option Tree → Type 0
KeepsBook None I None = Unit {0}
KeepsBook (Some b) I None = ⊥
KeepsBook None I (Some t) = ¬ IsByPrices t
KeepsBook (Some b) I (Some t) = IsBookOf b I t
