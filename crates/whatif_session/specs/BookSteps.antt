-- A book that follows the edits of a history, and their being taken back.
use Rattle.std.specs.Prelude.{◌≡◌, ◌≤◌, ℕ, List, [], ◌∷◌, ◌++◌, map, Option, Some, Ok, IfSome, unwrap_or}
use Rattle.location_terms.specs.Instance.{Instance}
use Rattle.location_terms.specs.Tree.{Tree}
use Rattle.instance_edits.specs.declared.edit.Inverse.{Inverse}
use Rattle.instance_edits.specs.Edits.{edits_applied}
use Rattle.instance_edits.specs.Undo.{put_back}
use Rattle.edit_history.specs.History.{HeldEdit, History, IsBeforeLast}
use Rattle.leaf_book.specs.declared.change.Change.{Change}
use Rattle.leaf_book.specs.Book.{Book, HasRoomFor}
use Rattle.leaf_book.specs.Changes.{change_back}
use Rattle.whatif_session.specs.State.{Solved, last_of}
use Rattle.whatif_session.specs.Booked.{KeepsBook, last_tree_in}

-- the serial number of a tree, and 0 for none
abbrev pub tree_number : Option ℕ → ℕ
tree_number serial = unwrap_or serial 0

-- the serial numbers beside the edits never fall, from the least one to the greatest one
abbrev pub AreInTurn : ℕ → List HeldEdit → ℕ → Type 0
AreInTurn least [] greatest = least ≤ greatest
AreInTurn least (held ∷ edits) greatest = (least ≤ tree_number held.serial) × AreInTurn (tree_number held.serial) edits greatest

-- No edit stands beside a later tree than the present one, which is none of a later solve than the last one; and the book is that of the last solve's tree, as long as it is the present one.
pub record IsBooked (book : Option Book) (h : History) (solves : List Solved) (present : Option ℕ) : Type 0 where
  pub in_turn : AreInTurn 0 h.edits (tree_number present)
  pub within : tree_number present ≤ last_of solves
  pub book_is : KeepsBook book h.instance (last_tree_in solves present)

-- the book is that of the tree on the instance before the last edit
pub record IsBookBefore (book : Option Book) (h : History) (tree : Option Tree) : Type 0 where
  pub I : Instance
  pub former : List HeldEdit
  pub last : HeldEdit
  pub edits : h.edits ≡ former ++ last ∷ []
  pub applied : edits_applied h.base (map (λ held. held.edit) former) ≡ Ok I
  pub book_is : KeepsBook book I tree

-- the last edit can be taken back: it changes this, and the book has room for the instance before it
pub record IsReadyBack (book : Option Book) (h : History) (change : Change) : Type 0 where
  pub back : Inverse
  pub before : IsBeforeLast h (put_back h.instance back)
  pub is_change : change_back h.instance back ≡ change
  pub room : IfSome book (λ b. HasRoomFor b (put_back h.instance back))

-- the book is that of the tree on an instance from which an edit's being taken back, which changes this, leads to the one that is now
pub record IsBookBehind (book : Option Book) (J : Instance) (change : Change) (t : Tree) : Type 0 where
  pub I : Instance
  pub back : Inverse
  pub is_change : change_back I back ≡ change
  pub leads : put_back I back ≡ J
  pub book_is : KeepsBook book I (Some t)
