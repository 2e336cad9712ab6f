-- The text of a tree's nodes, one behind another.
use Rattle.std.proofs.Common.{◌≡◌, ℕ, ◌<◌, List, [], ◌∷◌, ◌++◌, length, get_or, ap, sym, ◌∙◌, subst, append_assoc, append-nil, Option, None, Some, option_map}
use Rattle.std.specs.Prelude.{flat_map, slice_get, IfSome, Result, OnOk}
use Rattle.std.specs.Option.{option_and_then}
use Rattle.std.proofs.lemmas.Grind.{flat_map-append}
use Rattle.std.proofs.lemmas.Option.{slice_get-map, slice_get-get_or}
use Rattle.shelf_port.proofs.Results.{OnOk-then}
use Rattle.location_terms.specs.Tree.{Node, Leaf, Fork}
use Rattle.branch_tree.specs.declared.entry.Entry.{Entry}
use Rattle.branch_tree.specs.declared.entry.Entry.TheVariants.{End, Branch}
use Rattle.branch_tree.specs.declared.node.NodeKind.{NodeKind as Shown}
use Rattle.branch_tree.specs.Preorder.{flat, no_duals}
use Rattle.branch_tree.specs.Made.{nodes_shown, entry_shown, duals_of, duals_at}
use Rattle.branch_tree.proofs.Flat.{nodes_shown-flat}
use Rattle.certificate_lines.specs.Text.{leaf_lines, split_line, node_lines, text_of_lines}
use Rattle.certificate_text.specs.Written.{split_lines, entry_text}

pub text_of_lines-append : (xs ys : List (List ℕ)) → text_of_lines (xs ++ ys) ≡ text_of_lines xs ++ text_of_lines ys
text_of_lines-append xs ys = flat_map-append (λ line. line ++ 10 ∷ []) xs ys

-- a line added to a text, and lines added behind others
pub one_line : (old new line : List ℕ) → new ≡ (old ++ line) ++ 10 ∷ [] → new ≡ old ++ text_of_lines (line ∷ [])
one_line old new line is = is ∙ append_assoc old line (10 ∷ []) ∙ ap (λ t. old ++ t) (sym (append-nil (line ++ 10 ∷ [])))

pub more_lines : (old text new : List ℕ) (xs ys : List (List ℕ)) → text ≡ old ++ text_of_lines xs → new ≡ text ++ text_of_lines ys → new ≡ old ++ text_of_lines (xs ++ ys)
more_lines old text new xs ys first second =
    second
    ∙ ap (λ t. t ++ text_of_lines ys) first
    ∙ append_assoc old (text_of_lines xs) (text_of_lines ys)
    ∙ ap (λ t. old ++ t) (sym (text_of_lines-append xs ys))

-- a split's line, and the nodes of its children behind it
split_text : (sites line : List ℕ) (xs ys : List (List ℕ)) (es fs : List Entry)
    → text_of_lines xs ≡ flat_map (entry_text sites) es → text_of_lines ys ≡ flat_map (entry_text sites) fs
    → text_of_lines (line ∷ (xs ++ ys)) ≡ text_of_lines (line ∷ []) ++ flat_map (entry_text sites) (es ++ fs)
split_text sites line xs ys es fs first second =
    ap (λ t. (line ++ 10 ∷ []) ++ t)
    (text_of_lines-append xs ys
    ∙ ap (λ t. t ++ text_of_lines ys) first
    ∙ ap (λ t. flat_map (entry_text sites) es ++ t) second
    ∙ sym (flat_map-append (entry_text sites) es fs))
    ∙ ap (λ l. l ++ flat_map (entry_text sites) (es ++ fs)) (sym (append-nil (line ++ 10 ∷ [])))

-- the text of a tree is that of each node, in preorder
pub node_text : (sites : List ℕ) (t : Node) → text_of_lines (node_lines sites t) ≡ flat_map (entry_text sites) (flat t)
node_text sites (Leaf d) = sym (append-nil (text_of_lines (leaf_lines sites d)))
node_text sites (Fork split a b) = split_text sites (split_line split) (node_lines sites a) (node_lines sites b) (flat a) (flat b) (node_text sites a) (node_text sites b)

-- the text of the node at a place, as it was added
abbrev pub IsAddedAt : List ℕ → Node → ℕ → List ℕ → List ℕ → Type 0
IsAddedAt sites t at old new = IfSome (slice_get (flat t) at) (λ e. new ≡ old ++ entry_text sites e)

pub added_at : (sites old new : List ℕ) (t : Node) (at : ℕ) → at < length (flat t) → IsAddedAt sites t at old new → new ≡ old ++ entry_text sites (get_or (flat t) at (End no_duals))
added_at sites old new t at within is = subst (λ o. IfSome o (λ e. new ≡ old ++ entry_text sites e)) (slice_get-get_or (flat t) at (End no_duals) within) is

split_of_entry : (sites old new : List ℕ) (o : Option Entry) (node : Shown) → option_map entry_shown o ≡ Some node → None ≡ option_and_then duals_of o
    → new ≡ old ++ text_of_lines (split_lines node) → IfSome o (λ e. new ≡ old ++ entry_text sites e)
split_of_entry sites old new None node shows none added = tt
split_of_entry sites old new (Some (End x)) node shows none added = cc
split_of_entry sites old new (Some (Branch split)) node shows none added = let same : node ≡ entry_shown (Branch split) = cc in subst (λ n. new ≡ old ++ text_of_lines (split_lines n)) same added

pub split_added : {T E : Type 0} (r : Result T E) (sites old new : List ℕ) (t : Node) (at : ℕ) (node : Shown) → slice_get (nodes_shown t) at ≡ Some node → None ≡ duals_at t at
    → OnOk r (new ≡ old ++ text_of_lines (split_lines node)) → OnOk r (IsAddedAt sites t at old new)
split_added r sites old new t at node shows none added =
    let shown_here = sym (slice_get-map entry_shown (flat t) at) ∙ ap (λ ns. slice_get ns at) (sym (nodes_shown-flat t)) ∙ shows in
    OnOk-then r (split_of_entry sites old new (slice_get (flat t) at) node shown_here none) added
