-- For private functions alone: no public contract cites this page.
-- The text of a certificate in the order in which it is written: the lines before the tree, those of each node in preorder, and the last.
use Rattle.std.specs.Prelude.{ℕ, List, [], ◌∷◌, ◌++◌, flat_map, codes, Option, pos, ℤ}
use Rattle.location_terms.specs.declared.claim.Claim.{Claim}
use Rattle.location_terms.specs.Instance.{Instance}
use Rattle.location_terms.specs.Plan.{Plan}
use Rattle.location_terms.specs.Bound.{Duals}
use Rattle.branch_tree.specs.declared.entry.Entry.{Entry}
use Rattle.branch_tree.specs.declared.entry.Entry.TheVariants.{End, Branch}
use Rattle.branch_tree.specs.declared.node.NodeKind.{NodeKind as Shown}
use Rattle.branch_tree.specs.declared.node.NodeKind.TheVariants as shown
use Rattle.number_words.specs.Line.{spaced}
use Rattle.number_words.specs.Number.{number_text}
use Rattle.certificate_lines.specs.Text.{header_words, sizes_line, status_lines, claim_line, plan_lines, leaf_lines, split_line, text_of_lines}

-- whole numbers that are not below 0, with a space before each
abbrev pub counted : List ℕ → List ℕ
counted ns = flat_map (λ n. 32 ∷ number_text (pos n)) ns

-- numbers of either sign, with a space before each
abbrev pub numbered : List ℤ → List ℕ
numbered zs = flat_map (λ z. 32 ∷ number_text z) zs

-- the lines before the tree
abbrev pub head_lines : Instance → Claim → Option Plan → List (List ℕ)
head_lines I claim plan = spaced (header_words I) ∷ sizes_line I ∷ (status_lines I ++ (claim_line claim ∷ plan_lines plan))

-- the first line of a leaf
abbrev pub scale_line : Duals → List ℕ
scale_line d = spaced (codes "leaf" ∷ number_text (pos d.q) ∷ number_text d.nu ∷ [])

-- the line of a split
abbrev pub split_lines : Shown → List (List ℕ)
split_lines shown.Leaf = []
split_lines (shown.Split split) = split_line split ∷ []

-- the lines of a node, without those of its children
abbrev pub entry_lines : List ℕ → Entry → List (List ℕ)
entry_lines sites (End d) = leaf_lines sites d
entry_lines sites (Branch split) = split_line split ∷ []

-- their text
abbrev pub entry_text : List ℕ → Entry → List ℕ
entry_text sites e = text_of_lines (entry_lines sites e)
