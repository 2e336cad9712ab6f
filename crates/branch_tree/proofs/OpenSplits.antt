-- One of the splits above the leaf at work comes or goes.
use Rattle.std.proofs.Common.{◌≡◌, ◌<◌, sym, ap, ◌∙◌, arith, List, [], ◌∷◌, ◌++◌, length, length-append, reverse, Option, Some, None}
use Rattle.std.specs.Prelude.{count_by}
use Rattle.std.proofs.lemmas.Grind.{flat_map-append}
use Rattle.std.proofs.lemmas.List.{append_assoc, append-nil, map-append, reverse-append, length-reverse, same_from_push}
use Rattle.location_terms.specs.declared.decision.Decision.{Decision}
use Rattle.location_terms.specs.declared.split.Split.{Split}
use Rattle.location_terms.specs.Box.{Path}
use Rattle.location_terms.specs.Split.{first_step}
use Rattle.location_terms.specs.Bound.{Duals}
use Rattle.branch_tree.specs.declared.entry.Entry.{Entry}
use Rattle.branch_tree.specs.declared.entry.Entry.TheVariants.{End, Branch}
use Rattle.branch_tree.specs.declared.open_split.OpenSplit.{OpenSplit}
use Rattle.branch_tree.specs.Leaf.{is_end}
use Rattle.branch_tree.specs.OpenSplits.{ends_of, entries_of, step_of, entries_above, steps_above, nodes_kept}
use Rattle.branch_tree.proofs.Found.{counted_branch}
use Rattle.branch_tree.proofs.Spliced.{counted-append}

abbrev pub open_of : Split → Option Duals → OpenSplit
open_of s first = record { split = s; first = first }

module _ (above rest : List OpenSplit) (s : Split) (first : Option Duals) (is : above ≡ rest ++ open_of s first ∷ []) where
  pub entries_are : entries_above above ≡ entries_above rest ++ entries_of (open_of s first)
  entries_are = ap entries_above is ∙ flat_map-append entries_of rest (open_of s first ∷ []) ∙ ap (λ es. entries_above rest ++ es) (append-nil (entries_of (open_of s first)))

  pub steps_are : steps_above above ≡ steps_above rest ++ step_of (open_of s first) ∷ []
  steps_are = ap steps_above is ∙ map-append step_of rest (open_of s first ∷ [])

  pub length_kept : (done : List Entry) → length done < length (nodes_kept above None done)
  length_kept done =
      omega (arith, length-append (entries_above above) (reverse done), length-reverse done, ap length entries_are, length-append (entries_above rest) (entries_of (open_of s first)))

  -- all its children are done
  module _ (none : first ≡ None) where
    closed_entries : entries_above above ≡ entries_above rest ++ Branch s ∷ []
    closed_entries = entries_are ∙ ap (λ f. entries_above rest ++ Branch s ∷ ends_of f) none

    pub closed_nodes : (done : List Entry) → nodes_kept rest None (done ++ Branch s ∷ []) ≡ nodes_kept above None done
    closed_nodes done =
        ap (λ es. entries_above rest ++ es) (reverse-append done (Branch s ∷ []))
        ∙ sym (append_assoc (entries_above rest) (Branch s ∷ []) (reverse done))
        ∙ sym (ap (λ es. es ++ reverse done) closed_entries)

    pub closed_left : count_by is_end (entries_above rest) ≡ count_by is_end (entries_above above)
    closed_left = omega (arith, counted-append (entries_above rest) (Branch s ∷ []), counted_branch s [], ap (count_by is_end) closed_entries)

    pub closed_path : (base path up : Path) (last : Decision) → path ≡ base ++ steps_above above → path ≡ up ++ last ∷ [] → up ≡ base ++ steps_above rest
    closed_path base path up last leads popped =
        (same_from_push up (base ++ steps_above rest) last (step_of (open_of s first)) (sym popped ∙ leads ∙ ap (λ p. base ++ p) steps_are ∙ sym (append_assoc base (steps_above rest) (step_of (open_of s first) ∷ [])))).0

  -- its first child is left
  module _ (d : Duals) (waits : first ≡ Some d) where
    turned_entries : entries_above above ≡ entries_above (rest ++ open_of s None ∷ []) ++ ends_of (Some d)
    turned_entries =
        entries_are ∙ ap (λ f. entries_above rest ++ Branch s ∷ ends_of f) waits
        ∙ sym (append_assoc (entries_above rest) (Branch s ∷ []) (End d ∷ []))
        ∙ sym (ap (λ es. es ++ End d ∷ []) (flat_map-append entries_of rest (open_of s None ∷ [])))

    pub turned_nodes : (done : List Entry) → nodes_kept (rest ++ open_of s None ∷ []) (Some d) done ≡ nodes_kept above None done
    turned_nodes done =
        sym (append_assoc (entries_above (rest ++ open_of s None ∷ [])) (End d ∷ []) (reverse done))
        ∙ sym (ap (λ es. es ++ reverse done) turned_entries)

    pub turned_left : count_by is_end (entries_above (rest ++ open_of s None ∷ []) ++ ends_of (Some d)) ≡ count_by is_end (entries_above above)
    turned_left = ap (count_by is_end) (sym turned_entries)

    pub turned_path : (base path down : Path) → path ≡ base ++ steps_above above → ((front : Path) (last : Decision) → path ≡ front ++ last ∷ [] → down ≡ front ++ first_step s ∷ []) → down ≡ base ++ steps_above (rest ++ open_of s None ∷ [])
    turned_path base path down leads replaced =
        replaced (base ++ steps_above rest) (step_of (open_of s first)) (leads ∙ ap (λ p. base ++ p) steps_are ∙ sym (append_assoc base (steps_above rest) (step_of (open_of s first) ∷ [])))
        ∙ append_assoc base (steps_above rest) (first_step s ∷ [])
        ∙ ap (λ p. base ++ p) (sym (map-append step_of rest (open_of s None ∷ [])))
