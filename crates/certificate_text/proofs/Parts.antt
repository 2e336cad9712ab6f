-- A file that is written part by part.
use Rattle.std.proofs.Common.{◌≡◌, ℕ, ◌+◌, ◌<◌, ◌≤◌, List, [], ◌∷◌, ◌++◌, length, length-append, get_or, take, drop, refl, ap, sym, ◌∙◌, arith, append_assoc, append-nil, inl, inr, Option}
use Rattle.std.specs.Prelude.{codes, flat_map, Result, OnOk}
use Rattle.std.proofs.lemmas.Grind.{flat_map-append}
use Rattle.std.proofs.lemmas.List.{take_at, take_more, drop_all, take-append-drop}
use Rattle.shelf_port.proofs.Results.{OnOk-then}
use Rattle.shelf_port.specs.Files.{Files, with_file, with_added, LeavesPrefix, AddsPrefix}
use Rattle.shelf_port.proofs.Told.{with_added-with_file}
use Rattle.location_terms.specs.declared.claim.Claim.{Claim}
use Rattle.location_terms.specs.Instance.{Instance}
use Rattle.location_terms.specs.Plan.{Plan}
use Rattle.location_terms.specs.Certificate.{Certificate}
use Rattle.branch_tree.specs.declared.entry.Entry.{Entry}
use Rattle.branch_tree.specs.declared.entry.Entry.TheVariants.{End}
use Rattle.branch_tree.specs.Preorder.{flat, no_duals}
use Rattle.number_words.specs.Line.{spaced}
use Rattle.certificate_lines.specs.Text.{header_words, sizes_line, status_lines, claim_line, plan_lines, node_lines, certificate_text, text_of_lines}
use Rattle.certificate_text.specs.Written.{head_lines, entry_text}
use Rattle.certificate_text.proofs.Nodes.{text_of_lines-append, one_line, more_lines, node_text}

-- what stands in the file is a prefix of the whole
held : (start now : Option Files) (name front rest whole : List ℕ) → now ≡ with_file start name front → front ++ rest ≡ whole → LeavesPrefix start now name whole
held start now name front rest whole is parts =
    inr (
      length front,
      omega (arith, length-append front rest, ap length parts),
      is ∙ ap (with_file start name) (sym (take_at front rest (length front) refl) ∙ ap (take (length front)) parts),
    )

-- a part more
held_all : (start before after : Option Files) (name front more : List ℕ) → before ≡ with_file start name front → after ≡ with_added before name more → after ≡ with_file start name (front ++ more)
held_all start before after name front more is added = added ∙ ap (λ told. with_added told name more) is ∙ with_added-with_file start name front more

-- so it is once some of the next part was added
held_some : (start before after : Option Files) (name front more rest whole : List ℕ) → before ≡ with_file start name front → front ++ (more ++ rest) ≡ whole
    → AddsPrefix before after name more → LeavesPrefix start after name whole
held_some start before after name front more rest whole is parts (inl same) = held start after name front (more ++ rest) whole (same ∙ is) parts
held_some start before after name front more rest whole is parts (inr some) =
    held start after name (front ++ take some.0 more) (drop some.0 more ++ rest) whole
    (held_all start before after name front (take some.0 more) is some.2)
    (append_assoc front (take some.0 more) (drop some.0 more ++ rest)
    ∙ ap (λ t. front ++ t) (sym (append_assoc (take some.0 more) (drop some.0 more) rest) ∙ ap (λ t. t ++ rest) (take-append-drop some.0 more))
    ∙ parts)

-- The file holds a front of the text, and with what is gathered behind it that comes up to a place.
abbrev pub IsGathered : Option Files → Option Files → List ℕ → List ℕ → List ℕ → Type 0
IsGathered start now name text upto = (front : List ℕ) × (now ≡ with_file start name front) × (front ++ text ≡ upto)

module _ (start now : Option Files) (name text upto : List ℕ) (so_far : IsGathered start now name text upto) where
  -- more is gathered
  pub gathered_more : (next more further : List ℕ) → next ≡ text ++ more → upto ++ more ≡ further → IsGathered start now name next further
  gathered_more next more further step reaches =
      (so_far.0, so_far.1, ap (λ t. so_far.0 ++ t) step ∙ sym (append_assoc so_far.0 text more) ∙ ap (λ t. t ++ more) so_far.2 ∙ reaches)

  module _ (rest whole : List ℕ) (parts : upto ++ rest ≡ whole) where
    behind : so_far.0 ++ (text ++ rest) ≡ whole
    behind = sym (append_assoc so_far.0 text rest) ∙ ap (λ t. t ++ rest) so_far.2 ∙ parts

    -- the file holds a prefix of the whole
    pub gathered_prefix : LeavesPrefix start now name whole
    gathered_prefix = held start now name so_far.0 (text ++ rest) whole so_far.1 behind

    -- so it does once some of what is gathered was added
    pub gathered_some : (after : Option Files) → AddsPrefix now after name text → LeavesPrefix start after name whole
    gathered_some after added = held_some start now after name so_far.0 text rest whole so_far.1 behind added

  -- where that comes up to the end, too
  pub gathered_last : (after : Option Files) → AddsPrefix now after name text → LeavesPrefix start after name upto
  gathered_last after added = gathered_some [] upto (append-nil upto) after added

  -- all that is gathered was added
  pub gathered_all : (after : Option Files) → after ≡ with_added now name text → after ≡ with_file start name upto
  gathered_all after added = held_all start now after name so_far.0 text so_far.1 added ∙ ap (with_file start name) so_far.2

  -- and nothing is gathered then
  pub gathered_anew : (after : Option Files) (next : List ℕ) → after ≡ with_added now name text → next ≡ [] → IsGathered start after name next upto
  gathered_anew after next added none = (upto, gathered_all after added, ap (λ t. upto ++ t) none ∙ append-nil upto)

-- the text of the lines before the tree
abbrev pub head_text : Instance → Claim → Option Plan → List ℕ
head_text I claim plan = text_of_lines (head_lines I claim plan)

-- the lines before the tree, added one behind another
pub head_added : {T E : Type 0} (r : Result T E) (I : Instance) (claim : Claim) (plan : Option Plan) (old a b c d new : List ℕ)
    → a ≡ (old ++ spaced (header_words I)) ++ 10 ∷ []
    → b ≡ (a ++ sizes_line I) ++ 10 ∷ []
    → c ≡ b ++ text_of_lines (status_lines I)
    → d ≡ (c ++ claim_line claim) ++ 10 ∷ []
    → OnOk r (new ≡ d ++ text_of_lines (plan_lines plan))
    → OnOk r (new ≡ old ++ head_text I claim plan)
head_added r I claim plan old a b c d new header sizes statuses claimed added =
    let first : List (List ℕ) = spaced (header_words I) ∷ sizes_line I ∷ [] in
    let from_header = one_line old a (spaced (header_words I)) header in
    let from_sizes = more_lines old a b (spaced (header_words I) ∷ []) (sizes_line I ∷ []) from_header (one_line a b (sizes_line I) sizes) in
    let from_statuses = more_lines old b c first (status_lines I) from_sizes statuses in
    let from_claim = more_lines old c d (first ++ status_lines I) (claim_line claim ∷ []) from_statuses (one_line c d (claim_line claim) claimed) in
    OnOk-then r
    (λ plan_added.
    more_lines old d new ((first ++ status_lines I) ++ claim_line claim ∷ []) (plan_lines plan) from_claim plan_added
    ∙ ap (λ lines. old ++ text_of_lines (first ++ lines)) (append_assoc (status_lines I) (claim_line claim ∷ []) (plan_lines plan)))
    added

-- the text of some nodes of the tree
abbrev pub nodes_text : Certificate → List Entry → List ℕ
nodes_text cert es = flat_map (entry_text cert.tree.sites) es

module _ (I : Instance) (cert : Certificate) where
  -- the text in its three parts
  whole_text : head_text I cert.claim cert.plan ++ (nodes_text cert (flat cert.tree.root) ++ codes "end\n") ≡ certificate_text I cert
  whole_text =
      let nodes : List (List ℕ) = node_lines cert.tree.sites cert.tree.root in
      ap (λ t. head_text I cert.claim cert.plan ++ (t ++ codes "end\n")) (sym (node_text cert.tree.sites cert.tree.root))
      ∙ ap (λ t. head_text I cert.claim cert.plan ++ t) (sym (text_of_lines-append nodes (codes "end" ∷ [])))
      ∙ sym (text_of_lines-append (head_lines I cert.claim cert.plan) (nodes ++ codes "end" ∷ []))
      ∙ ap (λ lines. text_of_lines (spaced (header_words I) ∷ sizes_line I ∷ lines)) (append_assoc (status_lines I) (claim_line cert.claim ∷ plan_lines cert.plan) (nodes ++ codes "end" ∷ []))

  -- the nodes in preorder
  abbrev pub nodes : List Entry
  nodes = flat cert.tree.root

  -- the text before the node at a place, that of the node, and the text from a place on
  unfoldable pub text_before : ℕ → List ℕ
  text_before k = head_text I cert.claim cert.plan ++ nodes_text cert (take k nodes)

  abbrev pub text_at : ℕ → List ℕ
  text_at k = entry_text cert.tree.sites (get_or nodes k (End no_duals))

  pub text_from : ℕ → List ℕ
  text_from k = nodes_text cert (drop k nodes) ++ codes "end\n"

  pub cut : (k : ℕ) → text_before k ++ text_from k ≡ certificate_text I cert
  unfolding text_before text_from
  cut k =
      let f : Entry → List ℕ = entry_text cert.tree.sites in
      append_assoc (head_text I cert.claim cert.plan) (nodes_text cert (take k nodes)) (text_from k)
      ∙ ap (λ t. head_text I cert.claim cert.plan ++ t)
      (sym (append_assoc (nodes_text cert (take k nodes)) (nodes_text cert (drop k nodes)) (codes "end\n"))
      ∙ ap (λ t. t ++ codes "end\n") (sym (flat_map-append f (take k nodes) (drop k nodes)) ∙ ap (flat_map f) (take-append-drop k nodes)))
      ∙ whole_text

  text_next : (k : ℕ) → k < length nodes → text_before k ++ text_at k ≡ text_before (k + 1)
  unfolding text_before
  text_next k within =
      append_assoc (head_text I cert.claim cert.plan) (nodes_text cert (take k nodes)) (text_at k)
      ∙ ap (λ t. head_text I cert.claim cert.plan ++ t)
      (ap (λ t. nodes_text cert (take k nodes) ++ t) (sym (append-nil (text_at k)))
      ∙ sym (flat_map-append (entry_text cert.tree.sites) (take k nodes) (get_or nodes k (End no_duals) ∷ []))
      ∙ ap (nodes_text cert) (sym (take_more nodes k (End no_duals) within)))

  cut_behind : (k : ℕ) → length nodes ≤ k → text_before k ++ codes "end\n" ≡ certificate_text I cert
  unfolding text_from
  cut_behind k past = ap (λ es. text_before k ++ (nodes_text cert es ++ codes "end\n")) (sym (drop_all k nodes past)) ∙ cut k

  -- the file is empty, and the lines before the tree are gathered
  pub head_gathered : (start now : Option Files) (name empty text : List ℕ) → now ≡ with_file start name [] → text ≡ empty ++ head_text I cert.claim cert.plan → empty ≡ [] → IsGathered start now name text (text_before 0)
  unfolding text_before
  head_gathered start now name empty text is added none =
      ([], is, added ∙ ap (λ t. t ++ head_text I cert.claim cert.plan) none ∙ sym (append-nil (head_text I cert.claim cert.plan)))

  module _ (start now : Option Files) (name text next : List ℕ) (k : ℕ) (so_far : IsGathered start now name text (text_before k)) where
    -- the node at the place is gathered, too
    pub node_gathered : k < length nodes → next ≡ text ++ text_at k → IsGathered start now name next (text_before (k + 1))
    node_gathered within added = gathered_more start now name text (text_before k) so_far next (text_at k) (text_before (k + 1)) added (text_next k within)

    -- behind the last node the last line is gathered, and with it the whole
    pub end_gathered : length nodes ≤ k → next ≡ text ++ codes "end\n" → IsGathered start now name next (certificate_text I cert)
    end_gathered past added = gathered_more start now name text (text_before k) so_far next (codes "end\n") (certificate_text I cert) added (cut_behind k past)
