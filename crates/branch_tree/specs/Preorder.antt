-- A tree as the list of its nodes in preorder, and back.
use Rattle.std.specs.Prelude.{◌≡◌, ℕ, Bool, true, false, ◌^◌, ◌<◌, ◌⊎◌, List, [], ◌∷◌, ◌++◌, length, All, ℤ, pos, refl}
use Rattle.std.specs.Coded.{Coded, code_by, coded_ℕ, coded_ℤ, coded_bool, coded_list, coded×, coded⊎}
use Rattle.std.proofs.Common.{sym, ap, ◌∙◌, inl, inr}
use Rattle.std.proofs.lemmas.List.{append_assoc, append-nil}
use Rattle.branch_tree.specs.declared.entry.Entry.{Entry}
use Rattle.branch_tree.specs.declared.entry.Entry.TheVariants.{End, Branch}
use Rattle.location_terms.specs.declared.split.Split.{Split}
use Rattle.location_terms.specs.declared.split.Split.TheVariants.{Site, Lane}
use Rattle.location_terms.specs.Split.{IsSplitAmong}
use Rattle.location_terms.specs.declared.form.LeafForm.{LeafForm}
use Rattle.location_terms.specs.declared.form.LeafForm.TheVariants.{Prices, Whole}
use Rattle.location_terms.specs.Bound.{Duals}
use Rattle.location_terms.specs.Tree.{Node, Leaf, Fork, Tree, HasLists}

-- a node, then the nodes of its first child, then those of its second
abbrev pub flat : Node → List Entry
flat (Leaf d) = End d ∷ []
flat (Fork split first second) = Branch split ∷ (flat first ++ flat second)

-- a split takes the first two trees of those that follow it
abbrev pub joined : Split → List Node → List Node
joined split [] = []
joined split (a ∷ []) = []
joined split (a ∷ b ∷ rest) = Fork split a b ∷ rest

-- the trees whose nodes stand one after another in the list
abbrev pub forest : List Entry → List Node
forest [] = []
forest (End d ∷ es) = Leaf d ∷ forest es
forest (Branch split ∷ es) = joined split (forest es)

abbrev pub no_duals : Duals
no_duals = record { form = Prices; q = 0; nu = pos 0; v = []; u = [] }

abbrev pub first_tree : List Node → Node
first_tree [] = Leaf no_duals
first_tree (t ∷ ts) = t

-- the tree whose nodes the list has
unfoldable pub tree_of : List Entry → Node
tree_of es = first_tree (forest es)

pub forest-flat : (t : Node) (es : List Entry) → forest (flat t ++ es) ≡ t ∷ forest es
forest-flat (Leaf d) es = refl
forest-flat (Fork split a b) es = ap (λ xs. joined split (forest xs)) (append_assoc (flat a) (flat b) es) ∙ ap (joined split) (forest-flat a (flat b ++ es) ∙ ap (λ ts. a ∷ ts) (forest-flat b es))

pub tree_of-flat : (t : Node) → tree_of (flat t) ≡ t
unfolding tree_of
tree_of-flat t = ap (λ es. first_tree (forest es)) (sym (append-nil (flat t))) ∙ ap first_tree (forest-flat t [])

-- a split is stored as its site, or as its site and customer
abbrev pub split_parts : Split → ℕ ⊎ (ℕ × ℕ)
split_parts (Site s) = inl s
split_parts (Lane s c) = inr (s, c)

abbrev pub split_from : ℕ ⊎ (ℕ × ℕ) → Split
split_from (inl s) = Site s
split_from (inr p) = Lane p.0 p.1

pub split_from-parts : (split : Split) → split_from (split_parts split) ≡ split
split_from-parts (Site s) = refl
split_from-parts (Lane s c) = refl

abbrev pub split_code : Coded Split
split_code = code_by (ℕ ⊎ (ℕ × ℕ)) (coded⊎ coded_ℕ (coded× coded_ℕ coded_ℕ)) split_parts split_from split_from-parts

-- a form is stored as whether it is that of whole knapsacks
abbrev pub is_whole : LeafForm → Bool
is_whole Prices = false
is_whole Whole = true

abbrev pub form_from : Bool → LeafForm
form_from false = Prices
form_from true = Whole

pub form_from-is_whole : (form : LeafForm) → form_from (is_whole form) ≡ form
form_from-is_whole Prices = refl
form_from-is_whole Whole = refl

abbrev pub form_code : Coded LeafForm
form_code = code_by Bool coded_bool is_whole form_from form_from-is_whole

-- the code by which a struct can have duals as a part of its value
abbrev pub duals_code : Coded Duals
duals_code = code_by (LeafForm × (ℕ × (ℤ × (List ℤ × List ℕ)))) (coded× form_code (coded× coded_ℕ (coded× coded_ℤ (coded× (coded_list coded_ℤ) (coded_list coded_ℕ))))) (λ d. (d.form, (d.q, (d.nu, (d.v, d.u))))) (λ p. record { form = p.0; q = p.1.0; nu = p.1.1.0; v = p.1.1.1.0; u = p.1.1.1.1 }) (λ _. refl)

-- an entry is stored as its duals or its split
abbrev pub entry_parts : Entry → Duals ⊎ Split
entry_parts (End d) = inl d
entry_parts (Branch split) = inr split

abbrev pub entry_from : Duals ⊎ Split → Entry
entry_from (inl d) = End d
entry_from (inr split) = Branch split

pub entry_from-parts : (e : Entry) → entry_from (entry_parts e) ≡ e
entry_from-parts (End d) = refl
entry_from-parts (Branch split) = refl

abbrev pub entry_code : Coded Entry
entry_code = code_by (Duals ⊎ Split) (coded⊎ duals_code split_code) entry_parts entry_from entry_from-parts

-- a tree is stored as its ids and the list of its nodes
abbrev pub tree_parts : Tree → List ℕ × (List ℕ × List Entry)
tree_parts t = (t.sites, (t.customers, flat t.root))

abbrev pub tree_from : List ℕ × (List ℕ × List Entry) → Tree
tree_from p = record { sites = p.0; customers = p.1.0; root = tree_of p.1.1 }

pub tree_from-parts : (t : Tree) → tree_from (tree_parts t) ≡ t
tree_from-parts t = ap (λ n. let r : Tree = record { sites = t.sites; customers = t.customers; root = n } in r) (tree_of-flat t.root)

abbrev pub tree_code : Coded Tree
tree_code = code_by (List ℕ × (List ℕ × List Entry)) (coded× (coded_list coded_ℕ) (coded× (coded_list coded_ℕ) (coded_list entry_code))) tree_parts tree_from tree_from-parts

-- a leaf's duals have a number for each of the ids, within the limits, and a split is on them
abbrev pub IsSound : List ℕ → List ℕ → Entry → Type 0
IsSound sites customers (End d) = HasLists (length sites) (length customers) d
IsSound sites customers (Branch split) = IsSplitAmong sites customers split

-- the list is that of one whole tree on these ids, whose nodes a u32 can count
pub record IsStored (sites customers : List ℕ) (nodes : List Entry) : Type 0 where
  pub whole : nodes ≡ flat (tree_of nodes)
  pub sound : All (IsSound sites customers) nodes
  pub few : length nodes < 2 ^ 32
