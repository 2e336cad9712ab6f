-- A tree that is carried over to an instance that was edited: its duals are read by the ids on which the tree stood, and children that speak of what is gone are left out.
-- The root leaf of zeros takes its place where the tree grew too large for sessions to keep. The rules are the suite's own.
use Rattle.std.specs.Prelude.{◌==◌, ℕ, ◌+◌, ◌*◌, ◌/◌, Bool, ◌&&◌, List, map, zip, find, length, option_map, unwrap_or, is_some, pos, nat_lt, if◌then◌else◌}
use Rattle.location_terms.specs.Instance.{Instance, site_ids, customer_ids}
use Rattle.location_terms.specs.declared.split.Split.{Split}
use Rattle.location_terms.specs.declared.split.Split.TheVariants.{Site, Lane}
use Rattle.location_terms.specs.Carried.{is_listed}
use Rattle.location_terms.specs.declared.form.LeafForm.{LeafForm}
use Rattle.location_terms.specs.declared.form.LeafForm.TheVariants.{Prices, Whole}
use Rattle.location_terms.specs.Knapsack.{has_small_knapsacks}
use Rattle.location_terms.specs.Bound.{Duals}
use Rattle.location_terms.specs.Tree.{Node, Leaf, Fork, Tree, nodes_of}
use Rattle.branch_tree.specs.declared.limits.TheConstants.{MAX_TREE_NUMBERS}
use Rattle.dual_value.specs.Zeros.{zeros}
use Rattle.branch_tree.specs.Made.{leaf_of}

-- the number that stands for an id in a list whose numbers go with these ids, in their order; another one where the id isn't among them
abbrev pub by_id : {X : Type 0} → List ℕ → List X → X → ℕ → X
by_id ids numbers other id = unwrap_or (option_map (λ e. e.1) (find (λ e. e.0 == id) (zip ids numbers))) other

-- the form of a leaf on this instance: whole knapsacks that aren't small there are let go, and what is left are the same numbers with prices of 0
abbrev pub form_on : Instance → LeafForm → LeafForm
form_on I Prices = Prices
form_on I Whole = if has_small_knapsacks I then Whole else Prices

-- The duals of a leaf, in its form on the instance, and whose numbers go with these ids of sites and customers, for the sites and customers of the instance: 0 where the id is new, and no price where a
-- site has no capacity.
abbrev pub carried_duals : Instance → List ℕ → List ℕ → Duals → Duals
carried_duals I sites customers d = record {
  form = form_on I d.form;
  q = d.q;
  nu = d.nu;
  v = map (λ c. by_id customers d.v (pos 0) c.id) I.customers;
  u = map (λ s. if is_some s.cap then by_id sites d.u 0 s.id else 0) I.sites;
}

-- whether the instance has the site, and the customer, that the split names
abbrev pub knows_split : Instance → Split → Bool
knows_split I (Site s) = is_listed (site_ids I) s
knows_split I (Lane s c) = is_listed (site_ids I) s && is_listed (customer_ids I) c

-- the tree below a node: a split on what is gone gives way to its first child, where the site is closed or the lane unused
abbrev pub reduced : Instance → List ℕ → List ℕ → Node → Node
reduced I sites customers (Leaf d) = Leaf (carried_duals I sites customers d)
reduced I sites customers (Fork split first second) =
    if knows_split I split then Fork split (reduced I sites customers first) (reduced I sites customers second) else reduced I sites customers first

-- the whole tree so reduced, on the ids of the instance
abbrev pub reduced_tree : Instance → Tree → Tree
reduced_tree I t = record { sites = site_ids I; customers = customer_ids I; root = reduced I t.sites t.customers t.root }

-- whether twice the nodes are more than a tree for so many sites and customers may have: 40,000,000 over both together, rounded down
abbrev pub is_too_large : Instance → Tree → Bool
is_too_large I t = nat_lt (MAX_TREE_NUMBERS / (length I.sites + length I.customers)) (2 * nodes_of t)

-- the tree, or the root leaf of zeros at scale 1 where it is too large
abbrev pub carried_tree : Instance → Tree → Tree
carried_tree I t = if is_too_large I (reduced_tree I t) then leaf_of I (zeros I 1) else reduced_tree I t
