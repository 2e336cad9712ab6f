-- A tree that is made node by node, in preorder.
use Rattle.std.specs.Prelude.{ℕ, ◌^◌, ◌<◌, List, [], ◌∷◌, ◌++◌, length, All, refl}
use Rattle.std.specs.Coded.{Coded, code_by, coded_ℕ, coded_list, coded×}
use Rattle.location_terms.specs.Instance.{Instance, site_ids, customer_ids}
use Rattle.location_terms.specs.Tree.{Tree}
use Rattle.branch_tree.specs.declared.entry.Entry.{Entry}
use Rattle.branch_tree.specs.Preorder.{tree_of, entry_code, IsSound}

-- the ids that the tree stands on, and its nodes so far in preorder
pub record Begun : Type 0 where
  pub sites : List ℕ
  pub customers : List ℕ
  pub entries : List Entry

abbrev pub begun_code : Coded Begun
begun_code = code_by (List ℕ × (List ℕ × List Entry)) (coded× (coded_list coded_ℕ) (coded× (coded_list coded_ℕ) (coded_list entry_code))) (λ b. (b.sites, (b.customers, b.entries))) (λ p. record { sites = p.0; customers = p.1.0; entries = p.1.1 }) (λ _. refl)

-- no node yet, on the instance's ids
abbrev pub begun_on : Instance → Begun
begun_on I = record { sites = site_ids I; customers = customer_ids I; entries = [] }

-- one node more
abbrev pub grown : Begun → Entry → Begun
grown b e = record b { entries = b.entries ++ e ∷ [] }

-- the tree whose nodes are all there
abbrev pub built : Begun → Tree
built b = record { sites = b.sites; customers = b.customers; root = tree_of b.entries }

-- each node so far is on these ids, and a u32 can count them
pub record AreSound (sites customers : List ℕ) (nodes : List Entry) : Type 0 where
  pub sound : All (IsSound sites customers) nodes
  pub few : length nodes < 2 ^ 32
