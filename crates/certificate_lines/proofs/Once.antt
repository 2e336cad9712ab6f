-- A tree of one site and one customer no path of which decides a thing twice has at most seven nodes.
use Rattle.std.proofs.Common.{◌≡◌, ◌⊎◌, ℕ, zero, suc, ◌+◌, ◌≤◌, List, [], ◌∷◌, ◌++◌, ◌*◌, length, get_or, refl, sym, ap, ◌∙◌, inl, inr, arith}
use Rattle.std.specs.Prelude.{◌≢◌, Contains}
use Rattle.std.proofs.lemmas.List.Elements.{All-contains, Contains-append_left, Contains-append_right}
use Rattle.location_terms.specs.declared.decision.Decision.{Decision}
use Rattle.location_terms.specs.declared.split.Split.{Split}
use Rattle.location_terms.specs.declared.split.Split.TheVariants.{Site, Lane}
use Rattle.location_terms.specs.Instance.{Instance, IsValid}
use Rattle.location_terms.specs.Box.{Path}
use Rattle.location_terms.specs.Split.{first_step, second_step, IsSplitAmong}
use Rattle.location_terms.specs.Tree.{Node, Leaf, Fork, Tree, IsTree, StandsOn, size_of, nodes_of, SplitsAmong}
use Rattle.location_terms.proofs.Places.{length-site_ids, length-customer_ids}
use Rattle.certificate_lines.specs.Length.{split_of, IsUndecided, SplitsUndecided, DecidesOnce, HasFewNodes}
use Rattle.branch_tree.specs.declared.limits.TheConstants.{MAX_TREE_NUMBERS}

-- a decision of the path is on this
abbrev IsDecided : Path → Split → Type 0
IsDecided path split = (step : Decision) × Contains path step × (split_of step ≡ split)

not_both : (path : Path) (split : Split) → IsDecided path split → IsUndecided path split → ⊥
not_both path split decided none = All-contains (λ (step : Decision). split_of step ≢ split) path decided.0 none decided.1 decided.2

-- it stays so further down, and a step decides what it is on
still : (path : Path) (split : Split) (step : Decision) → IsDecided path split → IsDecided (path ++ step ∷ []) split
still path split step decided = (decided.0, Contains-append_left path (step ∷ []) decided.0 decided.1, decided.2)

last : (path : Path) (split : Split) (step : Decision) → split_of step ≡ split → IsDecided (path ++ step ∷ []) split
last path split step on = (step, Contains-append_right path (step ∷ []) step (0, omega arith, refl), on)

first_on : (split : Split) → split_of (first_step split) ≡ split
first_on (Site s) = refl
first_on (Lane s c) = refl

second_on : (split : Split) → split_of (second_step split) ≡ split
second_on (Site s) = refl
second_on (Lane s c) = refl

-- all splits are on one of two things
module _ (sites customers : List ℕ) (one other : Split) (only : (split : Split) → IsSplitAmong sites customers split → (split ≡ one) ⊎ (split ≡ other)) where
  -- a split on a thing that is decided can't be
  no_split : (path : Path) (split thing : Split) → split ≡ thing → IsDecided path thing → IsUndecided path split → ⊥
  no_split path split thing is decided none = not_both path split (decided.0, decided.1, decided.2 ∙ sym is) none

  both_decided : (path : Path) (t : Node) → IsDecided path one → IsDecided path other → SplitsAmong sites customers t → SplitsUndecided path t → size_of t ≤ 1
  both_decided path (Leaf d) a b among once = omega arith
  both_decided path (Fork split first second) a b among once =
      elim (only split among.0) [
        | inl is ↦ absurd (no_split path split one is a once.0)
        | inr is ↦ absurd (no_split path split other is b once.0)
      ]

  one_decided : (path : Path) (t : Node) → IsDecided path one → SplitsAmong sites customers t → SplitsUndecided path t → size_of t ≤ 3
  one_decided path (Leaf d) a among once = omega arith
  one_decided path (Fork split first second) a among once =
      elim (only split among.0) [
        | inl is ↦ absurd (no_split path split one is a once.0)
        | inr is ↦ omega (
          arith,
          both_decided (path ++ first_step split ∷ []) first (still path one (first_step split) a) (last path other (first_step split) (first_on split ∙ is)) among.1 once.1,
          both_decided (path ++ second_step split ∷ []) second (still path one (second_step split) a) (last path other (second_step split) (second_on split ∙ is)) among.2 once.2,
        )
      ]

swapped : (sites customers : List ℕ) (one other : Split) → ((split : Split) → IsSplitAmong sites customers split → (split ≡ one) ⊎ (split ≡ other)) → (split : Split) → IsSplitAmong sites customers split → (split ≡ other) ⊎ (split ≡ one)
swapped sites customers one other only split among = elim (only split among) [ inl is ↦ inr is | inr is ↦ inl is ]

none_decided : (sites customers : List ℕ) (one other : Split) → ((split : Split) → IsSplitAmong sites customers split → (split ≡ one) ⊎ (split ≡ other)) → (t : Node) → SplitsAmong sites customers t → SplitsUndecided [] t → size_of t ≤ 7
none_decided sites customers one other only (Leaf d) among once = omega arith
none_decided sites customers one other only (Fork split first second) among once =
    elim (only split among.0) [
      | inl is ↦ omega (
        arith,
        one_decided sites customers one other only (first_step split ∷ []) first (last [] one (first_step split) (first_on split ∙ is)) among.1 once.1,
        one_decided sites customers one other only (second_step split ∷ []) second (last [] one (second_step split) (second_on split ∙ is)) among.2 once.2,
      )
      | inr is ↦ omega (
        arith,
        one_decided sites customers other one (swapped sites customers one other only) (first_step split ∷ []) first (last [] other (first_step split) (first_on split ∙ is)) among.1 once.1,
        one_decided sites customers other one (swapped sites customers one other only) (second_step split ∷ []) second (last [] other (second_step split) (second_on split ∙ is)) among.2 once.2,
      )
    ]

-- a list of one number has no other
the_one : (xs : List ℕ) (x : ℕ) → length xs ≤ 1 → Contains xs x → x ≡ get_or xs 0 0
the_one [] x few has = absurd (omega (arith, has.1))
the_one (y ∷ []) x few (zero, within, is) = sym is
the_one (y ∷ []) x few (suc k, within, is) = absurd (omega arith)
the_one (y ∷ z ∷ xs) x few has = absurd (omega arith)

only_two : (sites customers : List ℕ) → length sites ≤ 1 → length customers ≤ 1 → (split : Split) → IsSplitAmong sites customers split → (split ≡ Site (get_or sites 0 0)) ⊎ (split ≡ Lane (get_or sites 0 0) (get_or customers 0 0))
only_two sites customers few named (Site s) among = inl (ap Site (the_one sites s few among))
only_two sites customers few named (Lane s c) among = inr (ap (λ x. Lane x c) (the_one sites s few among.0) ∙ ap (Lane (get_or sites 0 0)) (the_one customers c named among.1))

pub seven : (sites customers : List ℕ) (t : Node) → length sites ≤ 1 → length customers ≤ 1 → SplitsAmong sites customers t → SplitsUndecided [] t → size_of t ≤ 7
seven sites customers t few named among once = none_decided sites customers (Site (get_or sites 0 0)) (Lane (get_or sites 0 0) (get_or customers 0 0)) (only_two sites customers few named) t among once

-- so it has few nodes
pub few_where_once : (I : Instance) (t : Tree) → IsValid I → IsTree t → StandsOn t I → DecidesOnce t → nodes_of t * (length I.sites + length I.customers) ≤ MAX_TREE_NUMBERS → HasFewNodes I t
few_where_once I t valid tree stands once numbers =
    record {
      numbers = numbers;
      single = λ two.
          seven t.sites t.customers t.root
          (omega (arith, two, ap length stands.sites, length-site_ids I, valid.sizes.some_customer))
          (omega (arith, two, ap length stands.customers, length-customer_ids I, valid.sizes.some_site))
          tree.splits once;
    }
