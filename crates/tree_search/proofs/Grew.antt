-- A tree that grows, from step to step.
use Rattle.std.proofs.Common.{◌≡◌, ℕ, ◌+◌, ◌-◌, ◌<◌, ◌≤◌, sym, ap, subst, ◌∙◌, inl, inr, arith, [], ◌∷◌, ◌++◌, length, Bool, Option, Some, None, ◌≤ℤ◌}
use Rattle.std.specs.Prelude.{Contains, IfSome, IsTrue, IsFalse, leb, true, false}
use Rattle.std.proofs.lemmas.Int.{ints}
use Rattle.std.proofs.lemmas.Bool.{leb-true, leb-false}
use Rattle.std.proofs.lemmas.List.{length-map, get_or_default}
use Rattle.std.proofs.lemmas.List.Elements.{All-append, All-cons, All-nil}
use Rattle.location_terms.specs.declared.decision.Decision.{Decision}
use Rattle.location_terms.specs.declared.decision.Decision.TheVariants.{Opened, Closed, Yes, No}
use Rattle.location_terms.specs.Instance.{Instance, IsValid, site_ids, customer_ids, site_at, customer_at}
use Rattle.location_terms.specs.Plan.{Plan}
use Rattle.location_terms.specs.Box.{Path}
use Rattle.location_terms.specs.Split.{first_step, second_step, IsSplitAmong}
use Rattle.location_terms.specs.Bound.{Duals, bound_of}
use Rattle.location_terms.specs.Leaf.{LeafFits}
use Rattle.location_terms.specs.Tree.{Leaf, Fork, Tree, HasLists, nodes_of}
use Rattle.dual_value.proofs.Further.{bound_rises, bound_rises_closed}
use Rattle.plan_search.proofs.Among.{Contains-map}
use Rattle.plan_search.specs.InBox.{IsPathOf, NamesKnown, IsNoWorse}
use Rattle.location_terms.specs.declared.split.Split.{Split}
use Rattle.location_terms.specs.declared.split.Split.TheVariants.{Site, Lane}
use Rattle.branch_tree.specs.Growing.{Growing, leaf_at_work, worked, split_in_two}
use Rattle.branch_tree.specs.Built.{IsBuiltOf}
use Rattle.branch_tree.proofs.Built.{built_leaves, built_with_duals, built_split, built_replaced, built_but_weaker, done_split, done_whole}
use Rattle.tree_search.specs.Made.{IsMadeLeaf, NeedsSplit, IsOpenSplit, IsDueSplit}
use Rattle.tree_search.specs.Making.{LowersNone}
use Rattle.tree_search.specs.Answer.{cost_in}
use Rattle.tree_search.specs.Working.{IsWorked, IsDoneLeaf, IsReached, AnySplit, IsGrowing, IsGrownPart, steps_left}
use Rattle.tree_search.proofs.Closer.{no_worse_again, closes_still, sought_still}
use Rattle.tree_search.proofs.LeafPlaces.{all_at, replaced_size}
use Rattle.tree_search.proofs.MadeLeaf.{made_leaf_fits, made_still}

-- as the incumbent improves and nodes are made
pub done_still : (I : Instance) (base : Path) (old : Duals) (plan' plan : Option Plan) (limit nodes' nodes : ℕ) → IsNoWorse I plan' plan → nodes ≤ nodes' → (path : Path) (d : Duals) → IsDoneLeaf I base old plan limit nodes path d → IsDoneLeaf I base old plan' limit nodes' path d
done_still I base old plan' plan limit nodes' nodes later more path d done = record {
  made = made_still I path d base old plan' plan later done.made;
  sought = λ scaled. sought_still I path plan' plan later d (done.sought scaled);
  ends = elim done.ends [
    | inl closes ↦ inl (closes_still I path plan' plan later d closes)
    | inr spent ↦ inr (omega (arith, spent, more))
  ];
}

pub lists_of : (I : Instance) (t : Tree) (d : Duals) → t.sites ≡ site_ids I → t.customers ≡ customer_ids I → LeafFits I d → HasLists (length t.sites) (length t.customers) d
lists_of I t d sites customers fit =
    (fit.numbers.of_instance.sites ∙ sym (ap length sites ∙ length-map I.sites (λ s. s.id)), fit.numbers.of_instance.customers ∙ sym (ap length customers ∙ length-map I.customers (λ c. c.id)), fit.numbers.in_limits, fit.prices)

pub known_more : (I : Instance) (path : Path) (e : Decision) → IsPathOf I path → NamesKnown I e → IsPathOf I (path ++ e ∷ [])
known_more I path e known names = All-append (NamesKnown I) path (e ∷ []) known (All-cons (NamesKnown I) e [] names (All-nil (NamesKnown I)))

site_contained : (I : Instance) (i : ℕ) → i < length I.sites → Contains (site_ids I) (site_at I i).id
site_contained I i b = Contains-map (λ s. s.id) I.sites (site_at I i) (i, b, get_or_default I.sites i _ _ b)

customer_contained : (I : Instance) (j : ℕ) → j < length I.customers → Contains (customer_ids I) (customer_at I j).id
customer_contained I j b = Contains-map (λ c. c.id) I.customers (customer_at I j) (j, b, get_or_default I.customers j _ _ b)

-- A split of a box.

module _ (I : Instance) (path : Path) where
  -- the ids that the split names are the instance's
  split_known : (s : Split) → IsOpenSplit I path s → IsSplitAmong (site_ids I) (customer_ids I) s
  split_known (Site s) is = subst (Contains (site_ids I)) is.named (site_contained I is.place is.within)
  split_known (Lane s c) is = (subst (Contains (site_ids I)) is.site_named (site_contained I is.site is.site_within), subst (Contains (customer_ids I)) is.customer_named (customer_contained I is.customer is.customer_within))

  pub first_known : (s : Split) → IsSplitAmong (site_ids I) (customer_ids I) s → NamesKnown I (first_step s)
  first_known (Site s) known = known
  first_known (Lane s c) known = known

  pub second_known : (s : Split) → IsSplitAmong (site_ids I) (customer_ids I) s → NamesKnown I (second_step s)
  second_known (Site s) known = known
  second_known (Lane s c) known = known

  -- neither child lowers a bound
  first_rises : IsValid I → (s : Split) → IsOpenSplit I path s → (d : Duals) → bound_of I path d ≤ℤ bound_of I (path ++ first_step s ∷ []) d
  first_rises valid (Site s) is d = subst (λ n. bound_of I path d ≤ℤ bound_of I (path ++ Closed n ∷ []) d) is.named (bound_rises_closed I path d is.place valid is.within is.free)
  first_rises valid (Lane s c) is d = bound_rises I path (No s c) d (λ i b called closes. cc)

  second_rises : (s : Split) (d : Duals) → bound_of I path d ≤ℤ bound_of I (path ++ second_step s ∷ []) d
  second_rises (Site s) d = bound_rises I path (Opened s) d (λ i b called closes. cc)
  second_rises (Lane s c) d = bound_rises I path (Yes s c) d (λ i b called closes. cc)

-- whether two nodes more are within the limit
pub room_left : (n nodes limit : ℕ) → n ≡ nodes → leb (n + 2) limit ≡ true → nodes + 2 ≤ limit
room_left n nodes limit same test = omega (arith, leb-true _ _ test, same)

pub room_spent : (n nodes limit : ℕ) → n ≡ nodes → leb (n + 2) limit ≡ false → limit < nodes + 2
room_spent n nodes limit same test = omega (arith, leb-false _ _ test, same)

-- with one leaf less to work
abbrev pub one_less : Growing → Growing
one_less g = record g { left = g.left - 1 }

pub ended_is : (g h k : Growing) (e : Duals) → h ≡ worked g (Leaf e) → k ≡ one_less h → k ≡ one_less (worked g (Leaf e))
ended_is g h k e worked_so less = less ∙ ap one_less worked_so

module _ (I : Instance) (base : Path) (old : Duals) (handed plan plan' : Option Plan) (limit : ℕ) (g : Growing) (growing : IsGrowing I base old handed plan limit g) (left : 0 < g.left) (path : Path) (d : Duals) (at_work : leaf_at_work g ≡ Some (path, d)) where
  pub reached_at : IsReached I base path d
  reached_at =
      all_at (λ l. IsReached I base l.0 l.1) _ (g.left - 1) (path, d) (built_leaves (IsReached I base) AnySplit g.tree.root g.base growing.reached) at_work

  module _ (valid : IsValid I) (may_split : Bool) (e : Duals) (split : Option Split) (later : IsNoWorse I plan' plan) (is : IsWorked I plan' may_split old path e split) where
    made_here : IsMadeLeaf I (cost_in I plan') base old path e
    made_here = is.made base reached_at.lowers

    fits_here : LeafFits I e
    fits_here = made_leaf_fits I path e base old (cost_in I plan') made_here

    pub lists_here : HasLists (length g.tree.sites) (length g.tree.customers) e
    lists_here = lists_of I g.tree e growing.sites growing.customers fits_here

    -- the leaf at work is done
    module _ (none : split ≡ None) (spent : IsFalse may_split → limit < nodes_of g.tree + 2) where
      abbrev after : Growing
      after = one_less (worked g (Leaf e))

      same_nodes : nodes_of after.tree ≡ nodes_of g.tree
      same_nodes = omega (arith, replaced_size (Leaf e) path d g.tree.root g.base (g.left - 1) at_work)

      leaf_done : IsDoneLeaf I base old plan' limit (nodes_of after.tree) path e
      leaf_done = record {
        made = made_here;
        sought = is.sought;
        ends = elim (is.whole none) [
          | inl closes ↦ inl closes
          | inr must ↦ inr (omega (arith, spent must, same_nodes))
        ];
      }

      pub finished : IsGrowing I base old handed plan' limit after
      finished = record {
        at = growing.at;
        sites = growing.sites;
        customers = growing.customers;
        reached = built_with_duals (IsReached I base) AnySplit g path d at_work growing.reached e (record { known = reached_at.known; lowers = reached_at.lowers; fit = fits_here });
        done =
            built_replaced (IsDoneLeaf I base old plan' limit (nodes_of after.tree)) (IsDueSplit I (cost_in I handed)) path d (Leaf e) leaf_done g.tree.root g.base g.left (g.left - 1) (omega (arith, left)) at_work
            (built_but_weaker (IsDoneLeaf I base old plan limit (nodes_of g.tree)) (IsDoneLeaf I base old plan' limit (nodes_of after.tree)) (IsDueSplit I (cost_in I handed)) (IsDueSplit I (cost_in I handed)) (done_still I base old plan' plan limit (nodes_of after.tree) (nodes_of g.tree) later (omega (arith, same_nodes))) (λ p s h. h) g.tree.root g.base g.left growing.done);
        within = omega (arith, same_nodes, growing.within);
        no_worse = no_worse_again I plan' plan handed later growing.no_worse;
      }

      pub finished_less : steps_left limit after < steps_left limit g
      finished_less = omega (arith, same_nodes, left)

    -- the leaf at work is split
    module _ (s : Split) (some : split ≡ Some s) (first : Duals) (same : first ≡ e) (room : IsTrue may_split → nodes_of g.tree + 2 ≤ limit) where
      halved : IsTrue may_split × IsOpenSplit I path s × ((handed : Option Plan) → IsNoWorse I plan' handed → NeedsSplit I (cost_in I handed) path)
      halved = subst (λ o. IfSome o (λ s. IsTrue may_split × IsOpenSplit I path s × ((handed : Option Plan) → IsNoWorse I plan' handed → NeedsSplit I (cost_in I handed) path))) some is.halved

      abbrev after_split : Growing
      after_split = split_in_two g s first e

      more_nodes : nodes_of after_split.tree ≡ nodes_of g.tree + 2
      more_nodes = omega (arith, replaced_size (Fork s (Leaf first) (Leaf e)) path d g.tree.root g.base (g.left - 1) at_work)

      known : IsSplitAmong (site_ids I) (customer_ids I) s
      known = split_known I path s halved.1

      pub split_sound : IsSplitAmong g.tree.sites g.tree.customers s
      split_sound = subst (λ xs. IsSplitAmong xs g.tree.customers s) (sym growing.sites) (subst (λ xs. IsSplitAmong (site_ids I) xs s) (sym growing.customers) known)

      lowers_first : LowersNone I base (path ++ first_step s ∷ [])
      lowers_first x = omega (arith, ints, reached_at.lowers x, first_rises I path valid s halved.1 x)

      lowers_second : LowersNone I base (path ++ second_step s ∷ [])
      lowers_second x = omega (arith, ints, reached_at.lowers x, second_rises I path s x)

      pub halves : IsGrowing I base old handed plan' limit after_split
      halves = record {
        at = growing.at;
        sites = growing.sites;
        customers = growing.customers;
        reached = built_split (IsReached I base) AnySplit g path d at_work growing.reached s first e tt
            (record { known = known_more I path (first_step s) reached_at.known (first_known I path s known); lowers = lowers_first; fit = subst (LeafFits I) (sym same) fits_here })
            (record { known = known_more I path (second_step s) reached_at.known (second_known I path s known); lowers = lowers_second; fit = fits_here });
        done =
            done_split (IsDoneLeaf I base old plan' limit (nodes_of after_split.tree)) (IsDueSplit I (cost_in I handed)) g left path d at_work
            (built_but_weaker (IsDoneLeaf I base old plan limit (nodes_of g.tree)) (IsDoneLeaf I base old plan' limit (nodes_of after_split.tree)) (IsDueSplit I (cost_in I handed)) (IsDueSplit I (cost_in I handed)) (done_still I base old plan' plan limit (nodes_of after_split.tree) (nodes_of g.tree) later (omega (arith, more_nodes))) (λ p s h. h) g.tree.root g.base g.left growing.done)
            s first e (halved.2 handed (no_worse_again I plan' plan handed later growing.no_worse), halved.1);
        within = omega (arith, more_nodes, room halved.0);
        no_worse = no_worse_again I plan' plan handed later growing.no_worse;
      }

      pub halves_less : steps_left limit after_split < steps_left limit g
      halves_less = omega (arith, more_nodes, room halved.0, left)

-- the same of the instance that the incumbent is of
pub growing_on : (I J : Instance) (base : Path) (old : Duals) (handed plan plan' : Option Plan) (limit : ℕ) (g g' : Growing) → J ≡ I → ((x : Path) (h : Option Plan) → IsGrowing J x old h plan limit g → IsGrowing J x old h plan' limit g') → IsGrowing I base old handed plan limit g → IsGrowing I base old handed plan' limit g'
growing_on I J base old handed plan plan' limit g g' same step growing =
    subst (λ K. (x : Path) (h : Option Plan) → IsGrowing K x old h plan limit g → IsGrowing K x old h plan' limit g') same step base handed growing

-- once every leaf is done
pub grown_part : (I : Instance) (base : Path) (old : Duals) (handed plan : Option Plan) (limit : ℕ) (g : Growing) → g.left ≡ 0 → IsGrowing I base old handed plan limit g → IsGrownPart I base old handed plan limit g.tree
grown_part I base old handed plan limit g none growing =
    record {
      sites = growing.sites;
      customers = growing.customers;
      root =
          subst (λ b. IsBuiltOf (IsDoneLeaf I base old plan limit (nodes_of g.tree)) (IsDueSplit I (cost_in I handed)) b g.tree.root) growing.at
          (done_whole (IsDoneLeaf I base old plan limit (nodes_of g.tree)) (IsDueSplit I (cost_in I handed)) g none growing.done);
      within = growing.within;
    }
