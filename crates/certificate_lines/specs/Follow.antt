-- Lines of a certificate's text that are read one behind another, and what a whole certificate shows.
use Rattle.std.specs.Prelude.{◌≡◌, ℕ, ◌≤◌, List, [], ◌∷◌, ◌++◌, All, Contains, Option, None, Some, Ok, Err, IfSome, IsNone, IsSomeAnd}
use Rattle.location_terms.specs.declared.claim.Claim.{Claim}
use Rattle.location_terms.specs.declared.claim.Claim.TheVariants.{Optimal, Infeasible, Bracket}
use Rattle.location_terms.specs.declared.limits.TheConstants.{MAX_COST}
use Rattle.location_terms.specs.Instance.{Instance, site_ids, customer_ids}
use Rattle.location_terms.specs.Plan.{Plan, IsPlan, served}
use Rattle.location_terms.specs.Box.{Path}
use Rattle.location_terms.specs.Split.{first_step, second_step}
use Rattle.location_terms.specs.Leaf.{LeafFits}
use Rattle.location_terms.specs.Tree.{Node, Leaf, Fork, IsTree, StandsOn, leaves_of}
use Rattle.location_terms.specs.Certificate.{Certificate, cost_claimed}
use Rattle.certificate_lines.specs.Due.{Due, Shown, NothingShown, PlanShown, SplitShown, LeafShown}
use Rattle.certificate_lines.specs.Lines.{Said, read_line}

-- what is to be judged or told of a line, if anything
abbrev pub shown_list : Shown → List Shown
shown_list NothingShown = []
shown_list shown = shown ∷ []

-- what a line shows, before what the lines behind it come to
abbrev pub shown_first : Shown → Option (Due × List Shown) → Option (Due × List Shown)
shown_first shown None = None
shown_first shown (Some (due, rest)) = Some (due, shown_list shown ++ rest)

abbrev pub follow_said : Said → (Due → Option (Due × List Shown)) → Option (Due × List Shown)
follow_said (Err kind) follows = None
follow_said (Ok (due, shown)) follows = shown_first shown (follows due)

-- what is due behind the lines, and what they show in order, where each is read without a fault
abbrev pub follow : Instance → Due → List (List ℕ) → Option (Due × List Shown)
follow I due [] = Some (due, [])
follow I due (line ∷ lines) = follow_said (read_line I due line) (λ next. follow I next lines)

-- each cost of the claim is at most the limit
abbrev pub HasSmallCosts : Claim → Type 0
HasSmallCosts (Optimal cost) = cost ≤ MAX_COST
HasSmallCosts Infeasible = Unit {0}
HasSmallCosts (Bracket low high) = (low ≤ MAX_COST) × IfSome high (λ cost. cost ≤ MAX_COST)

-- a plan that can be spelled: it opens sites of the instance, and serves each customer from a site of the instance
pub record IsSpellable (I : Instance) (P : Plan) : Type 0 where
  pub plan : IsPlan P
  pub sites_known : All (Contains (site_ids I)) P.sites
  pub each_once : served P ≡ customer_ids I
  pub servers_known : All (λ v. Contains (site_ids I) v.1) P.serves

-- the certificate has a plan where its claim has a cost to show, and none elsewhere
abbrev pub HasPlanWhere : Instance → Option ℕ → Option Plan → Type 0
HasPlanWhere I None plan = IsNone plan
HasPlanWhere I (Some cost) plan = IsSomeAnd plan (IsSpellable I)

-- a certificate that has a text: it is whole and within the limits
pub record HasText (I : Instance) (cert : Certificate) : Type 0 where
  pub tree : IsTree cert.tree
  pub stands : StandsOn cert.tree I
  pub fit : All (λ l. LeafFits I l.1) (leaves_of cert.tree)
  pub costs : HasSmallCosts cert.claim
  pub plan : HasPlanWhere I (cost_claimed cert.claim) cert.plan

-- what a plan shows, if there is one
abbrev pub plan_shown : Claim → Option Plan → List Shown
plan_shown claim None = []
plan_shown claim (Some P) = PlanShown claim P ∷ []

-- what the nodes below a path show, in preorder
abbrev pub nodes_shown : Claim → Path → Node → List Shown
nodes_shown claim path (Leaf d) = LeafShown claim path d ∷ []
nodes_shown claim path (Fork split first second) = SplitShown split ∷ (nodes_shown claim (path ++ first_step split ∷ []) first ++ nodes_shown claim (path ++ second_step split ∷ []) second)

-- what a certificate shows
abbrev pub shown_by : Certificate → List Shown
shown_by cert = plan_shown cert.claim cert.plan ++ nodes_shown cert.claim [] cert.tree.root
