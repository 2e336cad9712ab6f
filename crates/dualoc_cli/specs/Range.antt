-- The command `range`: how far one cost may move while the plan of an accepted certificate stays proved optimal by its tree.
use Rattle.std.specs.Prelude.{◌≡◌, ◌⊎◌, ℕ, ◌<◌, ◌≤◌, List, length, Some, IsSome, Contains}
use Rattle.shelf_port.specs.Files.{MayHold}
use Rattle.location_terms.specs.Instance.{Instance, site_ids, lane, fixed_of}
use Rattle.location_terms.specs.Plan.{Plan, cost_of}
use Rattle.location_terms.specs.Optimal.{IsOptimal}
use Rattle.location_terms.specs.Tree.{Tree}
use Rattle.location_terms.specs.Certificate.{Certificate}
use Rattle.location_terms.specs.declared.claim.Claim.{Claim}
use Rattle.location_terms.specs.declared.claim.Claim.TheVariants as claimed
use Rattle.instance_store.specs.Changes.{with_fixed}
use Rattle.range_scan.specs.Prices.{with_lane_costing, lane_cost_of}
use Rattle.range_scan.specs.Range.{IsInRange, IsCostRange, IsFixedRefusal, IsLaneRefusal}
use Rattle.range_scan.specs.declared.range.Range.{Range}
use Rattle.range_scan.specs.declared.refusal.RangeRefusal.{RangeRefusal}
use Rattle.certificate_lines.specs.Text.{certificate_text}
use Rattle.certificate_lines.specs.declared.limits.TheConstants.{MAX_CERTIFICATE_BYTES}
use Rattle.certificate_check.specs.Verdict.{Answer, IsAnswer}
use Rattle.dualoc_cli.specs.declared.status.Status.{Status}
use Rattle.dualoc_cli.specs.declared.status.Status.TheVariants.{Done, CheckNo, Refused}
use Rattle.dualoc_cli.specs.declared.words.CostAt.{CostAt}
use Rattle.dualoc_cli.specs.declared.words.CostAt.TheVariants.{Site, Lane}
use Rattle.dualoc_cli.specs.Command.{ShowRange}
use Rattle.dualoc_cli.specs.Run.{Run, HasTask, FailsToRead}
use Rattle.dualoc_cli.specs.Check.{DeservesYes}

-- Costs.

-- the instance has the site, or the lane
abbrev pub HasCost : Instance → CostAt → Type 0
HasCost I (Site s) = Contains (site_ids I) s
HasCost I (Lane s c) = IsSome (lane I s c)

-- why it doesn't: the first of the site, the customer and the lane that isn't there
abbrev pub LacksCost : Instance → CostAt → RangeRefusal → Type 0
LacksCost I (Site s) why = IsFixedRefusal I s why
LacksCost I (Lane s c) why = IsLaneRefusal I s c why

-- what opening the site costs, or serving the customer from it
abbrev pub present_cost : Instance → CostAt → ℕ
present_cost I (Site s) = fixed_of I s
present_cost I (Lane s c) = lane_cost_of I s c

-- the instance in which that costs so much
abbrev pub with_cost : Instance → CostAt → ℕ → Instance
with_cost I (Site s) x = with_fixed I s x
with_cost I (Lane s c) x = with_lane_costing I s c x

-- Causes.

-- the range of this cost of the instance is asked for, by the certificate in a file that holds these bytes
pub record AsksRange (r : Run) (I : Instance) (at : CostAt) (bytes : List ℕ) : Type 0 where
  pub name : List ℕ
  pub task : HasTask r (ShowRange name at) I
  pub held : MayHold r.before.shelf.files name bytes

-- the instance was read, and then a read of the certificate's file failed
pub record ProofFails (r : Run) : Type 0 where
  pub instance : Instance
  pub at : CostAt
  pub name : List ℕ
  pub task : HasTask r (ShowRange name at) instance
  pub fails : FailsToRead r name

-- the certificate's file is longer than the limit
pub record HasLongProof (r : Run) : Type 0 where
  pub instance : Instance
  pub at : CostAt
  pub bytes : List ℕ
  pub asked : AsksRange r instance at bytes
  pub beyond : MAX_CERTIFICATE_BYTES < length bytes

-- the certificate's file is no longer than the limit, and this is the checker's answer to what it holds
pub record IsProofAnswered (r : Run) (answer : Answer) : Type 0 where
  pub instance : Instance
  pub at : CostAt
  pub bytes : List ℕ
  pub asked : AsksRange r instance at bytes
  pub within : length bytes ≤ MAX_CERTIFICATE_BYTES
  pub answered : IsAnswer MAX_CERTIFICATE_BYTES instance bytes answer

-- the certificate's file holds the text of this certificate, which is accepted. A text is that of no other certificate (the law `one_text` of certificate_text)
pub record HasProof (r : Run) (I : Instance) (at : CostAt) (cert : Certificate) : Type 0 where
  pub asked : AsksRange r I at (certificate_text I cert)
  pub deserved : DeservesYes I cert

-- the certificate that claims the plan's cost as the optimum, with this tree
abbrev pub optimum_of : Instance → Plan → Tree → Certificate
optimum_of I P t = record { claim = claimed.Optimal (cost_of I P); plan = Some P; tree = t }

-- the claim is that of an optimum
abbrev pub ClaimsOptimum : Claim → Type 0
ClaimsOptimum (claimed.Optimal cost) = Unit {0}
ClaimsOptimum claim = ⊥

-- the certificate is accepted, and its claim isn't that of an optimum
pub record HasNoOptimum (r : Run) : Type 0 where
  pub instance : Instance
  pub at : CostAt
  pub cert : Certificate
  pub proof : HasProof r instance at cert
  pub other : ClaimsOptimum cert.claim → ⊥

-- the certificate is accepted, its claim is that of an optimum, and the instance lacks the cost, for this reason
pub record HasNoCost (r : Run) (why : RangeRefusal) : Type 0 where
  pub instance : Instance
  pub at : CostAt
  pub cert : Certificate
  pub proof : HasProof r instance at cert
  pub optimum : ClaimsOptimum cert.claim
  pub lacks : LacksCost instance at why

-- The accepted certificate claims the cost of its plan as the optimum. This is the range of the cost, in which its tree proves the plan optimal; so at each amount of the range the plan is
-- optimal.
pub record IsRanged (r : Run) (range : Range) : Type 0 where
  pub instance : Instance
  pub at : CostAt
  pub plan : Plan
  pub tree : Tree
  pub proof : HasProof r instance at (optimum_of instance plan tree)
  pub there : HasCost instance at
  pub range_is : IsCostRange (with_cost instance at) (present_cost instance at) tree plan range
  pub optimal : (x : ℕ) → IsInRange range x → IsOptimal (with_cost instance at x) plan

-- What is due for a range by the certificate in the file of this name, where `ends` says that the run ends with the status that is due, or is hindered: the range, where the file holds the text of an
-- accepted certificate of an optimum and the instance has the cost; a refusal, where it lacks the cost; and a no for each other file within the limit.
pub record IsRangeDue (r : Run) (ends : Status → Type 0) (name : List ℕ) (at : CostAt) (I : Instance) (status : Status) : Type 0 where
  pub ranged : (cert : Certificate) → DeservesYes I cert → ClaimsOptimum cert.claim → MayHold r.before.shelf.files name (certificate_text I cert) → HasCost I at → ends Done
  pub refused : (cert : Certificate) → DeservesYes I cert → ClaimsOptimum cert.claim → MayHold r.before.shelf.files name (certificate_text I cert) → (HasCost I at → ⊥) → ends Refused
  pub otherwise : (bytes : List ℕ) → MayHold r.before.shelf.files name bytes → length bytes ≤ MAX_CERTIFICATE_BYTES → (status ≡ Done) ⊎ ((status ≡ Refused) ⊎ ends CheckNo)
