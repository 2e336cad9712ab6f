-- What a certificate's file that was read whole and is kept in memory comes to, as the cause of a reply.
use Rattle.std.proofs.Common.{◌≡◌, ◌⊎◌, ℕ, ◌+◌, ◌<◌, ◌≤◌, List, [], ◌∷◌, length, cond, Vec, String, string_bytes, Option, None, Some, Result, Ok, Err, sym, refl, ap, ◌∙◌, subst, inl, inr, arith}
use Rattle.std.specs.Prelude.{IsSomeAnd, IfOk, replicate}
use Rattle.std.specs.FinMap.{get, from_entries, get-from_entries}
use Rattle.std.proofs.lemmas.List.{length-replicate}
use Rattle.std.proofs.lemmas.Cmp.{nat_list_cmp_total, eq_by_cmp_equiv}
use Rattle.shelf_port.specs.Files.{Files, HasFile, MayHold, Rose}
use Rattle.shelf_port.specs.Memory.{files_of_list}
use Rattle.shelf_port.specs.Ports.{ShelfState}
use Rattle.location_terms.specs.Instance.{Instance, IsValid}
use Rattle.location_terms.specs.Plan.{Plan, cost_of}
use Rattle.location_terms.specs.Optimal.{IsOptimal}
use Rattle.location_terms.specs.Tree.{Tree}
use Rattle.location_terms.specs.Certificate.{Certificate, IsAccepted}
use Rattle.location_terms.specs.declared.claim.Claim.{Claim}
use Rattle.location_terms.specs.declared.claim.Claim.TheVariants as claimed
use Rattle.certificate_lines.specs.Text.{certificate_text}
use Rattle.certificate_lines.specs.Follow.{HasText, HasSmallCosts}
use Rattle.certificate_lines.specs.declared.limits.TheConstants.{MAX_CERTIFICATE_BYTES}
use Rattle.certificate_text.proofs.OneText.{alike}
use Rattle.certificate_lines.specs.declared.kind.CertKind.{CertKind}
use Rattle.certificate_lines.specs.declared.fault.CertFault.TheVariants.{Text}
use Rattle.certificate_check.specs.declared.verdict.Why.{Why}
use Rattle.certificate_check.specs.declared.verdict.Verdict.TheVariants.{No}
use Rattle.certificate_check.specs.Verdict.{Answer, IsAnswer, IsUnread}
use Rattle.certificate_check.proofs.Judged.{has_text}
use Rattle.range_scan.specs.Range.{IsInRange, IsCostRange}
use Rattle.location_terms.specs.Instance.{fixed_of}
use Rattle.instance_store.specs.Changes.{with_fixed}
use Rattle.instance_store.specs.declared.memory.NoMemory.{NoMemory}
use Rattle.range_scan.specs.Prices.{with_lane_costing, lane_cost_of}
use Rattle.range_scan.specs.declared.range.Range.{Range}
use Rattle.range_scan.specs.declared.refusal.RangeRefusal.{RangeRefusal}
use Rattle.dualoc_cli.specs.declared.reply.Port.TheVariants as port
use Rattle.dualoc_cli.specs.declared.reply.Refusal.TheVariants.{LongCertificate}
use Rattle.dualoc_cli.specs.declared.reply.Reply.{Reply}
use Rattle.dualoc_cli.specs.declared.reply.Outcome.TheVariants.{Misspelt, Judged}
use Rattle.dualoc_cli.specs.declared.words.CostAt.{CostAt}
use Rattle.dualoc_cli.specs.declared.words.CostAt.TheVariants.{Site, Lane}
use Rattle.dualoc_cli.specs.Command.{ShowRange}
use Rattle.dualoc_cli.specs.Run.{Run, HasTask}
use Rattle.dualoc_cli.specs.Range.{HasCost, LacksCost, present_cost, with_cost, AsksRange, IsProofAnswered, HasProof, optimum_of, ClaimsOptimum, HasNoOptimum, HasNoCost, IsRanged}
use Rattle.dualoc_cli.specs.Due.{PortFails, IsRefused, IsOutcomeOf, IsCause}
use Rattle.dualoc_cli.specs.Step.{Covers, InRuns}
use Rattle.dualoc_cli.proofs.Causes.{fails_in}

-- The file as it was read.

found_read : (found : Option (List ℕ)) (bytes : List ℕ) → IsSomeAnd found (λ file. bytes ≡ file) → found ≡ Some bytes
found_read None bytes has = absurd has
found_read (Some file) bytes has = ap Some (sym has)

held_read : (told : Option Files) (name bytes : List ℕ) → HasFile told name (λ file. bytes ≡ file) → MayHold told name bytes
held_read None name bytes has = tt
held_read (Some files) name bytes has = found_read (get files name) bytes has

longer : (n : ℕ) → (bytes : List ℕ) × (n < length bytes)
longer n = (replicate (n + 1) 0, omega (arith, length-replicate {A = ℕ} (n + 1) 0))

found_long : (n : ℕ) (found : Option (List ℕ)) → IsSomeAnd found (λ file. n < length file) → (bytes : List ℕ) × (found ≡ Some bytes) × (n < length bytes)
found_long n None h = absurd h
found_long n (Some file) h = (file, refl, h)

-- a file that is told to be longer than n holds such bytes; one that is not told may
held_long : (n : ℕ) (told : Option Files) (name : List ℕ) → HasFile told name (λ file. n < length file) → (bytes : List ℕ) × MayHold told name bytes × (n < length bytes)
held_long n None name h = let long = longer n in (long.0, tt, long.1)
held_long n (Some files) name h = found_long n (get files name) h

module _ (r : Run) (old new : ShelfState) (name : List ℕ) (at : CostAt) (I : Instance) (task : HasTask r (ShowRange name at) I) (part : Covers r old new) where
  asked_with : (bytes : List ℕ) → MayHold old.files name bytes → AsksRange r I at bytes
  asked_with bytes held = record { name = name; task = task; held = subst (λ f. MayHold f name bytes) part.files held }

  pub asked : (bytes : List ℕ) → HasFile old.files name (λ file. bytes ≡ file) → AsksRange r I at bytes
  asked bytes has = asked_with bytes (held_read old.files name bytes has)

  pub long_proof : HasFile old.files name (λ file. MAX_CERTIFICATE_BYTES < length file) → IsRefused r LongCertificate
  long_proof has =
      let long = held_long MAX_CERTIFICATE_BYTES old.files name has in
      inr (record { instance = I; at = at; bytes = long.0; asked = asked_with long.0 long.1; beyond = long.2 })

  pub unread_proof : Rose (old.reads name) (new.reads name) → PortFails r port.Certificate
  unread_proof rose = inr (record { instance = I; at = at; name = name; task = task; fails = fails_in r old new name part rose })

-- what is answered to the bytes that were read is answered in each run that asks so
pub in_runs : (old new : ShelfState) (name : List ℕ) (at : CostAt) (I : Instance) (files : Files) (bytes : List ℕ) → HasFile old.files name (λ file. bytes ≡ file) → length bytes ≤ MAX_CERTIFICATE_BYTES
    → get files name ≡ Some bytes → (result : Result Reply NoMemory)
    → IfOk result (λ reply. (r : Run) (bytes : List ℕ) → get files name ≡ Some bytes → length bytes ≤ MAX_CERTIFICATE_BYTES → AsksRange r I at bytes → IsCause r reply)
    → IfOk result (λ reply. InRuns (λ r. HasTask r (ShowRange name at) I) old new (λ r. IsCause r reply))
in_runs old new name at I files bytes has within kept (Ok reply) is = λ r task part. is r bytes kept within (asked r old new name at I task part bytes has)
in_runs old new name at I files bytes has within kept (Err fault) is = tt

-- The file as it is kept.

-- a file alone
abbrev file_alone : List ℕ → List ℕ → Files
file_alone name bytes = from_entries ((name, bytes) ∷ [])

one_file : (name bytes : List ℕ) → get (file_alone name bytes) name ≡ Some bytes
one_file name bytes =
    get-from_entries nat_list_cmp_total ((name, bytes) ∷ []) name ∙ ap (λ b. cond b (Some bytes) None) ((eq_by_cmp_equiv nat_list_cmp_total).refl name)

-- a list of one file has it
pub one_kept : {Y Z : Type 0} (files : List (String Y × Vec ℕ Z)) (text : String Y) (bytes : Vec ℕ Z) (name : List ℕ) → files ≡ (text, bytes) ∷ [] → string_bytes text ≡ name
    → get (files_of_list files) name ≡ Some bytes.items
one_kept {Y} {Z} files text bytes name is named =
    subst (λ (f : List (String Y × Vec ℕ Z)). get (files_of_list f) name ≡ Some bytes.items) (sym is)
    (subst (λ n. get (file_alone (string_bytes text) bytes.items) n ≡ Some bytes.items) named (one_file (string_bytes text) bytes.items))

-- no call changed it
same_files : (now before : Files) → ◌≡◌ {A = Option Files} (Some now) (Some before) → now ≡ before
same_files now before e = cc

same_some : (a b : List ℕ) (found : Option (List ℕ)) → found ≡ Some a → found ≡ Some b → a ≡ b
same_some a b found p q = let both : Some a ≡ Some b = sym p ∙ q in cc

-- the bytes that are read back are those of the file
pub text_back : (found : Option (List ℕ)) (text : List ℕ) → IsSomeAnd found (λ bytes. bytes ≡ text) → found ≡ Some text
text_back None text has = absurd has
text_back (Some bytes) text has = ap Some has

module _ (I : Instance) (at : CostAt) (files : Files) (name : List ℕ) where
  -- what a reply to the file's bytes is, where they are those of such files
  abbrev IsAnsweredBy : Files → Result Reply NoMemory → Type 0
  IsAnsweredBy held result = IfOk result (λ reply. (r : Run) (bytes : List ℕ) → get held name ≡ Some bytes → length bytes ≤ MAX_CERTIFICATE_BYTES → AsksRange r I at bytes → IsCause r reply)

  -- the certificate that was read is accepted, and its cause is that of the bytes
  pub by_read : (back : Certificate) → get files name ≡ Some (certificate_text I back) → HasText I back → IsAccepted I back → (result : Result Reply NoMemory)
      → IfOk result (λ reply. (r : Run) → HasProof r I at back → IsCause r reply)
      → IsAnsweredBy files result
  by_read back held has accepted (Ok reply) is =
      λ r bytes kept within asks.
      let same = same_some bytes (certificate_text I back) (get files name) kept held in
      is r
      (record {
        asked = subst (AsksRange r I at) same asks;
        deserved = record { accepted = accepted; small = has.costs; within = subst (λ b. length b ≤ MAX_CERTIFICATE_BYTES) same within };
      })
  by_read back held has accepted (Err fault) is = tt

  -- the checker said yes to this claim
  abbrev SaidYes : Claim → Type 0
  SaidYes claim =
      (cert : Certificate) × MayHold (Some files) name (certificate_text I cert) × IsAccepted I cert × (cert.claim ≡ claim) × HasSmallCosts claim
      × (length (certificate_text I cert) ≤ MAX_CERTIFICATE_BYTES)

  -- so the certificate that is read back is the one that was accepted
  module _ (valid : IsValid I) (claim : Claim) (yes : SaidYes claim) (back : Certificate) (now : Files) (unchanged : ◌≡◌ {A = Option Files} (Some now) (Some files))
      (still : get now name ≡ Some (certificate_text I back)) (has : HasText I back) where
    held : get files name ≡ Some (certificate_text I back)
    held = subst (λ f. get f name ≡ Some (certificate_text I back)) (same_files now files unchanged) still

    same : yes.0 ≡ back
    same =
        let cert = yes.0 in
        alike I cert back valid (has_text I cert yes.2 (subst HasSmallCosts (sym yes.3) yes.4)) has
        (same_some (certificate_text I cert) (certificate_text I back) (get files name) yes.1 held)

    pub accepted_back : IsAccepted I back
    accepted_back = subst (IsAccepted I) same yes.2

    pub by_back : (result : Result Reply NoMemory) → IfOk result (λ reply. (r : Run) → HasProof r I at back → IsCause r reply)
        → IsAnsweredBy files result
    by_back = by_read back held has accepted_back

  -- what is answered by the files behind a call that changed none is answered by those before it
  pub by_same : (now : Files) → ◌≡◌ {A = Option Files} (Some now) (Some files) → (result : Result Reply NoMemory)
      → IsAnsweredBy now result
      → IsAnsweredBy files result
  by_same now unchanged result is = subst (λ f. IsAnsweredBy f result) (same_files now files unchanged) is

  abbrev Said : Answer → Type 0
  Said answer = IsUnread answer ⊎ ((bytes : List ℕ) × MayHold (Some files) name bytes × IsAnswer MAX_CERTIFICATE_BYTES I bytes answer)

  pub proof_answered : (answer : Answer) → (IsUnread answer → ⊥) → Said answer → (r : Run) (bytes : List ℕ) → get files name ≡ Some bytes → length bytes ≤ MAX_CERTIFICATE_BYTES → AsksRange r I at bytes
      → IsProofAnswered r answer
  proof_answered answer decided (inl unread) = absurd (decided unread)
  proof_answered answer decided (inr said) =
      λ r bytes kept within asks.
      record {
        instance = I;
        at = at;
        bytes = bytes;
        asked = asks;
        within = within;
        answered = subst (λ b. IsAnswer MAX_CERTIFICATE_BYTES I b answer) (same_some said.0 bytes (get files name) said.1 kept) said.2;
      }

  no_unread : (line : ℕ) (why : Why) → IsUnread (Ok (No line why)) → ⊥
  no_unread line why (inl e) = cc
  no_unread line why (inr e) = cc

  pub said_no : (line : ℕ) (why : Why) → Said (Ok (No line why)) → (r : Run) (bytes : List ℕ) → get files name ≡ Some bytes → length bytes ≤ MAX_CERTIFICATE_BYTES → AsksRange r I at bytes
      → IsOutcomeOf r (Judged (No line why))
  said_no line why said = λ r bytes kept within asks. inr (proof_answered (Ok (No line why)) (no_unread line why) said r bytes kept within asks)

  text_unread : (kind : CertKind) (line : ℕ) → IsUnread (Err (Text kind line)) → ⊥
  text_unread kind line (inl e) = cc
  text_unread kind line (inr e) = cc

  pub said_text : (kind : CertKind) (line : ℕ) → Said (Err (Text kind line)) → (r : Run) (bytes : List ℕ) → get files name ≡ Some bytes → length bytes ≤ MAX_CERTIFICATE_BYTES → AsksRange r I at bytes
      → IsOutcomeOf r (Misspelt kind line)
  said_text kind line said = λ r bytes kept within asks. inr (proof_answered (Err (Text kind line)) (text_unread kind line) said r bytes kept within asks)

-- What an accepted certificate shows.

module _ (I : Instance) where
  abbrev cert_of : Claim → Option Plan → Tree → Certificate
  cert_of claim plan tree = record { claim = claim; plan = plan; tree = tree }

  -- one that claims an optimum has a plan, and claims its cost
  pub plan_there : (claim : Claim) (plan : Option Plan) (tree : Tree) → ClaimsOptimum claim → IsAccepted I (cert_of claim plan tree) → (P : Plan) × (plan ≡ Some P)
  plan_there (claimed.Optimal cost) (Some P) tree optimum accepted = (P, refl)
  plan_there (claimed.Optimal cost) None tree optimum accepted = absurd accepted.shows.0
  plan_there claimed.Infeasible plan tree optimum accepted = absurd optimum
  plan_there (claimed.Bracket low high) plan tree optimum accepted = absurd optimum

  same_plan : (P Q : Plan) → Some P ≡ Some Q → P ≡ Q
  same_plan P Q e = cc

  pub is_optimum : (claim : Claim) (plan : Option Plan) (tree : Tree) (P : Plan) → ClaimsOptimum claim → plan ≡ Some P → IsAccepted I (cert_of claim plan tree) → cert_of claim plan tree ≡ optimum_of I P tree
  is_optimum (claimed.Optimal cost) (Some Q) tree P optimum is accepted =
      let costs : cost_of I Q ≡ cost = accepted.shows.0.1 in
      ap (λ c. cert_of (claimed.Optimal c) (Some Q) tree) (sym costs) ∙ ap (λ R. optimum_of I R tree) (same_plan Q P is)
  is_optimum (claimed.Optimal cost) None tree P optimum is accepted = absurd accepted.shows.0
  is_optimum claimed.Infeasible plan tree P optimum is accepted = absurd optimum
  is_optimum (claimed.Bracket low high) plan tree P optimum is accepted = absurd optimum

-- the range of a cost, or why the instance lacks it, of a plan that the tree proves optimal
module _ (I : Instance) (at : CostAt) (P : Plan) (t : Tree) where
  abbrev Proof : Run → Type 0
  Proof r = HasProof r I at (optimum_of I P t)

  pub ranged : (range : Range) → HasCost I at → IsCostRange (with_cost I at) (present_cost I at) t P range → ((x : ℕ) → IsInRange range x → IsOptimal (with_cost I at x) P)
      → (r : Run) → Proof r → IsRanged r range
  ranged range there is optimal = λ r proof. record { instance = I; at = at; plan = P; tree = t; proof = proof; there = there; range_is = is; optimal = optimal }

  pub no_cost : (why : RangeRefusal) → LacksCost I at why → (r : Run) → Proof r → HasNoCost r why
  no_cost why lacks = λ r proof. record { instance = I; at = at; cert = optimum_of I P t; proof = proof; optimum = tt; lacks = lacks }

pub no_optimum : (I : Instance) (at : CostAt) (cert : Certificate) → (ClaimsOptimum cert.claim → ⊥) → (r : Run) → HasProof r I at cert → HasNoOptimum r
no_optimum I at cert other = λ r proof. record { instance = I; at = at; cert = cert; proof = proof; other = other }

pub not_optimum : (claim : Claim) → ((cost : ℕ) → claim ≡ claimed.Optimal cost → ⊥) → ClaimsOptimum claim → ⊥
not_optimum (claimed.Optimal cost) none optimum = none cost refl
not_optimum claimed.Infeasible none optimum = optimum
not_optimum (claimed.Bracket low high) none optimum = optimum

-- the range of a site's fixed cost, or of a lane's, as that of a cost
module _ (I : Instance) (t : Tree) (P : Plan) (at : CostAt) (result : Result Range RangeRefusal) where
  abbrev IsRangeOf : CostAt → Type 0
  IsRangeOf a = IfOk result (IsCostRange (with_cost I a) (present_cost I a) t P)

  abbrev IsBestIn : CostAt → Type 0
  IsBestIn a = IfOk result (λ range. (x : ℕ) → IsInRange range x → IsOptimal (with_cost I a x) P)

  module _ (s given : ℕ) (same : given ≡ s) (is : at ≡ Site s) where
    pub site_range : IfOk result (IsCostRange (with_fixed I given) (fixed_of I given) t P) → IsRangeOf at
    site_range found = subst IsRangeOf (sym is) (subst (λ x. IfOk result (IsCostRange (with_fixed I x) (fixed_of I x) t P)) same found)

    pub site_best : IfOk result (λ range. (x : ℕ) → IsInRange range x → IsOptimal (with_fixed I given x) P) → IsBestIn at
    site_best found = subst IsBestIn (sym is) (subst (λ g. IfOk result (λ range. (x : ℕ) → IsInRange range x → IsOptimal (with_fixed I g x) P)) same found)

  module _ (s c from to : ℕ) (same_site : from ≡ s) (same_customer : to ≡ c) (is : at ≡ Lane s c) where
    pub lane_cost_range : IfOk result (IsCostRange (with_lane_costing I from to) (lane_cost_of I from to) t P) → IsRangeOf at
    lane_cost_range found =
        subst IsRangeOf (sym is)
        (subst (λ y. IfOk result (IsCostRange (with_lane_costing I s y) (lane_cost_of I s y) t P)) same_customer
        (subst (λ x. IfOk result (IsCostRange (with_lane_costing I x to) (lane_cost_of I x to) t P)) same_site found))

    pub lane_best : IfOk result (λ range. (x : ℕ) → IsInRange range x → IsOptimal (with_lane_costing I from to x) P) → IsBestIn at
    lane_best found =
        subst IsBestIn (sym is)
        (subst (λ y. IfOk result (λ range. (x : ℕ) → IsInRange range x → IsOptimal (with_lane_costing I s y x) P)) same_customer
        (subst (λ a. IfOk result (λ range. (x : ℕ) → IsInRange range x → IsOptimal (with_lane_costing I a to x) P)) same_site found))
