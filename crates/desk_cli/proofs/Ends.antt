-- From a part of a run to how the run ends, and what follows.
use Rattle.std.proofs.Common.{◌≡◌, ◌⊎◌, ℕ, List, [], ◌++◌, length, Option, None, Some, Result, Ok, Err, refl, sym, ap, ◌∙◌, subst, inl, inr, arith, codes, append-nil}
use Rattle.std.specs.FinMap.{get}
use Rattle.shelf_port.specs.Files.{Files, Rose, MayHold}
use Rattle.shelf_port.specs.Streams.{with_back}
use Rattle.shelf_port.specs.Ports.{SinkState}
use Rattle.shelf_port.specs.declared.fault.SinkFault.{SinkFault}
use Rattle.fixed_cost.specs.declared.fault.FileFault.{FileFault}
use Rattle.location_terms.specs.Instance.{Instance}
use Rattle.instance_forms.specs.Forms.{InstanceFile, meaning_in}
use Rattle.instance_forms.specs.Reading.{HasMeaning, IsLong}
use Rattle.whatif_session.specs.Input.{session_limits, input_lines, is_ended_by_quit}
use Rattle.whatif_session.specs.Run.{Stop, AtEnd, AtLongLine, AtLongInput, AtFailedRead, AtRefusedWrite, IsDueStop, stop_at}
use Rattle.dualoc_cli.specs.Status.{when_cut}
use Rattle.dualoc_cli.specs.Session.{stop_status}
use Rattle.dualoc_cli.specs.Step.{cut_status}
use Rattle.dualoc_cli.specs.Due.{PrintsFront, IsPrinted}
use Rattle.dualoc_cli.specs.declared.status.Status.{Status}
use Rattle.dualoc_cli.specs.declared.status.Status.TheVariants as statuses
use Rattle.dualoc_cli.proofs.Ending.{MayEnd, given_end, some_end, stop_once}
use Rattle.dualoc_cli.proofs.Printing.{printed_behind, cut_by}
use Rattle.desk_cli.specs.declared.status.DeskStatus.{DeskStatus}
use Rattle.desk_cli.specs.declared.status.DeskStatus.TheVariants.{Done, Usage, BadInput, ReadFault, WriteFault, TooLarge, NoMemory}
use Rattle.desk_cli.specs.declared.reply.DeskReply.{DeskReply}
use Rattle.desk_cli.specs.declared.reply.DeskReply.TheVariants.{NoDesk, FileFailed, InputFailed, LongInstance, Faulty, LongLine, LongInput, Ended}
use Rattle.desk_cli.specs.Words.{desk_file}
use Rattle.desk_cli.specs.Status.{session_status}
use Rattle.desk_cli.specs.Reply.{desk_status, desk_text}
use Rattle.desk_cli.specs.Due.{RunOfDesk, OfDeskFile, HasDesk, IsDeskRow, HoldsDesk, IsDeskUnbegun, IsDeskRefusal, IsUnreadFile, IsDeskCause, DeskEnds, IsDeskHindered, DeskMemoryRanOut, DeskFileFailed, DeskInputFailed, DeskOutputFailed, DeskRowRefused, DeskEndsAs, DeskEndsAsInput, RunsDesk}
use Rattle.desk_cli.specs.Talk.{ComesToDesk, RunsOutAtDesk, IsStoppedDesk}

-- Statuses.

pub done_alone : (status : DeskStatus) → session_status status ≡ statuses.NoMemory → status ≡ NoMemory
done_alone Done is = cc
done_alone Usage is = cc
done_alone BadInput is = cc
done_alone ReadFault is = cc
done_alone WriteFault is = cc
done_alone TooLarge is = cc
done_alone NoMemory is = refl

pub usage_alone : (status : DeskStatus) → session_status status ≡ statuses.Usage → status ≡ Usage
usage_alone Done is = cc
usage_alone Usage is = refl
usage_alone BadInput is = cc
usage_alone ReadFault is = cc
usage_alone WriteFault is = cc
usage_alone TooLarge is = cc
usage_alone NoMemory is = cc

-- a status after a write that failed is not that of a desk that is done
pub cut_not_done : (due : DeskStatus) → when_cut (session_status due) ≡ statuses.Done → ⊥
cut_not_done Done is = cc
cut_not_done Usage is = cc
cut_not_done BadInput is = cc
cut_not_done ReadFault is = cc
cut_not_done WriteFault is = cc
cut_not_done TooLarge is = cc
cut_not_done NoMemory is = cc

module _ (r : RunOfDesk) where
  -- What every run does.

  -- one that answers so read no line, or held a desk
  caused_by : (reply : DeskReply) (row : List ℕ) → IsDeskCause r reply row → IsDeskUnbegun r ⊎ HoldsDesk r
  caused_by NoDesk row cause = inl cause.0
  caused_by FileFailed row cause = inl cause.0
  caused_by LongInstance row cause = inl cause.0
  caused_by (Faulty fault) row cause = inl cause.0
  caused_by InputFailed row cause = inr (AtFailedRead, row, cause)
  caused_by LongLine row cause = inr (AtLongLine, row, cause)
  caused_by LongInput row cause = inr (AtLongInput, row, cause)
  caused_by Ended row cause = inr (AtEnd, row, cause)

  leaves : (status : DeskStatus) → DeskEnds r status → IsDeskUnbegun r ⊎ HoldsDesk r
  leaves status (inl a) = caused_by a.reply a.row a.cause
  leaves status (inr (inl out)) = elim out.row_is [ inl none ↦ inl none.0 | inr held ↦ inr (held.0, out.row, held.1) ]
  leaves status (inr (inr cut)) = inr (AtRefusedWrite, cut.done ++ cut.reply, cut.row_is)

  -- memory ran out
  ran_out : (row : List ℕ) (status : DeskStatus) → IsPrinted row (codes "no memory\n") statuses.NoMemory (session_status status) r.before.output r.after.output → session_status status ≡ statuses.NoMemory
  ran_out row status (inl whole) = whole.status_is
  ran_out row status (inr front) = elim front.status_is [ inl cut ↦ cut.1 | inr out ↦ out ]

  not_done : {S : Type 0} (status : DeskStatus) → session_status status ≡ statuses.NoMemory → status ≡ Done → S
  not_done status out is = let both : statuses.NoMemory ≡ statuses.Done = sym out ∙ ap session_status is in absurd cc

  cut_undone : {S : Type 0} (due status : DeskStatus) (rose : Type 0) → (rose × (session_status status ≡ when_cut (session_status due))) ⊎ (session_status status ≡ statuses.NoMemory) → status ≡ Done → S
  cut_undone due status rose (inl cut) is = absurd (cut_not_done due (sym cut.1 ∙ ap session_status is))
  cut_undone due status rose (inr out) is = not_done status out is

  -- a reply that is printed whole with the status of a desk that is done is that of one
  ended_row : (reply : DeskReply) (row : List ℕ) → IsDeskCause r reply row → session_status (desk_status reply) ≡ statuses.Done → (written : Option (List ℕ)) → written ≡ with_back r.before.output.written (row ++ desk_text reply)
      → (row : List ℕ) × IsDeskRow r AtEnd row × (written ≡ with_back r.before.output.written row)
  ended_row Ended row cause done written is = (row, cause, is ∙ ap (with_back r.before.output.written) (append-nil row))
  ended_row NoDesk row cause done written is = absurd cc
  ended_row FileFailed row cause done written is = absurd cc
  ended_row InputFailed row cause done written is = absurd cc
  ended_row LongInstance row cause done written is = absurd cc
  ended_row (Faulty fault) row cause done written is = absurd cc
  ended_row LongLine row cause done written is = absurd cc
  ended_row LongInput row cause done written is = absurd cc

  results : (status : DeskStatus) → DeskEnds r status → status ≡ Done → (row : List ℕ) × IsDeskRow r AtEnd row × (r.after.output.written ≡ with_back r.before.output.written row)
  results status (inl a) is =
      elim a.printed [
        | inl whole ↦ ended_row a.reply a.row a.cause (sym whole.status_is ∙ ap session_status is) r.after.output.written whole.gained
        | inr front ↦ cut_undone (desk_status a.reply) status _ front.status_is is
      ]
  results status (inr (inl out)) is = not_done status (ran_out out.row status out.printed) is
  results status (inr (inr cut)) is = cut_undone Done status _ cut.printed.status_is is

  taken : (status : DeskStatus) → DeskEnds r status → status ≡ Done → r.after.output.refusals.count ≡ r.before.output.refusals.count
  taken status (inl a) is =
      elim a.printed [
        | inl whole ↦ whole.none_refused
        | inr front ↦ cut_undone (desk_status a.reply) status _ front.status_is is
      ]
  taken status (inr (inl out)) is = not_done status (ran_out out.row status out.printed) is
  taken status (inr (inr cut)) is = cut_undone Done status _ cut.printed.status_is is

  -- a text is cut only where a write failed or memory ran out
  uncut : {S : Type 0} (row text : List ℕ) (due : Status) (status : DeskStatus) → PrintsFront row text due (session_status status) r.before.output r.after.output
      → (Rose r.before.output.faults r.after.output.faults → ⊥) → (status ≡ NoMemory → ⊥) → S
  uncut row text due status front unrisen left = elim front.status_is [ inl cut ↦ absurd (unrisen cut.0) | inr out ↦ absurd (left (done_alone status out)) ]

  unrefused : (status : DeskStatus) → DeskEnds r status → (Rose r.before.output.faults r.after.output.faults → ⊥) → (status ≡ NoMemory → ⊥) → r.after.output.refusals.count ≡ r.before.output.refusals.count
  unrefused status (inl a) unrisen left =
      elim a.printed [
        | inl whole ↦ whole.none_refused
        | inr front ↦ uncut a.row (desk_text a.reply) (session_status (desk_status a.reply)) status front unrisen left
      ]
  unrefused status (inr (inl out)) unrisen left = absurd (left (done_alone status (ran_out out.row status out.printed)))
  unrefused status (inr (inr cut)) unrisen left = uncut cut.done cut.reply statuses.Done status cut.printed unrisen left

  -- Words that are none.

  none_named : {S : Type 0} {P : InstanceFile → Type 0} → desk_file r.words ≡ None → OfDeskFile r P → S
  none_named none named = let both : None ≡ Some named.0 = sym none ∙ named.1 in absurd cc

  usage_of : (reply : DeskReply) (row : List ℕ) → IsDeskCause r reply row → desk_file r.words ≡ None → session_status (desk_status reply) ≡ statuses.Usage
  usage_of NoDesk row cause none = refl
  usage_of FileFailed row cause none = none_named none cause.2
  usage_of LongInstance row cause none = none_named none cause.2
  usage_of (Faulty fault) row cause none = none_named none cause.2
  usage_of InputFailed row cause none = none_named none cause.on
  usage_of LongLine row cause none = none_named none cause.on
  usage_of LongInput row cause none = none_named none cause.on
  usage_of Ended row cause none = none_named none cause.on

  usage : (status : DeskStatus) → DeskEnds r status → desk_file r.words ≡ None → (status ≡ Usage) ⊎ (status ≡ NoMemory)
  usage status (inl a) none =
      let due : session_status (desk_status a.reply) ≡ statuses.Usage = usage_of a.reply a.row a.cause none in
      elim a.printed [
        | inl whole ↦ inl (usage_alone status (whole.status_is ∙ due))
        | inr front ↦ elim front.status_is [ inl cut ↦ inl (usage_alone status (cut.1 ∙ ap when_cut due)) | inr out ↦ inr (done_alone status out) ]
      ]
  usage status (inr (inl out)) none = inr (done_alone status (ran_out out.row status out.printed))
  usage status (inr (inr cut)) none = none_named none cut.row_is.on

-- What is due, where the files are told.

-- a status, or that a desk ends as its input says
data Due : Type 0 where
  Exactly : Status → Due
  AsInput : Due

due_of : Result Instance FileFault → Due
due_of (Ok I) = AsInput
due_of (Err fault) = Exactly statuses.BadInput

-- the status suits what is due, of an input of which this is told
abbrev Suits : Option (List ℕ) → Due → Status → Type 0
Suits input (Exactly due) status = status ≡ due
Suits input AsInput status = (stop : Stop) × MayEnd input stop × (status ≡ stop_status stop)

some_suits : (input : Option (List ℕ)) (due : Due) → (status : Status) × Suits input due status
some_suits input (Exactly due) = (due, refl)
some_suits input AsInput = let ends = some_end input in (stop_status ends.0, (ends.0, ends.1, refl))

module _ (r : RunOfDesk) where
  -- what is due for a file
  abbrev Read : Due → InstanceFile → Type 0
  Read due file = (IsLong r.before.shelf.files file.name × (due ≡ Exactly statuses.TooLarge)) ⊎ ((meaning : Result Instance FileFault) × HasMeaning r.before.shelf.files file meaning × (due ≡ due_of meaning))

  -- what is due for the words
  abbrev IsDue : Due → Type 0
  IsDue due = ((desk_file r.words ≡ None) × (due ≡ Exactly statuses.Usage)) ⊎ OfDeskFile r (Read due)

  refusal_is_due : (reply : DeskReply) → IsDeskRefusal r reply → IsDue (Exactly (session_status (desk_status reply)))
  unfolding due_of
  refusal_is_due NoDesk none = inl (none, refl)
  refusal_is_due LongInstance named = inr (named.0, named.1, inl (named.2, refl))
  refusal_is_due (Faulty fault) named = inr (named.0, named.1, inr (Err fault, named.2, refl))
  refusal_is_due FileFailed h = absurd h
  refusal_is_due InputFailed h = absurd h
  refusal_is_due LongLine h = absurd h
  refusal_is_due LongInput h = absurd h
  refusal_is_due Ended h = absurd h

  desk_is_due : (I : Instance) → HasDesk r I → IsDue AsInput
  unfolding due_of
  desk_is_due I named = inr (named.0, named.1, inr (Ok I, named.2, refl))

  -- what the status of a reply suits, or what failed
  abbrev SuitsDue : Status → Type 0
  SuitsDue status = (due : Due) × IsDue due × Suits r.before.input.left due status

  row_suits : (stop : Stop) (row : List ℕ) (held : IsDeskRow r stop row) → IsDueStop session_limits held.run.bytes stop → SuitsDue (stop_status stop)
  row_suits stop row held due = (AsInput, desk_is_due held.instance held.on, (stop, given_end r.before.input.left held.run.bytes stop held.run.given due, refl))

  refusal_suits : (reply : DeskReply) → IsDeskRefusal r reply → SuitsDue (session_status (desk_status reply))
  refusal_suits reply refusal = (Exactly (session_status (desk_status reply)), refusal_is_due reply refusal, refl)

  abbrev Fails : DeskReply → List ℕ → Type 0
  Fails FileFailed row = IsUnreadFile r
  Fails InputFailed row = IsDeskRow r AtFailedRead row
  Fails reply row = ⊥

  cause_is_due : (reply : DeskReply) (row : List ℕ) → IsDeskCause r reply row → SuitsDue (session_status (desk_status reply)) ⊎ Fails reply row
  cause_is_due NoDesk row cause = inl (refusal_suits NoDesk cause.2)
  cause_is_due FileFailed row cause = inr cause.2
  cause_is_due LongInstance row cause = inl (refusal_suits LongInstance cause.2)
  cause_is_due (Faulty fault) row cause = inl (refusal_suits (Faulty fault) cause.2)
  cause_is_due InputFailed row cause = inr cause
  cause_is_due LongLine row cause = inl (row_suits AtLongLine row cause cause.run.stops.0)
  cause_is_due LongInput row cause = inl (row_suits AtLongInput row cause cause.run.stops.0)
  cause_is_due Ended row cause = inl (row_suits AtEnd row cause cause.run.stops.0)

  -- a status that suits what is due, or the run is hindered from it
  abbrev EndsDue : Due → DeskStatus → Type 0
  EndsDue due status = (other : Status) × Suits r.before.input.left due other × DeskEndsAs r other status

  hindered : (due : Due) (status : DeskStatus) → ((other : Status) → IsDeskHindered r other (session_status status)) → EndsDue due status
  hindered due status is = let some = some_suits r.before.input.left due in (some.0, some.1, inr (is some.0))

  printed_suits : (due : Due) (row text : List ℕ) (before : Status) (status : DeskStatus) → Suits r.before.input.left due before
      → IsPrinted row text before (session_status status) r.before.output r.after.output → EndsDue due status
  printed_suits due row text before status suits (inl whole) = (before, suits, inl whole.status_is)
  printed_suits due row text before status suits (inr front) =
      (before, suits, elim front.status_is [ inl cut ↦ inr (DeskOutputFailed cut.0 cut.1) | inr out ↦ inr (DeskMemoryRanOut out) ])

  failed : (reply : DeskReply) (row : List ℕ) (other : Status) (status : DeskStatus) → Fails reply row → session_status status ≡ session_status (desk_status reply) → IsDeskHindered r other (session_status status)
  failed FileFailed row other status fails is = DeskFileFailed fails is
  failed InputFailed row other status fails is = DeskInputFailed row fails is
  failed NoDesk row other status fails is = absurd fails
  failed LongInstance row other status fails is = absurd fails
  failed (Faulty fault) row other status fails is = absurd fails
  failed LongLine row other status fails is = absurd fails
  failed LongInput row other status fails is = absurd fails
  failed Ended row other status fails is = absurd fails

  fails_cut : (reply : DeskReply) (row : List ℕ) → Fails reply row → when_cut (session_status (desk_status reply)) ≡ session_status (desk_status reply)
  fails_cut FileFailed row fails = refl
  fails_cut InputFailed row fails = refl
  fails_cut NoDesk row fails = absurd fails
  fails_cut LongInstance row fails = absurd fails
  fails_cut (Faulty fault) row fails = absurd fails
  fails_cut LongLine row fails = absurd fails
  fails_cut LongInput row fails = absurd fails
  fails_cut Ended row fails = absurd fails

  printed_fails : (reply : DeskReply) (row : List ℕ) (other : Status) (status : DeskStatus) → Fails reply row
      → IsPrinted row (desk_text reply) (session_status (desk_status reply)) (session_status status) r.before.output r.after.output → IsDeskHindered r other (session_status status)
  printed_fails reply row other status fails (inl whole) = failed reply row other status fails whole.status_is
  printed_fails reply row other status fails (inr front) =
      elim front.status_is [
        | inl cut ↦ failed reply row other status fails (cut.1 ∙ fails_cut reply row fails)
        | inr out ↦ DeskMemoryRanOut out
      ]

  module _ (files : Files) (told : r.before.shelf.files ≡ Some files) where
    same_bytes : (name bytes other : List ℕ) → MayHold r.before.shelf.files name bytes → MayHold r.before.shelf.files name other → bytes ≡ other
    same_bytes name bytes other one two =
        let p : get files name ≡ Some bytes = subst (λ f. MayHold f name bytes) told one in
        let q : get files name ≡ Some other = subst (λ f. MayHold f name other) told two in
        let both : Some bytes ≡ Some other = sym p ∙ q in
        cc

    one_meaning : (file : InstanceFile) (m n : Result Instance FileFault) → HasMeaning r.before.shelf.files file m → HasMeaning r.before.shelf.files file n → m ≡ n
    one_meaning file m n a b = sym a.means ∙ ap (meaning_in file) (same_bytes file.name a.bytes b.bytes a.held b.held) ∙ b.means

    not_long : {S : Type 0} (file : InstanceFile) (m : Result Instance FileFault) → IsLong r.before.shelf.files file.name → HasMeaning r.before.shelf.files file m → S
    not_long file m long a =
        let same : length long.bytes ≡ length a.bytes = ap length (same_bytes file.name long.bytes a.bytes long.held a.held) in
        absurd (omega (arith, long.beyond, a.within, same))

    read_once : (file : InstanceFile) (s t : Due) → Read s file → Read t file → s ≡ t
    read_once file s t (inl p) (inl q) = p.1 ∙ sym q.1
    read_once file s t (inl p) (inr q) = not_long file q.0 p.0 q.1
    read_once file s t (inr p) (inl q) = not_long file p.0 q.0 p.1
    read_once file s t (inr p) (inr q) = p.2 ∙ ap due_of (one_meaning file p.0 q.0 p.1 q.1) ∙ sym q.2

    due_once : (s t : Due) → IsDue s → IsDue t → s ≡ t
    due_once s t (inl p) (inl q) = p.1 ∙ sym q.1
    due_once s t (inl p) (inr q) = none_named r p.0 q
    due_once s t (inr p) (inl q) = none_named r q.0 p
    due_once s t (inr p) (inr q) =
        let both : Some q.0 ≡ Some p.0 = sym q.1 ∙ p.1 in
        let file : q.0 ≡ p.0 = cc in
        read_once p.0 s t p.2 (subst (Read t) file q.2)

    row_is_due : (due : Due) (stop : Stop) (row : List ℕ) → IsDeskRow r stop row → IsDue due → due ≡ AsInput
    row_is_due due stop row held is = due_once due AsInput is (desk_is_due held.instance held.on)

    -- so a run ends as is due, unless it is hindered
    ends_as_due : (due : Due) (status : DeskStatus) → IsDue due → DeskEnds r status → EndsDue due status
    ends_as_due due status is (inl a) =
        elim (cause_is_due a.reply a.row a.cause) [
          | inl other ↦
              printed_suits due a.row (desk_text a.reply) (session_status (desk_status a.reply)) status
              (subst (λ o. Suits r.before.input.left o (session_status (desk_status a.reply))) (due_once other.0 due other.1 is) other.2) a.printed
          | inr fails ↦ hindered due status (λ other. printed_fails a.reply a.row other status fails a.printed)
        ]
    ends_as_due due status is (inr (inl out)) = hindered due status (λ other. DeskMemoryRanOut (ran_out r out.row status out.printed))
    ends_as_due due status is (inr (inr cut)) =
        hindered due status (λ other.
        elim cut.printed.status_is [ inl rose ↦ DeskRowRefused (cut.done ++ cut.reply) cut.row_is rose.0 rose.1 | inr out ↦ DeskMemoryRanOut out ])

    pub exact : (status : DeskStatus) → DeskEnds r status → (reply : DeskReply) → IsDeskRefusal r reply → DeskEndsAs r (session_status (desk_status reply)) status
    exact status ends reply refusal =
        let due = ends_as_due (Exactly (session_status (desk_status reply))) status (refusal_is_due reply refusal) ends in
        subst (λ d. DeskEndsAs r d status) due.1 due.2

    input_ends : (status : DeskStatus) (input : Option (List ℕ)) → input ≡ r.before.input.left → EndsDue AsInput status → DeskEndsAsInput r input status
    input_ends status None same ends = tt
    input_ends status (Some bytes) same ends =
        λ stop due.
        let may : IsDueStop session_limits bytes ends.1.0 = subst (λ t. MayEnd t ends.1.0) (sym same) ends.1.1 in
        let once : ends.1.0 ≡ stop = stop_once (is_ended_by_quit session_limits bytes) (stop_at (input_lines session_limits bytes).ends) ends.1.0 stop may due in
        subst (λ d. DeskEndsAs r d status) (ends.1.2 ∙ ap stop_status once) ends.2

    pub complete : (status : DeskStatus) → DeskEnds r status → (I : Instance) → HasDesk r I → DeskEndsAsInput r r.before.input.left status
    complete status ends I on = input_ends status r.before.input.left refl (ends_as_due AsInput status (desk_is_due I on) ends)

  -- From a part of a run to how it ends.

  pub runs : (status : DeskStatus) → DeskEnds r status → RunsDesk r status
  runs status ends =
      record {
        ends = ends;
        leaves = leaves r status ends;
        results = results r status ends;
        taken = taken r status ends;
        unrefused = unrefused r status ends;
        usage = usage r status ends;
        exact = λ files told. exact files told status ends;
        complete = λ files told. complete files told status ends;
      }

  -- memory ran out
  pub without_memory : (status : DeskStatus) (mid : SinkState) → RunsOutAtDesk r mid → IsPrinted [] (codes "no memory\n") statuses.NoMemory (session_status status) mid r.after.output → DeskEnds r status
  without_memory status mid out none =
      inr (inl (record { row = out.row; row_is = out.row_is; printed = printed_behind out.row (codes "no memory\n") statuses.NoMemory (session_status status) r.before.output mid r.after.output out.gains none }))

  row_of_cause : (reply : DeskReply) (row : List ℕ) → IsDeskCause r reply row → (IsDeskUnbegun r × (row ≡ [])) ⊎ ((stop : Stop) × IsDeskRow r stop row)
  row_of_cause NoDesk row cause = inl (cause.0, cause.1)
  row_of_cause FileFailed row cause = inl (cause.0, cause.1)
  row_of_cause LongInstance row cause = inl (cause.0, cause.1)
  row_of_cause (Faulty fault) row cause = inl (cause.0, cause.1)
  row_of_cause InputFailed row cause = inr (AtFailedRead, cause)
  row_of_cause LongLine row cause = inr (AtLongLine, cause)
  row_of_cause LongInput row cause = inr (AtLongInput, cause)
  row_of_cause Ended row cause = inr (AtEnd, cause)

  -- a reply that has its cause was printed, or memory ran out before its text was there
  pub ended : (status : DeskStatus) (mid : SinkState) (reply : DeskReply) → ComesToDesk r mid reply
      → IsPrinted [] (desk_text reply) (session_status (desk_status reply)) (session_status status) mid r.after.output ⊎ IsPrinted [] (codes "no memory\n") statuses.NoMemory (session_status status) mid r.after.output
      → DeskEnds r status
  ended status mid reply comes (inl printed) =
      inl (record {
        reply = reply;
        row = comes.row;
        cause = comes.cause;
        printed = printed_behind comes.row (desk_text reply) (session_status (desk_status reply)) (session_status status) r.before.output mid r.after.output comes.gains printed;
      })
  ended status mid reply comes (inr none) = without_memory status mid (record { row = comes.row; row_is = row_of_cause reply comes.row comes.cause; gains = comes.gains }) none

  -- a reply in a row was refused
  pub ended_in_row : (status : DeskStatus) (fault : SinkFault) → IsStoppedDesk r r.after.output fault → session_status status ≡ cut_status fault → DeskEnds r status
  ended_in_row status fault stopped is =
      inr (inr (record {
        done = stopped.done;
        reply = stopped.reply;
        row_is = stopped.row_is;
        last = stopped.last;
        printed = record {
          len = stopped.gains.len;
          front = stopped.gains.front;
          gained = stopped.gains.gained;
          stopped = stopped.gains.stopped;
          status_is = cut_by _ fault (session_status status) stopped.gains.failed is;
        };
      }))
