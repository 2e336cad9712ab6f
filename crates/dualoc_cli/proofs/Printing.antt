-- What is printed behind replies in a row.
use Rattle.std.proofs.Common.{◌≡◌, ◌⊎◌, ℕ, List, [], take, refl, ap, ◌∙◌, inl, inr}
use Rattle.shelf_port.specs.Streams.{with_back}
use Rattle.shelf_port.specs.Ports.{SinkState}
use Rattle.shelf_port.specs.declared.fault.SinkFault.{SinkFault}
use Rattle.shelf_port.specs.declared.fault.SinkFault.TheVariants as sink
use Rattle.dualoc_cli.specs.declared.status.Status.{Status}
use Rattle.dualoc_cli.specs.declared.status.Status.TheVariants.{Done, NoMemory}
use Rattle.dualoc_cli.specs.Status.{when_cut}
use Rattle.dualoc_cli.specs.Run.{Run}
use Rattle.dualoc_cli.specs.Due.{PrintsFront, IsPrinted}
use Rattle.dualoc_cli.specs.Step.{IsStopped, IsCurveStopped, cut_status}
use Rattle.dualoc_cli.specs.Talk.{GainsWhole}
use Rattle.dualoc_cli.proofs.Gaining.{back_more, rose_since, refused_since}

-- a text that is printed behind a row that was written whole
pub printed_behind : (row text : List ℕ) (due status : Status) (old mid new : SinkState) → GainsWhole row old mid → IsPrinted [] text due status mid new → IsPrinted row text due status old new
printed_behind row text due status old mid new gains (inl whole) =
    inl (record {
      gained = whole.gained ∙ ap (λ t. with_back t text) gains.gained ∙ back_more old.written row text;
      none_refused = whole.none_refused ∙ gains.none_refused;
      status_is = whole.status_is;
    })
printed_behind row text due status old mid new gains (inr cut) =
    inr (record {
      len = cut.len;
      front = cut.front;
      gained = cut.gained ∙ ap (λ t. with_back t (take cut.len text)) gains.gained ∙ back_more old.written row (take cut.len text);
      stopped = refused_since old mid new gains.none_refused cut.stopped;
      status_is = elim cut.status_is [ inl failed ↦ inl (rose_since old.faults mid.faults new.faults gains.counts failed.0, failed.1) | inr out ↦ inr out ];
    })

-- the status of a run whose output refused a reply in a row
pub cut_by : (rose : Type 0) (fault : SinkFault) (status : Status) → (fault ≡ sink.Failed → rose) → status ≡ cut_status fault → (rose × (status ≡ when_cut Done)) ⊎ (status ≡ NoMemory)
cut_by rose sink.Failed status failed is = inl (failed refl, is)
cut_by rose sink.NoMemory status failed is = inr is

pub stopped_behind : (r : Run) (status : Status) (fault : SinkFault) (stopped : IsStopped r r.after.output fault) → status ≡ cut_status fault → PrintsFront stopped.done stopped.reply Done status r.before.output r.after.output
stopped_behind r status fault stopped is =
    record {
      len = stopped.len;
      front = stopped.front;
      gained = stopped.gained;
      stopped = stopped.stopped;
      status_is = cut_by _ fault status stopped.failed is;
    }

pub line_stopped_behind : (r : Run) (status : Status) (fault : SinkFault) (stopped : IsCurveStopped r r.after.output fault) → status ≡ cut_status fault → PrintsFront stopped.done stopped.line Done status r.before.output r.after.output
line_stopped_behind r status fault stopped is =
    record {
      len = stopped.len;
      front = stopped.front;
      gained = stopped.gained;
      stopped = stopped.stopped;
      status_is = cut_by _ fault status stopped.failed is;
    }
