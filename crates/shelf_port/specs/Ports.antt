-- What the ports of a run tell and count at one moment.
use Rattle.std.specs.Prelude.{ℕ, List, Option}
use Rattle.shelf_port.specs.Files.{Files}
use Rattle.shelf_port.specs.Streams.{Refusals}

-- the files, where the shelf tells them, and how many reads and how many writes of the file of a name failed
pub record ShelfState : Type 0 where
  pub files : Option Files
  pub reads : List ℕ → ℕ
  pub writes : List ℕ → ℕ

-- what is left of an input, where it tells that, and how many reads failed
pub record SourceState : Type 0 where
  pub left : Option (List ℕ)
  pub faults : ℕ

-- what was written to an output, where it tells that, how many writes failed, and how many were refused and whether the last one was
pub record SinkState : Type 0 where
  pub written : Option (List ℕ)
  pub faults : ℕ
  pub refusals : Refusals

pub record Ports : Type 0 where
  pub shelf : ShelfState
  pub input : SourceState
  pub output : SinkState

abbrev pub shelf_state : Option Files → (List ℕ → ℕ) → (List ℕ → ℕ) → ShelfState
shelf_state files reads writes = record { files = files; reads = reads; writes = writes }

abbrev pub source_state : Option (List ℕ) → ℕ → SourceState
source_state left faults = record { left = left; faults = faults }

abbrev pub sink_state : Option (List ℕ) → ℕ → Refusals → SinkState
sink_state written faults refusals = record { written = written; faults = faults; refusals = refusals }

abbrev pub ports_of : ShelfState → SourceState → SinkState → Ports
ports_of shelf input output = record { shelf = shelf; input = input; output = output }
