-- The names of faults, and the place of a text's end.
use Rattle.std.specs.Prelude.{ℕ, List, ◌++◌, codes, decimal}
use Rattle.number_words.specs.Words.{PlacedWord, end_of}
use Rattle.fixed_cost.specs.declared.amount.AmountFault.{AmountFault}
use Rattle.fixed_cost.specs.declared.amount.AmountFault.TheVariants as amount
use Rattle.fixed_cost.specs.declared.fault.FileKind.{FileKind}
use Rattle.fixed_cost.specs.declared.fault.FileKind.TheVariants.{Ended, NotANumber, TooFine, TooBig, BadSize, BadIndex, NotZero, Trailing, NeedCapacity, BadVertex, BadWord}
use Rattle.fixed_cost.specs.declared.fault.FileFault.{FileFault}

-- the name of a kind, as it is printed
abbrev pub file_kind_name : FileKind → List ℕ
file_kind_name Ended = codes "Ended"
file_kind_name NotANumber = codes "NotANumber"
file_kind_name TooFine = codes "TooFine"
file_kind_name TooBig = codes "TooBig"
file_kind_name BadSize = codes "BadSize"
file_kind_name BadIndex = codes "BadIndex"
file_kind_name NotZero = codes "NotZero"
file_kind_name Trailing = codes "Trailing"
file_kind_name NeedCapacity = codes "NeedCapacity"
file_kind_name BadVertex = codes "BadVertex"
file_kind_name BadWord = codes "BadWord"

-- the fault of a file where an amount's word has one
abbrev pub kind_of : AmountFault → FileKind
kind_of amount.NotANumber = NotANumber
kind_of amount.TooFine = TooFine
kind_of amount.TooBig = TooBig

-- a fault at a word
abbrev pub fault_at : FileKind → PlacedWord → FileFault
fault_at kind w = record { kind = kind; line = w.line; word = w.place }

-- the fault of a text that ends too soon
abbrev pub ended_fault : List PlacedWord → FileFault
ended_fault ws = record { kind = Ended; line = (end_of ws).0; word = (end_of ws).1 }

-- a fault as it is printed: its kind, its line and its word
abbrev pub fault_text : FileFault → List ℕ
fault_text fault = file_kind_name fault.kind ++ codes " line " ++ decimal fault.line ++ codes " word " ++ decimal fault.word
