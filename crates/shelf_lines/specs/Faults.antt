-- Which refusal of a line a refusal of one read becomes.
use Rattle.shelf_port.specs.declared.fault.SourceFault.{SourceFault}
use Rattle.shelf_port.specs.declared.fault.SourceFault.TheVariants as source
use Rattle.shelf_port.specs.declared.fault.ShelfFault.{ShelfFault}
use Rattle.shelf_port.specs.declared.fault.ShelfFault.TheVariants as shelf
use Rattle.shelf_lines.specs.declared.fault.LineFault.{LineFault}
use Rattle.shelf_lines.specs.declared.fault.LineFault.TheVariants as line

abbrev pub line_fault : ShelfFault → LineFault
line_fault shelf.Failed = line.Failed
line_fault shelf.NoMemory = line.NoMemory

abbrev pub input_fault : SourceFault → LineFault
input_fault source.Failed = line.Failed
input_fault source.NoMemory = line.NoMemory
