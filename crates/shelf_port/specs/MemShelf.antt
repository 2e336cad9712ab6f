-- What a shelf in memory tells, and how its calls go.
use Rattle.std.specs.Prelude.{ℕ}
use Rattle.shelf_port.specs.Files.{Files}
use Rattle.shelf_port.specs.Memory.{files_of_list}
use Rattle.shelf_port.specs.declared.plan.CallPlan.{CallPlan}
use Rattle.shelf_port.specs.declared.mem_shelf.MemShelf.{MemShelf}

abbrev pub files_of : MemShelf → Files
files_of shelf = files_of_list shelf.files.items

-- which of its calls fail, and how much one moves
abbrev pub plan_of : MemShelf → CallPlan
plan_of shelf = shelf.plan

-- how many of its reads failed
abbrev pub read_faults_of : MemShelf → ℕ
read_faults_of shelf = shelf.read_faults

-- how many of its writes failed
abbrev pub write_faults_of : MemShelf → ℕ
write_faults_of shelf = shelf.write_faults
