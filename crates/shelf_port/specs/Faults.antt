-- Which refusal of a whole reading or writing a refusal of one call becomes.
use Rattle.shelf_port.specs.declared.fault.ShelfFault.{ShelfFault}
use Rattle.shelf_port.specs.declared.fault.ShelfFault.TheVariants as shelf
use Rattle.shelf_port.specs.declared.fault.ReadWhole.{ReadWhole}
use Rattle.shelf_port.specs.declared.fault.ReadWhole.TheVariants as read
use Rattle.shelf_port.specs.declared.fault.PutFault.{PutFault}
use Rattle.shelf_port.specs.declared.fault.PutFault.TheVariants as put

abbrev pub read_fault : ShelfFault → ReadWhole
read_fault shelf.Failed = read.Failed
read_fault shelf.NoMemory = read.NoMemory

abbrev pub put_fault : ShelfFault → PutFault
put_fault shelf.Failed = put.Failed
put_fault shelf.NoMemory = put.NoMemory
