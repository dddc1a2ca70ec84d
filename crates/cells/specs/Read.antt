-- A cell that the code has read. Only internal functions cite this.
use Rattle.rules.specs.Cell.{Cell}
use Rattle.tree.specs.declared.Cell as read

abbrev pub cell_of : read.Cell → Cell
cell_of k = record { kind = k.kind; id = k.id; position = k.position; len = k.length; first = k.first; count = k.count; next = k.next }
