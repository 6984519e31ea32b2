use Rattle.std.proofs.Common.{◌≡◌, map, take}
use Rattle.rd_protocol.proofs.catalogue.write_cells.Given as goal

abbrev pub invariant-loop-cell : goal.invariant-loop-cell
invariant-loop-cell l = record {
  fields : map (λ field. field.now) l.fields.items ≡ take l.cell-index l.cells;
  writer : l.writer ≡ l.fn.writer;
}
