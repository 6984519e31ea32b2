use Rattle.std.proofs.Common.{◌≡◌}
use Rattle.rd_commands.specs.Output.{IsFlushed}
use Rattle.rd_program.specs.Importing.{TellsRows}
use Rattle.rd_program.specs.Leaves.{LeavesDesk, TakesUnlessDry}
use Rattle.rd_program.proofs.ImportedRows.{ImportedSoFar}
use Rattle.rd_program.proofs.import.import_rows.Given as goal

abbrev pub invariant-loop-number : goal.invariant-loop-number
invariant-loop-number g l = record {
  written : TellsRows l.flags.dry_run (g.W.Write.contents l.fn.output) (g.W.Write.contents l.output) l.outcome;
  flushed : IsFlushed g.M.Files.flushed (g.W.Write.contents l.fn.output) (g.W.Write.contents l.output);
  same : l.machine ≡ l.fn.machine;
  zone : l.desk.zone ≡ l.fn.desk.zone;
  rows : ImportedSoFar g.M.Disk.Store (g.M.Machine.seen l.fn.machine).files l.flags l.giver.badge l.giver.day l.sheet (g.W.Write.contents l.fn.output) (g.W.Write.contents l.output)
      l.fn.desk.store l.desk.store l.reader l.number l.outcome l.shelf.images.items;
  takes : LeavesDesk g.M.Disk.Store (TakesUnlessDry l.flags.dry_run l.giver.badge (λ day. day ≡ l.giver.day)) l.fn.desk.store l.desk.store;
}
