use Rattle.std.proofs.Common.{take}
use Rattle.std.specs.List.{filter}
use Rattle.rd_geometry.specs.Images.{bytes_of, kind_of}
use Rattle.rd_commands.specs.Output.{IsFlushed}
use Rattle.rd_program.specs.Extracting.{MakesFiles, is_given}
use Rattle.rd_program.specs.World.{ChangesFolders}
use Rattle.rd_program.proofs.extract.extract.Given as goal

-- the sound files passed were made, and their lines written
abbrev pub invariant-loop-file : goal.invariant-loop-file
invariant-loop-file g l = record {
  makes : MakesFiles (kind_of l.image) (bytes_of l.image) l.ask.folder.now (filter is_given (take l.file-index l.file-items)) (g.M.Machine.seen l.fn.machine).written
      (g.M.Machine.seen l.machine).written (g.W.Write.contents l.fn.output) (g.W.Write.contents l.output);
  flushed : IsFlushed g.M.Files.flushed (g.W.Write.contents l.fn.output) (g.W.Write.contents l.output);
  frame : ChangesFolders (g.M.Machine.seen l.fn.machine) (g.M.Machine.seen l.machine);
}
