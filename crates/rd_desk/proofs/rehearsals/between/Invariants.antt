use Rattle.std.proofs.Common.{take}
use Rattle.rd_desk.specs.Rehearsing.{AreFileDifferences}
use Rattle.rd_desk.proofs.rehearsals.between.Given as goal

abbrev pub invariant-loop-file : goal.invariant-loop-file
invariant-loop-file l = AreFileDifferences l.rules l.later l.day l.accession (take l.file-index l.files) l.lines.items
