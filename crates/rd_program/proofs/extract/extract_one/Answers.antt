use Rattle.std.proofs.Common.{OnErr, rules}
use Rattle.rd_geometry.specs.Images.{bytes_of, kind_of}
use Rattle.rd_commands.specs.Output.{AppendsPart}
use Rattle.rd_program.specs.Extracting.{MakesNext, line_of, made_of}
use Rattle.rd_program.proofs.FolderLemmas.{line_failed}
use Rattle.rd_program.proofs.extract.extract_one.Goals as goal

pub returns-in-Ok-clause-failed : goal.returns-in-Ok-clause-failed
returns-in-Ok-clause-failed g c =
    let made : MakesNext (g.M.Machine.seen c.args.machine.now).written (g.M.Machine.seen c.write_new.new.self).written (made_of (kind_of c.args.image.now) (bytes_of c.args.image.now) c.args.folder.now c.args.file.now) = search rules in
    let cut : OnErr c.write_whole.result (AppendsPart (g.W.Write.contents c.args.output.now) (g.W.Write.contents c.write_whole.new.output) (line_of (kind_of c.args.image.now) (bytes_of c.args.image.now) c.args.folder.now c.args.file.now)) = search rules in
    line_failed c.write_whole.result _ _ _ _ _ _ c.write_whole.ensures.device made cut
