use Rattle.std.proofs.Common.{◌≡◌, OnErr, rules, subst}
use Rattle.rd_commands.specs.Output.{AppendsPart}
use Rattle.rd_commands.specs.Serving.{place_of}
use Rattle.rd_program.specs.Serving.{listening_at}
use Rattle.rd_program.proofs.serve.tell_listening.Goals as goal

pub returns-clause-cut : goal.returns-clause-cut
returns-clause-cut g c =
    let line : c.as_bytes.result.now ≡ listening_at (place_of c.args.place) = search rules in
    subst (λ text. OnErr c.write_whole.result (AppendsPart (g.W.Write.contents c.args.output.now) (g.W.Write.contents c.write_whole.new.output) text)) line c.write_whole.ensures.cut
