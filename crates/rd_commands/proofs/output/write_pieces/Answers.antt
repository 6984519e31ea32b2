use Rattle.rd_commands.proofs.WriterLemmas.{on_err, whole_part}
use Rattle.rd_commands.proofs.output.write_pieces.Goals as goal

pub returns-clause-cut : goal.returns-clause-cut
returns-clause-cut g c = on_err c.flush.result (whole_part _ _ _ _ c.in_ok-write_each.ensures.done c.flush.ensures.bytes)
