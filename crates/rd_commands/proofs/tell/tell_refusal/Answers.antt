use Rattle.rd_commands.proofs.WriterLemmas.{part_either}
use Rattle.rd_commands.proofs.tell.tell_refusal.Goals as goal

pub returns-clause-written : goal.returns-clause-written
returns-clause-written g c = part_either c.write_line.result _ _ _ c.write_line.ensures.done c.write_line.ensures.cut
