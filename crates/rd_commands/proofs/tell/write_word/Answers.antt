use Rattle.std.proofs.Common.{◌≡◌, ◌++◌, codes, refl}
use Rattle.rd_commands.proofs.WriterLemmas.{on_err, on_err_after, part_of}
use Rattle.rd_commands.proofs.tell.write_word.Goals as goal

pub returns-in_err-write_bytes-clause-cut : goal.returns-in_err-write_bytes-clause-cut
returns-in_err-write_bytes-clause-cut g c =
    on_err c.from_residual.result (part_of _ _ (codes " " ++ c.args.word.now) (codes " ") c.args.word.now refl c.in_err-write_bytes.ensures.cut)

pub returns-clause-cut : goal.returns-clause-cut
returns-clause-cut g c =
    let whole : codes " " ++ c.args.word.now ≡ codes " " ++ c.as_bytes.result.now = cc in
    on_err_after c.write_bytes-2.result _ _ _ _ (codes " ") c.as_bytes.result.now whole c.in_ok-write_bytes.ensures.done c.write_bytes-2.ensures.cut
