use Rattle.std.proofs.Common.{subst, sym}
use Rattle.std.specs.Io.KnownBytes.{Appends}
use Rattle.rd_commands.specs.Output.{AppendsPart}
use Rattle.rd_program.specs.Importing.{accession_line}
use Rattle.rd_program.specs.ImportedRows.{CutsOutcome, TellsOutcome}
use Rattle.std.proofs.Common.{inr, refl, rules}
use Rattle.rd_program.proofs.ImportLemmas.{accession_refused, none_of_line, on_err}
use Rattle.rd_program.proofs.ImportedRows.{cuts_none}
use Rattle.rd_program.proofs.import.tell_outcome.Goals as goal

pub returns-clause-written : goal.returns-clause-written
returns-clause-written g c =
    subst (λ a. TellsOutcome c.args.acc c.args.dry_run a (g.W.Write.contents c.args.output.now) (g.W.Write.contents c.tell_accession.new.output) c.outcome_by.result) (sym c.in-Ok.is) (
      subst (λ word. Appends (g.W.Write.contents c.args.output.now) (g.W.Write.contents c.tell_accession.new.output) (accession_line c.args.acc word)) c.word_by.ensures
          c.in_ok-tell_accession.ensures.done,
      c.outcome_by.ensures,
    )

pub returns-in_err-tell_accession-clause-refused : goal.returns-in_err-tell_accession-clause-refused
returns-in_err-tell_accession-clause-refused g c =
    let refused = accession_refused c.args.acc c.word_by.result.now _ _ _ c.in_err-tell_accession.ensures.refused c.in_err-tell_accession.ensures.cut in search rules

pub returns-in_default-clause-refused : goal.returns-in_default-clause-refused
returns-in_default-clause-refused g c = (inr (inr refl), none_of_line (g.W.Write.contents c.args.output.now))

pub returns-in_err-tell_accession-clause-cut : goal.returns-in_err-tell_accession-clause-cut
returns-in_err-tell_accession-clause-cut g c =
    on_err c.from_residual.result (CutsOutcome c.args.acc c.args.dry_run c.args.answer (g.W.Write.contents c.args.output.now) (g.W.Write.contents c.tell_accession.new.output))
    (subst (λ a. CutsOutcome c.args.acc c.args.dry_run a (g.W.Write.contents c.args.output.now) (g.W.Write.contents c.tell_accession.new.output)) (sym c.in-Ok.is)
    (subst (λ word. AppendsPart (g.W.Write.contents c.args.output.now) (g.W.Write.contents c.tell_accession.new.output) (accession_line c.args.acc word)) c.word_by.ensures
    c.in_err-tell_accession.ensures.cut))

pub returns-in_default-clause-cut : goal.returns-in_default-clause-cut
returns-in_default-clause-cut g c = cuts_none c.args.acc c.args.dry_run c.args.answer (g.W.Write.contents c.args.output.now) c.in_default.not-Ok
