use Rattle.std.proofs.Common.{◌≡◌, ◌∙◌, None, Some, codes, sym}
use Rattle.clap.specs.Words.{found_of, rows_of}
use Rattle.clap.proofs.WalkLemmas.{first_value-rows}
use Rattle.rd_commands.proofs.ShowWords.{no_accession_given}
use Rattle.rd_commands.proofs.words.accession_given.Goals as goal

pub returns-in_default-clause-given : goal.returns-in_default-clause-given
returns-in_default-clause-given c = sym (c.in_default.ensures ∙ first_value-rows (found_of c.args.found.now) (codes "acc"))

pub returns-in-None-clause-none : goal.returns-in-None-clause-none
returns-in-None-clause-none c = λ acc given.
    no_accession_given (found_of c.args.found.now) c.in-Some.field-0.now acc c.in-Some.ensures
    (λ number told. let some : None ≡ Some number = c.in-None.ensures.number told.0 number told.1 told.2.0 told.2.1 in cc some) given
