use Rattle.clap.specs.Words.{found_of}
use Rattle.rd_commands.specs.declared.words.Unread.TheVariants.{Day}
use Rattle.rd_commands.proofs.ShowWords.{named_by, no_what, none_named}
use Rattle.rd_commands.proofs.words.shown_found.Goals as goal

pub returns-in_default-clause-none : goal.returns-in_default-clause-none
returns-in_default-clause-none c = λ same. no_what (found_of c.args.found.now) c.in_default.ensures

pub returns-clause-named : goal.returns-clause-named
returns-clause-named c =
    named_by (found_of c.args.found.now) c.in-Some.what.now c.in_ok-on.on c.in_ok-acc.acc c.shown_as.result Day c.ok_or.result c.ok_or.ensures.value c.in-Some.ensures
    c.in_ok-on.ensures.given c.in_ok-acc.ensures.given c.shown_as.ensures.shown

pub returns-clause-none : goal.returns-clause-none
returns-clause-none c =
    none_named (found_of c.args.found.now) c.in-Some.what.now c.in_ok-on.on c.in_ok-acc.acc c.shown_as.result Day c.ok_or.result c.ok_or.ensures.value c.in-Some.ensures
    c.in_ok-on.ensures.given c.in_ok-acc.ensures.given c.shown_as.ensures.none
