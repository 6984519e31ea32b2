use Rattle.std.proofs.Common.{FitsSigned, Some, codes, refl, rules, subst, sym, w32}
use Rattle.std.proofs.lemmas.Int.{to_z-of_z}
use Rattle.clap.specs.Words.{first_of, found_of, rows_of}
use Rattle.rd_commands.specs.Shown.{IsDayGiven}
use Rattle.rd_commands.proofs.ShowWords.{day_given, day_none, not_given}
use Rattle.rd_commands.proofs.words.day_asked.Goals as goal

pub returns-in_default-clause-given : goal.returns-in_default-clause-given
returns-in_default-clause-given c = day_none (found_of c.args.found.now) c.in_default.ensures

pub returns-in-Ok-clause-given : goal.returns-in-Ok-clause-given
returns-in-Ok-clause-given c =
    let fits : FitsSigned w32 c.in-Ok.day = search rules in
    subst (λ day. IsDayGiven (first_of (codes "on") (rows_of (found_of c.args.found.now))) (Some day)) (sym (to_z-of_z w32 c.in-Ok.day fits))
    (day_given (found_of c.args.found.now) c.in-Some.text.now c.in-Ok.day c.in-Some.ensures c.in-Ok.ensures.day)

pub returns-in-Err-BadDate-clause-none : goal.returns-in-Err-BadDate-clause-none
returns-in-Err-BadDate-clause-none c = λ same on given. not_given (found_of c.args.found.now) c.in-Some.text.now on c.in-Some.ensures (c.in-Err-BadDate.ensures.bad c.in-Err-BadDate.field-0-is) given
