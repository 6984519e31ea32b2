use Rattle.rd_commands.proofs.Together.{if_err_met, if_ok_met, none_met, on_ok_met}
use Rattle.rd_commands.proofs.common_options.options_found.Goals as goal

pub returns-in-Some-clause-given : goal.returns-in-Some-clause-given
returns-in-Some-clause-given c =
    if_ok_met c.args.matches.now c.in-Some.name.now _ c.in-Some.ensures.name c.in-Some.ensures.rows c.options_of.result c.options_of.ensures.given

pub returns-in-Some-clause-together : goal.returns-in-Some-clause-together
returns-in-Some-clause-together c =
    on_ok_met c.args.matches.now c.in-Some.name.now _ c.in-Some.ensures.name c.in-Some.ensures.rows c.options_of.result c.options_of.ensures.together

pub returns-in-Some-clause-apart : goal.returns-in-Some-clause-apart
returns-in-Some-clause-apart c =
    if_err_met c.args.matches.now c.in-Some.name.now _ c.in-Some.ensures.name c.in-Some.ensures.rows c.options_of.result c.options_of.ensures.apart

pub returns-in-None-clause-given : goal.returns-in-None-clause-given
returns-in-None-clause-given c = λ name rows into. absurd (none_met c.args.matches.now name rows into c.in-None.ensures.rows)

pub returns-in-None-clause-together : goal.returns-in-None-clause-together
returns-in-None-clause-together c = λ name rows into. absurd (none_met c.args.matches.now name rows into c.in-None.ensures.rows)
