use Rattle.std.proofs.Common.{◌≡◌, ◌∙◌, ◌||◌, ap, ap₂}
use Rattle.std.proofs.lemmas.Result.{IfOk-weaker}
use Rattle.clap.specs.Words.{app_of, with_rule}
use Rattle.clap.specs.declared.builder.command.Command.TheViews.{out-Command as fields_of}
use Rattle.rd_commands.specs.CommandLine.{moment_rule, with_clocks}
use Rattle.rd_commands.proofs.Locals.{still_local}
use Rattle.rd_commands.proofs.command_line.add_moment.Goals as goal

pub returns-clause-shape : goal.returns-clause-shape
returns-clause-shape c =
    let moment : app_of c.in_ok-arg.field-0 ≡ with_rule (app_of c.args.command) moment_rule =
    c.in_ok-arg.ensures.shape c.moment_option.ensures.local ∙ ap (with_rule (app_of c.args.command)) c.moment_option.ensures.rule in
    IfOk-weaker c.add_clocks.result _ _ (λ made shape. shape ∙ ap with_clocks moment) c.add_clocks.ensures.shape

pub returns-clause-local : goal.returns-clause-local
returns-clause-local c =
    let moment : (fields_of c.in_ok-arg.field-0).has_globals ≡ (fields_of c.args.command).has_globals = still_local _ _ _ c.in_ok-arg.ensures.globals c.moment_option.ensures.local in
    IfOk-weaker c.add_clocks.result _ _ (λ made local. local ∙ moment) c.add_clocks.ensures.local
