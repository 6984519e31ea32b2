use Rattle.std.proofs.Common.{◌≡◌, ◌∙◌, ◌||◌, ap, ap₂}
use Rattle.std.proofs.lemmas.Result.{IfOk-weaker}
use Rattle.clap.specs.Words.{app_of, with_rule}
use Rattle.clap.specs.declared.builder.command.Command.TheViews.{out-Command as fields_of}
use Rattle.rd_commands.specs.CommandLine.{key_rule}
use Rattle.rd_commands.proofs.Locals.{still_local}
use Rattle.rd_commands.proofs.command_line.add_caller.Goals as goal

pub returns-clause-shape : goal.returns-clause-shape
returns-clause-shape c =
    let key : app_of c.in_ok-arg.field-0 ≡ with_rule (app_of c.args.command) key_rule =
    c.in_ok-arg.ensures.shape c.key_option.ensures.local ∙ ap (with_rule (app_of c.args.command)) c.key_option.ensures.rule in
    IfOk-weaker c.arg-2.result _ _ (λ made adds. adds.shape c.key_file_option.ensures.local ∙ ap₂ with_rule key c.key_file_option.ensures.rule) c.arg-2.ensures

pub returns-clause-local : goal.returns-clause-local
returns-clause-local c =
    let key : (fields_of c.in_ok-arg.field-0).has_globals ≡ (fields_of c.args.command).has_globals = still_local _ _ _ c.in_ok-arg.ensures.globals c.key_option.ensures.local in
    IfOk-weaker c.arg-2.result _ _ (λ made adds. still_local _ _ _ adds.globals c.key_file_option.ensures.local ∙ key) c.arg-2.ensures
