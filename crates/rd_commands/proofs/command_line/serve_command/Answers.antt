use Rattle.std.proofs.Common.{◌≡◌, ◌∙◌, ◌||◌, ap₂, codes, false}
use Rattle.std.proofs.lemmas.Result.{IfOk-weaker}
use Rattle.clap.specs.Words.{app_of, with_rule}
use Rattle.clap.specs.declared.builder.command.Command.TheViews.{out-Command as fields_of}
use Rattle.rd_commands.specs.CommandLine.{timeout_rule, untimed_app}
use Rattle.rd_commands.proofs.command_line.serve_command.Goals as goal

pub returns-clause-shape : goal.returns-clause-shape
returns-clause-shape c =
    let request : app_of c.in_ok-arg.field-0 ≡ with_rule untimed_app (timeout_rule (codes "request-timeout")) =
    c.in_ok-arg.ensures.shape c.request_option.ensures.local ∙ ap₂ with_rule c.in_ok-untimed_command.ensures.shape c.request_option.ensures.rule in
    let write : app_of c.in_ok-arg-2.field-0 ≡ with_rule (with_rule untimed_app (timeout_rule (codes "request-timeout"))) (timeout_rule (codes "write-timeout")) =
    c.in_ok-arg-2.ensures.shape c.write_option.ensures.local ∙ ap₂ with_rule request c.write_option.ensures.rule in
    let reply : app_of c.in_ok-arg-3.field-0 ≡ with_rule (with_rule (with_rule untimed_app (timeout_rule (codes "request-timeout"))) (timeout_rule (codes "write-timeout"))) (timeout_rule (codes "reply-timeout")) =
    c.in_ok-arg-3.ensures.shape c.reply_option.ensures.local ∙ ap₂ with_rule write c.reply_option.ensures.rule in
    IfOk-weaker c.arg-4.result _ _ (λ serve adds. adds.shape c.explain_flag.ensures.local ∙ ap₂ with_rule reply c.explain_flag.ensures.rule) c.arg-4.ensures

pub returns-clause-local : goal.returns-clause-local
returns-clause-local c =
    let request : (fields_of c.in_ok-arg.field-0).has_globals ≡ false = c.in_ok-arg.ensures.globals ∙ ap₂ ◌||◌ c.in_ok-untimed_command.ensures.local c.request_option.ensures.local in
    let write : (fields_of c.in_ok-arg-2.field-0).has_globals ≡ false = c.in_ok-arg-2.ensures.globals ∙ ap₂ ◌||◌ request c.write_option.ensures.local in
    let reply : (fields_of c.in_ok-arg-3.field-0).has_globals ≡ false = c.in_ok-arg-3.ensures.globals ∙ ap₂ ◌||◌ write c.reply_option.ensures.local in
    IfOk-weaker c.arg-4.result _ _ (λ serve adds. adds.globals ∙ ap₂ ◌||◌ reply c.explain_flag.ensures.local) c.arg-4.ensures
