use Rattle.std.proofs.Common.{◌≡◌, ◌∙◌, ◌||◌, ap₂, codes, false, rules}
use Rattle.std.proofs.lemmas.Result.{IfOk-weaker}
use Rattle.clap.specs.Words.{app_of, new_app, with_rule}
use Rattle.clap.specs.declared.builder.command.Command.TheViews.{out-Command as fields_of}
use Rattle.rd_commands.specs.CommandLine.{store_rule, sums_rule, target_rule}
use Rattle.rd_commands.proofs.command_line.copy_command.Goals as goal

pub returns-clause-shape : goal.returns-clause-shape
returns-clause-shape c =
    let bare : app_of c.after_help.result ≡ new_app (codes "copy") = search rules in
    let store : app_of c.in_ok-arg.field-0 ≡ with_rule (new_app (codes "copy")) store_rule =
    c.in_ok-arg.ensures.shape c.store_option.ensures.local ∙ ap₂ with_rule bare c.store_option.ensures.rule in
    let target : app_of c.in_ok-arg-2.field-0 ≡ with_rule (with_rule (new_app (codes "copy")) store_rule) target_rule =
    c.in_ok-arg-2.ensures.shape c.target_option.ensures.local ∙ ap₂ with_rule store c.target_option.ensures.rule in
    let sums : app_of c.in_ok-arg-3.field-0 ≡ with_rule (with_rule (with_rule (new_app (codes "copy")) store_rule) target_rule) sums_rule =
    c.in_ok-arg-3.ensures.shape c.sums_option.ensures.local ∙ ap₂ with_rule target c.sums_option.ensures.rule in
    IfOk-weaker c.arg-4.result _ _ (λ copy adds. adds.shape c.explain_flag.ensures.local ∙ ap₂ with_rule sums c.explain_flag.ensures.rule) c.arg-4.ensures

pub returns-clause-local : goal.returns-clause-local
returns-clause-local c =
    let bare : (fields_of c.after_help.result).has_globals ≡ false = search rules in
    let store : (fields_of c.in_ok-arg.field-0).has_globals ≡ false = c.in_ok-arg.ensures.globals ∙ ap₂ ◌||◌ bare c.store_option.ensures.local in
    let target : (fields_of c.in_ok-arg-2.field-0).has_globals ≡ false = c.in_ok-arg-2.ensures.globals ∙ ap₂ ◌||◌ store c.target_option.ensures.local in
    let sums : (fields_of c.in_ok-arg-3.field-0).has_globals ≡ false = c.in_ok-arg-3.ensures.globals ∙ ap₂ ◌||◌ target c.sums_option.ensures.local in
    IfOk-weaker c.arg-4.result _ _ (λ copy adds. adds.globals ∙ ap₂ ◌||◌ sums c.explain_flag.ensures.local) c.arg-4.ensures
