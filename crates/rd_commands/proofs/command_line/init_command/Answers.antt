use Rattle.std.proofs.Common.{◌≡◌, ◌∙◌, ◌||◌, ap, ap₂, codes, false, rules}
use Rattle.std.proofs.lemmas.Result.{IfOk-weaker}
use Rattle.clap.specs.Words.{app_of, new_app, with_rule}
use Rattle.clap.specs.declared.builder.command.Command.TheViews.{out-Command as fields_of}
use Rattle.rd_commands.specs.CommandLine.{store_rule, sums_rule, with_caller}
use Rattle.rd_commands.proofs.command_line.init_command.Goals as goal

pub returns-clause-shape : goal.returns-clause-shape
returns-clause-shape c =
    let bare : app_of c.after_help.result ≡ new_app (codes "init") = search rules in
    let store : app_of c.in_ok-begun.begun ≡ with_rule (new_app (codes "init")) store_rule =
    c.in_ok-begun.ensures.shape c.store_option.ensures.local ∙ ap₂ with_rule bare c.store_option.ensures.rule in
    let caller : app_of c.in_ok-add_caller.field-0 ≡ with_caller (with_rule (new_app (codes "init")) store_rule) = c.in_ok-add_caller.ensures.shape ∙ ap with_caller store in
    let sums : app_of c.in_ok-given.given ≡ with_rule (with_caller (with_rule (new_app (codes "init")) store_rule)) sums_rule =
    c.in_ok-given.ensures.shape c.sums_option.ensures.local ∙ ap₂ with_rule caller c.sums_option.ensures.rule in
    IfOk-weaker c.arg-3.result _ _ (λ made adds. adds.shape c.explain_flag.ensures.local ∙ ap₂ with_rule sums c.explain_flag.ensures.rule) c.arg-3.ensures

pub returns-clause-local : goal.returns-clause-local
returns-clause-local c =
    let bare : (fields_of c.after_help.result).has_globals ≡ false = search rules in
    let store : (fields_of c.in_ok-begun.begun).has_globals ≡ false = c.in_ok-begun.ensures.globals ∙ ap₂ ◌||◌ bare c.store_option.ensures.local in
    let caller : (fields_of c.in_ok-add_caller.field-0).has_globals ≡ false = c.in_ok-add_caller.ensures.local ∙ store in
    let sums : (fields_of c.in_ok-given.given).has_globals ≡ false = c.in_ok-given.ensures.globals ∙ ap₂ ◌||◌ caller c.sums_option.ensures.local in
    IfOk-weaker c.arg-3.result _ _ (λ made adds. adds.globals ∙ ap₂ ◌||◌ sums c.explain_flag.ensures.local) c.arg-3.ensures
