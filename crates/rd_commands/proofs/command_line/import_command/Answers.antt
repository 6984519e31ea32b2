use Rattle.std.proofs.Common.{◌≡◌, ◌∙◌, ◌||◌, ap, ap₂, codes, false, rules}
use Rattle.std.proofs.lemmas.Result.{IfOk-weaker}
use Rattle.clap.specs.Words.{app_of, new_app, with_rule}
use Rattle.clap.specs.declared.builder.command.Command.TheViews.{out-Command as fields_of}
use Rattle.rd_commands.specs.CommandLine.{dry_run_rule, keep_going_rule, sheet_rule, store_rule, with_caller, with_moment}
use Rattle.rd_commands.proofs.command_line.import_command.Goals as goal

pub returns-clause-shape : goal.returns-clause-shape
returns-clause-shape c =
    let bare : app_of c.after_help.result ≡ new_app (codes "import") = search rules in
    let store : app_of c.in_ok-begun.begun ≡ with_rule (new_app (codes "import")) store_rule =
    c.in_ok-begun.ensures.shape c.store_option.ensures.local ∙ ap₂ with_rule bare c.store_option.ensures.rule in
    let caller : app_of c.in_ok-add_caller.field-0 ≡ with_caller (with_rule (new_app (codes "import")) store_rule) = c.in_ok-add_caller.ensures.shape ∙ ap with_caller store in
    let sheet : app_of c.in_ok-given.given ≡ with_rule (with_caller (with_rule (new_app (codes "import")) store_rule)) sheet_rule =
    c.in_ok-given.ensures.shape c.sheet_option.ensures.local ∙ ap₂ with_rule caller c.sheet_option.ensures.rule in
    let moment : app_of c.in_ok-add_moment.field-0 ≡ with_moment (with_rule (with_caller (with_rule (new_app (codes "import")) store_rule)) sheet_rule) = c.in_ok-add_moment.ensures.shape ∙ ap with_moment sheet in
    let dry_run : app_of c.in_ok-arg.field-0 ≡ with_rule (with_moment (with_rule (with_caller (with_rule (new_app (codes "import")) store_rule)) sheet_rule)) dry_run_rule =
    c.in_ok-arg.ensures.shape c.dry_run_flag.ensures.local ∙ ap₂ with_rule moment c.dry_run_flag.ensures.rule in
    let keep_going : app_of c.in_ok-arg-2.field-0 ≡ with_rule (with_rule (with_moment (with_rule (with_caller (with_rule (new_app (codes "import")) store_rule)) sheet_rule)) dry_run_rule) keep_going_rule =
    c.in_ok-arg-2.ensures.shape c.keep_going_flag.ensures.local ∙ ap₂ with_rule dry_run c.keep_going_flag.ensures.rule in
    IfOk-weaker c.arg-5.result _ _ (λ made adds. adds.shape c.explain_flag.ensures.local ∙ ap₂ with_rule keep_going c.explain_flag.ensures.rule) c.arg-5.ensures

pub returns-clause-local : goal.returns-clause-local
returns-clause-local c =
    let bare : (fields_of c.after_help.result).has_globals ≡ false = search rules in
    let store : (fields_of c.in_ok-begun.begun).has_globals ≡ false = c.in_ok-begun.ensures.globals ∙ ap₂ ◌||◌ bare c.store_option.ensures.local in
    let caller : (fields_of c.in_ok-add_caller.field-0).has_globals ≡ false = c.in_ok-add_caller.ensures.local ∙ store in
    let sheet : (fields_of c.in_ok-given.given).has_globals ≡ false = c.in_ok-given.ensures.globals ∙ ap₂ ◌||◌ caller c.sheet_option.ensures.local in
    let moment : (fields_of c.in_ok-add_moment.field-0).has_globals ≡ false = c.in_ok-add_moment.ensures.local ∙ sheet in
    let dry_run : (fields_of c.in_ok-arg.field-0).has_globals ≡ false = c.in_ok-arg.ensures.globals ∙ ap₂ ◌||◌ moment c.dry_run_flag.ensures.local in
    let keep_going : (fields_of c.in_ok-arg-2.field-0).has_globals ≡ false = c.in_ok-arg-2.ensures.globals ∙ ap₂ ◌||◌ dry_run c.keep_going_flag.ensures.local in
    IfOk-weaker c.arg-5.result _ _ (λ made adds. adds.globals ∙ ap₂ ◌||◌ keep_going c.explain_flag.ensures.local) c.arg-5.ensures
