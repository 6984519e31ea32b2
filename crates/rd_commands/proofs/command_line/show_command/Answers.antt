use Rattle.std.proofs.Common.{◌≡◌, ◌∙◌, ◌||◌, ap, ap₂, codes, false, rules}
use Rattle.std.proofs.lemmas.Result.{IfOk-weaker}
use Rattle.clap.specs.Words.{app_of, new_app, with_rule}
use Rattle.clap.specs.declared.builder.command.Command.TheViews.{out-Command as fields_of}
use Rattle.rd_commands.specs.CommandLine.{day_rule, one_accession_rule, store_rule, what_rule, with_caller, with_moment}
use Rattle.rd_commands.proofs.command_line.show_command.Goals as goal

pub returns-clause-shape : goal.returns-clause-shape
returns-clause-shape c =
    let bare : app_of c.after_help.result ≡ new_app (codes "show") = search rules in
    let asked = c.what_operand.ensures.rule in
    let what : app_of c.in_ok-arg.field-0 ≡ with_rule (new_app (codes "show")) (what_rule asked.0) =
    c.in_ok-arg.ensures.shape c.what_operand.ensures.local ∙ ap₂ with_rule bare asked.2 in
    let store : app_of c.in_ok-begun.begun ≡ with_rule (with_rule (new_app (codes "show")) (what_rule asked.0)) store_rule =
    c.in_ok-begun.ensures.shape c.store_option.ensures.local ∙ ap₂ with_rule what c.store_option.ensures.rule in
    let caller : app_of c.in_ok-add_caller.field-0 ≡ with_caller (with_rule (with_rule (new_app (codes "show")) (what_rule asked.0)) store_rule) = c.in_ok-add_caller.ensures.shape ∙ ap with_caller store in
    let day : app_of c.in_ok-arg-2.field-0 ≡ with_rule (with_caller (with_rule (with_rule (new_app (codes "show")) (what_rule asked.0)) store_rule)) day_rule =
    c.in_ok-arg-2.ensures.shape c.day_option.ensures.local ∙ ap₂ with_rule caller c.day_option.ensures.rule in
    let accession : app_of c.in_ok-given.given ≡ with_rule (with_rule (with_caller (with_rule (with_rule (new_app (codes "show")) (what_rule asked.0)) store_rule)) day_rule) one_accession_rule =
    c.in_ok-given.ensures.shape c.one_accession_option.ensures.local ∙ ap₂ with_rule day c.one_accession_option.ensures.rule in
    let moment : app_of c.in_ok-add_moment.field-0 ≡ with_moment (with_rule (with_rule (with_caller (with_rule (with_rule (new_app (codes "show")) (what_rule asked.0)) store_rule)) day_rule) one_accession_rule) = c.in_ok-add_moment.ensures.shape ∙ ap with_moment accession in
    IfOk-weaker c.arg-5.result _ _ (λ made adds. (asked.0, asked.1, adds.shape c.explain_flag.ensures.local ∙ ap₂ with_rule moment c.explain_flag.ensures.rule)) c.arg-5.ensures

pub returns-clause-local : goal.returns-clause-local
returns-clause-local c =
    let bare : (fields_of c.after_help.result).has_globals ≡ false = search rules in
    let what : (fields_of c.in_ok-arg.field-0).has_globals ≡ false = c.in_ok-arg.ensures.globals ∙ ap₂ ◌||◌ bare c.what_operand.ensures.local in
    let store : (fields_of c.in_ok-begun.begun).has_globals ≡ false = c.in_ok-begun.ensures.globals ∙ ap₂ ◌||◌ what c.store_option.ensures.local in
    let caller : (fields_of c.in_ok-add_caller.field-0).has_globals ≡ false = c.in_ok-add_caller.ensures.local ∙ store in
    let day : (fields_of c.in_ok-arg-2.field-0).has_globals ≡ false = c.in_ok-arg-2.ensures.globals ∙ ap₂ ◌||◌ caller c.day_option.ensures.local in
    let accession : (fields_of c.in_ok-given.given).has_globals ≡ false = c.in_ok-given.ensures.globals ∙ ap₂ ◌||◌ day c.one_accession_option.ensures.local in
    let moment : (fields_of c.in_ok-add_moment.field-0).has_globals ≡ false = c.in_ok-add_moment.ensures.local ∙ accession in
    IfOk-weaker c.arg-5.result _ _ (λ made adds. adds.globals ∙ ap₂ ◌||◌ moment c.explain_flag.ensures.local) c.arg-5.ensures
