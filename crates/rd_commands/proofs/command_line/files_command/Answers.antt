use Rattle.std.proofs.Common.{◌≡◌, ◌∙◌, ◌||◌, ap₂, codes, false, rules}
use Rattle.std.proofs.lemmas.Result.{IfOk-weaker}
use Rattle.clap.specs.Words.{app_of, new_app, with_rule}
use Rattle.clap.specs.declared.builder.command.Command.TheViews.{out-Command as fields_of}
use Rattle.rd_commands.specs.CommandLine.{folder_rule, image_rule, kind_rule}
use Rattle.rd_commands.proofs.command_line.files_command.Goals as goal

pub returns-clause-shape : goal.returns-clause-shape
returns-clause-shape c =
    let bare : app_of c.after_help.result ≡ new_app (codes "files") = search rules in
    let asked = c.kind_operand.ensures.rule in
    let kind : app_of c.in_ok-arg.field-0 ≡ with_rule (new_app (codes "files")) (kind_rule asked.0) =
    c.in_ok-arg.ensures.shape c.kind_operand.ensures.local ∙ ap₂ with_rule bare asked.2 in
    let image : app_of c.in_ok-arg-2.field-0 ≡ with_rule (with_rule (new_app (codes "files")) (kind_rule asked.0)) image_rule =
    c.in_ok-arg-2.ensures.shape c.image_operand.ensures.local ∙ ap₂ with_rule kind c.image_operand.ensures.rule in
    let folder : app_of c.in_ok-arg-3.field-0 ≡ with_rule (with_rule (with_rule (new_app (codes "files")) (kind_rule asked.0)) image_rule) folder_rule =
    c.in_ok-arg-3.ensures.shape c.folder_option.ensures.local ∙ ap₂ with_rule image c.folder_option.ensures.rule in
    IfOk-weaker c.arg-4.result _ _ (λ files adds. (asked.0, asked.1, adds.shape c.explain_flag.ensures.local ∙ ap₂ with_rule folder c.explain_flag.ensures.rule)) c.arg-4.ensures

pub returns-clause-local : goal.returns-clause-local
returns-clause-local c =
    let bare : (fields_of c.after_help.result).has_globals ≡ false = search rules in
    let kind : (fields_of c.in_ok-arg.field-0).has_globals ≡ false = c.in_ok-arg.ensures.globals ∙ ap₂ ◌||◌ bare c.kind_operand.ensures.local in
    let image : (fields_of c.in_ok-arg-2.field-0).has_globals ≡ false = c.in_ok-arg-2.ensures.globals ∙ ap₂ ◌||◌ kind c.image_operand.ensures.local in
    let folder : (fields_of c.in_ok-arg-3.field-0).has_globals ≡ false = c.in_ok-arg-3.ensures.globals ∙ ap₂ ◌||◌ image c.folder_option.ensures.local in
    IfOk-weaker c.arg-4.result _ _ (λ files adds. adds.globals ∙ ap₂ ◌||◌ folder c.explain_flag.ensures.local) c.arg-4.ensures
