use Rattle.std.proofs.Common.{◌≡◌, ◌∙◌, ◌||◌, ap, ap₂}
use Rattle.std.proofs.lemmas.Result.{IfOk-weaker}
use Rattle.clap.specs.Words.{app_of, with_rule}
use Rattle.clap.specs.declared.builder.command.Command.TheViews.{out-Command as fields_of}
use Rattle.rd_commands.specs.CommandLine.{zone_file_rule, zone_rule}
use Rattle.rd_commands.proofs.Locals.{still_local}
use Rattle.rd_commands.proofs.command_line.add_clocks.Goals as goal

pub returns-clause-shape : goal.returns-clause-shape
returns-clause-shape c =
    let zone : app_of c.in_ok-arg.field-0 ≡ with_rule (app_of c.args.command) zone_rule =
    c.in_ok-arg.ensures.shape c.zone_option.ensures.local ∙ ap (with_rule (app_of c.args.command)) c.zone_option.ensures.rule in
    let file : app_of c.in_ok-arg-2.field-0 ≡ with_rule (with_rule (app_of c.args.command) zone_rule) zone_file_rule =
    c.in_ok-arg-2.ensures.shape c.zone_file_option.ensures.local ∙ ap₂ with_rule zone c.zone_file_option.ensures.rule in
    IfOk-weaker c.arg-3.result _ _ (λ made adds. adds.shape c.trust_option.ensures.local ∙ ap₂ with_rule file c.trust_option.ensures.rule) c.arg-3.ensures

pub returns-clause-local : goal.returns-clause-local
returns-clause-local c =
    let zone : (fields_of c.in_ok-arg.field-0).has_globals ≡ (fields_of c.args.command).has_globals = still_local _ _ _ c.in_ok-arg.ensures.globals c.zone_option.ensures.local in
    let file : (fields_of c.in_ok-arg-2.field-0).has_globals ≡ (fields_of c.args.command).has_globals = still_local _ _ _ c.in_ok-arg-2.ensures.globals c.zone_file_option.ensures.local ∙ zone in
    IfOk-weaker c.arg-3.result _ _ (λ made adds. still_local _ _ _ adds.globals c.trust_option.ensures.local ∙ file) c.arg-3.ensures
