use Rattle.std.proofs.Common.{◌≡◌, ◌∙◌, ◌∷◌, ap, false, subst, sym}
use Rattle.std.proofs.lemmas.Result.{IfOk-weaker}
use Rattle.clap.specs.Words.{app_of, with_subcommand}
use Rattle.clap.specs.declared.builder.command.Command.TheViews.{out-Command as fields_of}
use Rattle.rd_commands.specs.OneCommand.{IsNamed, ReadsAsDesk}
use Rattle.rd_commands.proofs.OneCommand.{first_text, of_some, one_reads}
use Rattle.rd_commands.proofs.command_line.desk_for.Goals as goal

pub returns-in_ok-bare_desk-in-Some-2 : goal.returns-in_ok-bare_desk-in-Some-2
returns-in_ok-bare_desk-in-Some-2 c =
    let name = c.in-Some.name.now.now in
    let command = c.in-Some-2.command in
    let named = of_some (λ found. IsNamed name (app_of found)) c.in_ok-command.field-0 command c.in-Some-2.is c.in_ok-command.ensures.named in
    let local = of_some (λ found. (fields_of found).has_globals ≡ false) c.in_ok-command.field-0 command c.in-Some-2.is c.in_ok-command.ensures.local in
    let first = first_text c.args.words.now c.in-Some.name.now c.in-Some.ensures.value in
    IfOk-weaker c.subcommand.result _ _ (λ desk adds.
    subst (ReadsAsDesk (app_of desk)) (sym first.1)
    (subst (λ app. ReadsAsDesk app (name ∷ first.0))
    (sym (adds.shape local ∙ ap (λ bare. with_subcommand bare (app_of command).top) c.in_ok-bare_desk-in-Some-2.ensures))
    (one_reads name (app_of command) first.0 named))) c.subcommand.ensures
