use Rattle.std.proofs.Common.{◌≡◌, ◌∙◌, ◌||◌, ap, ap₂, codes, false, rules}
use Rattle.std.proofs.lemmas.Result.{IfOk-weaker}
use Rattle.clap.specs.Words.{app_of, new_app, with_rule}
use Rattle.clap.specs.declared.builder.command.Command.TheViews.{out-Command as fields_of}
use Rattle.rd_commands.specs.CommandLine.{count_rule, port_rule, socket_rule, store_rule, with_clocks}
use Rattle.rd_commands.proofs.command_line.untimed_command.Goals as goal

pub returns-clause-shape : goal.returns-clause-shape
returns-clause-shape c =
    let bare : app_of c.after_help.result ≡ new_app (codes "serve") = search rules in
    let store : app_of c.in_ok-arg.field-0 ≡ with_rule (new_app (codes "serve")) store_rule =
    c.in_ok-arg.ensures.shape c.store_option.ensures.local ∙ ap₂ with_rule bare c.store_option.ensures.rule in
    let port : app_of c.in_ok-arg-2.field-0 ≡ with_rule (with_rule (new_app (codes "serve")) store_rule) port_rule =
    c.in_ok-arg-2.ensures.shape c.port_option.ensures.local ∙ ap₂ with_rule store c.port_option.ensures.rule in
    let socket : app_of c.in_ok-arg-3.field-0 ≡ with_rule (with_rule (with_rule (new_app (codes "serve")) store_rule) port_rule) socket_rule =
    c.in_ok-arg-3.ensures.shape c.socket_option.ensures.local ∙ ap₂ with_rule port c.socket_option.ensures.rule in
    let count : app_of c.in_ok-begun.begun ≡ with_rule (with_rule (with_rule (with_rule (new_app (codes "serve")) store_rule) port_rule) socket_rule) count_rule =
    c.in_ok-begun.ensures.shape c.count_option.ensures.local ∙ ap₂ with_rule socket c.count_option.ensures.rule in
    IfOk-weaker c.add_clocks.result _ _ (λ serve shape. shape ∙ ap with_clocks count) c.add_clocks.ensures.shape

pub returns-clause-local : goal.returns-clause-local
returns-clause-local c =
    let bare : (fields_of c.after_help.result).has_globals ≡ false = search rules in
    let store : (fields_of c.in_ok-arg.field-0).has_globals ≡ false = c.in_ok-arg.ensures.globals ∙ ap₂ ◌||◌ bare c.store_option.ensures.local in
    let port : (fields_of c.in_ok-arg-2.field-0).has_globals ≡ false = c.in_ok-arg-2.ensures.globals ∙ ap₂ ◌||◌ store c.port_option.ensures.local in
    let socket : (fields_of c.in_ok-arg-3.field-0).has_globals ≡ false = c.in_ok-arg-3.ensures.globals ∙ ap₂ ◌||◌ port c.socket_option.ensures.local in
    let count : (fields_of c.in_ok-begun.begun).has_globals ≡ false = c.in_ok-begun.ensures.globals ∙ ap₂ ◌||◌ socket c.count_option.ensures.local in
    IfOk-weaker c.add_clocks.result _ _ (λ serve local. local ∙ count) c.add_clocks.ensures.local
