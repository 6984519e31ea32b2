use Rattle.std.proofs.Common.{◌≡◌, ◌∙◌, ap, ap₂}
use Rattle.std.proofs.lemmas.Result.{IfOk-weaker}
use Rattle.clap.specs.Words.{App, app_of, with_subcommand}
use Rattle.rd_commands.specs.CommandLine.{bare_app, cat_app, check_app, copy_app, export_app, files_app, import_app, init_app, list_app, serve_app, show_app, staff_key_app}
use Rattle.rd_commands.proofs.command_line.desk_command.Goals as goal

pub returns : goal.returns
returns c =
    let cat = c.in_ok-cat_command.ensures.shape in
    let list = c.in_ok-list_command.ensures.shape in
    let files = c.in_ok-files_command.ensures.shape in
    let init = c.in_ok-init_command.ensures.shape in
    let serve = c.in_ok-serve_command.ensures.shape in
    let import = c.in_ok-import_command.ensures.shape in
    let export = c.in_ok-export_command.ensures.shape in
    let check = c.in_ok-check_command.ensures.shape in
    let show = c.in_ok-show_command.ensures.shape in
    let staff_key : app_of c.in_ok-staff_key_command.field-0 ≡ staff_key_app = c.in_ok-staff_key_command.ensures.shape in
    let copy : app_of c.in_ok-copy_command.field-0 ≡ copy_app = c.in_ok-copy_command.ensures.shape in
    let bare : App = bare_app in
    let top : app_of c.in_ok-bare_desk.field-0 ≡ bare = c.in_ok-bare_desk.ensures in
    let with_cat : app_of c.in_ok-subcommand.field-0 ≡ with_subcommand bare (cat_app cat.0).top =
    c.in_ok-subcommand.ensures.shape c.in_ok-cat_command.ensures.local ∙ ap₂ with_subcommand top (ap (λ (a : App). a.top) cat.2) in
    let with_list : app_of c.in_ok-subcommand-2.field-0 ≡ with_subcommand (with_subcommand bare (cat_app cat.0).top) (list_app list.0).top =
    c.in_ok-subcommand-2.ensures.shape c.in_ok-list_command.ensures.local ∙ ap₂ with_subcommand with_cat (ap (λ (a : App). a.top) list.2) in
    let with_files : app_of c.in_ok-subcommand-3.field-0 ≡ with_subcommand (with_subcommand (with_subcommand bare (cat_app cat.0).top) (list_app list.0).top) (files_app files.0).top =
    c.in_ok-subcommand-3.ensures.shape c.in_ok-files_command.ensures.local ∙ ap₂ with_subcommand with_list (ap (λ (a : App). a.top) files.2) in
    let with_init : app_of c.in_ok-subcommand-4.field-0 ≡ with_subcommand (with_subcommand (with_subcommand (with_subcommand bare (cat_app cat.0).top) (list_app list.0).top) (files_app files.0).top) init_app.top =
    c.in_ok-subcommand-4.ensures.shape c.in_ok-init_command.ensures.local ∙ ap₂ with_subcommand with_files (ap (λ (a : App). a.top) init) in
    let with_serve : app_of c.in_ok-subcommand-5.field-0 ≡ with_subcommand (with_subcommand (with_subcommand (with_subcommand (with_subcommand bare (cat_app cat.0).top) (list_app list.0).top) (files_app files.0).top) init_app.top) serve_app.top =
    c.in_ok-subcommand-5.ensures.shape c.in_ok-serve_command.ensures.local ∙ ap₂ with_subcommand with_init (ap (λ (a : App). a.top) serve) in
    let with_import : app_of c.in_ok-subcommand-6.field-0 ≡ with_subcommand (with_subcommand (with_subcommand (with_subcommand (with_subcommand (with_subcommand bare (cat_app cat.0).top) (list_app list.0).top) (files_app files.0).top) init_app.top) serve_app.top) import_app.top =
    c.in_ok-subcommand-6.ensures.shape c.in_ok-import_command.ensures.local ∙ ap₂ with_subcommand with_serve (ap (λ (a : App). a.top) import) in
    let with_export : app_of c.in_ok-subcommand-7.field-0 ≡ with_subcommand (with_subcommand (with_subcommand (with_subcommand (with_subcommand (with_subcommand (with_subcommand bare (cat_app cat.0).top) (list_app list.0).top) (files_app files.0).top) init_app.top) serve_app.top) import_app.top) export_app.top =
    c.in_ok-subcommand-7.ensures.shape c.in_ok-export_command.ensures.local ∙ ap₂ with_subcommand with_import (ap (λ (a : App). a.top) export) in
    let with_check : app_of c.in_ok-subcommand-8.field-0 ≡ with_subcommand (with_subcommand (with_subcommand (with_subcommand (with_subcommand (with_subcommand (with_subcommand (with_subcommand bare (cat_app cat.0).top) (list_app list.0).top) (files_app files.0).top) init_app.top) serve_app.top) import_app.top) export_app.top) check_app.top =
    c.in_ok-subcommand-8.ensures.shape c.in_ok-check_command.ensures.local ∙ ap₂ with_subcommand with_export (ap (λ (a : App). a.top) check) in
    let with_show : app_of c.in_ok-subcommand-9.field-0 ≡ with_subcommand (with_subcommand (with_subcommand (with_subcommand (with_subcommand (with_subcommand (with_subcommand (with_subcommand (with_subcommand bare (cat_app cat.0).top) (list_app list.0).top) (files_app files.0).top) init_app.top) serve_app.top) import_app.top) export_app.top) check_app.top) (show_app show.0).top =
    c.in_ok-subcommand-9.ensures.shape c.in_ok-show_command.ensures.local ∙ ap₂ with_subcommand with_check (ap (λ (a : App). a.top) show.2) in
    let with_key : app_of c.in_ok-subcommand-10.field-0 ≡ with_subcommand (with_subcommand (with_subcommand (with_subcommand (with_subcommand (with_subcommand (with_subcommand (with_subcommand (with_subcommand (with_subcommand bare (cat_app cat.0).top) (list_app list.0).top) (files_app files.0).top) init_app.top) serve_app.top) import_app.top) export_app.top) check_app.top) (show_app show.0).top) staff_key_app.top =
    c.in_ok-subcommand-10.ensures.shape c.in_ok-staff_key_command.ensures.local ∙ ap₂ with_subcommand with_show (ap (λ (a : App). a.top) staff_key) in
    IfOk-weaker c.subcommand-11.result _ _ (λ r adds. record {
      cat_kinds = cat.0;
      list_kinds = list.0;
      files_kinds = files.0;
      shown = show.0;
      cat_names = cat.1;
      list_names = list.1;
      files_names = files.1;
      shown_names = show.1;
      is = adds.shape c.in_ok-copy_command.ensures.local ∙ ap₂ with_subcommand with_key (ap (λ (a : App). a.top) copy);
    }) c.subcommand-11.ensures
