-- A command line with one command alone, for words that begin with its name.
use Rattle.std.specs.Prelude.{◌≡◌, ◌⊎◌, List, codes}
use Rattle.clap.specs.Words.{App, Text, fault_of, is_simple, is_simple_and_free, matches_of, subcommand_of, takes}
use Rattle.rd_commands.specs.CommandLine.{IsCatApp, IsDeskApp, IsFilesApp, IsListApp, IsShowApp, check_app, copy_app, export_app, import_app, init_app, serve_app, staff_key_app}

-- the command of this name
abbrev pub IsNamed : Text → App → Type 0
IsNamed name app = ((name ≡ codes "cat") × IsCatApp app)
    ⊎ (((name ≡ codes "list") × IsListApp app)
    ⊎ (((name ≡ codes "files") × IsFilesApp app)
    ⊎ (((name ≡ codes "init") × (app ≡ init_app))
    ⊎ (((name ≡ codes "serve") × (app ≡ serve_app))
    ⊎ (((name ≡ codes "import") × (app ≡ import_app))
    ⊎ (((name ≡ codes "export") × (app ≡ export_app))
    ⊎ (((name ≡ codes "check") × (app ≡ check_app))
    ⊎ (((name ≡ codes "show") × IsShowApp app)
    ⊎ (((name ≡ codes "staff-key") × (app ≡ staff_key_app))
    ⊎ ((name ≡ codes "copy") × (app ≡ copy_app)))))))))))

-- `clap` makes the same of the words by the one command line as by the other: of the program's own options, of a command
-- and its operands, and of faults.
pub record ReadsAlike (app whole : App) (words : List Text) : Type 0 where
  pub simple : is_simple app ≡ is_simple whole
  pub free : is_simple_and_free app ≡ is_simple_and_free whole
  pub own : matches_of app words ≡ matches_of whole words
  pub command : subcommand_of app words ≡ subcommand_of whole words
  pub taken : takes app words ≡ takes whole words
  pub faults : fault_of app words ≡ fault_of whole words

-- it makes of them what it makes of them by the program's whole command line
pub record ReadsAsDesk (app : App) (words : List Text) : Type 0 where
  pub whole : App
  pub is_desk : IsDeskApp whole
  pub alike : ReadsAlike app whole words
