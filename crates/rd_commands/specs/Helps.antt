-- The help that words ask for.
use Rattle.std.specs.Prelude.{◌≡◌, ℕ, List, [], ◌∷◌, Option, bytes_eq, codes, if◌then◌else◌}
use Rattle.std.specs.Io.KnownBytes.{Keeps}
use Rattle.rd_commands.specs.Output.{AppendsPart}
use Rattle.rd_commands.specs.declared.help.TheConstants.{CAT_HELP, CHECK_HELP, COPY_HELP, DESK_HELP, EXPORT_HELP, FILES_HELP, HELP_HELP, IMPORT_HELP, INIT_HELP, LIST_HELP, SERVE_HELP, SHOW_HELP, STAFF_KEY_HELP}
use Rattle.rd_commands.specs.declared.refusal.Refusal.{Refusal}
use Rattle.rd_commands.specs.declared.refusal.Refusal.TheVariants.{Device, NoMemory}

-- the help of the command of this name, and that of the program if there is none
abbrev pub help_named : List ℕ → List ℕ
help_named name =
    if bytes_eq name (codes "cat") then CAT_HELP.now else
    if bytes_eq name (codes "list") then LIST_HELP.now else
    if bytes_eq name (codes "files") then FILES_HELP.now else
    if bytes_eq name (codes "init") then INIT_HELP.now else
    if bytes_eq name (codes "serve") then SERVE_HELP.now else
    if bytes_eq name (codes "import") then IMPORT_HELP.now else
    if bytes_eq name (codes "export") then EXPORT_HELP.now else
    if bytes_eq name (codes "check") then CHECK_HELP.now else
    if bytes_eq name (codes "show") then SHOW_HELP.now else
    if bytes_eq name (codes "staff-key") then STAFF_KEY_HELP.now else
    if bytes_eq name (codes "copy") then COPY_HELP.now else
    if bytes_eq name (codes "help") then HELP_HELP.now else
    DESK_HELP.now

-- the help of the command that the first of these names, and that of the program if there is none
abbrev pub help_of_first : List (List ℕ) → List ℕ
help_of_first [] = DESK_HELP.now
help_of_first (name ∷ names) = help_named name

-- the help that words ask for, if they ask for help: that of the command whose name comes first, or after a first word
-- `help`, and else that of the program
abbrev pub help_for : List (List ℕ) → List ℕ
help_for [] = DESK_HELP.now
help_for (word ∷ words) = if bytes_eq word (codes "help") then help_of_first words else help_named word

-- Why a help is not written, and what was written then: a front part of it if the device failed, and nothing if memory
-- ran out.
abbrev pub RefusesHelp : List ℕ → Option (List ℕ) → Option (List ℕ) → Refusal → Type 0
RefusesHelp help old new Device = AppendsPart old new help
RefusesHelp help old new refusal = Keeps old new × (refusal ≡ NoMemory)
