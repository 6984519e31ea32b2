-- The command line as the program describes it to `clap`.
use Rattle.std.specs.Prelude.{◌≡◌, ◌⊎◌, List, [], ◌∷◌, Some, codes, map, pos, true}
use Rattle.std.specs.Borrow.{Bor}
use Rattle.clap.specs.Simple.{on_top}
use Rattle.clap.specs.Words.{App, IsAmong, Row, Rule, Shape, Text, fault_of, new_app, new_rule, subcommand_of, with_rule, with_subcommand}
use Rattle.clap.specs.declared.error.kind.ErrorKind.{ErrorKind}
use Rattle.clap.specs.declared.error.kind.ErrorKind.TheVariants.{DisplayHelp, DisplayVersion}
use Rattle.clap.specs.declared.builder.action.ArgAction.TheVariants.{SetTrue}
use Rattle.clap.specs.declared.builder.value_parser.ValueParser.{ValueParser}
use Rattle.clap.specs.declared.builder.value_parser.ValueParser.TheVariants.{Names, Signed}
use Rattle.rd_geometry.specs.Kinds.{word_of}
use Rattle.rd_policy.specs.declared.limits.TheConstants.{LAST_SCOPE, LAST_SLOT}
use Rattle.rd_protocol.specs.Parts.{all_kinds}

-- a list of names, behind references
abbrev pub NameList : Type 0
NameList = Bor (List (Bor Text))

-- a required operand
abbrev pub required : Text → Rule
required id = record (new_rule id) { required = true }

-- a required operand that passes a parser
abbrev pub required_by : Text → ValueParser → Rule
required_by id parser = record (required id) { parser = Some parser }

-- the operand for a kind, one of these names
abbrev pub kind_rule : NameList → Rule
kind_rule kinds = required_by (codes "KIND") (Names kinds)

-- the operand for an image
abbrev pub image_rule : Rule
image_rule = required (codes "IMAGE")

-- the operand for a slot, a number from 0 to 9,999
abbrev pub slot_rule : Rule
slot_rule = required_by (codes "SLOT") (Signed (pos 0) (pos LAST_SLOT))

-- a required option, whose value has a name in the help
abbrev pub required_option : Text → Rule
required_option id = record (required id) { long = Some id; value_names = 1 }

-- the option for the file of a store
abbrev pub store_rule : Rule
store_rule = required_option (codes "store")

-- an option whose value has a name in the help, which may be absent
abbrev pub option : Text → Rule
option id = record (new_rule id) { long = Some id; value_names = 1 }

-- a flag
abbrev pub flag : Text → Rule
flag id = record (new_rule id) { long = Some id; action = Some SetTrue }

-- the option for a desk key
abbrev pub key_rule : Rule
key_rule = option (codes "key")

-- the option for a file with a desk key
abbrev pub key_file_rule : Rule
key_file_rule = option (codes "key-file")

-- the option for a port, a number from 1 to 65,535, which may be absent
abbrev pub port_rule : Rule
port_rule = record (option (codes "port")) { parser = Some (Signed (pos 1) (pos 65535)) }

-- the option for a Unix socket, which may be absent
abbrev pub socket_rule : Rule
socket_rule = option (codes "socket")

-- an option for how long a visitor may take, a number from 1 to 3,600, which may be absent
abbrev pub timeout_rule : Text → Rule
timeout_rule name = record (option name) { parser = Some (Signed (pos 1) (pos 3600)) }

-- the option for a number of visits, from 0 to 4,294,967,295, which may be absent
abbrev pub count_rule : Rule
count_rule = record (option (codes "count")) { parser = Some (Signed (pos 0) (pos 4294967295)) }

-- the option for the zone of a desk's clocks, which may be absent
abbrev pub zone_rule : Rule
zone_rule = option (codes "zone")

-- the option for a file with the rule of a desk's clocks, which may be absent
abbrev pub zone_file_rule : Rule
zone_file_rule = option (codes "zone-file")

-- the flag that says that the clock is trusted
abbrev pub trust_rule : Rule
trust_rule = record (new_rule (codes "trust-clock")) { long = Some (codes "trust-clock"); action = Some SetTrue }

-- the flag that says that the pages of a new store end in sums
abbrev pub sums_rule : Rule
sums_rule = record (new_rule (codes "sums")) { long = Some (codes "sums"); action = Some SetTrue }

-- the option for a sheet
abbrev pub sheet_rule : Rule
sheet_rule = required_option (codes "sheet")

-- the option for a moment, a number of seconds or a date, which may be absent
abbrev pub moment_rule : Rule
moment_rule = option (codes "at")

-- the flag of a dry run: the lines of an import are written, and nothing is taken in
abbrev pub dry_run_rule : Rule
dry_run_rule = flag (codes "dry-run")

-- the flag that has an import go past files that cannot be read
abbrev pub keep_going_rule : Rule
keep_going_rule = flag (codes "keep-going")

-- the option for a folder
abbrev pub folder_rule : Rule
folder_rule = required_option (codes "to")

-- the flag that has a refusal explained
abbrev pub explain_rule : Rule
explain_rule = flag (codes "explain")

-- the option for an accession, a number from 1 to 999,999
abbrev pub accession_rule : Rule
accession_rule = record (required_option (codes "acc")) { parser = Some (Signed (pos 1) (pos LAST_SCOPE)) }

-- ---- commands

-- a command, and then the options for a key
abbrev pub with_caller : App → App
with_caller app = with_rule (with_rule app key_rule) key_file_rule

-- a command, and then the options for clocks
abbrev pub with_clocks : App → App
with_clocks app = with_rule (with_rule (with_rule app zone_rule) zone_file_rule) trust_rule

-- a command, and then the options for a moment and for clocks
abbrev pub with_moment : App → App
with_moment app = with_clocks (with_rule app moment_rule)

-- a command, and then the flag that has a refusal explained
abbrev pub explained : App → App
explained app = with_rule app explain_rule

-- a command on an image of a kind
abbrev pub image_app : Text → NameList → App
image_app name kinds = with_rule (with_rule (new_app name) (kind_rule kinds)) image_rule

-- the command `cat`
abbrev pub cat_app : NameList → App
cat_app kinds = explained (with_rule (image_app (codes "cat") kinds) slot_rule)

-- the command `list`
abbrev pub list_app : NameList → App
list_app kinds = explained (image_app (codes "list") kinds)

-- the command `files`
abbrev pub files_app : NameList → App
files_app kinds = explained (with_rule (image_app (codes "files") kinds) folder_rule)

-- a command on the file of a store
abbrev pub store_app : Text → App
store_app name = with_rule (new_app name) store_rule

-- the command `init`
abbrev pub init_app : App
init_app = explained (with_rule (with_caller (store_app (codes "init"))) sums_rule)

-- the command `serve`, without the options for how long a visitor may take
abbrev pub untimed_app : App
untimed_app = with_clocks (with_rule (with_rule (with_rule (store_app (codes "serve")) port_rule) socket_rule) count_rule)

-- the command `serve`
abbrev pub serve_app : App
serve_app =
    explained (with_rule (with_rule (with_rule untimed_app (timeout_rule (codes "request-timeout"))) (timeout_rule (codes "write-timeout")))
    (timeout_rule (codes "reply-timeout")))

-- the command `import`
abbrev pub import_app : App
import_app =
    explained (with_rule (with_rule (with_moment (with_rule (with_caller (store_app (codes "import"))) sheet_rule)) dry_run_rule)
    keep_going_rule)

-- the command `export`
abbrev pub export_app : App
export_app = explained (with_moment (with_caller (store_app (codes "export"))))

-- the command `check`
abbrev pub check_app : App
check_app = explained (with_moment (with_rule (with_caller (store_app (codes "check"))) accession_rule))

-- the words for what `show` shows
abbrev pub what_words : List Text
what_words = codes "deeds" ∷ codes "takedowns" ∷ codes "keys" ∷ codes "checks" ∷ codes "verdicts" ∷ []

-- the operand for what to show, one of these names
abbrev pub what_rule : NameList → Rule
what_rule names = required_by (codes "WHAT") (Names names)

-- the option for a day, which may be absent
abbrev pub day_rule : Rule
day_rule = record (new_rule (codes "on")) { long = Some (codes "on"); value_names = 1 }

-- the option for the accession of verdicts, a number from 1 to 999,999, which may be absent
abbrev pub one_accession_rule : Rule
one_accession_rule = record (option (codes "acc")) { parser = Some (Signed (pos 1) (pos LAST_SCOPE)) }

-- the command `show`
abbrev pub show_app : NameList → App
show_app names =
    explained (with_moment (with_rule (with_rule (with_caller (with_rule (with_rule (new_app (codes "show")) (what_rule names)) store_rule))
    day_rule) one_accession_rule))

-- the command `staff-key`
abbrev pub staff_key_app : App
staff_key_app = explained (with_caller (store_app (codes "staff-key")))

-- the option for the file to which a store is copied
abbrev pub target_rule : Rule
target_rule = required_option (codes "to")

-- the command `copy`
abbrev pub copy_app : App
copy_app = explained (with_rule (with_rule (store_app (codes "copy")) target_rule) sums_rule)

-- the words come without the program's name, one of them is a command's, and there is a version
abbrev pub wants_command : Shape → Shape
wants_command s = record s {
  no_binary_name = true;
  has_version = true;
  arg_required_else_help = true;
  subcommand_required = true;
}

-- the program, without its commands
abbrev pub bare_app : App
bare_app = on_top wants_command (new_app (codes "desk"))

-- the program
abbrev pub desk_app : NameList → NameList → NameList → NameList → App
desk_app kinds kinds' kinds'' names =
    with_subcommand (with_subcommand (with_subcommand (with_subcommand (with_subcommand (with_subcommand (with_subcommand
    (with_subcommand (with_subcommand (with_subcommand (with_subcommand bare_app (cat_app kinds).top) (list_app kinds').top)
    (files_app kinds'').top) init_app.top) serve_app.top) import_app.top) export_app.top) check_app.top) (show_app names).top)
    staff_key_app.top) copy_app.top

-- the names are the words of all kinds
abbrev pub AreKindNames : NameList → Type 0
AreKindNames kinds = map (λ name. name.now) kinds.now ≡ map word_of all_kinds

-- an operand for one of the kinds
abbrev pub IsKindRule : Rule → Type 0
IsKindRule rule = (kinds : NameList) × AreKindNames kinds × (rule ≡ kind_rule kinds)

-- the command `cat`, with one of the kinds
abbrev pub IsCatApp : App → Type 0
IsCatApp app = (kinds : NameList) × AreKindNames kinds × (app ≡ cat_app kinds)

-- the command `list`, with one of the kinds
abbrev pub IsListApp : App → Type 0
IsListApp app = (kinds : NameList) × AreKindNames kinds × (app ≡ list_app kinds)

-- the command `files`, with one of the kinds
abbrev pub IsFilesApp : App → Type 0
IsFilesApp app = (kinds : NameList) × AreKindNames kinds × (app ≡ files_app kinds)

-- the names are the words for what `show` shows
abbrev pub AreWhatNames : NameList → Type 0
AreWhatNames names = map (λ name. name.now) names.now ≡ what_words

-- an operand for what to show
abbrev pub IsWhatRule : Rule → Type 0
IsWhatRule rule = (names : NameList) × AreWhatNames names × (rule ≡ what_rule names)

-- the command `show`, of one of these
abbrev pub IsShowApp : App → Type 0
IsShowApp app = (names : NameList) × AreWhatNames names × (app ≡ show_app names)

-- the program, whose commands take these kinds, and show these
pub record IsDeskApp (app : App) : Type 0 where
  pub cat_kinds : NameList
  pub list_kinds : NameList
  pub files_kinds : NameList
  pub shown : NameList
  pub cat_names : AreKindNames cat_kinds
  pub list_names : AreKindNames list_kinds
  pub files_names : AreKindNames files_kinds
  pub shown_names : AreWhatNames shown
  pub is : app ≡ desk_app cat_kinds list_kinds files_kinds shown

-- `clap` finds no fault in the words: they are a command of the program, in a plain form or in another, such as `list
-- cpm8 -- -x`
pub record IsTaken (words : List Text) : Type 0 where
  pub app : App
  pub is_desk : IsDeskApp app
  pub no_fault : fault_of app words ≡ []

-- they are this command
pub record IsTakenAs (name : Text) (words : List Text) : Type 0 where
  pub app : App
  pub is_desk : IsDeskApp app
  pub no_fault : fault_of app words ≡ []
  pub rows : List Row
  pub into : subcommand_of app words ≡ Some (name, rows)

-- they are a command whose output says if not all is well: `import` or `check`
abbrev pub IsTakenTelling : List Text → Type 0
IsTakenTelling words = IsTakenAs (codes "import") words ⊎ IsTakenAs (codes "check") words

-- `clap` finds a fault of a kind in the words; a call for help or the version is one
pub record HasFault (words : List Text) (kind : ErrorKind) : Type 0 where
  pub app : App
  pub is_desk : IsDeskApp app
  pub fault : IsAmong kind (fault_of app words)

-- `clap` finds no fault in the words, and takes them as the command of this name with these rows, however the program is
-- described: in any order of the options, and in the form `--store=F` too
pub record Enters (words : List Text) (name : Text) (rows : List Row) : Type 0 where
  pub no_fault : (app : App) → IsDeskApp app → fault_of app words ≡ []
  pub into : (app : App) → IsDeskApp app → subcommand_of app words ≡ Some (name, rows)

-- the words ask for help
abbrev pub AsksForHelp : List Text → Type 0
AsksForHelp words = HasFault words DisplayHelp

-- the words ask for the version
abbrev pub AsksForVersion : List Text → Type 0
AsksForVersion words = HasFault words DisplayVersion
