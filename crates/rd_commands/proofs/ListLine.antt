-- What `clap` makes of the words `list KIND IMAGE`.
use Rattle.std.proofs.Common.{◌≡◌, ◌∙◌, List, [], ◌∷◌, Some, Bool, true, false, codes, refl, ap, ap₂, fold, ◌&&◌, is_some}
use Rattle.clap.specs.Walk.{Row, Text, first_of, finished, nothing_held, rows_after, walk, walk_from}
use Rattle.clap.specs.Simple.{App, Shape, built, built_leaf, entered, inherited, names_of, subcommand_of}
use Rattle.clap.specs.Takes.{entered_passes, level_passes, takes}
use Rattle.clap.specs.ValueTests.{accepts}
use Rattle.clap.specs.declared.builder.value_parser.ValueParser.TheVariants.{Names}
use Rattle.clap.proofs.OnLiterals.{clap_on_literals}
use Rattle.rd_geometry.specs.declared.kind.Kind.{Kind}
use Rattle.rd_geometry.specs.Kinds.{word_of}
use Rattle.rd_commands.specs.Asks.{EntersList}
use Rattle.rd_commands.specs.CommandLine.{IsDeskApp, NameList, list_app, desk_app}
use Rattle.rd_commands.specs.Words.{AsksList, IsOperand, list_words}
use Rattle.rd_commands.proofs.Operands.{ArePlain, level_passes-plain, rows_after-plain, taken, values_pass_level}
use Rattle.rd_commands.proofs.Texts.{kind_accepted, kind_plain, operand_plain}

-- `list` as it is built
abbrev pub list_leaf : NameList → NameList → NameList → NameList → Shape
list_leaf kinds others more shown = built_leaf (inherited (desk_app others kinds more shown).top (list_app kinds).top)

-- the rows of `list` where its words are its operands
abbrev pub list_rows : NameList → NameList → NameList → NameList → List Text → List Row
list_rows kinds others more shown words = finished (list_leaf kinds others more shown).rules (fold (taken (list_leaf kinds others more shown).rules) (walk_from nothing_held) words).held

stops_at_list : (kinds others more shown : NameList) (kind image : Text)
    → (walk (built (desk_app others kinds more shown)).top.rules (names_of (built (desk_app others kinds more shown))) nothing_held (list_words kind image)).stopped
    ≡ Some (codes "list", kind ∷ image ∷ [])
unfolding clap_on_literals
stops_at_list kinds others more shown kind image = refl

list_level : (kinds others more shown : NameList) (words : List Text)
    → entered_passes (built (desk_app others kinds more shown)) (Some (codes "list", words)) ≡ level_passes (list_leaf kinds others more shown) [] nothing_held words false
list_level kinds others more shown words = refl

top_passes : (kinds others more shown : NameList) (kind image : Text)
    → level_passes (built (desk_app others kinds more shown)).top (names_of (built (desk_app others kinds more shown))) nothing_held (list_words kind image) true ≡ true
unfolding clap_on_literals
top_passes kinds others more shown kind image = refl

operands_pass : (kinds others more shown : NameList) (kind image : Text) → accepts false (Names kinds) kind ≡ true
    → values_pass_level (list_leaf kinds others more shown) (kind ∷ image ∷ []) ≡ true
unfolding clap_on_literals
operands_pass kinds others more shown kind image kind_passes = rw kind_passes refl

takes_operands : (kinds others more shown : NameList) (kind image : Text) → ArePlain (kind ∷ image ∷ [])
    → accepts false (Names kinds) kind ≡ true
    → takes (desk_app others kinds more shown) (list_words kind image) ≡ true
takes_operands kinds others more shown kind image plain kind_passes =
    let desk = built (desk_app others kinds more shown) in
    let words = list_words kind image in
    ap (λ stop. entered_passes desk stop && level_passes desk.top (names_of desk) nothing_held words (is_some (entered desk stop))) (stops_at_list kinds others more shown kind image)
    ∙ ap₂ (λ (below here : Bool). below && here)
    (list_level kinds others more shown (kind ∷ image ∷ []) ∙ level_passes-plain (list_leaf kinds others more shown) (kind ∷ image ∷ []) plain ∙ operands_pass kinds others more shown kind image kind_passes)
    (top_passes kinds others more shown kind image)

enters_list : (kinds others more shown : NameList) (kind image : Text)
    → subcommand_of (desk_app others kinds more shown) (list_words kind image) ≡ Some (codes "list", rows_after (list_leaf kinds others more shown).rules [] (kind ∷ image ∷ []))
unfolding clap_on_literals
enters_list kinds others more shown kind image = refl

kind_row : (kinds others more shown : NameList) (kind image : Text) → first_of (codes "KIND") (list_rows kinds others more shown (kind ∷ image ∷ [])) ≡ Some kind
unfolding clap_on_literals
kind_row kinds others more shown kind image = refl

image_row : (kinds others more shown : NameList) (kind image : Text) → first_of (codes "IMAGE") (list_rows kinds others more shown (kind ∷ image ∷ [])) ≡ Some image
unfolding clap_on_literals
image_row kinds others more shown kind image = refl

words_plain : (kind : Kind) (image : Text) → IsOperand image → ArePlain (word_of kind ∷ image ∷ [])
words_plain kind image operand = (kind_plain kind, (operand_plain image operand, tt))

-- a parse of a command fails for want of memory alone
pub takes_list : (app : App) (words : List Text) (kind : Kind) (image : Text) → IsDeskApp app → AsksList words kind image → takes app words ≡ true
takes_list app words kind image desk asks =
    ap₂ takes desk.is asks.spelled
    ∙ takes_operands desk.list_kinds desk.cat_kinds desk.files_kinds desk.shown (word_of kind) image (words_plain kind image asks.operand)
    (kind_accepted desk.list_kinds kind desk.list_names)

-- a parse of a command enters `list`, with the command's operands
pub gives_list : (app : App) (words : List Text) (kind : Kind) (image : Text) → IsDeskApp app → AsksList words kind image
    → EntersList (subcommand_of app words) kind image
gives_list app words kind image desk asks =
    let plain = words_plain kind image asks.operand in
    let operands = word_of kind ∷ image ∷ [] in
    record {
      rows = list_rows desk.list_kinds desk.cat_kinds desk.files_kinds desk.shown operands;
      into = ap₂ subcommand_of desk.is asks.spelled ∙ enters_list desk.list_kinds desk.cat_kinds desk.files_kinds desk.shown (word_of kind) image
          ∙ ap (λ (rows : List Row). Some (codes "list", rows)) (rows_after-plain (list_leaf desk.list_kinds desk.cat_kinds desk.files_kinds desk.shown).rules operands plain);
      found = record {
        kind_found = kind_row desk.list_kinds desk.cat_kinds desk.files_kinds desk.shown (word_of kind) image;
        image_found = image_row desk.list_kinds desk.cat_kinds desk.files_kinds desk.shown (word_of kind) image;
      };
    }
