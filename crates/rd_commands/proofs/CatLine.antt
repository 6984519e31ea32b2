-- What `clap` makes of the words `cat KIND IMAGE SLOT`.
use Rattle.std.proofs.Common.{◌≡◌, ◌∙◌, ℕ, List, [], ◌∷◌, Some, Bool, true, false, codes, refl, ap, ap₂, fold, ◌&&◌, is_some}
use Rattle.std.specs.Prelude.{pos}
use Rattle.clap.specs.Lexer.{without_minus}
use Rattle.clap.specs.Walk.{Row, Text, first_of, one_of, finished, nothing_held, rows_after, walk, walk_from}
use Rattle.clap.specs.Simple.{App, Shape, built, built_leaf, entered, inherited, is_simple, names_of, subcommand_of}
use Rattle.clap.specs.Takes.{entered_passes, level_passes, takes}
use Rattle.clap.specs.ValueTests.{accepts}
use Rattle.clap.specs.declared.builder.value_parser.ValueParser.TheVariants.{Names, Signed}
use Rattle.clap.proofs.OnLiterals.{clap_on_literals}
use Rattle.rd_geometry.specs.declared.kind.Kind.{Kind}
use Rattle.rd_geometry.specs.Kinds.{word_of}
use Rattle.rd_commands.specs.Asks.{EntersCat}
use Rattle.rd_commands.specs.CommandLine.{IsDeskApp, NameList, cat_app, desk_app}
use Rattle.rd_commands.specs.Words.{AsksCat, IsOperand, IsSlotText, cat_words}
use Rattle.rd_commands.proofs.Operands.{ArePlain, level_passes-plain, rows_after-plain, taken, values_pass_level}
use Rattle.rd_commands.proofs.Texts.{kind_accepted, kind_plain, operand_plain, slot_accepted, slot_text}

pub simple : (kinds others more shown : NameList) → is_simple (desk_app kinds others more shown) ≡ true
simple kinds others more shown = refl

-- `cat` as it is built
abbrev pub cat_leaf : NameList → NameList → NameList → NameList → Shape
cat_leaf kinds others more shown = built_leaf (inherited (desk_app kinds others more shown).top (cat_app kinds).top)

-- the rows of `cat` where its words are its operands
abbrev pub cat_rows : NameList → NameList → NameList → NameList → List Text → List Row
cat_rows kinds others more shown words = finished (cat_leaf kinds others more shown).rules (fold (taken (cat_leaf kinds others more shown).rules) (walk_from nothing_held) words).held

stops_at_cat : (kinds others more shown : NameList) (kind image slot : Text)
    → (walk (built (desk_app kinds others more shown)).top.rules (names_of (built (desk_app kinds others more shown))) nothing_held (cat_words kind image slot)).stopped
    ≡ Some (codes "cat", kind ∷ image ∷ slot ∷ [])
unfolding clap_on_literals
stops_at_cat kinds others more shown kind image slot = refl

cat_level : (kinds others more shown : NameList) (words : List Text)
    → entered_passes (built (desk_app kinds others more shown)) (Some (codes "cat", words)) ≡ level_passes (cat_leaf kinds others more shown) [] nothing_held words false
cat_level kinds others more shown words = refl

top_passes : (kinds others more shown : NameList) (kind image slot : Text)
    → level_passes (built (desk_app kinds others more shown)).top (names_of (built (desk_app kinds others more shown))) nothing_held (cat_words kind image slot) true ≡ true
unfolding clap_on_literals
top_passes kinds others more shown kind image slot = refl

operands_pass : (kinds others more shown : NameList) (kind image slot : Text) → accepts false (Names kinds) kind ≡ true
    → accepts false (Signed (pos 0) (pos 9999)) slot ≡ true → values_pass_level (cat_leaf kinds others more shown) (kind ∷ image ∷ slot ∷ []) ≡ true
unfolding clap_on_literals
operands_pass kinds others more shown kind image slot kind_passes slot_passes = rw (kind_passes, slot_passes) refl

takes_operands : (kinds others more shown : NameList) (kind image slot : Text) → ArePlain (kind ∷ image ∷ slot ∷ [])
    → accepts false (Names kinds) kind ≡ true → accepts false (Signed (pos 0) (pos 9999)) slot ≡ true
    → takes (desk_app kinds others more shown) (cat_words kind image slot) ≡ true
takes_operands kinds others more shown kind image slot plain kind_passes slot_passes =
    let desk = built (desk_app kinds others more shown) in
    let words = cat_words kind image slot in
    ap (λ stop. entered_passes desk stop && level_passes desk.top (names_of desk) nothing_held words (is_some (entered desk stop))) (stops_at_cat kinds others more shown kind image slot)
    ∙ ap₂ (λ (below here : Bool). below && here)
    (cat_level kinds others more shown (kind ∷ image ∷ slot ∷ []) ∙ level_passes-plain (cat_leaf kinds others more shown) (kind ∷ image ∷ slot ∷ []) plain ∙ operands_pass kinds others more shown kind image slot kind_passes slot_passes)
    (top_passes kinds others more shown kind image slot)

enters_cat : (kinds others more shown : NameList) (kind image slot : Text)
    → subcommand_of (desk_app kinds others more shown) (cat_words kind image slot) ≡ Some (codes "cat", rows_after (cat_leaf kinds others more shown).rules [] (kind ∷ image ∷ slot ∷ []))
unfolding clap_on_literals
enters_cat kinds others more shown kind image slot = refl

kind_row : (kinds others more shown : NameList) (kind image slot : Text) → first_of (codes "KIND") (cat_rows kinds others more shown (kind ∷ image ∷ slot ∷ [])) ≡ Some kind
unfolding clap_on_literals
kind_row kinds others more shown kind image slot = refl

image_row : (kinds others more shown : NameList) (kind image slot : Text) → first_of (codes "IMAGE") (cat_rows kinds others more shown (kind ∷ image ∷ slot ∷ [])) ≡ Some image
unfolding clap_on_literals
image_row kinds others more shown kind image slot = refl

slot_row : (kinds others more shown : NameList) (kind image slot : Text) → one_of (codes "SLOT") (cat_rows kinds others more shown (kind ∷ image ∷ slot ∷ [])) ≡ Some (without_minus slot)
unfolding clap_on_literals
slot_row kinds others more shown kind image slot = refl

words_plain : (kind : Kind) (image slot : Text) (n : ℕ) → IsOperand image → IsSlotText slot n → ArePlain (word_of kind ∷ image ∷ slot ∷ [])
words_plain kind image slot n operand number = (kind_plain kind, (operand_plain image operand, ((slot_text slot n number).plain, tt)))

-- a parse of a command fails for want of memory alone
pub takes_cat : (app : App) (words : List Text) (kind : Kind) (image : Text) (slot : ℕ) → IsDeskApp app → AsksCat words kind image slot → takes app words ≡ true
takes_cat app words kind image slot desk asks =
    ap₂ takes desk.is asks.spelled
    ∙ takes_operands desk.cat_kinds desk.list_kinds desk.files_kinds desk.shown (word_of kind) image asks.slot_text (words_plain kind image asks.slot_text slot asks.operand asks.number)
    (kind_accepted desk.cat_kinds kind desk.cat_names) (slot_accepted asks.slot_text slot asks.number)

-- a parse of a command enters `cat`, with the command's operands
pub gives_cat : (app : App) (words : List Text) (kind : Kind) (image : Text) (slot : ℕ) → IsDeskApp app → AsksCat words kind image slot
    → EntersCat (subcommand_of app words) kind image slot
gives_cat app words kind image slot desk asks =
    let plain = words_plain kind image asks.slot_text slot asks.operand asks.number in
    let operands = word_of kind ∷ image ∷ asks.slot_text ∷ [] in
    record {
      rows = cat_rows desk.cat_kinds desk.list_kinds desk.files_kinds desk.shown operands;
      into = ap₂ subcommand_of desk.is asks.spelled ∙ enters_cat desk.cat_kinds desk.list_kinds desk.files_kinds desk.shown (word_of kind) image asks.slot_text
          ∙ ap (λ (rows : List Row). Some (codes "cat", rows)) (rows_after-plain (cat_leaf desk.cat_kinds desk.list_kinds desk.files_kinds desk.shown).rules operands plain);
      found = record {
        kind_found = kind_row desk.cat_kinds desk.list_kinds desk.files_kinds desk.shown (word_of kind) image asks.slot_text;
        image_found = image_row desk.cat_kinds desk.list_kinds desk.files_kinds desk.shown (word_of kind) image asks.slot_text;
        slot_text = asks.slot_text;
        slot_found = slot_row desk.cat_kinds desk.list_kinds desk.files_kinds desk.shown (word_of kind) image asks.slot_text ∙ ap Some (slot_text asks.slot_text slot asks.number).whole;
        number = asks.number;
      };
    }
