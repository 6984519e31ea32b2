-- By the command line of one command alone, `clap` makes of words that begin with its name what it makes of them by the
-- whole one: it stops at the name, and goes into the same command with the same words.
use Rattle.std.proofs.Common.{◌≡◌, ◌∙◌, ◌&&◌, Bool, List, [], ◌∷◌, ◌++◌, Option, Some, ap, ap₂, codes, fold, inl, inr, is_some, map, option_map, refl, subst, sym, true, false}
use Rattle.std.specs.Prelude.{IfSome, drop, find, if◌then◌else◌, slice_get}
use Rattle.std.specs.Borrow.{Bor}
use Rattle.std.specs.List.{list_all}
use Rattle.std.specs.Option.{option_map_or}
use Rattle.clap.specs.Faults.{built_fault, check_fault, defaults_fault, entered_fault, level_fault, settle_fault, turn_fault, walk_fault}
use Rattle.clap.specs.Kinds.{Kinds, or_else}
use Rattle.clap.specs.Simple.{App, Shape, argument_words, built, built_leaf, entered, inherited, is_simple, label_of, matches_of, names_of, rows_at, subcommand_of, with_subcommand}
use Rattle.clap.specs.Takes.{built_takes, default_passes, entered_passes, is_valid, level_passes, settle_passes, takes, turn_passes, walk_passes}
use Rattle.clap.specs.Walk.{Names, Text, Walk, answers_to, finished, nothing_held, settled, walk, walk_from, walked}
use Rattle.clap.specs.Words.{HasKind, HasMatchesOf, fault_of, is_simple_and_free}
use Rattle.clap.specs.declared.error.Error.{Error}
use Rattle.clap.specs.declared.parser.matches.ArgMatches.{ArgMatches}
use Rattle.clap.proofs.FaultLemmas.{stopped_fault}
use Rattle.clap.proofs.OnLiterals.{clap_on_literals}
use Rattle.clap.proofs.WalkLemmas.{walk_stopped}
use Rattle.rd_geometry.specs.Kinds.{word_of}
use Rattle.rd_protocol.specs.Parts.{all_kinds}
use Rattle.rd_commands.specs.CommandLine.{AreKindNames, AreWhatNames, IsDeskApp, NameList, bare_app, cat_app, check_app, copy_app, desk_app, export_app, files_app, import_app, init_app, list_app, serve_app, show_app, staff_key_app, what_words}
use Rattle.rd_commands.specs.OneCommand.{IsNamed, ReadsAlike, ReadsAsDesk}

-- ---- a walk that stops at its first word

-- the walk has met a command, and passes over the words after it
abbrev into : Text → List Text → Walk
into name rest = record (walk_from nothing_held) { stopped = Some (name, rest) }

-- The first word is the name of a command of a command line that is built.
record Meets (a : App) (name : Text) (leaf : Shape) : Type 0 where
  pub step : walked a.top.rules (names_of a) (walk_from nothing_held) name ≡ into name []
  pub fault : turn_fault a.top (names_of a) (walk_from nothing_held) name ≡ []
  pub passes : turn_passes a.top (names_of a) (walk_from nothing_held) name ≡ true
  pub found : find (λ s. answers_to name (label_of s)) a.subs ≡ Some leaf

walk_is : (a : App) (name : Text) (leaf : Shape) (rest : List Text) → Meets a name leaf
    → walk a.top.rules (names_of a) nothing_held (name ∷ rest) ≡ into name rest
walk_is a name leaf rest meets =
    ap (λ w. fold (walked a.top.rules (names_of a)) w rest) meets.step
    ∙ sym (walk_stopped a.top.rules (names_of a) (walk_from nothing_held) name [] rest)

no_walk_fault : (a : App) (name : Text) (leaf : Shape) (rest : List Text) → Meets a name leaf
    → walk_fault a.top (names_of a) (walk_from nothing_held) (name ∷ rest) ≡ []
unfolding walk_fault
no_walk_fault a name leaf rest meets =
    ap₂ or_else meets.fault
    (ap (λ w. walk_fault a.top (names_of a) w rest) meets.step ∙ stopped_fault a.top (names_of a) (walk_from nothing_held) (name, []) rest)

stopped_passes : (s : Shape) (names : Names) (w : Walk) (p : Text × List Text) (words : List Text) → walk_passes s names (record w { stopped = Some p }) words ≡ true
unfolding walked walk_passes
stopped_passes s names w p [] = refl
stopped_passes s names w p (x ∷ xs) = stopped_passes s names w (p.0, p.1 ++ x ∷ []) xs

walk_passes_on : (a : App) (name : Text) (leaf : Shape) (rest : List Text) → Meets a name leaf
    → walk_passes a.top (names_of a) (walk_from nothing_held) (name ∷ rest) ≡ true
unfolding walk_passes
walk_passes_on a name leaf rest meets =
    ap₂ (λ (here after : Bool). here && after) meets.passes
    (ap (λ w. walk_passes a.top (names_of a) w rest) meets.step ∙ stopped_passes a.top (names_of a) (walk_from nothing_held) (name, []) rest)

-- ---- what is found and refused there

-- the faults of a level whose walk ended so, with those of the words before and of the command below
abbrev faults_at : Shape → Walk → Kinds → Bool → Kinds → Kinds
faults_at top w before has below =
    or_else before (or_else below (or_else (settle_fault top.rules top.args_override_self w.held)
    (or_else (defaults_fault (settled top.rules w.held).rows top.rules) (check_fault top (finished top.rules w.held) has))))

built_faults : (a : App) (name : Text) (leaf : Shape) (rest : List Text) → Meets a name leaf
    → built_fault a nothing_held (name ∷ rest) ≡ faults_at a.top (into name rest) [] true (level_fault leaf [] nothing_held rest false [])
built_faults a name leaf rest meets =
    ap₂ (λ (w : Walk) (before : Kinds). faults_at a.top w before (is_some (entered a w.stopped)) (entered_fault a w.stopped))
    (walk_is a name leaf rest meets) (no_walk_fault a name leaf rest meets)
    ∙ ap (λ (found : Option Shape). faults_at a.top (into name rest) [] (is_some (option_map (λ s. rows_at s rest) found))
    (option_map_or (λ s. level_fault s [] nothing_held rest false []) found [])) meets.found

-- a level whose walk ended so passes
abbrev passes_at : Shape → Walk → Bool → Bool → Bool
passes_at top w walked_on has =
    walked_on && (settle_passes top.rules top.args_override_self w.held
    && (list_all default_passes top.rules && is_valid top (finished top.rules w.held) has))

built_passes : (a : App) (name : Text) (leaf : Shape) (rest : List Text) → Meets a name leaf
    → built_takes a nothing_held (name ∷ rest) ≡ (level_passes leaf [] nothing_held rest false && passes_at a.top (into name rest) true true)
built_passes a name leaf rest meets =
    ap₂ (λ (w : Walk) (walked_on : Bool). entered_passes a w.stopped && passes_at a.top w walked_on (is_some (entered a w.stopped)))
    (walk_is a name leaf rest meets) (walk_passes_on a name leaf rest meets)
    ∙ ap (λ (found : Option Shape). option_map_or (λ s. level_passes s [] nothing_held rest false) found true
    && passes_at a.top (into name rest) true (is_some (option_map (λ s. rows_at s rest) found))) meets.found

built_rows : (a : App) (name : Text) (leaf : Shape) (rest : List Text) → Meets a name leaf
    → entered a (walk a.top.rules (names_of a) nothing_held (name ∷ rest)).stopped ≡ Some (rows_at leaf rest)
built_rows a name leaf rest meets =
    ap (λ (w : Walk). entered a w.stopped) (walk_is a name leaf rest meets) ∙ ap (option_map (λ s. rows_at s rest)) meets.found

-- ---- two command lines

-- A command line as it is described, which is built with this at its top.
record IsPlain (app : App) (top : Shape) : Type 0 where
  pub simple : is_simple app ≡ true
  pub free : is_simple_and_free app ≡ true
  pub bare : app.top.no_binary_name ≡ true
  pub same_top : (built app).top ≡ top

words_are : (app : App) (words : List Text) → app.top.no_binary_name ≡ true → argument_words app words ≡ words
words_are app words bare = ap (λ (b : Bool). if b then words else drop 1 words) bare

own_rows : (app : App) (name : Text) (top leaf : Shape) (rest : List Text) → IsPlain app top → Meets (built app) name leaf
    → matches_of app (name ∷ rest) ≡ finished top.rules nothing_held
own_rows app name top leaf rest plain meets =
    ap (λ words. finished (built app).top.rules (walk (built app).top.rules (names_of (built app)) nothing_held words).held) (words_are app (name ∷ rest) plain.bare)
    ∙ ap (λ (w : Walk). finished (built app).top.rules w.held) (walk_is (built app) name leaf rest meets)
    ∙ ap (λ (s : Shape). finished s.rules nothing_held) plain.same_top

command_rows : (app : App) (name : Text) (top leaf : Shape) (rest : List Text) → IsPlain app top → Meets (built app) name leaf
    → subcommand_of app (name ∷ rest) ≡ Some (rows_at leaf rest)
command_rows app name top leaf rest plain meets =
    ap (λ words. entered (built app) (walk (built app).top.rules (names_of (built app)) nothing_held words).stopped) (words_are app (name ∷ rest) plain.bare)
    ∙ built_rows (built app) name leaf rest meets

all_passes : (app : App) (name : Text) (top leaf : Shape) (rest : List Text) → IsPlain app top → Meets (built app) name leaf
    → takes app (name ∷ rest) ≡ (level_passes leaf [] nothing_held rest false && passes_at top (into name rest) true true)
all_passes app name top leaf rest plain meets =
    ap₂ (λ (b : Bool) (words : List Text). b && built_takes (built app) nothing_held words) plain.simple (words_are app (name ∷ rest) plain.bare)
    ∙ built_passes (built app) name leaf rest meets
    ∙ ap (λ (s : Shape). level_passes leaf [] nothing_held rest false && passes_at s (into name rest) true true) plain.same_top

all_faults : (app : App) (name : Text) (top leaf : Shape) (rest : List Text) → IsPlain app top → Meets (built app) name leaf
    → fault_of app (name ∷ rest) ≡ faults_at top (into name rest) [] true (level_fault leaf [] nothing_held rest false [])
all_faults app name top leaf rest plain meets =
    ap (built_fault (built app) nothing_held) (words_are app (name ∷ rest) plain.bare)
    ∙ built_faults (built app) name leaf rest meets
    ∙ ap (λ (s : Shape). faults_at s (into name rest) [] true (level_fault leaf [] nothing_held rest false [])) plain.same_top

alike : (app whole : App) (name : Text) (top leaf : Shape) (rest : List Text) → IsPlain app top → Meets (built app) name leaf → IsPlain whole top → Meets (built whole) name leaf
    → ReadsAlike app whole (name ∷ rest)
alike app whole name top leaf rest one first all among = record {
  simple = one.simple ∙ sym all.simple;
  free = one.free ∙ sym all.free;
  own = own_rows app name top leaf rest one first ∙ sym (own_rows whole name top leaf rest all among);
  command = command_rows app name top leaf rest one first ∙ sym (command_rows whole name top leaf rest all among);
  taken = all_passes app name top leaf rest one first ∙ sym (all_passes whole name top leaf rest all among);
  faults = all_faults app name top leaf rest one first ∙ sym (all_faults whole name top leaf rest all among);
}

-- a command line reads as itself
pub itself : (app : App) (words : List Text) → IsDeskApp app → ReadsAsDesk app words
itself app words desk = record {
  whole = app;
  is_desk = desk;
  alike = record { simple = refl; free = refl; own = refl; command = refl; taken = refl; faults = refl };
}

-- ---- the commands of the program

-- a text, and texts, behind references
abbrev behind : Text → Bor Text
behind text = record { now = text; ref_ptr = (0, 0) }

abbrev named : List Text → NameList
named words = record { now = map behind words; ref_ptr = (0, 0) }

kinds_named : AreKindNames (named (map word_of all_kinds))
kinds_named = refl

shown_named : AreWhatNames (named what_words)
shown_named = refl

-- the program with one command
abbrev only : App → App
only app = with_subcommand bare_app app.top

-- the program with all of them
abbrev whole : NameList → NameList → App
whole kinds shown = desk_app kinds kinds kinds shown

-- a command as it is built in the program
abbrev leaf_of : App → Shape
leaf_of app = built_leaf (inherited (only app).top app.top)

desk_is : (kinds shown : NameList) → AreKindNames kinds → AreWhatNames shown → IsDeskApp (whole kinds shown)
desk_is kinds shown are_kinds are_shown = record {
  cat_kinds = kinds;
  list_kinds = kinds;
  files_kinds = kinds;
  shown = shown;
  cat_names = are_kinds;
  list_names = are_kinds;
  files_names = are_kinds;
  shown_names = are_shown;
  is = refl;
}

-- what the program has at its top, with one command as with all
abbrev top_built : Shape
top_built = (built (only init_app)).top

whole_plain : (kinds shown : NameList) → IsPlain (whole kinds shown) top_built
whole_plain kinds shown = record { simple = refl; free = refl; bare = refl; same_top = refl }

cat_plain : (k s : NameList) → IsPlain (only (cat_app k)) top_built
cat_plain k s = record { simple = refl; free = refl; bare = refl; same_top = refl }

cat_alone : (k s : NameList) → Meets (built (only (cat_app k))) (codes "cat") (leaf_of (cat_app k))
unfolding clap_on_literals
cat_alone k s = record { step = refl; fault = refl; passes = refl; found = refl }

cat_among : (k s : NameList) → Meets (built (whole k s)) (codes "cat") (leaf_of (cat_app k))
unfolding clap_on_literals
cat_among k s = record { step = refl; fault = refl; passes = refl; found = refl }

list_plain : (k s : NameList) → IsPlain (only (list_app k)) top_built
list_plain k s = record { simple = refl; free = refl; bare = refl; same_top = refl }

list_alone : (k s : NameList) → Meets (built (only (list_app k))) (codes "list") (leaf_of (list_app k))
unfolding clap_on_literals
list_alone k s = record { step = refl; fault = refl; passes = refl; found = refl }

list_among : (k s : NameList) → Meets (built (whole k s)) (codes "list") (leaf_of (list_app k))
unfolding clap_on_literals
list_among k s = record { step = refl; fault = refl; passes = refl; found = refl }

files_plain : (k s : NameList) → IsPlain (only (files_app k)) top_built
files_plain k s = record { simple = refl; free = refl; bare = refl; same_top = refl }

files_alone : (k s : NameList) → Meets (built (only (files_app k))) (codes "files") (leaf_of (files_app k))
unfolding clap_on_literals
files_alone k s = record { step = refl; fault = refl; passes = refl; found = refl }

files_among : (k s : NameList) → Meets (built (whole k s)) (codes "files") (leaf_of (files_app k))
unfolding clap_on_literals
files_among k s = record { step = refl; fault = refl; passes = refl; found = refl }

init_plain : (k s : NameList) → IsPlain (only init_app) top_built
init_plain k s = record { simple = refl; free = refl; bare = refl; same_top = refl }

init_alone : (k s : NameList) → Meets (built (only init_app)) (codes "init") (leaf_of init_app)
unfolding clap_on_literals
init_alone k s = record { step = refl; fault = refl; passes = refl; found = refl }

init_among : (k s : NameList) → Meets (built (whole k s)) (codes "init") (leaf_of init_app)
unfolding clap_on_literals
init_among k s = record { step = refl; fault = refl; passes = refl; found = refl }

serve_plain : (k s : NameList) → IsPlain (only serve_app) top_built
serve_plain k s = record { simple = refl; free = refl; bare = refl; same_top = refl }

serve_alone : (k s : NameList) → Meets (built (only serve_app)) (codes "serve") (leaf_of serve_app)
unfolding clap_on_literals
serve_alone k s = record { step = refl; fault = refl; passes = refl; found = refl }

serve_among : (k s : NameList) → Meets (built (whole k s)) (codes "serve") (leaf_of serve_app)
unfolding clap_on_literals
serve_among k s = record { step = refl; fault = refl; passes = refl; found = refl }

import_plain : (k s : NameList) → IsPlain (only import_app) top_built
import_plain k s = record { simple = refl; free = refl; bare = refl; same_top = refl }

import_alone : (k s : NameList) → Meets (built (only import_app)) (codes "import") (leaf_of import_app)
unfolding clap_on_literals
import_alone k s = record { step = refl; fault = refl; passes = refl; found = refl }

import_among : (k s : NameList) → Meets (built (whole k s)) (codes "import") (leaf_of import_app)
unfolding clap_on_literals
import_among k s = record { step = refl; fault = refl; passes = refl; found = refl }

export_plain : (k s : NameList) → IsPlain (only export_app) top_built
export_plain k s = record { simple = refl; free = refl; bare = refl; same_top = refl }

export_alone : (k s : NameList) → Meets (built (only export_app)) (codes "export") (leaf_of export_app)
unfolding clap_on_literals
export_alone k s = record { step = refl; fault = refl; passes = refl; found = refl }

export_among : (k s : NameList) → Meets (built (whole k s)) (codes "export") (leaf_of export_app)
unfolding clap_on_literals
export_among k s = record { step = refl; fault = refl; passes = refl; found = refl }

check_plain : (k s : NameList) → IsPlain (only check_app) top_built
check_plain k s = record { simple = refl; free = refl; bare = refl; same_top = refl }

check_alone : (k s : NameList) → Meets (built (only check_app)) (codes "check") (leaf_of check_app)
unfolding clap_on_literals
check_alone k s = record { step = refl; fault = refl; passes = refl; found = refl }

check_among : (k s : NameList) → Meets (built (whole k s)) (codes "check") (leaf_of check_app)
unfolding clap_on_literals
check_among k s = record { step = refl; fault = refl; passes = refl; found = refl }

show_plain : (k s : NameList) → IsPlain (only (show_app s)) top_built
show_plain k s = record { simple = refl; free = refl; bare = refl; same_top = refl }

show_alone : (k s : NameList) → Meets (built (only (show_app s))) (codes "show") (leaf_of (show_app s))
unfolding clap_on_literals
show_alone k s = record { step = refl; fault = refl; passes = refl; found = refl }

show_among : (k s : NameList) → Meets (built (whole k s)) (codes "show") (leaf_of (show_app s))
unfolding clap_on_literals
show_among k s = record { step = refl; fault = refl; passes = refl; found = refl }

staff_key_plain : (k s : NameList) → IsPlain (only staff_key_app) top_built
staff_key_plain k s = record { simple = refl; free = refl; bare = refl; same_top = refl }

staff_key_alone : (k s : NameList) → Meets (built (only staff_key_app)) (codes "staff-key") (leaf_of staff_key_app)
unfolding clap_on_literals
staff_key_alone k s = record { step = refl; fault = refl; passes = refl; found = refl }

staff_key_among : (k s : NameList) → Meets (built (whole k s)) (codes "staff-key") (leaf_of staff_key_app)
unfolding clap_on_literals
staff_key_among k s = record { step = refl; fault = refl; passes = refl; found = refl }

copy_plain : (k s : NameList) → IsPlain (only copy_app) top_built
copy_plain k s = record { simple = refl; free = refl; bare = refl; same_top = refl }

copy_alone : (k s : NameList) → Meets (built (only copy_app)) (codes "copy") (leaf_of copy_app)
unfolding clap_on_literals
copy_alone k s = record { step = refl; fault = refl; passes = refl; found = refl }

copy_among : (k s : NameList) → Meets (built (whole k s)) (codes "copy") (leaf_of copy_app)
unfolding clap_on_literals
copy_among k s = record { step = refl; fault = refl; passes = refl; found = refl }

-- so it reads as the program does
reads : (app : App) (k s : NameList) (name : Text) (rest : List Text) → AreKindNames k → AreWhatNames s → IsPlain (only app) top_built
    → Meets (built (only app)) name (leaf_of app) → Meets (built (whole k s)) name (leaf_of app) → ReadsAsDesk (only app) (name ∷ rest)
reads app k s name rest kinds shown plain alone among = record {
  whole = whole k s;
  is_desk = desk_is k s kinds shown;
  alike = alike (only app) (whole k s) name top_built (leaf_of app) rest plain alone (whole_plain k s) among;
}

-- where a command has this name
as_named : (name word : Text) (app given : App) (rest : List Text) → name ≡ word → given ≡ app → ReadsAsDesk (only app) (word ∷ rest)
    → ReadsAsDesk (only given) (name ∷ rest)
as_named name word app given rest spelled is like =
    subst (λ n. ReadsAsDesk (only given) (n ∷ rest)) (sym spelled) (subst (λ a. ReadsAsDesk (only a) (word ∷ rest)) (sym is) like)

pub one_reads : (name : Text) (app : App) (rest : List Text) → IsNamed name app → ReadsAsDesk (only app) (name ∷ rest)
one_reads name app rest (inl cat) =
    as_named name (codes "cat") (cat_app cat.1.0) app rest cat.0 cat.1.2
    (reads (cat_app cat.1.0) cat.1.0 (named what_words) (codes "cat") rest cat.1.1 shown_named (cat_plain cat.1.0 (named what_words)) (cat_alone cat.1.0 (named what_words)) (cat_among cat.1.0 (named what_words)))
one_reads name app rest (inr (inl list)) =
    as_named name (codes "list") (list_app list.1.0) app rest list.0 list.1.2
    (reads (list_app list.1.0) list.1.0 (named what_words) (codes "list") rest list.1.1 shown_named (list_plain list.1.0 (named what_words)) (list_alone list.1.0 (named what_words)) (list_among list.1.0 (named what_words)))
one_reads name app rest (inr (inr (inl files))) =
    as_named name (codes "files") (files_app files.1.0) app rest files.0 files.1.2
    (reads (files_app files.1.0) files.1.0 (named what_words) (codes "files") rest files.1.1 shown_named (files_plain files.1.0 (named what_words)) (files_alone files.1.0 (named what_words)) (files_among files.1.0 (named what_words)))
one_reads name app rest (inr (inr (inr (inl init)))) =
    as_named name (codes "init") init_app app rest init.0 init.1
    (reads init_app (named (map word_of all_kinds)) (named what_words) (codes "init") rest kinds_named shown_named (init_plain (named (map word_of all_kinds)) (named what_words)) (init_alone (named (map word_of all_kinds)) (named what_words)) (init_among (named (map word_of all_kinds)) (named what_words)))
one_reads name app rest (inr (inr (inr (inr (inl serve))))) =
    as_named name (codes "serve") serve_app app rest serve.0 serve.1
    (reads serve_app (named (map word_of all_kinds)) (named what_words) (codes "serve") rest kinds_named shown_named (serve_plain (named (map word_of all_kinds)) (named what_words)) (serve_alone (named (map word_of all_kinds)) (named what_words)) (serve_among (named (map word_of all_kinds)) (named what_words)))
one_reads name app rest (inr (inr (inr (inr (inr (inl import)))))) =
    as_named name (codes "import") import_app app rest import.0 import.1
    (reads import_app (named (map word_of all_kinds)) (named what_words) (codes "import") rest kinds_named shown_named (import_plain (named (map word_of all_kinds)) (named what_words)) (import_alone (named (map word_of all_kinds)) (named what_words)) (import_among (named (map word_of all_kinds)) (named what_words)))
one_reads name app rest (inr (inr (inr (inr (inr (inr (inl export))))))) =
    as_named name (codes "export") export_app app rest export.0 export.1
    (reads export_app (named (map word_of all_kinds)) (named what_words) (codes "export") rest kinds_named shown_named (export_plain (named (map word_of all_kinds)) (named what_words)) (export_alone (named (map word_of all_kinds)) (named what_words)) (export_among (named (map word_of all_kinds)) (named what_words)))
one_reads name app rest (inr (inr (inr (inr (inr (inr (inr (inl check)))))))) =
    as_named name (codes "check") check_app app rest check.0 check.1
    (reads check_app (named (map word_of all_kinds)) (named what_words) (codes "check") rest kinds_named shown_named (check_plain (named (map word_of all_kinds)) (named what_words)) (check_alone (named (map word_of all_kinds)) (named what_words)) (check_among (named (map word_of all_kinds)) (named what_words)))
one_reads name app rest (inr (inr (inr (inr (inr (inr (inr (inr (inl show))))))))) =
    as_named name (codes "show") (show_app show.1.0) app rest show.0 show.1.2
    (reads (show_app show.1.0) (named (map word_of all_kinds)) show.1.0 (codes "show") rest kinds_named show.1.1 (show_plain (named (map word_of all_kinds)) show.1.0) (show_alone (named (map word_of all_kinds)) show.1.0) (show_among (named (map word_of all_kinds)) show.1.0))
one_reads name app rest (inr (inr (inr (inr (inr (inr (inr (inr (inr (inl staff_key)))))))))) =
    as_named name (codes "staff-key") staff_key_app app rest staff_key.0 staff_key.1
    (reads staff_key_app (named (map word_of all_kinds)) (named what_words) (codes "staff-key") rest kinds_named shown_named (staff_key_plain (named (map word_of all_kinds)) (named what_words)) (staff_key_alone (named (map word_of all_kinds)) (named what_words)) (staff_key_among (named (map word_of all_kinds)) (named what_words)))
one_reads name app rest (inr (inr (inr (inr (inr (inr (inr (inr (inr (inr copy)))))))))) =
    as_named name (codes "copy") copy_app app rest copy.0 copy.1
    (reads copy_app (named (map word_of all_kinds)) (named what_words) (codes "copy") rest kinds_named shown_named (copy_plain (named (map word_of all_kinds)) (named what_words)) (copy_alone (named (map word_of all_kinds)) (named what_words)) (copy_among (named (map word_of all_kinds)) (named what_words)))

-- ---- the first of the words

pub first_text : (words : List (Bor Text)) (word : Bor Text) → Some word ≡ slice_get words 0
    → (rest : List Text) × (map (λ w. w.now) words ≡ word.now ∷ rest)
first_text [] word is = absurd (cc is)
first_text (w ∷ ws) word is =
    let same : word ≡ w = cc is in
    (map (λ w. w.now) ws, ap (λ (x : Bor Text). x.now ∷ map (λ w. w.now) ws) (sym same))

pub of_some : {A : Type 0} (P : A → Type 0) (found : Option A) (value : A) → found ≡ Some value → IfSome found P → P value
of_some P found value is holds = subst (λ o. IfSome o P) is holds

-- ---- what a parse gives

pub gives_matches : (app : App) (words : List Text) (m : ArgMatches) (like : ReadsAsDesk app words) → HasMatchesOf app words m → HasMatchesOf like.whole words m
gives_matches app words m like given = λ simple.
    let found = given (like.alike.simple ∙ simple) in
    (found.0 ∙ like.alike.own, found.1 ∙ like.alike.command)

pub gives_no_fault : (app : App) (words : List Text) (like : ReadsAsDesk app words) → (is_simple_and_free app ≡ true → fault_of app words ≡ [])
    → is_simple_and_free like.whole ≡ true → fault_of like.whole words ≡ []
gives_no_fault app words like none = λ free. sym like.alike.faults ∙ none (like.alike.free ∙ free)

pub gives_kind : (app : App) (words : List Text) (error : Error) (like : ReadsAsDesk app words) → (is_simple_and_free app ≡ true → HasKind (fault_of app words) error)
    → is_simple_and_free like.whole ≡ true → HasKind (fault_of like.whole words) error
gives_kind app words error like has = λ free. subst (λ kinds. HasKind kinds error) like.alike.faults (has (like.alike.free ∙ free))

pub gives_memory : (app : App) (words : List Text) (P : Type 0) (like : ReadsAsDesk app words) → (takes app words ≡ true → P) → takes like.whole words ≡ true → P
gives_memory app words P like out = λ taken. out (like.alike.taken ∙ taken)
