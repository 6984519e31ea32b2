-- What `run` promises of any words, beside what their command does. `result` is the status. The output has had `out` before
-- and has `written` after, and the errors `errors` and `reported`.
use Rattle.std.specs.Prelude.{◌≡◌, ◌≢◌, ◌⊎◌, ◌≤◌, ◌+◌, ⊤, ℕ, Bool, List, Option, codes, map}
use Rattle.std.specs.Borrow.{Bor}
use Rattle.std.specs.Io.KnownBytes.{Appends, Keeps}
use Rattle.sqlite.specs.Held.{Held}
use Rattle.rd_geometry.specs.Kinds.{size_of}
use Rattle.rd_geometry.specs.declared.kind.Kind.{Kind}
use Rattle.rd_geometry.specs.declared.kind.Kind.TheVariants.{Cpm8}
use Rattle.rd_commands.specs.CommonOptions.{FitsTogether, IsTakenApart}
use Rattle.rd_commands.specs.CommandLine.{AsksForHelp, AsksForVersion, IsTaken, IsTakenAs, IsTakenTelling}
use Rattle.rd_commands.specs.Commands.{AsksOfStore, IsCommand, IsTakenServingNowhere, IsTakenShowingNothing, NamesAPlace, NamesWhatItShows, TellsARule}
use Rattle.rd_commands.specs.Input.{ReadsUpTo}
use Rattle.rd_commands.specs.Helps.{RefusesHelp, help_for}
use Rattle.rd_commands.specs.Mistakes.{day_mistake, place_mistake, zone_mistake}
use Rattle.rd_commands.specs.Output.{AppendsPart, IsFlushed}
use Rattle.rd_commands.specs.RefusalLines.{Tells}
use Rattle.rd_commands.specs.Versions.{RefusesVersion, version_line}
use Rattle.rd_commands.specs.Words.{AsksHelp, AsksOfKind, AsksVersion}
use Rattle.rd_commands.specs.declared.help.TheConstants.{DESK_HELP}
use Rattle.rd_commands.specs.declared.refusal.Refusal.TheVariants.{NoMemory}
use Rattle.rd_program.specs.Leaves.{GivesBack}

-- the words, behind their references
abbrev pub texts : List (Bor (List ℕ)) → List (List ℕ)
texts words = map (λ word. word.now) words

-- ---- of any words

-- the words are a mistake, or memory ran out
abbrev pub EndsAsMistake : ℕ → Option (List ℕ) → Option (List ℕ) → Type 0
EndsAsMistake result errors reported = (result ≡ 2) ⊎ Tells (λ refusal. refusal ≡ NoMemory) result errors reported

-- the words are a mistake, of which the errors get no more than this text; or memory ran out
abbrev pub EndsSaying : List ℕ → ℕ → Option (List ℕ) → Option (List ℕ) → Type 0
EndsSaying text result errors reported = ((result ≡ 2) × AppendsPart errors reported text) ⊎ Tells (λ refusal. refusal ≡ NoMemory) result errors reported

-- the words are a mistake, or ask for help or the version, or memory ran out
abbrev pub EndsUnparsed : List (List ℕ) → ℕ → Option (List ℕ) → Option (List ℕ) → Type 0
EndsUnparsed words result errors reported =
    (result ≡ 2) ⊎ (AsksForHelp words ⊎ (AsksForVersion words ⊎ Tells (λ refusal. refusal ≡ NoMemory) result errors reported))

-- At 0 and 1 the words are a command. At 0 they may also ask for help, or for the version, and then exactly the help that
-- they ask for is written, or the line of the version. At 0 and 1, a command that has clocks has a rule as the text of
-- `--zone`, or none; its options go together: a key where it needs one, no key and no rule in two places, and a moment
-- as the text of `--at`; `show` names what it shows, and a date where that needs one; and `serve` names no more than one
-- of a port and a Unix socket. If they do not, the words are a mistake, or memory ran out; and so it is with words that
-- are no command, unless they ask for help or the version. At 2 they are no plain form of `cat` or `list`, and no form of
-- another command in which no key and no rule for clocks is in a file, and no date stands in place of a moment. Of words
-- of `show` that name nothing, of words of `serve` that name two places, and of others without a rule whose options go
-- together the errors get no more than the text that says so.
pub record EndsByWords (words : List (List ℕ)) (result : ℕ) (out written errors reported : Option (List ℕ)) : Type 0 where
  pub command : result ≡ 0 → IsTaken words ⊎ (
      (AsksForHelp words × Appends out written (help_for words)) ⊎ (AsksForVersion words × Appends out written version_line))
  pub refused_command : result ≡ 1 → IsTaken words
  pub zone : result ≤ 1 → TellsARule words
  pub no_rule : ¬ TellsARule words → EndsAsMistake result errors reported
  pub no_rule_said : ¬ TellsARule words → ¬ IsTakenShowingNothing words → ¬ IsTakenServingNowhere words → ¬ IsTakenApart words → EndsSaying zone_mistake result errors reported
  pub together : result ≤ 1 → FitsTogether words
  pub apart : ¬ FitsTogether words → EndsAsMistake result errors reported
  pub named : result ≤ 1 → NamesWhatItShows words
  pub none_named : ¬ NamesWhatItShows words → EndsSaying day_mistake result errors reported
  pub place : result ≤ 1 → NamesAPlace words
  pub no_place : ¬ NamesAPlace words → EndsSaying place_mistake result errors reported
  pub mistake : ¬ IsTaken words → EndsUnparsed words result errors reported
  pub usage : result ≡ 2 → ¬ IsCommand words

-- At 0 the errors get nothing. At 1 and 3 they get at most the line of a refusal with this status, and nothing at 1 if
-- the output says which rows an `import` refused, or that a `check` found an image changed. At 1 only such a command, or
-- `files`, has written anything, and at 2 the output gets nothing. At 0, and where the errors get nothing at 1, all that
-- was written was flushed by the machine.
pub record WritesByStatus (words : List (List ℕ)) (result : ℕ) (flushed : Option (List ℕ) → Bool) (out written errors reported : Option (List ℕ)) : Type 0 where
  pub silent : result ≡ 0 → Keeps errors reported
  pub names_failure : result ≡ 3 → Tells (λ _. ⊤) result errors reported
  pub names_refusal : result ≡ 1 → Tells (λ _. ⊤) result errors reported ⊎ (Keeps errors reported × IsTakenTelling words × IsFlushed flushed out written)
  pub is_flushed : result ≡ 0 → IsFlushed flushed out written
  pub refused : result ≡ 1 → Keeps out written ⊎ (IsTakenTelling words ⊎ IsTakenAs (codes "files") words)
  pub usage_keeps : result ≡ 2 → Keeps out written

-- No more than one byte past an image is read, of the largest kind, and of the kind that the words name; and nothing by
-- a command on a store without an operand in a file.
pub record ReadsInput (words : List (List ℕ)) (input rest : Option (List ℕ)) : Type 0 where
  pub limit : ReadsUpTo (size_of Cpm8 + 1) input rest
  pub limit_of_store : AsksOfStore words → ReadsUpTo 0 input rest
  pub limit_of_kind : (kind : Kind) → AsksOfKind words kind → ReadsUpTo (size_of kind + 1) input rest

-- A machine that shows its connections, and had one, has one again, whatever the words ask for. The machine stays as it
-- was if the words are no command, as those that ask for help or the version, and at 2.
pub record KeepsMachine {S M : Type 0} (words : List (List ℕ)) (result : ℕ) (shows : Bool) (was left : Option (Held S)) (old new : M) : Type 0 where
  pub back : GivesBack shows was left
  pub untaken_untouched : ¬ IsTaken words → new ≡ old
  pub usage_untouched : result ≡ 2 → new ≡ old

-- Help, if the first word asks for it: at 0 exactly the help of the program is written, and otherwise the errors say why
-- not. The version, if the first word asks for it: at 0 exactly its line is written, and otherwise the errors say why not.
pub record TellsOfItself (words : List (List ℕ)) (result : ℕ) (out written errors reported : Option (List ℕ)) : Type 0 where
  pub help : result ≡ 0 → AsksHelp words → Appends out written DESK_HELP.now
  pub help_due : result ≢ 0 → AsksHelp words → Tells (RefusesHelp DESK_HELP.now out written) result errors reported
  pub version : result ≡ 0 → AsksVersion words → Appends out written version_line
  pub version_due : result ≢ 0 → AsksVersion words → Tells (RefusesVersion out written) result errors reported
