-- How `clap` walks over words that are operands and no flags, in a command that has no subcommand.
use Rattle.std.proofs.Common.{◌≡◌, ◌∙◌, ℕ, List, [], ◌∷◌, Option, Some, None, Bool, true, false, codes, refl, ap, ap₂, fold, ◌&&◌, ◌||◌, ◌==◌, if◌then◌else◌, is_some}
use Rattle.std.specs.Prelude.{⊤}
use Rattle.std.specs.List.{list_all}
use Rattle.std.specs.Str.{bytes_eq}
use Rattle.clap.specs.Lexer.{long_of, short_of}
use Rattle.clap.specs.Walk.{Rule, Text, Held, Walk, Waiting, Step, idle, option, positional, value, walked, walked_from, after_step, walk_from, word_met, to_positional, arg_by_index, is_multiple, subcommand_met, nothing_held, finished, rows_after}
use Rattle.clap.specs.Simple.{Shape}
use Rattle.clap.specs.Takes.{step_passes, other_passes, word_passes, turn_passes, walk_passes, level_passes, settle_passes, default_passes, is_valid}

-- what a word that is no flag looks like to the parser
pub record IsPlainWord (word : List ℕ) : Type 0 where
  pub long : long_of word ≡ None
  pub short : short_of word ≡ None
  pub not_dashes : bytes_eq word (45 ∷ 45 ∷ []) ≡ false

abbrev pub ArePlain : List (List ℕ) → Type 0
ArePlain [] = ⊤
ArePlain (word ∷ rest) = IsPlainWord word × ArePlain rest

pub hyphen_plain : IsPlainWord (codes "-")
hyphen_plain = record { long = refl; short = refl; not_dashes = refl }

pub empty_plain : IsPlainWord []
empty_plain = record { long = refl; short = refl; not_dashes = refl }

-- a word that begins with no hyphen
pub cons_plain : (c : ℕ) (rest : List ℕ) → (c == 45) ≡ false → IsPlainWord (c ∷ rest)
cons_plain c rest other = record {
  long = rw other refl;
  short = rw other refl;
  not_dashes = rw other refl;
}

-- no option waits for a value
abbrev pub TakesNoOption : Waiting → Type 0
TakesNoOption idle = ⊤
TakesNoOption positional = ⊤
TakesNoOption (option id) = ⊥

-- no subcommand was met and no option waits for a value
pub record IsOpen (w : Walk) : Type 0 where
  pub running : w.stopped ≡ None
  pub free : TakesNoOption w.waiting

-- the walk after a word that is a value
abbrev pub taken : List Rule → Walk → Text → Walk
taken c w word = to_positional c (arg_by_index c w.position) word w w.held

plain_met : (c : List Rule) (waiting : Waiting) (position : ℕ) (word : Text) (h : Held) → TakesNoOption waiting → IsPlainWord word
    → word_met c [] false waiting position word h ≡ (h, value)
plain_met c idle position word h free plain = rw (plain.not_dashes, plain.long, plain.short) refl
plain_met c positional position word h free plain = rw (plain.not_dashes, plain.long, plain.short) refl
plain_met c (option id) position word h free plain = absurd free

value_met : (c : List Rule) (w : Walk) (word : Text) → IsOpen w → IsPlainWord word
    → word_met c [] w.is_trailing w.waiting w.position word w.held ≡ (w.held, value)
value_met c w word is_open plain = go w.is_trailing
  where
    go : (b : Bool) → word_met c [] b w.waiting w.position word w.held ≡ (w.held, value)
    go true = refl
    go false = plain_met c w.waiting w.position word w.held is_open.free plain

walked-plain : (c : List Rule) (w : Walk) (word : Text) → IsOpen w → IsPlainWord word → walked c [] w word ≡ taken c w word
unfolding walked
walked-plain c w word is_open plain =
    ap (λ p. walked_from c [] p w word) is_open.running
    ∙ ap (λ (m : Held × Step). after_step c word w m.0 m.1) (value_met c w word is_open plain)

still_open : (c : List Rule) (w : Walk) (word : Text) → IsOpen w → IsOpen (taken c w word)
still_open c w word is_open = go (arg_by_index c w.position)
  where
    free_if : (b : Bool) → TakesNoOption (if b then positional else idle)
    free_if true = tt
    free_if false = tt

    go : (o : Option Rule) → IsOpen (to_positional c o word w w.held)
    go None = record { running = is_open.running; free = is_open.free }
    go (Some a) = record { running = refl; free = free_if (is_multiple a) }

pub walk-plain : (c : List Rule) (w : Walk) (words : List Text) → IsOpen w → ArePlain words
    → fold (walked c []) w words ≡ fold (taken c) w words
walk-plain c w [] is_open plain = refl
walk-plain c w (word ∷ rest) is_open plain =
    ap (λ v. fold (walked c []) v rest) (walked-plain c w word is_open plain.0)
    ∙ walk-plain c (taken c w word) rest (still_open c w word is_open) plain.1

-- each value goes to a positional, and what was pending passes
abbrev pub values_taken : Shape → Walk → List Text → Bool
values_taken s w [] = true
values_taken s w (word ∷ rest) = step_passes s w.position w.held value && values_taken s (taken s.rules w word) rest

plain_other : (s : Shape) (waiting : Waiting) (word : Text) (h : Held) → TakesNoOption waiting → IsPlainWord word
    → other_passes s (subcommand_met [] waiting word) word h ≡ true
plain_other s idle word h free plain = rw (plain.not_dashes, plain.long, plain.short) refl
plain_other s positional word h free plain = rw (plain.not_dashes, plain.long, plain.short) refl
plain_other s (option id) word h free plain = absurd free

plain_word_passes : (s : Shape) (w : Walk) (word : Text) → IsOpen w → IsPlainWord word
    → word_passes s [] w.is_trailing w.waiting word w.held ≡ true
plain_word_passes s w word is_open plain = go w.is_trailing
  where
    go : (b : Bool) → word_passes s [] b w.waiting word w.held ≡ true
    go true = refl
    go false = plain_other s w.waiting word w.held is_open.free plain

turn-plain : (s : Shape) (w : Walk) (word : Text) → IsOpen w → IsPlainWord word
    → turn_passes s [] w word ≡ step_passes s w.position w.held value
turn-plain s w word is_open plain =
    ap (λ p. is_some p || (word_passes s [] w.is_trailing w.waiting word w.held
    && (let met = word_met s.rules [] w.is_trailing w.waiting w.position word w.held in step_passes s w.position met.0 met.1))) is_open.running
    ∙ ap₂ (λ (b : Bool) (m : Held × Step). b && step_passes s w.position m.0 m.1) (plain_word_passes s w word is_open plain) (value_met s.rules w word is_open plain)

pub walk_passes-plain : (s : Shape) (w : Walk) (words : List Text) → IsOpen w → ArePlain words
    → walk_passes s [] w words ≡ values_taken s w words
unfolding walk_passes
walk_passes-plain s w [] is_open plain = refl
walk_passes-plain s w (word ∷ rest) is_open plain =
    ap₂ (λ (a b : Bool). a && b) (turn-plain s w word is_open plain.0)
    (ap (λ v. walk_passes s [] v rest) (walked-plain s.rules w word is_open plain.0)
    ∙ walk_passes-plain s (taken s.rules w word) rest (still_open s.rules w word is_open) plain.1)

starts_open : IsOpen (walk_from nothing_held)
starts_open = record { running = refl; free = tt }

-- `level_passes` of words that are values, without the tests of flags
abbrev pub values_pass_level : Shape → List Text → Bool
values_pass_level s words =
    let end = (fold (taken s.rules) (walk_from nothing_held) words).held in
    values_taken s (walk_from nothing_held) words && (settle_passes s.rules s.args_override_self end
    && (list_all default_passes s.rules && is_valid s (finished s.rules end) false))

pub level_passes-plain : (s : Shape) (words : List Text) → ArePlain words
    → level_passes s [] nothing_held words false ≡ values_pass_level s words
level_passes-plain s words plain =
    ap₂ (λ (passes : Bool) (w : Walk). passes && (settle_passes s.rules s.args_override_self w.held
    && (list_all default_passes s.rules && is_valid s (finished s.rules w.held) false)))
    (walk_passes-plain s (walk_from nothing_held) words starts_open plain)
    (walk-plain s.rules (walk_from nothing_held) words starts_open plain)

-- the rows of words that are values
pub rows_after-plain : (c : List Rule) (words : List Text) → ArePlain words
    → rows_after c [] words ≡ finished c (fold (taken c) (walk_from nothing_held) words).held
rows_after-plain c words plain = ap (λ (w : Walk). finished c w.held) (walk-plain c (walk_from nothing_held) words starts_open plain)
