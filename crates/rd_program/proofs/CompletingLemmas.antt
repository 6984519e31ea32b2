-- What is asked for once it is whole is alike what the words ask for.
use Rattle.std.proofs.Common.{◌≡◌, ◌≢◌, ◌≤◌, ◌+◌, ◌∙◌, ◌⊎◌, ℕ, ℤ, Err, IfErr, List, None, Ok, Option, Result, Some, arith, codes, inl, inr, length, refl, subst, sym, option_map, pos}
use Rattle.std.specs.Borrow.{Bor}
use Rattle.clap.specs.Words.{Row, Text}
use Rattle.rd_geometry.specs.Kinds.{size_of}
use Rattle.rd_geometry.specs.declared.kind.Kind.TheVariants.{Cpm8}
use Rattle.rd_policy.specs.declared.zone.Zone.{Zone}
use Rattle.rd_commands.specs.Asks.{IsExtraction, IsWithinLimits, TellsInRows, TellsOnOutput, most_read}
use Rattle.rd_commands.specs.CommonOptions.{GivesOptions, IsPlain}
use Rattle.rd_commands.specs.Input.{ReadsUpTo}
use Rattle.rd_commands.specs.Refusals.{IsDeviceOrMemory, status_of}
use Rattle.rd_commands.specs.Parsed.{TellsAll, command_name}
use Rattle.rd_commands.specs.declared.common_options.CommonOptions.{CommonOptions}
use Rattle.rd_commands.specs.declared.common_options.Parsed.{Parsed}
use Rattle.rd_commands.specs.declared.done.Done.{Done}
use Rattle.rd_commands.specs.declared.refusal.Refusal.{Refusal}
use Rattle.rd_commands.specs.declared.refusal.Refusal.TheVariants.{Device, NoMemory}
use Rattle.rd_commands.specs.declared.words.Ask.{Ask}
use Rattle.rd_commands.specs.declared.words.ImportAsk.{ImportAsk}
use Rattle.rd_commands.specs.declared.words.OneQuestionAsk.{OneQuestionAsk}
use Rattle.rd_commands.specs.declared.words.FlaggedImportAsk.{FlaggedImportAsk}
use Rattle.rd_commands.specs.declared.words.Ask.TheVariants.{Copy, Extract, File, Files, Import, Init, OneQuestion, Serve, FlaggedImport, StaffKey}
use Rattle.rd_program.specs.Completing.{AreOperands, Completes, IsDated, IsKeyAt, IsKeyRead, IsKeyed, IsKeyedBy, IsZoneRead, IsZoned, IsZonedBy, with_key, with_moment, with_zone}
use Rattle.rd_commands.proofs.ReadLimits.{reads_after}
use Rattle.rd_program.proofs.Plain.{extraction_plain, image_plain}

-- One command reads as much of the input as another, and tells as much of what it did.
pub record IsAlike (new old : Ask) : Type 0 where
  pub read : most_read new ≡ most_read old
  pub rows : TellsInRows new → TellsInRows old
  pub files : IsExtraction new → IsExtraction old
  pub output : TellsOnOutput new → TellsOnOutput old
  pub within : IsWithinLimits old → IsWithinLimits new

alike_itself : (ask : Ask) → IsAlike ask ask
alike_itself ask = record { read = refl; rows = λ tells. tells; files = λ is. is; output = λ tells. tells; within = λ is. is }

alike_then : (new mid old : Ask) → IsAlike new mid → IsAlike mid old → IsAlike new old
alike_then new mid old later first = record {
  read = later.read ∙ first.read;
  rows = λ tells. first.rows (later.rows tells);
  files = λ is. first.files (later.files is);
  output = λ tells. first.output (later.output tells);
  within = λ is. later.within (first.within is);
}

with_key_alike : (key : Bor (List ℕ)) (ask : Ask) → IsAlike (with_key key ask) ask
with_key_alike key (File ask) = alike_itself (File ask)
with_key_alike key (Files ask) = alike_itself (Files ask)
with_key_alike key (Init ask) = record { read = refl; rows = λ tells. tells; files = λ is. is; output = λ tells. tells; within = λ is. is }
with_key_alike key (Serve ask) = alike_itself (Serve ask)
with_key_alike key (Import ask) = record { read = refl; rows = λ tells. tells; files = λ is. is; output = λ tells. tells; within = λ is. is }
with_key_alike key (OneQuestion ask) = record { read = refl; rows = λ tells. tells; files = λ is. is; output = λ tells. tells; within = λ is. is }
with_key_alike key (StaffKey ask) = record { read = refl; rows = λ tells. tells; files = λ is. is; output = λ tells. tells; within = λ is. is }
with_key_alike key (FlaggedImport ask) = record { read = refl; rows = λ tells. tells; files = λ is. is; output = λ tells. tells; within = λ is. is }
with_key_alike key (Extract ask) = alike_itself (Extract ask)
with_key_alike key (Copy ask) = alike_itself (Copy ask)

with_zone_alike : (zone : Zone) (ask : Ask) → IsAlike (with_zone zone ask) ask
with_zone_alike zone (File ask) = alike_itself (File ask)
with_zone_alike zone (Files ask) = alike_itself (Files ask)
with_zone_alike zone (Init ask) = alike_itself (Init ask)
with_zone_alike zone (Serve ask) = record { read = refl; rows = λ tells. tells; files = λ is. is; output = λ tells. tells; within = λ is. is }
with_zone_alike zone (Import ask) = record { read = refl; rows = λ tells. tells; files = λ is. is; output = λ tells. tells; within = λ is. is }
with_zone_alike zone (OneQuestion ask) = record { read = refl; rows = λ tells. tells; files = λ is. is; output = λ tells. tells; within = λ is. is }
with_zone_alike zone (StaffKey ask) = alike_itself (StaffKey ask)
with_zone_alike zone (FlaggedImport ask) = record { read = refl; rows = λ tells. tells; files = λ is. is; output = λ tells. tells; within = λ is. is }
with_zone_alike zone (Extract ask) = alike_itself (Extract ask)
with_zone_alike zone (Copy ask) = alike_itself (Copy ask)

with_moment_alike : (seconds : ℤ) (ask : Ask) → IsAlike (with_moment seconds ask) ask
with_moment_alike seconds (File ask) = alike_itself (File ask)
with_moment_alike seconds (Files ask) = alike_itself (Files ask)
with_moment_alike seconds (Init ask) = alike_itself (Init ask)
with_moment_alike seconds (Serve ask) = alike_itself (Serve ask)
with_moment_alike seconds (Import ask) = record { read = refl; rows = λ tells. tells; files = λ is. is; output = λ tells. tells; within = λ is. is }
with_moment_alike seconds (OneQuestion ask) = record { read = refl; rows = λ tells. tells; files = λ is. is; output = λ tells. tells; within = λ is. is }
with_moment_alike seconds (StaffKey ask) = alike_itself (StaffKey ask)
with_moment_alike seconds (FlaggedImport ask) = record { read = refl; rows = λ tells. tells; files = λ is. is; output = λ tells. tells; within = λ is. is }
with_moment_alike seconds (Extract ask) = alike_itself (Extract ask)
with_moment_alike seconds (Copy ask) = alike_itself (Copy ask)

keyed_alike : (files : List ℕ → Option (List ℕ)) (input : Option (List ℕ)) (path : Option (Bor (List ℕ))) (old new : Ask) → IsKeyed files input path old new → IsAlike new old
keyed_alike files input (Some path) old new is = subst (λ ask. IsAlike ask old) (sym is.1) (with_key_alike is.0 old)
keyed_alike files input None old new is = subst (λ ask. IsAlike ask old) (sym is) (alike_itself old)

zoned_alike : (files : List ℕ → Option (List ℕ)) (path : Option (Bor (List ℕ))) (old new : Ask) → IsZoned files path old new → IsAlike new old
zoned_alike files (Some path) old new is = subst (λ ask. IsAlike ask old) (sym is.1) (with_zone_alike is.0 old)
zoned_alike files None old new is = subst (λ ask. IsAlike ask old) (sym is) (alike_itself old)

dated_alike : (day : Option ℤ) (old new : Ask) → IsDated day old new → IsAlike new old
dated_alike (Some day) old new is = subst (λ ask. IsAlike ask old) (sym is.1) (with_moment_alike is.0 old)
dated_alike None old new is = subst (λ ask. IsAlike ask old) (sym is) (alike_itself old)

pub whole_alike : (files : List ℕ → Option (List ℕ)) (input : Option (List ℕ)) (parsed : Parsed) (ask : Ask) → Completes files input parsed ask → IsAlike ask parsed.ask
whole_alike files input parsed ask whole =
    alike_then ask whole.zoned parsed.ask (dated_alike parsed.options.day whole.zoned ask whole.moment)
    (alike_then whole.zoned whole.keyed parsed.ask (zoned_alike files parsed.options.zone_file whole.keyed whole.zoned whole.zone)
    (keyed_alike files input parsed.options.key_file parsed.ask whole.keyed whole.key))

-- ---- what reads the input has nothing in a file

asks_of_store : (ask : Ask) (rows : List Row) (options : CommonOptions) → GivesOptions (command_name ask) rows options → (IsPlain options → ⊥) → most_read ask ≡ 0
asks_of_store (File ask) rows options is apart = absurd (apart (image_plain (codes "cat") rows options (inl refl) is))
asks_of_store (Files ask) rows options is apart = absurd (apart (image_plain (codes "list") rows options (inr refl) is))
asks_of_store (Init ask) rows options is apart = refl
asks_of_store (Serve ask) rows options is apart = refl
asks_of_store (Import ask) rows options is apart = refl
asks_of_store (OneQuestion ask) rows options is apart = refl
asks_of_store (StaffKey ask) rows options is apart = refl
asks_of_store (FlaggedImport ask) rows options is apart = refl
asks_of_store (Extract ask) rows options is apart = absurd (apart (extraction_plain rows options is))
asks_of_store (Copy ask) rows options is apart = refl

pub reads_no_more : (words : List Text) (parsed : Parsed) → TellsAll words parsed → (IsPlain parsed.options → ⊥) → most_read parsed.ask ≡ 0
reads_no_more words parsed all apart = asks_of_store parsed.ask all.taken.rows parsed.options all.options apart

-- nothing more is read
pub reads_nothing_more : (most : ℕ) (old mid new : Option (List ℕ)) → ReadsUpTo 4097 old mid → ReadsUpTo most mid new → {asked : ℕ} → most ≡ asked → asked ≡ 0
    → ReadsUpTo (size_of Cpm8 + 1) old new
reads_nothing_more most old mid new first later is none =
    let few : length first.bytes ≤ 4097 = first.few in
    reads_after (size_of Cpm8 + 1) most old mid new first.bytes first.taken later (omega (arith, few, is, none))

-- ---- why a command ends early

pub early_never : (refusal : Refusal) → IsDeviceOrMemory refusal → status_of refusal ≢ 2
early_never Device early = λ two. omega arith
early_never NoMemory early = λ two. omega arith
early_never refusal early = absurd early

-- ---- what is written at 1

pub kept_alike : (Kept : Type 0) (result : Result Done Refusal) (new old : Ask) → (TellsInRows new → TellsInRows old)
    → (IsExtraction new → IsExtraction old) → IfErr result (λ refusal. status_of refusal ≡ 1 → Kept ⊎ (TellsInRows new ⊎ IsExtraction new))
    → IfErr result (λ refusal. status_of refusal ≡ 1 → Kept ⊎ (TellsInRows old ⊎ IsExtraction old))
kept_alike Kept (Ok done) new old rows files kept = tt
kept_alike Kept (Err refusal) new old rows files kept = λ one. elim (kept one) [
  | inl keeps ↦ inl keeps
  | inr (inl tells) ↦ inr (inl (rows tells))
  | inr (inr extracts) ↦ inr (inr (files extracts))
]

-- ---- from the operands to what is whole

is_keyed : (files : List ℕ → Option (List ℕ)) (input : Option (List ℕ)) (path : Option (Bor (List ℕ))) (key : Option (List ℕ)) (old new : Ask)
    → IsKeyRead files input (option_map (λ (path : Bor (List ℕ)). path.now) path) key → IsKeyedBy key old new → IsKeyed files input path old new
is_keyed files input None None old new read is = is
is_keyed files input None (Some bytes) old new read is = absurd read
is_keyed files input (Some path) None old new read is = absurd read
is_keyed files input (Some path) (Some bytes) old new read is = (is.0, is.1, subst (λ k. IsKeyAt files input path.now k) (sym is.2) read)

is_zoned : (files : List ℕ → Option (List ℕ)) (path : Option (Bor (List ℕ))) (zone : Option Zone) (old new : Ask)
    → IsZoneRead files (option_map (λ (path : Bor (List ℕ)). path.now) path) zone → IsZonedBy zone old new → IsZoned files path old new
is_zoned files None None old new read is = is
is_zoned files None (Some zone) old new read is = absurd read
is_zoned files (Some path) None old new read is = absurd read
is_zoned files (Some path) (Some zone) old new read is = (zone, is, read)

-- what stands in the files and the moment of the day are in their places: it is whole
pub is_whole : (files : List ℕ → Option (List ℕ)) (input : Option (List ℕ)) (parsed : Parsed) (key : Option (List ℕ)) (clocks : Option Zone) (keyed zoned ask : Ask)
    → AreOperands files input parsed.options key clocks → IsKeyedBy key parsed.ask keyed → IsZonedBy clocks keyed zoned → IsDated parsed.options.day zoned ask
    → Completes files input parsed ask
is_whole files input parsed key clocks keyed zoned ask are with_key with_zone dated = record {
  keyed = keyed;
  zoned = zoned;
  key = is_keyed files input parsed.options.key_file key parsed.ask keyed are.key_is with_key;
  zone = is_zoned files parsed.options.zone_file clocks keyed zoned are.zone_is with_zone;
  moment = dated;
}

-- ---- a day of what has no moment

pub other_dated : (day : ℤ) (ask : Ask) → ((images : ImportAsk) → ask ≡ Import images → ⊥) → ((one : OneQuestionAsk) → ask ≡ OneQuestion one → ⊥)
    → ((flagged_import : FlaggedImportAsk) → ask ≡ FlaggedImport flagged_import → ⊥) → IsDated (Some day) ask ask
other_dated day (Import images) no_import no_one no_flagged_import = absurd (no_import images refl)
other_dated day (OneQuestion one) no_import no_one no_flagged_import = absurd (no_one one refl)
other_dated day (FlaggedImport flagged_import) no_import no_one no_flagged_import = absurd (no_flagged_import flagged_import refl)
other_dated day ask no_import no_one no_flagged_import = (pos 0, refl, tt)
