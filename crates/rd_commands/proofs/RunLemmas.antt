-- What a run of a command has done, by the file that it asked for.
use Rattle.std.proofs.Common.{◌≡◌, ◌≢◌, ◌+◌, ◌≤◌, ℕ, List, Option, Some, None, IfSome, ap, inl, inr, refl, subst, sym, arith}
use Rattle.std.specs.Io.KnownBytes.{Keeps}
use Rattle.rd_geometry.specs.declared.kind.Kind.{Kind}
use Rattle.rd_geometry.specs.Kinds.{size_of}
use Rattle.rd_geometry.specs.declared.kind.Kind.TheVariants.{Cpm8}
use Rattle.rd_commands.specs.Asks.{AsksFile, most_read}
use Rattle.rd_commands.specs.Cat.{HasNoSoundFile, IsCut, Refuses}
use Rattle.rd_commands.specs.Output.{AppendsPart}
use Rattle.rd_commands.specs.Printed.{refusal_line}
use Rattle.rd_commands.specs.Refusals.{status_of}
use Rattle.rd_commands.specs.RefusalLines.{Tells}
use Rattle.rd_commands.specs.Commands.{AsksOfStore, IsAskOf}
use Rattle.rd_commands.specs.Words.{AsksOfKind}
use Rattle.rd_commands.specs.declared.words.Ask.{Ask}
use Rattle.rd_commands.specs.declared.words.Ask.TheVariants.{Copy, Extract, File, Files, Import, Init, OneQuestion, Serve, FlaggedImport, StaffKey}
use Rattle.rd_commands.specs.declared.refusal.Refusal.{Refusal}
use Rattle.rd_commands.specs.declared.refusal.Refusal.TheVariants.{Usage, Device, NoMemory, WrongSize, NoFile, ListedOnly, Faulty, Exists, NotADesk, Version, Inconsistent, Store, Clock, BadSheet, UnknownKey, StaffOnly, NoAccession}
use Rattle.rd_commands.specs.declared.words.FileAsk.{FileAsk}
use Rattle.rd_commands.proofs.ReadLimits.{largest}

-- what holds of the kind and the slot that were read holds of those that were asked for
pub as_asked : (P : Kind → ℕ → Type 0) (ask : FileAsk) (kind : Kind) (image : List ℕ) (slot : ℕ) → AsksFile ask kind image slot → P ask.kind ask.slot → P kind slot
as_asked P ask kind image slot asks fact = subst (λ s. P kind s) asks.slot_is (subst (λ k. P k ask.slot) asks.kind_is fact)

pub of_known : {P Q : List ℕ → Type 0} (known : Option (List ℕ)) → ((bytes : List ℕ) → P bytes → Q bytes) → IfSome known P → IfSome known Q
of_known (Some bytes) f fact = f bytes fact
of_known None f fact = tt

-- a refusal with the status 1 finds no sound file
pub no_sound_file : (refusal : Refusal) (kind : Kind) (slot : ℕ) (image : List ℕ) (old new : Option (List ℕ)) → status_of refusal ≡ 1
    → Refuses refusal kind slot image old new → HasNoSoundFile kind slot image
no_sound_file Usage kind slot image old new status refused = absurd refused
no_sound_file Device kind slot image old new status refused = absurd (omega arith)
no_sound_file NoMemory kind slot image old new status refused = absurd (omega arith)
no_sound_file WrongSize kind slot image old new status refused = inl refused.1
no_sound_file NoFile kind slot image old new status refused = inr (inl refused.1)
no_sound_file ListedOnly kind slot image old new status refused = inr (inr (inl refused.1))
no_sound_file (Faulty of_kind faults) kind slot image old new status refused = inr (inr (inr refused.1.file))
no_sound_file Exists kind slot image old new status refused = absurd refused
no_sound_file NotADesk kind slot image old new status refused = absurd refused
no_sound_file Version kind slot image old new status refused = absurd refused
no_sound_file Inconsistent kind slot image old new status refused = absurd refused
no_sound_file Store kind slot image old new status refused = absurd refused
no_sound_file Clock kind slot image old new status refused = absurd refused
no_sound_file BadSheet kind slot image old new status refused = absurd refused
no_sound_file UnknownKey kind slot image old new status refused = absurd refused
no_sound_file StaffOnly kind slot image old new status refused = absurd refused
no_sound_file NoAccession kind slot image old new status refused = absurd refused

-- a refusal with the status 3 has written no more than a part
pub is_cut : (refusal : Refusal) (kind : Kind) (slot : ℕ) (image : List ℕ) (old new : Option (List ℕ)) → status_of refusal ≡ 3
    → Refuses refusal kind slot image old new → IsCut kind slot image old new
is_cut Usage kind slot image old new status refused = absurd refused
is_cut Device kind slot image old new status refused = refused
is_cut NoMemory kind slot image old new status refused = inl refused
is_cut WrongSize kind slot image old new status refused = inl refused.0
is_cut NoFile kind slot image old new status refused = inl refused.0
is_cut ListedOnly kind slot image old new status refused = inl refused.0
is_cut (Faulty of_kind faults) kind slot image old new status refused = inl refused.0
is_cut Exists kind slot image old new status refused = absurd refused
is_cut NotADesk kind slot image old new status refused = absurd refused
is_cut Version kind slot image old new status refused = absurd refused
is_cut Inconsistent kind slot image old new status refused = absurd refused
is_cut Store kind slot image old new status refused = absurd refused
is_cut Clock kind slot image old new status refused = absurd refused
is_cut BadSheet kind slot image old new status refused = absurd refused
is_cut UnknownKey kind slot image old new status refused = absurd refused
is_cut StaffOnly kind slot image old new status refused = absurd refused
is_cut NoAccession kind slot image old new status refused = absurd refused

-- nothing was written where the words were not read
pub kept_is_cut : (known : Option (List ℕ)) (kind : Kind) (slot : ℕ) (old new : Option (List ℕ)) → Keeps old new → IfSome known (λ image. IsCut kind slot image old new)
kept_is_cut (Some image) kind slot old new kept = inl kept
kept_is_cut None kind slot old new kept = tt

-- a refusal that is told
pub tells : (P : Refusal → Type 0) (refusal : Refusal) (status : ℕ) (old new : Option (List ℕ)) → P refusal → status ≡ status_of refusal
    → AppendsPart old new (refusal_line refusal) → Tells P status old new
tells P refusal status old new why is line = record { refusal = refusal; why = why; has_status = sym is; line = line }

-- no refusal has the status 0
pub not_done : (refusal : Refusal) → status_of refusal ≢ 0
not_done Usage = λ is. omega arith
not_done Device = λ is. omega arith
not_done NoMemory = λ is. omega arith
not_done WrongSize = λ is. omega arith
not_done NoFile = λ is. omega arith
not_done ListedOnly = λ is. omega arith
not_done (Faulty kind faults) = λ is. omega arith
not_done Exists = λ is. omega arith
not_done NotADesk = λ is. omega arith
not_done Version = λ is. omega arith
not_done Inconsistent = λ is. omega arith
not_done Store = λ is. omega arith
not_done Clock = λ is. omega arith
not_done BadSheet = λ is. omega arith
not_done UnknownKey = λ is. omega arith
not_done StaffOnly = λ is. omega arith
not_done NoAccession = λ is. omega arith

-- of the kind that words ask for is the image that is read
pub reads_of_kind : (words : List (List ℕ)) (ask : Ask) (kind : Kind) → IsAskOf words ask → AsksOfKind words kind → most_read ask ≡ size_of kind + 1
reads_of_kind words (File ask) kind is (inl cat) = ap (λ k. size_of k + 1) (is.file kind cat.0 cat.1 cat.2).kind_is
reads_of_kind words (File ask) kind is (inr list) = absurd (is.files kind list.0 list.1)
reads_of_kind words (Files ask) kind is (inl cat) = absurd (is.file kind cat.0 cat.1 cat.2)
reads_of_kind words (Files ask) kind is (inr list) = ap (λ k. size_of k + 1) (is.files kind list.0 list.1).kind_is
reads_of_kind words (Init ask) kind is (inl cat) = absurd (is.file kind cat.0 cat.1 cat.2)
reads_of_kind words (Init ask) kind is (inr list) = absurd (is.files kind list.0 list.1)
reads_of_kind words (Serve ask) kind is (inl cat) = absurd (is.file kind cat.0 cat.1 cat.2)
reads_of_kind words (Serve ask) kind is (inr list) = absurd (is.files kind list.0 list.1)
reads_of_kind words (Import ask) kind is (inl cat) = absurd (is.file kind cat.0 cat.1 cat.2)
reads_of_kind words (Import ask) kind is (inr list) = absurd (is.files kind list.0 list.1)
reads_of_kind words (OneQuestion ask) kind is (inl cat) = absurd (is.file kind cat.0 cat.1 cat.2)
reads_of_kind words (OneQuestion ask) kind is (inr list) = absurd (is.files kind list.0 list.1)
reads_of_kind words (FlaggedImport ask) kind is (inl cat) = absurd (is.file kind cat.0 cat.1 cat.2)
reads_of_kind words (FlaggedImport ask) kind is (inr list) = absurd (is.files kind list.0 list.1)
reads_of_kind words (Extract ask) kind is (inl cat) = absurd (is.file kind cat.0 cat.1 cat.2)
reads_of_kind words (Extract ask) kind is (inr list) = absurd (is.files kind list.0 list.1)
reads_of_kind words (StaffKey ask) kind is (inl cat) = absurd (is.file kind cat.0 cat.1 cat.2)
reads_of_kind words (StaffKey ask) kind is (inr list) = absurd (is.files kind list.0 list.1)
reads_of_kind words (Copy ask) kind is (inl cat) = absurd (is.file kind cat.0 cat.1 cat.2)
reads_of_kind words (Copy ask) kind is (inr list) = absurd (is.files kind list.0 list.1)

-- where words ask for something of a store, no input is read
pub reads_no_input : (words : List (List ℕ)) (ask : Ask) → IsAskOf words ask → AsksOfStore words → most_read ask ≡ 0
reads_no_input words (File ask) is (inl init) = absurd (is.init init.0 init.1 init.2)
reads_no_input words (File ask) is (inr (inl serve)) = absurd (is.serve serve.0 serve.1 serve.2 serve.3 serve.4)
reads_no_input words (File ask) is (inr (inr (inl import))) = absurd (is.import import.0 import.1 import.2 import.3 import.4 import.5)
reads_no_input words (File ask) is (inr (inr (inr (inl export)))) = absurd (is.export export.0 export.1 export.2 export.3 export.4)
reads_no_input words (File ask) is (inr (inr (inr (inr (inl check))))) = absurd (is.check check.1.0 check.1.1 check.0 check.1.2 check.1.3 check.1.4)
reads_no_input words (File ask) is (inr (inr (inr (inr (inr (inl show)))))) = absurd (is.show show.0 show.1 show.2 show.3 show.4 show.5)
reads_no_input words (File ask) is (inr (inr (inr (inr (inr (inr (inl staff_key))))))) = absurd (is.staff_key staff_key.0 staff_key.1 staff_key.2)
reads_no_input words (File ask) is (inr (inr (inr (inr (inr (inr (inr copy))))))) = absurd (is.copy copy.0 copy.1 copy.2 copy.3)
reads_no_input words (Files ask) is (inl init) = absurd (is.init init.0 init.1 init.2)
reads_no_input words (Files ask) is (inr (inl serve)) = absurd (is.serve serve.0 serve.1 serve.2 serve.3 serve.4)
reads_no_input words (Files ask) is (inr (inr (inl import))) = absurd (is.import import.0 import.1 import.2 import.3 import.4 import.5)
reads_no_input words (Files ask) is (inr (inr (inr (inl export)))) = absurd (is.export export.0 export.1 export.2 export.3 export.4)
reads_no_input words (Files ask) is (inr (inr (inr (inr (inl check))))) = absurd (is.check check.1.0 check.1.1 check.0 check.1.2 check.1.3 check.1.4)
reads_no_input words (Files ask) is (inr (inr (inr (inr (inr (inl show)))))) = absurd (is.show show.0 show.1 show.2 show.3 show.4 show.5)
reads_no_input words (Files ask) is (inr (inr (inr (inr (inr (inr (inl staff_key))))))) = absurd (is.staff_key staff_key.0 staff_key.1 staff_key.2)
reads_no_input words (Files ask) is (inr (inr (inr (inr (inr (inr (inr copy))))))) = absurd (is.copy copy.0 copy.1 copy.2 copy.3)
reads_no_input words (Init ask) is asks = refl
reads_no_input words (Serve ask) is asks = refl
reads_no_input words (Import ask) is asks = refl
reads_no_input words (OneQuestion ask) is asks = refl
reads_no_input words (FlaggedImport ask) is asks = refl
reads_no_input words (Extract ask) is (inl init) = absurd (is.init init.0 init.1 init.2)
reads_no_input words (Extract ask) is (inr (inl serve)) = absurd (is.serve serve.0 serve.1 serve.2 serve.3 serve.4)
reads_no_input words (Extract ask) is (inr (inr (inl import))) = absurd (is.import import.0 import.1 import.2 import.3 import.4 import.5)
reads_no_input words (Extract ask) is (inr (inr (inr (inl export)))) = absurd (is.export export.0 export.1 export.2 export.3 export.4)
reads_no_input words (Extract ask) is (inr (inr (inr (inr (inl check))))) = absurd (is.check check.1.0 check.1.1 check.0 check.1.2 check.1.3 check.1.4)
reads_no_input words (Extract ask) is (inr (inr (inr (inr (inr (inl show)))))) = absurd (is.show show.0 show.1 show.2 show.3 show.4 show.5)
reads_no_input words (Extract ask) is (inr (inr (inr (inr (inr (inr (inl staff_key))))))) = absurd (is.staff_key staff_key.0 staff_key.1 staff_key.2)
reads_no_input words (Extract ask) is (inr (inr (inr (inr (inr (inr (inr copy))))))) = absurd (is.copy copy.0 copy.1 copy.2 copy.3)
reads_no_input words (StaffKey ask) is asks = refl
reads_no_input words (Copy ask) is asks = refl

-- no more is read than one byte past the largest image
pub reads_few : (ask : Ask) → most_read ask ≤ size_of Cpm8 + 1
reads_few (File ask) = largest ask.kind
reads_few (Files ask) = largest ask.kind
reads_few (Init ask) = omega arith
reads_few (Serve ask) = omega arith
reads_few (Import ask) = omega arith
reads_few (OneQuestion ask) = omega arith
reads_few (FlaggedImport ask) = omega arith
reads_few (Extract ask) = largest ask.image.kind
reads_few (StaffKey ask) = omega arith
reads_few (Copy ask) = omega arith

-- nothing is refused where nothing is known
pub of_all : {P : List ℕ → Type 0} (known : Option (List ℕ)) → ((bytes : List ℕ) → P bytes) → IfSome known P
of_all (Some bytes) f = f bytes
of_all None f = tt
