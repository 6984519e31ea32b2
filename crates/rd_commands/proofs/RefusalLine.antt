-- The line that tells a refusal, as it is written word by word.
use Rattle.std.proofs.Common.{◌≡◌, ◌∙◌, ◌≢◌, ◌++◌, ℕ, List, [], ◌∷◌, Option, ap, append-nil, append_assoc, codes, refl, subst, sym}
use Rattle.std.proofs.KnownBytes.{Appends-nil, Appends-trans}
use Rattle.std.specs.Io.KnownBytes.{Appends}
use Rattle.rd_geometry.specs.declared.kind.Kind.{Kind}
use Rattle.rd_commands.specs.Output.{AppendsPart}
use Rattle.rd_commands.specs.Printed.{blanked, line_feed, refusal_line, words_after}
use Rattle.rd_commands.specs.Refusals.{name_of}
use Rattle.rd_commands.specs.declared.refusal.Refusal.{Refusal}
use Rattle.rd_commands.specs.declared.refusal.Refusal.TheVariants.{Usage, Device, NoMemory, WrongSize, NoFile, ListedOnly, Faulty, Exists, NotADesk, Version, Inconsistent, Store, Clock, BadSheet, UnknownKey, StaffOnly, NoAccession}
use Rattle.rd_commands.proofs.WriterLemmas.{part_after}

-- Of some words those before these that are left are written.
pub record HasWrittenWords (old new : Option (List ℕ)) (all left : List (List ℕ)) : Type 0 where
  pub text : List ℕ
  pub spelled : blanked all ≡ text ++ blanked left
  pub gained : Appends old new text

pub written_none : (a : Option (List ℕ)) (all left : List (List ℕ)) → left ≡ all → HasWrittenWords a a all left
written_none a all left same = record { text = []; spelled = ap blanked (sym same); gained = Appends-nil a }

pub written_next : (old mid new : Option (List ℕ)) (all left rest : List (List ℕ)) (word : List ℕ) → HasWrittenWords old mid all left → left ≡ word ∷ rest
    → Appends mid new (codes " " ++ word) → HasWrittenWords old new all rest
written_next old mid new all left rest word before steps wrote = record {
  text = before.text ++ (codes " " ++ word);
  spelled = before.spelled ∙ ap (λ l. before.text ++ blanked l) steps ∙ sym (append_assoc before.text (codes " " ++ word) (blanked rest));
  gained = Appends-trans old mid new before.text (codes " " ++ word) before.gained wrote;
}

pub written_part : (old mid new : Option (List ℕ)) (all left rest : List (List ℕ)) (word : List ℕ) → HasWrittenWords old mid all left → left ≡ word ∷ rest
    → AppendsPart mid new (codes " " ++ word) → AppendsPart old new (blanked all)
written_part old mid new all left rest word before steps part =
    part_after old mid new (blanked all) before.text (codes " " ++ word) (blanked rest) (before.spelled ∙ ap (λ l. before.text ++ blanked l) steps) before.gained part

pub written_all : (old new : Option (List ℕ)) (all left : List (List ℕ)) → HasWrittenWords old new all left → left ≡ [] → Appends old new (blanked all)
written_all old new all left before none =
    subst (Appends old new) (sym (before.spelled ∙ ap (λ l. before.text ++ blanked l) none ∙ append-nil before.text)) before.gained

-- no word follows the name of a refusal that is of no file's faults
pub none_after : (refusal : Refusal) → ((kind : Kind) (faults : ℕ) → refusal ≢ Faulty kind faults) → blanked (words_after refusal) ≡ []
none_after Usage other = refl
none_after Device other = refl
none_after NoMemory other = refl
none_after WrongSize other = refl
none_after NoFile other = refl
none_after ListedOnly other = refl
none_after (Faulty kind faults) other = absurd (other kind faults refl)
none_after Exists other = refl
none_after NotADesk other = refl
none_after Version other = refl
none_after Inconsistent other = refl
none_after Store other = refl
none_after Clock other = refl
none_after BadSheet other = refl
none_after UnknownKey other = refl
none_after StaffOnly other = refl
none_after NoAccession other = refl

-- the line in its parts
pub line_is : (refusal : Refusal) (name : List ℕ) → name ≡ name_of refusal
    → refusal_line refusal ≡ codes "desk:" ++ ((codes " " ++ name) ++ (blanked (words_after refusal) ++ line_feed))
line_is refusal name is =
    ap (λ n. codes "desk:" ++ (blanked (n ∷ words_after refusal) ++ line_feed)) (sym is)
    ∙ ap (λ l. codes "desk:" ++ l) (append_assoc (codes " " ++ name) (blanked (words_after refusal)) line_feed)

-- and in its parts but the last, and the last
pub line_ends : (refusal : Refusal) (name : List ℕ) → name ≡ name_of refusal
    → refusal_line refusal ≡ (codes "desk:" ++ ((codes " " ++ name) ++ blanked (words_after refusal))) ++ line_feed
line_ends refusal name is =
    ap (λ n. codes "desk:" ++ (blanked (n ∷ words_after refusal) ++ line_feed)) (sym is)
    ∙ sym (append_assoc (codes "desk:") ((codes " " ++ name) ++ blanked (words_after refusal)) line_feed)
