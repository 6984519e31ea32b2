-- A file of an image is sound exactly where its size is given, and so files are served where it is.
use Rattle.std.proofs.Common.{◌≡◌, ◌↔◌, ◌∙◌, inl, inr, ℕ, zero, suc, ◌<◌, ℤ, List, [], ◌∷◌, All, true, false, Contains, IsSome, Option, Some, ap, arith, length, map, refl, subst, sym}
use Rattle.std.specs.FinMap.{keys}
use Rattle.std.specs.List.{AllZip}
use Rattle.std.specs.Option.{is_some}
use Rattle.std.proofs.lemmas.Bool.{cases_Bool, cases_eq}
use Rattle.std.proofs.lemmas.List.Elements.{All-head, All-tail}
use Rattle.rd_geometry.specs.declared.kind.Kind.{Kind}
use Rattle.rd_geometry.specs.declared.kind.Kind.TheVariants.{Cpm8}
use Rattle.rd_volume.specs.CbmFounds.{IsCbmFile}
use Rattle.rd_volume.specs.CpmFounds.{IsCpmFile}
use Rattle.rd_volume.specs.Founds.{HasNoContents, IsSoundFile}
use Rattle.rd_volume.specs.Laws.{cbm_total, cpm_total}
use Rattle.rd_volume.specs.Volumes.{IsFound, contents_of}
use Rattle.rd_volume.specs.declared.found.Found.{Found}
use Rattle.rd_holdings.specs.State.{Desk}
use Rattle.rd_protocol.specs.Verdicts.{AreVerdicts, IsVerdictsOf}
use Rattle.rd_protocol.specs.declared.response.FileVerdicts.{FileVerdicts}
use Rattle.rd_protocol.specs.declared.response.Verdicts.{Verdicts}
use Rattle.rd_protocol.proofs.VerdictLawLemmas.{served_where_read}
use Rattle.rd_staff_laws.specs.SizedFiles.{ServedWhereSized}

-- ---- one file

given : (size : Option ℕ) (n : ℕ) → size ≡ Some n → IsSome size
given size n is = ap is_some is

no_size : {B : Type 0} (found : Found) → IsSome found.size → HasNoContents found → B
no_size found sized none = absurd (let given : is_some found.size ≡ true = sized in let lacks = none.size in let not_given : is_some found.size ≡ false = ap is_some lacks in cc)

cpm_sized : (image : List ℕ) (found : Found) → IsCpmFile image found → IsSome found.size → IsSoundFile found
cpm_sized image found is sized = elim (cases_eq found.faults 0) [
  | inl clean ↦ record { class = is.class; sound = clean }
  | inr some ↦ no_size found sized (is.faulty (λ sound. some (is.faults.sound.1 sound)))
]

cbm_sized : (image blocks : List ℕ) (found : Found) → IsCbmFile image found blocks → IsSome found.size → IsSoundFile found
cbm_sized image blocks found is sized = elim (cases_Bool found.served_class) [
  | inl served ↦ elim (cases_eq found.faults 0) [
    | inl clean ↦ record { class = served; sound = clean }
    | inr some ↦ no_size found sized (is.faulty (λ sound. some (is.faults.none.1 sound.no_fault)))
  ]
  | inr other ↦ no_size found sized (is.faulty (λ sound. let served : found.served_class ≡ true = is.class.1 sound.served in let wrong : true ≡ false = sym served ∙ other in cc))
]

-- a file whose size is given is sound
sound_if_sized : (kind : Kind) (image : List ℕ) (found : Found) → IsFound kind image found → IsSome found.size → IsSoundFile found
sound_if_sized Cpm8 image found described sized = cpm_sized image found described sized
sound_if_sized _ image found described sized = cbm_sized image described.blocks found described.holds sized

-- and the size of a sound file is given
sized_if_sound : (kind : Kind) (image : List ℕ) (found : Found) → IsFound kind image found → IsSoundFile found → IsSome found.size
sized_if_sound Cpm8 image found described sound = given found.size (length (contents_of Cpm8 image found)) (cpm_total image found described sound)
sized_if_sound kind image found described sound = given found.size (length (contents_of kind image found)) (cbm_total kind refl image found described sound)

-- ---- the files of the verdicts

-- each of the verdicts is of an accession
each_of : (desk : Desk) (day : ℤ) (accs : List ℕ) (all : List Verdicts) (one : Verdicts) → AllZip (IsVerdictsOf desk day) accs all → Contains all one → IsVerdictsOf desk day one.accession one
each_of desk day accs [] one zip (k, within, is) = absurd (let low : k < 0 = within in omega (arith, low))
each_of desk day [] (first ∷ all) one zip there = absurd zip
each_of desk day (acc ∷ accs) (first ∷ all) one zip (zero, within, is) =
    subst (λ (it : Verdicts). IsVerdictsOf desk day it.accession it) is (subst (λ n. IsVerdictsOf desk day n first) (sym zip.0.accession) zip.0)
each_of desk day (acc ∷ accs) (first ∷ all) one zip (suc k, within, is) = each_of desk day accs all one zip.1 (k, omega (arith, within), is)

-- and each of its files is one of the image
described_at : (P : Found → Type 0) (files : List FileVerdicts) (one : FileVerdicts) → All P (map (λ file. file.file) files) → Contains files one → P one.file
described_at P [] one all (k, within, is) = absurd (let low : k < 0 = within in omega (arith, low))
described_at P (first ∷ files) one all (zero, within, is) = subst (λ (it : FileVerdicts). P it.file) is (All-head P first.file (map (λ file. file.file) files) all)
described_at P (first ∷ files) one all (suc k, within, is) = described_at P files one (All-tail P first.file (map (λ file. file.file) files) all) (k, omega (arith, within), is)

module _ (desk : Desk) (day : ℤ) (all : List Verdicts) (are : AreVerdicts desk day all) where
  sound_where_sized : (one : Verdicts) (file : FileVerdicts) → Contains all one → Contains one.files file → IsSoundFile file.file ↔ IsSome file.file.size
  sound_where_sized one file among inside =
      let of_it = each_of desk day (keys desk.images) all one are among in
      let described = described_at (IsFound of_it.image.kind of_it.image.bytes) one.files file of_it.files.all.each inside in
      (sized_if_sound of_it.image.kind of_it.image.bytes file.file described, sound_if_sized of_it.image.kind of_it.image.bytes file.file described)

pub served_where_sized : ServedWhereSized
served_where_sized desk badge audience day all bytes caller are acc slot =
    let served = served_where_read desk badge audience day all bytes caller are acc slot in (
      λ accepted.
          let lets = served.0 accepted in
          record {
            one = lets.one;
            file = lets.file;
            among = lets.among;
            accession = lets.accession;
            inside = lets.inside;
            at_slot = lets.at_slot;
            read = lets.read;
            size = (sound_where_sized desk day all are lets.one lets.file lets.among lets.inside).0 lets.sound;
          },
      λ sized. served.1 (record {
        one = sized.one;
        file = sized.file;
        among = sized.among;
        accession = sized.accession;
        inside = sized.inside;
        at_slot = sized.at_slot;
        read = sized.read;
        sound = (sound_where_sized desk day all are sized.one sized.file sized.among sized.inside).1 sized.size;
      }),
    )
