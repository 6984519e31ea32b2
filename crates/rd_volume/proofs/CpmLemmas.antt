-- The files of a CP/M disk as both kinds tell them.
use Rattle.std.proofs.Common.{◌≡◌, ◌∙◌, inl, inr, ◌+◌, ◌*◌, ◌<◌, ◌≤◌, ℕ, List, [], ◌∷◌, All, AllPairs, Contains, IfSome, Option, Some, ap, sym, arith, length, refl, slice_index_or, subst, sum_by}
use Rattle.std.proofs.lemmas.Bool.{cases_eq}
use Rattle.std.proofs.lemmas.List.{length-append, length-drop, length-take}
use Rattle.std.proofs.lemmas.List.Elements.{All-head, All-tail, Contains-get_or}
use Rattle.std.proofs.lemmas.List.Sums.{sum_by-le}
use Rattle.rd_geometry.specs.Laws.{cpm_unit_inside}
use Rattle.rd_geometry.specs.Places.{CPM_SIZE, CPM_UNITS, CPM_UNIT_LENGTH, cpm_unit, place_of_cpm_unit}
use Rattle.rd_geometry.specs.declared.kind.Kind.TheVariants.{Cpm8}
use Rattle.rd_cpm.specs.Contents.{AreEntries, AreSectors, bytes_of_sectors}
use Rattle.rd_cpm.specs.Entries.{entry_of_slot, rc_of}
use Rattle.rd_cpm.specs.Faults.{IsSound}
use Rattle.rd_cpm.specs.Files.{Directory, IsEntryOf}
use Rattle.rd_cpm.specs.Listing.{AreFiles, Describes}
use Rattle.rd_cpm.specs.declared.listing.CpmFile.{CpmFile}
use Rattle.rd_volume.specs.CpmFounds.{IsCpmFile, last_sector_length}
use Rattle.rd_volume.specs.Printed.{cpm_name_of, cpm_type_of}
use Rattle.rd_volume.specs.Tells.{TellsCpm, TellsCpmFiles}
use Rattle.rd_volume.specs.Volumes.{AreFounds, IsFoundAt}
use Rattle.rd_volume.specs.declared.found.Found.{Found}
use Rattle.rd_volume.proofs.ListLemmas.{each_told, few_below, items_ascend, numbers_ascend, same_numbers}

entry_in : (d : Directory) (k : ℕ) (slots : List ℕ) → AreEntries d k slots → All (IsEntryOf d k) slots
entry_in d k slots are i e inside = (are.each (slice_index_or slots i e)).0 (Contains-get_or slots i e inside)

few_entries : (d : Directory) (k : ℕ) (slots : List ℕ) → AreEntries d k slots → length slots ≤ 64
few_entries d k slots are = few_below slots 64 (λ i e inside. (entry_in d k slots are i e inside).slot) are.once

not_above : (a b : ℕ) → (b < a → ⊥) → a ≤ b
not_above a b none = omega arith

few_records : (d : Directory) (k : ℕ) (slots : List ℕ) → AreEntries d k slots → IsSound d k → All (λ j. rc_of (d j) ≤ 128) slots
few_records d k slots are sound i e inside =
    not_above (rc_of (d (slice_index_or slots i e))) 128
    (λ many. sound.no_bad_count (record { entry = slice_index_or slots i e; of_file = entry_in d k slots are i e inside; many = many }))

-- a file has at most 64 entries, and a sound one at most 128 records in each
pub few_sectors : (image : List ℕ) (file : CpmFile) → Describes image file → length file.sectors ≤ 8192
few_sectors image file described = elim (cases_eq file.faults 0) [
  | inl zero ↦
      let sound : IsSound (entry_of_slot image) file.slot = described.faults.sound.0 zero in
      let are : AreSectors (entry_of_slot image) file.slot file.sectors = described.sectors sound in
      let count : length file.sectors ≡ sum_by (λ j. rc_of (entry_of_slot image j)) are.entries = are.count in
      let most = sum_by-le (λ j. rc_of (entry_of_slot image j)) 128 are.entries (few_records (entry_of_slot image) file.slot are.entries are.of_file sound) in
      let entries : length are.entries ≤ 64 = few_entries (entry_of_slot image) file.slot are.entries are.of_file in
      omega arith
  | inr some ↦ let none : file.sectors ≡ [] = described.none_where_faulty (λ sound. some (described.faults.sound.1 sound)) in rw none (omega arith)
]

pub all_few : (image : List ℕ) (files : List CpmFile) → AreFiles image files → All (λ file. length file.sectors ≤ 8192) files
all_few image files are i d inside = few_sectors image (slice_index_or files i d) (are.each i d inside)

-- a sector is 128 bytes of the image
length_sector : (image : List ℕ) (n : ℕ) → length image ≡ CPM_SIZE → n < CPM_UNITS → length (cpm_unit image n) ≡ 128
length_sector image n size below =
    let inside : place_of_cpm_unit n + CPM_UNIT_LENGTH ≤ length image = cpm_unit_inside n (length image) below size in
    simp (length-take, length-drop) (omega arith)

length_sectors : (image sectors : List ℕ) → length image ≡ CPM_SIZE → All (λ n. n < CPM_UNITS) sectors
    → length (bytes_of_sectors image sectors) ≡ 128 * length sectors
length_sectors image [] size on_disk = refl
length_sectors image (n ∷ sectors) size on_disk =
    let first : length (cpm_unit image n) ≡ 128 = length_sector image n size (All-head (λ n. n < CPM_UNITS) n sectors on_disk) in
    let rest : length (bytes_of_sectors image sectors) ≡ 128 * length sectors = length_sectors image sectors size (All-tail (λ n. n < CPM_UNITS) n sectors on_disk) in
    length-append (cpm_unit image n) (bytes_of_sectors image sectors) ∙ omega arith

-- a file that is told as rd_cpm tells it is told as it is in the image
pub is_file : (image : List ℕ) (file : CpmFile) (found : Found) → length image ≡ CPM_SIZE → TellsCpm file found → Describes image file → IsCpmFile image found
is_file image file found size tells described = record {
  slot = rw tells.slot described.slot;
  name = rw tells.slot (tells.name ∙ ap cpm_name_of described.name);
  type = rw tells.slot (tells.type ∙ ap cpm_type_of described.name);
  user = rw tells.slot (tells.user ∙ ap Some described.user);
  class = tells.class;
  faults = rw (tells.slot, tells.faults) described.faults;
  sound = λ sound.
      let here : IsSound (entry_of_slot image) file.slot = rw tells.slot at sound in
      record {
        units = rw (tells.slot, tells.units) (described.sectors here);
        size = rw tells.units (tells.size (described.faults.sound.1 here) ∙ ap Some (sym (length_sectors image file.sectors size described.on_disk)));
        last = rw tells.units tells.last;
      };
  faulty = λ faulty.
      let here : ¬ IsSound (entry_of_slot image) file.slot = rw tells.slot at faulty in
      let none : file.sectors ≡ [] = described.none_where_faulty here in
      record {
        size = tells.none (λ zero. here (described.faults.sound.0 zero));
        units = tells.units ∙ none;
        last = tells.last ∙ ap last_sector_length none;
      };
}

-- the files of an image, told, are those of the image
pub founds_are : (image : List ℕ) (files : List CpmFile) (founds : List Found) → length image ≡ CPM_SIZE → AreFiles image files → TellsCpmFiles files founds
    → AreFounds Cpm8 image founds
founds_are image files founds size are tells =
    let slots = same_numbers TellsCpm (λ f. f.slot) (λ g. g.slot) (λ f g one. one.slot) files founds tells in
    record {
      each = each_told TellsCpm (Describes image) (IsCpmFile image) (λ f g one described. is_file image f g size one described) files founds tells are.each;
      ascending = items_ascend (λ g. g.slot) founds
          (subst (AllPairs (λ m n. m < n)) (sym slots) (numbers_ascend (λ f. f.slot) files are.ascending));
      complete = λ k is. subst (λ ns. Contains ns k) (sym slots) (are.complete k is);
    }

-- the file that an answer holds is that of the slot
pub answered : (image : List ℕ) (answer : Option CpmFile) (file : CpmFile) → answer ≡ Some file → IfSome answer (Describes image) → Describes image file
answered image answer file is described = subst (λ o. IfSome o (Describes image)) is described

-- the file at a slot, told, is that of the image
pub found_at : (image : List ℕ) (slot : ℕ) (answer : Option CpmFile) (file : CpmFile) (found : Found) → length image ≡ CPM_SIZE → answer ≡ Some file
    → IfSome answer (λ f. f.slot ≡ slot) → IfSome answer (Describes image) → TellsCpm file found → IsFoundAt Cpm8 image slot (Some found)
found_at image slot answer file found size is at described tells =
    let here : file.slot ≡ slot = subst (λ o. IfSome o (λ (f : CpmFile). f.slot ≡ slot)) is at in
    record {
      same_slot = tells.slot ∙ here;
      described = is_file image file found size tells (answered image answer file is described);
      none = tt;
    }
