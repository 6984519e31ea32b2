-- A file of an image is told in one way.
use Rattle.std.proofs.Common.{◌≡◌, ◌∙◌, inl, inr, ◌↔◌, ◌-◌, ℕ, List, IsTrue, Option, Some, ap, ap₂, false, length, refl, subst, sym, true}
use Rattle.std.proofs.lemmas.Bool.{cases_Bool, cases_eq}
use Rattle.std.proofs.lemmas.Bool.Decides.{same_from_decides}
use Rattle.rd_geometry.specs.declared.kind.Kind.{Kind}
use Rattle.rd_geometry.specs.declared.kind.Kind.TheVariants.{Cpm8, D64}
use Rattle.rd_cbm.specs.Entries.{Data, IsServed, class_of, entry_at, name_of, start_of, type_of}
use Rattle.rd_cbm.specs.Faults as cbm
use Rattle.rd_cbm.specs.Links.{link_of}
use Rattle.rd_cbm.specs.Walks.{Ends, IsChain}
use Rattle.rd_cbm.proofs.OneChain.{one_chain, one_last}
use Rattle.rd_cpm.specs.Contents.{AreSectors, bytes_of_sectors}
use Rattle.rd_cpm.specs.Entries as cpm_entry
use Rattle.rd_cpm.specs.Entries.{without_high_bits, entry_of_slot}
use Rattle.rd_cpm.specs.Faults as cpm
use Rattle.rd_cpm.specs.Files.{Directory}
use Rattle.rd_cpm.proofs.OneSectors.{one_sectors}
use Rattle.rd_volume.specs.CbmFounds.{HasCbmContents, IsCbmFile, bytes_of_chain}
use Rattle.rd_volume.specs.CpmFounds.{HasCpmContents, IsCpmFile, last_sector_length}
use Rattle.rd_volume.specs.Founds.{HasNoContents}
use Rattle.rd_volume.specs.OneDirectory.{holds_of_blocks}
use Rattle.rd_volume.specs.Printed.{cbm_type_of, cpm_name_of, cpm_type_of, printed}
use Rattle.rd_volume.specs.Volumes.{IsFound}
use Rattle.rd_volume.specs.declared.found.Found.{Found}
use Rattle.rd_volume.proofs.OneFaults.{one_cbm_faults, one_cpm_faults}

-- Two files tell of the same contents.
record HaveSameContents (f g : Found) : Type 0 where
  size : f.size ≡ g.size
  units : f.units ≡ g.units
  last : f.last_len ≡ g.last_len

same_found : (f g : Found) → f.slot ≡ g.slot → f.name ≡ g.name → f.ty ≡ g.ty → f.user ≡ g.user → f.served_class ≡ g.served_class → f.faults ≡ g.faults
    → HaveSameContents f g → f ≡ g
same_found f g slot name ty user class faults contents = rw (slot, name, ty, user, class, faults, contents.size, contents.units, contents.last) refl

no_contents : (f g : Found) → HasNoContents f → HasNoContents g → HaveSameContents f g
no_contents f g one other = record { size = one.size ∙ sym other.size; units = one.units ∙ sym other.units; last = one.last ∙ sym other.last }

cpm_sound : (image : List ℕ) (f g : Found) → f.slot ≡ g.slot → cpm.IsSound (entry_of_slot image) f.slot → HasCpmContents image f → HasCpmContents image g → HaveSameContents f g
cpm_sound image f g slot sound one other =
    let units : f.units ≡ g.units = one_sectors (entry_of_slot image) f.slot f.units g.units sound one.units
    (subst (λ k. AreSectors (entry_of_slot image) k g.units) (sym slot) other.units) in
    record {
      size = one.size ∙ ap (λ us. Some (length (bytes_of_sectors image us))) units ∙ sym other.size;
      units = units;
      last = one.last ∙ ap last_sector_length units ∙ sym other.last;
    }

cpm_contents : (image : List ℕ) (f g : Found) → f.slot ≡ g.slot → IsCpmFile image f → IsCpmFile image g → HaveSameContents f g
cpm_contents image f g slot one other = elim (cases_eq f.faults 0) [
  | inl none ↦ (
      let sound : cpm.IsSound (entry_of_slot image) f.slot = one.faults.sound.0 none in
      cpm_sound image f g slot sound (one.sound sound) (other.sound (subst (cpm.IsSound (entry_of_slot image)) slot sound)))
  | inr some ↦ no_contents f g (one.faulty (λ sound. some (one.faults.sound.1 sound)))
      (other.faulty (λ sound. some (one.faults.sound.1 (subst (cpm.IsSound (entry_of_slot image)) (sym slot) sound))))
]

cpm_found : (image : List ℕ) (f g : Found) → f.slot ≡ g.slot → IsCpmFile image f → IsCpmFile image g → f ≡ g
cpm_found image f g slot one other =
    let d : Directory = entry_of_slot image in
    same_found f g slot
    (one.name ∙ ap (λ k. cpm_name_of (without_high_bits (cpm_entry.name_of (d k)))) slot ∙ sym other.name)
    (one.type ∙ ap (λ k. cpm_type_of (without_high_bits (cpm_entry.name_of (d k)))) slot ∙ sym other.type)
    (one.user ∙ ap (λ k. Some (cpm_entry.user_byte_of (d k))) slot ∙ sym other.user)
    (one.class ∙ sym other.class)
    (one_cpm_faults d f.slot f.faults g.faults one.faults (subst (λ k. cpm.AreFaults d k g.faults) (sym slot) other.faults))
    (cpm_contents image f g slot one other)

cbm_sound : (image blocks : List ℕ) (f g : Found) → f.slot ≡ g.slot → HasCbmContents image blocks f → HasCbmContents image blocks g → HaveSameContents f g
cbm_sound image blocks f g slot one other =
    let start : Option ℕ = start_of (entry_at image blocks f.slot) Data in
    let units : f.units ≡ g.units = one_chain (link_of image) start f.units g.units one.chain
    (subst (λ k. IsChain (link_of image) (start_of (entry_at image blocks k) Data) g.units) (sym slot) other.chain) in
    let used : one.used ≡ other.used = one_last (link_of image) start one.used other.used one.ends
    (subst (λ k. Ends (link_of image) (start_of (entry_at image blocks k) Data) other.used) (sym slot) other.ends) in
    record {
      size = one.size ∙ ap₂ (λ us e. Some (length (bytes_of_chain image us e))) units used ∙ sym other.size;
      units = units;
      last = one.last ∙ ap (λ e. e - 1) used ∙ sym other.last;
    }

cbm_faulty : (image blocks : List ℕ) (f g : Found) → f.slot ≡ g.slot → IsCbmFile image f blocks → IsCbmFile image g blocks → ¬ cbm.IsSound image blocks f.slot → HaveSameContents f g
cbm_faulty image blocks f g slot one other faulty =
    no_contents f g (one.faulty faulty) (other.faulty (subst (λ k. ¬ cbm.IsSound image blocks k) slot faulty))

cbm_contents : (image blocks : List ℕ) (f g : Found) → f.slot ≡ g.slot → IsCbmFile image f blocks → IsCbmFile image g blocks → HaveSameContents f g
cbm_contents image blocks f g slot one other = elim (cases_Bool f.served_class) [
  | inl served ↦ elim (cases_eq f.faults 0) [
    | inl none ↦ (
        let sound : cbm.IsSound image blocks f.slot = record { served = one.class.0 served; no_fault = one.faults.none.0 none } in
        cbm_sound image blocks f g slot (one.sound sound) (other.sound (subst (cbm.IsSound image blocks) slot sound)))
    | inr some ↦ cbm_faulty image blocks f g slot one other (λ sound. some (one.faults.none.1 sound.no_fault))
  ]
  | inr unserved ↦ cbm_faulty image blocks f g slot one other
      (λ sound. absurd (let wrong : true ≡ false = sym (one.class.1 sound.served) ∙ unserved in cc))
]

cbm_found : (image blocks : List ℕ) (f g : Found) → f.slot ≡ g.slot → IsCbmFile image f blocks → IsCbmFile image g blocks → f ≡ g
cbm_found image blocks f g slot one other =
    same_found f g slot
    (one.name ∙ ap (λ k. printed D64 (name_of (entry_at image blocks k))) slot ∙ sym other.name)
    (one.type ∙ ap (λ k. cbm_type_of (class_of (type_of (entry_at image blocks k)))) slot ∙ sym other.type)
    (one.user ∙ sym other.user)
    (same_from_decides f.served_class g.served_class one.class
    (subst (λ k. IsTrue g.served_class ↔ IsServed (type_of (entry_at image blocks k))) (sym slot) other.class))
    (one_cbm_faults image blocks f.slot f.faults g.faults one.faults (subst (λ k. cbm.AreFaults image blocks k g.faults) (sym slot) other.faults))
    (cbm_contents image blocks f g slot one other)

-- a file of an image is told in one way
pub one_found : (kind : Kind) (image : List ℕ) (f g : Found) → IsFound kind image f → IsFound kind image g → f.slot ≡ g.slot → f ≡ g
one_found Cpm8 image f g one other slot = cpm_found image f g slot one other
one_found _ image f g one other slot =
    cbm_found image one.blocks f g slot one.holds (holds_of_blocks image one.blocks one.are_blocks (IsCbmFile image g) other)
