-- The file that `cat` finds and writes, in the words of its contract.
use Rattle.std.proofs.Common.{◌≡◌, ◌≢◌, inr, ℕ, List, IsTrue, None, Option, Result, Some, Ok, Err, OnOk, IfErr, OnErr, length, refl, subst, sym}
use Rattle.std.specs.Io.KnownBytes.{Appends}
use Rattle.rd_geometry.specs.Kinds.{size_of}
use Rattle.rd_geometry.specs.declared.kind.Kind.{Kind}
use Rattle.rd_geometry.specs.declared.kind.Kind.TheVariants.{Cpm8}
use Rattle.rd_volume.specs.Volumes.{AreBytesOf, IsFound, IsFoundAt, IsSlotOfFile}
use Rattle.rd_volume.specs.declared.found.Found.{Found}
use Rattle.rd_volume.proofs.FoundFile.{described_faults, described_served, described_slot}
use Rattle.rd_commands.specs.Cat.{AreFaultsOf, HasFaultyFile, IsCat, IsFaultyBy, IsListedOnly, Refuses, Serves, ServesPart}
use Rattle.rd_commands.specs.Output.{AppendsPart}
use Rattle.rd_commands.specs.declared.refusal.Refusal.{Refusal}
use Rattle.rd_commands.specs.declared.refusal.Refusal.TheVariants.{Device}

-- An image of a kind has a file that is told, at a slot.
pub record HasFound (kind : Kind) (image : List ℕ) (slot : ℕ) (file : Found) : Type 0 where
  pub size : length image ≡ size_of kind
  pub described : IsFound kind image file
  pub at : file.slot ≡ slot

-- a file that is found at a slot is told
pub found_file : (kind of_disk : Kind) (image disk : List ℕ) (slot : ℕ) (answer : Option Found) (file : Found) → length image ≡ size_of kind
    → of_disk ≡ kind → disk ≡ image → answer ≡ Some file → IsFoundAt of_disk disk slot answer → HasFound kind image slot file
found_file kind of_disk image disk slot answer file size same_kind same is at =
    let here : IsFoundAt of_disk disk slot (Some file) = subst (IsFoundAt of_disk disk slot) is at in
    record {
      size = size;
      described = subst (λ k. IsFound k image file) same_kind (subst (λ bytes. IsFound of_disk bytes file) same here.described);
      at = here.same_slot;
    }

-- a slot at which no file of the disk is found is no file's of the image
pub absent : (kind of_disk : Kind) (image disk : List ℕ) (slot : ℕ) (answer : Option Found) → of_disk ≡ kind → disk ≡ image → answer ≡ None
    → IsFoundAt of_disk disk slot answer → ¬ IsSlotOfFile kind image slot
absent kind of_disk image disk slot answer same_kind same is at =
    let here : IsFoundAt of_disk disk slot None = subst (IsFoundAt of_disk disk slot) is at in
    subst (λ k. ¬ IsSlotOfFile k image slot) same_kind (subst (λ bytes. ¬ IsSlotOfFile of_disk bytes slot) same here.none)

-- a file that is told not to be of the class that is served is listed only
pub listed_only : (kind : Kind) (slot : ℕ) (image : List ℕ) (file : Found) → HasFound kind image slot file → ¬ IsTrue file.served_class
    → IsListedOnly kind slot image
listed_only kind slot image file has other =
    subst (λ s. IsListedOnly kind s image) has.at (record {
      size = has.size;
      file = described_slot kind image file has.described;
      not_served = λ served. other ((described_served kind image file has.described).1 served);
    })

-- one of that class whose faults are told is faulty
faulty_file : (kind : Kind) (slot : ℕ) (image : List ℕ) (file : Found) → HasFound kind image slot file → IsTrue file.served_class → file.faults ≢ 0
    → HasFaultyFile kind slot image
faulty_file kind slot image file has served some =
    subst (λ s. HasFaultyFile kind s image) has.at (record {
      size = has.size;
      file = described_slot kind image file has.described;
      served = (described_served kind image file has.described).0 served;
      faulty = λ none. some ((described_faults kind image file has.described).1 none);
    })

-- the faults that are told of a file are those of the file at its slot
found_faults : (kind : Kind) (image : List ℕ) (file : Found) → IsFound kind image file → AreFaultsOf kind image file.slot file.faults
found_faults Cpm8 image file described = described.faults
found_faults _ image file described = record { blocks = described.blocks; are_blocks = described.are_blocks; holds = described.holds.faults }

-- so it is faulty by these
pub faulty_by : (kind : Kind) (slot : ℕ) (image : List ℕ) (file : Found) → HasFound kind image slot file → IsTrue file.served_class → file.faults ≢ 0
    → IsFaultyBy kind slot image kind file.faults
faulty_by kind slot image file has served some = record {
  file = faulty_file kind slot image file has served some;
  same_kind = refl;
  are_faults = subst (λ s. AreFaultsOf kind image s file.faults) has.at (found_faults kind image file has.described);
}

-- the bytes of a file that is found, of that class and with no fault
pub is_cat : (kind : Kind) (slot : ℕ) (image out : List ℕ) (file : Found) → HasFound kind image slot file → IsTrue file.served_class → file.faults ≡ 0
    → AreBytesOf kind image file.slot out → IsCat kind slot image out
is_cat kind slot image out file has served zero bytes =
    subst (λ s. IsCat kind s image out) has.at (record {
      size = has.size;
      file = described_slot kind image file has.described;
      served = (described_served kind image file has.described).0 served;
      no_fault = (described_faults kind image file has.described).0 zero;
      bytes = bytes;
    })

-- the bytes of a disk's file are those of the image
pub image_bytes : (kind of_disk : Kind) (image disk out : List ℕ) (file : Found) → of_disk ≡ kind → disk ≡ image → IsFound kind image file
    → (IsFound of_disk disk file → AreBytesOf of_disk disk file.slot out) → AreBytesOf kind image file.slot out
image_bytes kind of_disk image disk out file same_kind same described bytes =
    subst (λ xs. IsFound kind xs file → AreBytesOf kind xs file.slot out) same
    (subst (λ k. IsFound k disk file → AreBytesOf k disk file.slot out) same_kind bytes) described

-- what the pieces of a file wrote, its bytes are
pub served : {T E : Type 0} (r : Result T E) (kind : Kind) (slot : ℕ) (image out : List ℕ) (old new : Option (List ℕ))
    → IsCat kind slot image out → OnOk r (Appends old new out) → OnOk r (Serves kind slot image old new)
served (Ok value) kind slot image out old new cat gained = record { out = out; is_cat = cat; gained = gained }
served (Err error) kind slot image out old new cat gained = tt

-- and so where a write failed
pub cut : {T : Type 0} (r : Result T Refusal) (kind : Kind) (slot : ℕ) (image out : List ℕ) (old new : Option (List ℕ))
    → IsCat kind slot image out → OnErr r (AppendsPart old new out) → IfErr r (λ refusal. refusal ≡ Device)
    → IfErr r (λ refusal. Refuses refusal kind slot image old new)
cut (Ok value) kind slot image out old new cat gained device = tt
cut (Err refusal) kind slot image out old new cat gained device =
    let part : ServesPart kind slot image old new = record { out = out; is_cat = cat; gained = gained } in
    subst (λ e. Refuses e kind slot image old new) (sym device) (inr part)
