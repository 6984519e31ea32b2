-- Proofs: what is true of the files of one image is true of those of another: the law on needed bytes, one way.
use Rattle.std.proofs.Common.{◌≡◌, ◌+◌, ℕ, List, Contains, refl, slice_index_or, sym}
use Rattle.rd_geometry.specs.declared.kind.Kind.{Kind}
use Rattle.rd_volume.specs.AlikePieces.{pieces_alike}
use Rattle.rd_volume.specs.Founds.{IsSoundFile}
use Rattle.rd_volume.specs.Needed.{AgreesOnNeeded, AreUnitsOf, DescribesFiles, IsNeeded, TellTheSame, describing, of_served}
use Rattle.rd_volume.specs.Reports.{IsSoundSlot}
use Rattle.rd_volume.specs.Volumes.{AreBytesOf, AreFounds, IsFound, IsSlotOfFile, pieces_of}
use Rattle.rd_volume.specs.declared.found.Found.{Found}

-- `image` keeps the files of `other`: each byte that describes the files of `other` describes those of
-- `image`, and each sound file of `other` is sound in `image`, with the same units.
pub record KeepsFiles (kind : Kind) (image other : List ℕ) : Type 0 where
  pub describes : (place : ℕ) → DescribesFiles kind other place → DescribesFiles kind image place
  pub sound : (slot : ℕ) → IsSoundSlot kind other slot → IsSoundSlot kind image slot
  pub units : (slot last : ℕ) (units : List ℕ) → IsSoundSlot kind other slot → AreUnitsOf kind other slot units last
      → AreUnitsOf kind image slot units last

-- so each byte that is needed of the other is needed
needed_alike : (kind : Kind) (image other served : List ℕ) → KeepsFiles kind image other → (place : ℕ) → IsNeeded kind other served place
    → IsNeeded kind image served place
needed_alike kind image other served has place (describing is) = describing (has.describes place is)
needed_alike kind image other served has place (of_served is) = of_served (record {
  slot = is.slot;
  among_served = is.among_served;
  sound = has.sound is.slot is.sound;
  units = is.units;
  last = is.last;
  are_units = has.units is.slot is.last is.units is.sound is.are_units;
  range = is.range;
  of_file = is.of_file;
  byte = is.byte;
  in_range = is.in_range;
  in_unit = is.in_unit;
  there = is.there;
})

-- the pieces of a served file are the same in an image that agrees
pub served_pieces : (kind : Kind) (image other served : List ℕ) → AgreesOnNeeded kind image other served → (slot last : ℕ) (units : List ℕ)
    → Contains served slot → IsSoundSlot kind other slot → AreUnitsOf kind other slot units last
    → pieces_of kind image units last ≡ pieces_of kind other units last
served_pieces kind image other served agrees slot last units among sound are =
    pieces_alike kind image other units last agrees.size (λ range byte of_file in_range in_unit.
    agrees.same (range.start + byte) (of_served (record {
      slot = slot;
      among_served = among;
      sound = sound;
      units = units;
      last = last;
      are_units = are;
      range = range;
      of_file = of_file;
      byte = byte;
      in_range = in_range;
      in_unit = in_unit;
      there = refl;
    })))

-- `image` has the files of `other`, with their descriptions, and the served ones among its sound files have
-- the same bytes and pieces.
pub record TellsAllOf (kind : Kind) (image other served : List ℕ) : Type 0 where
  pub file : (slot : ℕ) → IsSlotOfFile kind other slot → IsSlotOfFile kind image slot
  pub found : (found : Found) → IsFound kind other found → IsFound kind image found
  pub bytes : (slot : ℕ) (bytes : List ℕ) → Contains served slot → IsSoundSlot kind other slot
      → AreBytesOf kind other slot bytes → AreBytesOf kind image slot bytes
  pub pieces : (found : Found) → Contains served found.slot → IsFound kind other found → IsSoundFile found
      → pieces_of kind image found.units found.last_len ≡ pieces_of kind other found.units found.last_len

-- two images that each have the other's files have the same list of files
founds_alike : (kind : Kind) (image other served : List ℕ) → TellsAllOf kind image other served → TellsAllOf kind other image served → (founds : List Found)
    → AreFounds kind other founds → AreFounds kind image founds
founds_alike kind image other served there back founds are = record {
  each = λ i found inside. there.found (slice_index_or founds i found) (are.each i found inside);
  ascending = are.ascending;
  complete = λ slot file. are.complete slot (back.file slot file);
}

-- The law of a kind: if `image` agrees with `other` on the needed bytes of `other`, each keeps the files of
-- the other, and `image` has all that `other` has of them.
pub record HasLaw (kind : Kind) : Type 0 where
  pub files : (image other served : List ℕ) → AgreesOnNeeded kind image other served → KeepsFiles kind image other × KeepsFiles kind other image
  pub tells : (image other served : List ℕ) → AgreesOnNeeded kind image other served → TellsAllOf kind image other served

-- so agreement is mutual, and the images tell the same
pub by_law : (kind : Kind) → HasLaw kind → (image other served : List ℕ) → AgreesOnNeeded kind image other served → TellTheSame kind image other served
by_law kind law image other served agrees =
    let files = law.files image other served agrees in
    let turned : AgreesOnNeeded kind other image served = record {
      size = sym agrees.size;
      same = λ place needs. sym (agrees.same place (needed_alike kind other image served files.1 place needs));
    } in
    let there : TellsAllOf kind image other served = law.tells image other served agrees in
    let back : TellsAllOf kind other image served = law.tells other image served turned in
    record {
      needed = λ place. (needed_alike kind other image served files.1 place, needed_alike kind image other served files.0 place);
      file = λ slot. (back.file slot, there.file slot);
      found = λ found. (back.found found, there.found found);
      founds = λ founds. (founds_alike kind other image served back there founds, founds_alike kind image other served there back founds);
      sound = λ slot. (files.1.sound slot, files.0.sound slot);
      bytes = λ slot bytes among sound. (back.bytes slot bytes among (files.0.sound slot sound), there.bytes slot bytes among sound);
      pieces = there.pieces;
    }
