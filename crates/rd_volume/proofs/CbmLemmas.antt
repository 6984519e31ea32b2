-- The files of a 1541 disk as both kinds tell them.
use Rattle.std.proofs.Common.{◌≡◌, ◌∙◌, inl, inr, ◌↔◌, ◌+◌, ◌-◌, ◌*◌, ◌%◌, ◌<◌, ◌≤◌, ◌&&◌, ℕ, List, [], ◌∷◌, All, AllPairs, Contains, IfNone, IfSome, IsTrue, None, Option, Some, ap, append-nil, sym, arith, cond, drop, false, length, nat_eq, nat_le, refl, slice_index_or, subst, take, true}
use Rattle.std.proofs.lemmas.Bool.{agree_below_at, and_from, and_parts, cases_Bool, cases_eq, le-leb, leb-true}
use Rattle.std.proofs.lemmas.List.{length-append, length-drop, length-take}
use Rattle.std.proofs.lemmas.List.Elements.{All-head, All-tail}
use Rattle.rd_geometry.specs.Blocks.{CBM_BLOCKS, CBM_BLOCK_LENGTH, CBM_SIZE, cbm_block, place_of_block}
use Rattle.rd_geometry.specs.Kinds.{IsCbm}
use Rattle.rd_geometry.specs.Laws.{block_inside}
use Rattle.rd_geometry.specs.declared.kind.Kind.{Kind}
use Rattle.rd_geometry.specs.declared.kind.Kind.TheVariants.{Cpm8, D64}
use Rattle.rd_cbm.specs.Entries.{IsServed, class_of, entry_at, type_of}
use Rattle.rd_cbm.specs.Faults.{IsSound}
use Rattle.rd_cbm.specs.Files.{IsFileSlot}
use Rattle.rd_cbm.specs.Listing.{AreFiles, Describes, IsFileAt}
use Rattle.rd_cbm.specs.declared.class.Class.{Class}
use Rattle.rd_cbm.specs.declared.class.Class.TheVariants.{Del, Seq, Prg, Usr, Rel, Other}
use Rattle.rd_cbm.specs.declared.listing.CbmFile.{CbmFile}
use Rattle.rd_cbm.proofs.OneChain.{one_chain}
use Rattle.rd_volume.specs.CbmFounds.{IsCbmFile, bytes_of_chain}
use Rattle.rd_volume.specs.CbmKinds.{not_cpm}
use Rattle.rd_volume.specs.OneDirectory.{holds_of_directory, holds_of_blocks}
use Rattle.rd_volume.specs.Printed.{cbm_type_of, printed}
use Rattle.rd_volume.specs.Tells.{TellsCbm, TellsCbmFiles, is_served, length_of_blocks}
use Rattle.rd_volume.specs.Volumes.{AreFounds, IsFound, IsFoundAt}
use Rattle.rd_volume.specs.declared.found.Found.{Found}
use Rattle.rd_volume.proofs.ListLemmas.{each_told, few_below, items_ascend, numbers_ascend, same_numbers}

-- the class by the low four bits of a type byte, and whether it is served
abbrev pub class_by : ℕ → Class
class_by k = cond (nat_eq k 0) Del (cond (nat_eq k 1) Seq (cond (nat_eq k 2) Prg (cond (nat_eq k 3) Usr (cond (nat_eq k 4) Rel Other))))

served_by : (k : ℕ) → k < 16 → is_served (class_by k) ≡ (nat_le 1 k && nat_le k 3)
served_by k low = agree_below_at (λ k. is_served (class_by k)) (λ k. nat_le 1 k && nat_le k 3) 16 k refl low

pub class_is : (type : ℕ) → class_of type ≡ class_by (type % 16)
class_is type = refl

served_class : (type : ℕ) → IsTrue (is_served (class_of type)) ↔ IsServed type
served_class type =
    let by : is_served (class_of type) ≡ (nat_le 1 (type % 16) && nat_le (type % 16) 3) =
    ap is_served (class_is type) ∙ served_by (type % 16) (omega arith) in (
      λ t. let parts = and_parts (nat_le 1 (type % 16)) (nat_le (type % 16) 3) (sym by ∙ t) in
          (leb-true 1 (type % 16) parts.0, leb-true (type % 16) 3 parts.1),
      λ served. by ∙ and_from (nat_le 1 (type % 16)) (nat_le (type % 16) 3) (le-leb 1 (type % 16) served.0) (le-leb (type % 16) 3 served.1),
    )

-- the file is of the class that is served where its entry says so
pub told_class : (image blocks : List ℕ) (file : CbmFile) → Describes image blocks file → IsTrue (is_served file.class) ↔ IsServed (type_of (entry_at image blocks file.slot))
told_class image blocks file described = rw described.class (served_class (type_of (entry_at image blocks file.slot)))

sound_file : (image blocks : List ℕ) (file : CbmFile) → Describes image blocks file → is_served file.class ≡ true → file.faults ≡ 0 → IsSound image blocks file.slot
sound_file image blocks file described served zero = record { served = (told_class image blocks file described).0 served; no_fault = described.faults.none.0 zero }

not_served : (image blocks : List ℕ) (file : CbmFile) → Describes image blocks file → is_served file.class ≡ false → IsSound image blocks file.slot → ⊥
not_served image blocks file described other sound =
    let served : is_served file.class ≡ true = (told_class image blocks file described).1 sound.served in
    let wrong : true ≡ false = sym served ∙ other in cc

-- a chain has at most as many blocks as the disk
pub few_blocks : (image blocks : List ℕ) (file : CbmFile) → Describes image blocks file → length file.blocks ≤ 683
few_blocks image blocks file described = elim (cases_Bool (is_served file.class)) [
  | inl served ↦ elim (cases_eq file.faults 0) [
    | inl zero ↦ few_below file.blocks CBM_BLOCKS described.on_disk (described.chain (sound_file image blocks file described served zero)).once
    | inr some ↦ let none : file.blocks ≡ [] = described.no_blocks (λ sound. some (described.faults.none.1 sound.no_fault)) in rw none (omega arith)
  ]
  | inr other ↦ let none : file.blocks ≡ [] = described.no_blocks (λ sound. not_served image blocks file described other sound) in rw none (omega arith)
]

pub all_few : (image : List ℕ) (files : List CbmFile) → AreFiles image files → All (λ file. length file.blocks ≤ 683) files
all_few image files are i d inside = few_blocks image are.blocks (slice_index_or files i d) (are.each i d inside)

-- how long the bytes of a chain are
length_block : (image : List ℕ) (n : ℕ) → CBM_SIZE ≤ length image → n < CBM_BLOCKS → length (drop 2 (cbm_block image n)) ≡ 254
length_block image n size below =
    let inside : place_of_block n + CBM_BLOCK_LENGTH ≤ length image = block_inside n (length image) below size in
    simp (length-take, length-drop) (omega arith)

length_chain : (image chain : List ℕ) (used : ℕ) → CBM_SIZE ≤ length image → used < 256 → All (λ n. n < CBM_BLOCKS) chain
    → length (bytes_of_chain image chain used) ≡ length_of_blocks chain (used - 1)
length_chain image [] used size byte on_disk = refl
length_chain image (n ∷ []) used size byte on_disk =
    let whole : length (drop 2 (cbm_block image n)) ≡ 254 = length_block image n size (All-head (λ n. n < CBM_BLOCKS) n [] on_disk) in
    ap length (append-nil (take (used + 1 - 2) (drop 2 (cbm_block image n))))
    ∙ length-take (used + 1 - 2) (drop 2 (cbm_block image n)) ∙ omega arith
length_chain image (n ∷ m ∷ chain) used size byte on_disk =
    let whole : length (drop 2 (cbm_block image n)) ≡ 254 = length_block image n size (All-head (λ n. n < CBM_BLOCKS) n (m ∷ chain) on_disk) in
    let rest : length (bytes_of_chain image (m ∷ chain) used) ≡ 254 * length chain + (used - 1) =
    length_chain image (m ∷ chain) used size byte (All-tail (λ n. n < CBM_BLOCKS) n (m ∷ chain) on_disk) in
    let first : length (take 254 (drop 2 (cbm_block image n))) ≡ 254 = length-take 254 (drop 2 (cbm_block image n)) ∙ omega arith in
    length-append (take 254 (drop 2 (cbm_block image n))) (bytes_of_chain image (m ∷ chain) used) ∙ omega arith

-- a file that is told as rd_cbm tells it is told as it is in the image
pub is_file : (image blocks : List ℕ) (file : CbmFile) (found : Found) → CBM_SIZE ≤ length image → TellsCbm file found → Describes image blocks file
    → IsCbmFile image found blocks
is_file image blocks file found size tells described = record {
  slot = rw tells.slot described.slot;
  name = rw tells.slot (tells.name ∙ ap (printed D64) described.name);
  type = rw tells.slot (tells.type ∙ ap cbm_type_of described.class);
  user = tells.user;
  class = rw (tells.slot, tells.class) (told_class image blocks file described);
  faults = rw (tells.slot, tells.faults) described.faults;
  sound = λ sound.
      let here : IsSound image blocks file.slot = rw tells.slot at sound in
      let length_is : length (bytes_of_chain image file.blocks file.last) ≡ length_of_blocks file.blocks (file.last - 1) =
      length_chain image file.blocks file.last size tells.byte described.on_disk in
      record {
        chain = rw (tells.slot, tells.units) (described.chain here);
        on_disk = rw tells.units described.on_disk;
        used = file.last;
        ends = rw tells.slot (described.last here);
        byte = tells.byte;
        size = rw tells.units (tells.size ((told_class image blocks file described).1 here.served) (described.faults.none.1 here.no_fault) ∙ ap Some (sym length_is));
        last = tells.last;
      };
  faulty = λ faulty.
      let here : ¬ IsSound image blocks file.slot = rw tells.slot at faulty in
      record {
        size = tells.none (λ served zero. here (sound_file image blocks file described served zero));
        units = tells.units ∙ described.no_blocks here;
        last = tells.last ∙ ap (λ n. n - 1) (described.no_last here);
      };
}

-- the files of an image, told, are those of the image
pub founds_are : (kind : Kind) → IsCbm kind → (image : List ℕ) (files : List CbmFile) (founds : List Found) → CBM_SIZE ≤ length image → AreFiles image files → TellsCbmFiles files founds
    → AreFounds kind image founds
founds_are Cpm8 cbm image files founds size are tells = absurd (not_cpm cbm)
founds_are kind cbm image files founds size are tells =
    let slots = same_numbers TellsCbm (λ f. f.slot) (λ g. g.slot) (λ f g one. one.slot) files founds tells in
    record {
      each = each_told TellsCbm (Describes image are.blocks) (IsFound kind image)
          (λ f g one described. record { blocks = are.blocks; are_blocks = are.directory; holds = is_file image are.blocks f g size one described })
          files founds tells are.each;
      ascending = items_ascend (λ g. g.slot) founds
          (subst (AllPairs (λ m n. m < n)) (sym slots) (numbers_ascend (λ f. f.slot) files are.ascending));
      complete = λ k is. subst (λ ns. Contains ns k) (sym slots)
          (are.complete k (subst (λ bs. IsFileSlot image bs k) (one_chain _ _ is.blocks are.blocks is.are_blocks are.directory) is.holds));
    }

-- the file that an answer holds is that of the slot
pub answered : (image blocks : List ℕ) (answer : Option CbmFile) (file : CbmFile) → answer ≡ Some file → IfSome answer (Describes image blocks)
    → Describes image blocks file
answered image blocks answer file is described = subst (λ o. IfSome o (Describes image blocks)) is described

-- the file at a slot, told, is that of the image
pub found_at : (kind : Kind) → IsCbm kind → (image : List ℕ) (slot : ℕ) (answer : Option CbmFile) (file : CbmFile) (found : Found) → CBM_SIZE ≤ length image → answer ≡ Some file
    → IsFileAt image slot answer → TellsCbm file found → IsFoundAt kind image slot (Some found)
found_at Cpm8 cbm image slot answer file found size is at tells = absurd (not_cpm cbm)
found_at kind cbm image slot answer file found size is at tells =
    let here : file.slot ≡ slot = subst (λ o. IfSome o (λ (f : CbmFile). f.slot ≡ slot)) is at.same_slot in
    record {
      same_slot = tells.slot ∙ here;
      described = holds_of_directory image at.blocks at.directory _ (is_file image at.blocks file found size tells (answered image at.blocks answer file is at.described));
      none = tt;
    }

-- a slot that no file of the directory has is no file's
pub found_none : (kind : Kind) → IsCbm kind → (image : List ℕ) (slot : ℕ) (answer : Option CbmFile) → answer ≡ None → IsFileAt image slot answer → IsFoundAt kind image slot None
found_none Cpm8 cbm image slot answer is at = absurd (not_cpm cbm)
found_none _ cbm image slot answer is at =
    let free : ¬ IsFileSlot image at.blocks slot = subst (λ o. IfNone o (¬ IsFileSlot image at.blocks slot)) is at.none in
    record { same_slot = tt; described = tt; none = λ there. free (holds_of_blocks image at.blocks at.directory _ there) }
