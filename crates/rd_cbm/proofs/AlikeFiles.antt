-- The files of two 1541 images whose directories have the same blocks. Of an image's bytes they rest on
-- the types of the entries, on the names and the starts of the used ones, and on the links of the blocks
-- that files claim and their error bytes, and on no others.
use Rattle.std.proofs.Common.{◌≡◌, ◌∙◌, inl, inr, ◌↔◌, ◌*◌, ◌<◌, ℕ, List, Option, arith, length, subst, sym}
use Rattle.rd_geometry.specs.Blocks.{mark_of}
use Rattle.rd_cbm.specs.Entries.{ChainRole, Data, ClaimsBy, IsClosed, IsServed, entry_at, name_of, start_of, type_of}
use Rattle.rd_cbm.specs.Faults.{AreFaults, HasNoFault, HasReadError, IsCrossed, IsError, IsLooped, IsNotClosed, IsOffDisk, IsSound}
use Rattle.rd_cbm.specs.Files.{Claims, HasOtherClaim, IsClaimed, IsFileSlot}
use Rattle.rd_cbm.specs.Links.{link_of}
use Rattle.rd_cbm.specs.Walks.{Ends, GoesOff, IsChain, Loops, Reaches}
use Rattle.rd_cbm.proofs.AlikeWalks.{HasLinksAlong, along_turned, chain_alike, last_alike, loop_alike, off_alike, reaches_alike}

-- An image has what tells the files of another, at the blocks of its directory: the type of each entry,
-- the name and the starts of each used one, and the link and the error byte of each block that a file claims.
pub record HasFilesOf (image other blocks : List ℕ) : Type 0 where
  pub type : (slot : ℕ) → slot < 8 * length blocks → type_of (entry_at image blocks slot) ≡ type_of (entry_at other blocks slot)
  pub name : (slot : ℕ) → IsFileSlot other blocks slot → name_of (entry_at image blocks slot) ≡ name_of (entry_at other blocks slot)
  pub start : (slot : ℕ) (role : ChainRole) → IsFileSlot other blocks slot → start_of (entry_at image blocks slot) role ≡ start_of (entry_at other blocks slot) role
  pub link : (block : ℕ) → IsClaimed other blocks block → link_of image block ≡ link_of other block
  pub mark : (block : ℕ) → IsClaimed other blocks block → mark_of image block ≡ mark_of other block

-- what holds of the type of a used entry, of its start, and of the walk from there
of_type : {image other blocks : List ℕ} → HasFilesOf image other blocks → {slot : ℕ} → IsFileSlot other blocks slot → (P : ℕ → Type 0)
    → P (type_of (entry_at other blocks slot)) → P (type_of (entry_at image blocks slot))
of_type has {slot = slot} file P = subst P (sym (has.type slot file.inside))

of_start : {image other blocks : List ℕ} → HasFilesOf image other blocks → {slot : ℕ} → IsFileSlot other blocks slot → (role : ChainRole) (P : Option ℕ → Type 0)
    → P (start_of (entry_at other blocks slot) role) → P (start_of (entry_at image blocks slot) role)
of_start has {slot = slot} file role P = subst P (sym (has.start slot role file))

-- a file's slot is one in both
pub slot_alike : {image other blocks : List ℕ} → HasFilesOf image other blocks → {slot : ℕ} → IsFileSlot other blocks slot → IsFileSlot image blocks slot
slot_alike has {slot = slot} file = record { inside = file.inside; used = λ unused. file.used (sym (has.type slot file.inside) ∙ unused) }

-- the links along a chain by which a file claims are the same
pub along_alike : {image other blocks : List ℕ} → HasFilesOf image other blocks → {slot : ℕ} → IsFileSlot other blocks slot → (role : ChainRole)
    → ClaimsBy (type_of (entry_at other blocks slot)) role → HasLinksAlong (link_of image) (link_of other) (start_of (entry_at other blocks slot) role)
along_alike has {slot = slot} file role claimant = record {
  same = λ block reached. has.link block (record { slot = slot; role = role; claim = record { file = file; claimant = claimant; on_chain = reached } });
}

pub claims_alike : {image other blocks : List ℕ} → HasFilesOf image other blocks → (slot : ℕ) (role : ChainRole) (block : ℕ)
    → Claims other blocks slot role block → Claims image blocks slot role block
claims_alike {image = image} has slot role block claim = record {
  file = slot_alike has claim.file;
  claimant = of_type has claim.file (λ type. ClaimsBy type role) claim.claimant;
  on_chain = of_start has claim.file role (λ start. Reaches (link_of image) start block)
      (reaches_alike (along_alike has claim.file role claim.claimant) block claim.on_chain);
}

pub claimed_alike : {image other blocks : List ℕ} → HasFilesOf image other blocks → (block : ℕ) → IsClaimed other blocks block → IsClaimed image blocks block
claimed_alike has block claimed = record {
  slot = claimed.slot;
  role = claimed.role;
  claim = claims_alike has claimed.slot claimed.role block claimed.claim;
}

-- the other image has what tells the files of the first in turn
pub files_turned : {image other blocks : List ℕ} → HasFilesOf image other blocks → HasFilesOf other image blocks
files_turned {image = image} {other = other} {blocks = blocks} has = record {
  type = λ slot inside. sym (has.type slot inside);
  name = λ slot file. sym (has.name slot (slot_back slot file));
  start = λ slot role file. sym (has.start slot role (slot_back slot file));
  link = λ block claimed. sym (has.link block (record {
    slot = claimed.slot;
    role = claimed.role;
    claim = claim_back claimed.slot claimed.role block claimed.claim;
  }));
  mark = λ block claimed. sym (has.mark block (record {
    slot = claimed.slot;
    role = claimed.role;
    claim = claim_back claimed.slot claimed.role block claimed.claim;
  }));
}
  where
    slot_back : (slot : ℕ) → IsFileSlot image blocks slot → IsFileSlot other blocks slot
    slot_back slot file = record { inside = file.inside; used = λ unused. file.used (has.type slot file.inside ∙ unused) }

    claim_back : (slot : ℕ) (role : ChainRole) (block : ℕ) → Claims image blocks slot role block → Claims other blocks slot role block
    claim_back slot role block claim =
        let file : IsFileSlot other blocks slot = slot_back slot claim.file in
        let claimant : ClaimsBy (type_of (entry_at other blocks slot)) role = subst (λ type. ClaimsBy type role) (has.type slot file.inside) claim.claimant in
        record {
          file = file;
          claimant = claimant;
          on_chain = reaches_alike (along_turned (along_alike has file role claimant)) block
              (subst (λ start. Reaches (link_of image) start block) (has.start slot role file) claim.on_chain);
        }

-- a fault of a file is one in both
open_alike : {image other blocks : List ℕ} → HasFilesOf image other blocks → {slot : ℕ} → IsFileSlot other blocks slot
    → IsNotClosed other blocks slot → IsNotClosed image blocks slot
open_alike has file = of_type has file (λ type. ¬ IsClosed type)

off_disk_alike : {image other blocks : List ℕ} → HasFilesOf image other blocks → {slot : ℕ} → IsFileSlot other blocks slot
    → IsOffDisk other blocks slot → IsOffDisk image blocks slot
off_disk_alike {image = image} has file fault = record {
  role = fault.role;
  claimant = of_type has file (λ type. ClaimsBy type fault.role) fault.claimant;
  off = of_start has file fault.role (GoesOff (link_of image)) (off_alike (along_alike has file fault.role fault.claimant) fault.off);
}

looped_alike : {image other blocks : List ℕ} → HasFilesOf image other blocks → {slot : ℕ} → IsFileSlot other blocks slot
    → IsLooped other blocks slot → IsLooped image blocks slot
looped_alike {image = image} has file fault = record {
  role = fault.role;
  claimant = of_type has file (λ type. ClaimsBy type fault.role) fault.claimant;
  loop = of_start has file fault.role (Loops (link_of image)) (loop_alike (along_alike has file fault.role fault.claimant) fault.loop);
}

other_claim_alike : {image other blocks : List ℕ} → HasFilesOf image other blocks → (slot : ℕ) (role : ChainRole) (block : ℕ)
    → HasOtherClaim other blocks slot role block → HasOtherClaim image blocks slot role block
other_claim_alike has slot role block two = record {
  other_slot = two.other_slot;
  other_role = two.other_role;
  claim = claims_alike has two.other_slot two.other_role block two.claim;
  other = two.other;
}

crossed_alike : {image other blocks : List ℕ} → HasFilesOf image other blocks → {slot : ℕ} → IsCrossed other blocks slot → IsCrossed image blocks slot
crossed_alike has {slot = slot} fault = record {
  role = fault.role;
  block = fault.block;
  claim = claims_alike has slot fault.role fault.block fault.claim;
  taken = elim fault.taken [ inl system ↦ inl system | inr two ↦ inr (other_claim_alike has slot fault.role fault.block two) ];
}

read_error_alike : {image other blocks : List ℕ} → HasFilesOf image other blocks → {slot : ℕ} → HasReadError other blocks slot → HasReadError image blocks slot
read_error_alike has {slot = slot} fault = record {
  role = fault.role;
  block = fault.block;
  claim = claims_alike has slot fault.role fault.block fault.claim;
  error = subst IsError (sym (has.mark fault.block (record { slot = slot; role = fault.role; claim = fault.claim }))) fault.error;
}

-- a file without fault is one in both, one of the served class, and a sound one
no_fault_alike : {image other blocks : List ℕ} → HasFilesOf image other blocks → {slot : ℕ} → IsFileSlot other blocks slot
    → HasNoFault other blocks slot → HasNoFault image blocks slot
no_fault_alike {image = image} {other = other} {blocks = blocks} has {slot = slot} file none =
    let back : HasFilesOf other image blocks = files_turned has in
    let here : IsFileSlot image blocks slot = slot_alike has file in
    record {
      closed = λ fault. none.closed (open_alike back here fault);
      on_disk = λ fault. none.on_disk (off_disk_alike back here fault);
      ends = λ fault. none.ends (looped_alike back here fault);
      alone = λ fault. none.alone (crossed_alike back fault);
      readable = λ fault. none.readable (read_error_alike back fault);
    }

pub served_alike : {image other blocks : List ℕ} → HasFilesOf image other blocks → {slot : ℕ} → IsFileSlot other blocks slot
    → IsServed (type_of (entry_at other blocks slot)) → IsServed (type_of (entry_at image blocks slot))
served_alike has file = of_type has file IsServed

pub sound_alike : {image other blocks : List ℕ} → HasFilesOf image other blocks → {slot : ℕ} → IsFileSlot other blocks slot
    → IsSound other blocks slot → IsSound image blocks slot
sound_alike has file sound = record { served = served_alike has file sound.served; no_fault = no_fault_alike has file sound.no_fault }

-- what is told of one of two things that are the same is told of the other
told_alike : {P Q R : Type 0} → P ↔ Q → (Q → R) → (R → Q) → P ↔ R
told_alike told there back = (λ p. there (told.0 p), λ r. told.1 (back r))

-- the same faults are told
pub faults_alike : {image other blocks : List ℕ} → HasFilesOf image other blocks → {slot : ℕ} → IsFileSlot other blocks slot → (faults : ℕ)
    → AreFaults other blocks slot faults → AreFaults image blocks slot faults
faults_alike {image = image} {other = other} {blocks = blocks} has {slot = slot} file faults are =
    let back : HasFilesOf other image blocks = files_turned has in
    let here : IsFileSlot image blocks slot = slot_alike has file in
    record {
      not_closed = told_alike are.not_closed (open_alike has file) (open_alike back here);
      off_disk = told_alike are.off_disk (off_disk_alike has file) (off_disk_alike back here);
      loop = told_alike are.loop (looped_alike has file) (looped_alike back here);
      crossed = told_alike are.crossed (crossed_alike has) (crossed_alike back);
      read_error = told_alike are.read_error (read_error_alike has) (read_error_alike back);
      no_other = are.no_other;
      none = told_alike are.none (no_fault_alike has file) (no_fault_alike back here);
    }

-- a sound file claims the blocks of its data, so their chain is the same, and its last byte
sound_along : {image other blocks : List ℕ} → HasFilesOf image other blocks → {slot : ℕ} → IsFileSlot other blocks slot → IsSound other blocks slot
    → HasLinksAlong (link_of image) (link_of other) (start_of (entry_at other blocks slot) Data)
sound_along has file sound = along_alike has file Data (
  λ clear. sound.no_fault.closed (λ closed. closed clear),
  sound.served.0,
  let most = sound.served.1 in omega arith,
)

pub data_alike : {image other blocks : List ℕ} → HasFilesOf image other blocks → {slot : ℕ} → IsFileSlot other blocks slot → IsSound other blocks slot
    → (chain : List ℕ) → IsChain (link_of other) (start_of (entry_at other blocks slot) Data) chain
    → IsChain (link_of image) (start_of (entry_at image blocks slot) Data) chain
data_alike {image = image} has file sound chain is =
    of_start has file Data (λ start. IsChain (link_of image) start chain) (chain_alike (sound_along has file sound) chain is)

pub data_end_alike : {image other blocks : List ℕ} → HasFilesOf image other blocks → {slot : ℕ} → IsFileSlot other blocks slot → IsSound other blocks slot
    → (used : ℕ) → Ends (link_of other) (start_of (entry_at other blocks slot) Data) used
    → Ends (link_of image) (start_of (entry_at image blocks slot) Data) used
data_end_alike {image = image} has file sound used ends =
    of_start has file Data (λ start. Ends (link_of image) start used) (last_alike (sound_along has file sound) used ends)
