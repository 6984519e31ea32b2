-- The bytes of a sound file are one list.
use Rattle.std.proofs.Common.{◌≡◌, ◌∙◌, ℕ, List, Option, ap, ap₂, sym}
use Rattle.rd_geometry.specs.declared.kind.Kind.{Kind}
use Rattle.rd_geometry.specs.declared.kind.Kind.TheVariants.{Cpm8}
use Rattle.rd_cbm.specs.Entries.{Data, entry_at, start_of}
use Rattle.rd_cbm.specs.Links.{link_of}
use Rattle.rd_cbm.proofs.OneChain.{one_chain, one_last}
use Rattle.rd_cpm.specs.Contents.{bytes_of_sectors}
use Rattle.rd_cpm.specs.Entries.{entry_of_slot}
use Rattle.rd_cpm.proofs.OneSectors.{one_sectors}
use Rattle.rd_volume.specs.CbmFounds.{bytes_of_chain}
use Rattle.rd_volume.specs.OneDirectory.{holds_of_blocks}
use Rattle.rd_volume.specs.Reports.{IsSoundSlot}
use Rattle.rd_volume.specs.Volumes.{AreBytesOf, AreCbmBytes}

cbm_contents : (image blocks : List ℕ) (k : ℕ) (xs ys : List ℕ) → AreCbmBytes image k xs blocks → AreCbmBytes image k ys blocks → xs ≡ ys
cbm_contents image blocks k xs ys one other =
    let start : Option ℕ = start_of (entry_at image blocks k) Data in
    let chain : one.chain ≡ other.chain = one_chain (link_of image) start one.chain other.chain one.is_chain other.is_chain in
    let used : one.used ≡ other.used = one_last (link_of image) start one.used other.used one.ends other.ends in
    one.joined ∙ ap₂ (bytes_of_chain image) chain used ∙ sym other.joined

-- the bytes of a sound file are one list
pub one_contents : (kind : Kind) (image : List ℕ) (k : ℕ) (xs ys : List ℕ) → IsSoundSlot kind image k → AreBytesOf kind image k xs → AreBytesOf kind image k ys → xs ≡ ys
one_contents Cpm8 image k xs ys sound one other =
    one.joined ∙ ap (bytes_of_sectors image) (one_sectors (entry_of_slot image) k one.sectors other.sectors sound.sound one.are_sectors other.are_sectors) ∙ sym other.joined
one_contents _ image k xs ys sound one other =
    cbm_contents image one.blocks k xs ys one.holds (holds_of_blocks image one.blocks one.are_blocks (AreCbmBytes image k ys) other)
