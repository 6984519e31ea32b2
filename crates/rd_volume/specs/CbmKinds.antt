-- Proofs: what the definitions by kind say of a 1541 image, of whichever of its kinds it is.
use Rattle.std.proofs.Common.{◌≡◌, ℕ, List, drop, refl}
use Rattle.std.proofs.lemmas.Bool.{false≢true}
use Rattle.rd_geometry.specs.Blocks.{cbm_block}
use Rattle.rd_geometry.specs.Kinds.{IsCbm}
use Rattle.rd_geometry.specs.declared.kind.Kind.{Kind}
use Rattle.rd_geometry.specs.declared.kind.Kind.TheVariants.{Cpm8}
use Rattle.rd_volume.specs.Volumes.{body_of}

-- a CP/M image is not of a 1541 disk
pub not_cpm : IsCbm Cpm8 → ⊥
not_cpm cbm = false≢true cbm

-- of a block it holds of a file all but the two bytes of the link
pub cbm_body : (kind : Kind) → IsCbm kind → (image : List ℕ) (n : ℕ) → body_of kind image n ≡ drop 2 (cbm_block image n)
cbm_body Cpm8 cbm image n = absurd (not_cpm cbm)
cbm_body _ cbm image n = refl
