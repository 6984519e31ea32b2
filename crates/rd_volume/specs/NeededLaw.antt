-- Proofs: the needed bytes of an image decide what is said of it, by the laws of both kinds of disk.
use Rattle.std.specs.Prelude.{ℕ, List, refl}
use Rattle.rd_geometry.specs.declared.kind.Kind.{Kind}
use Rattle.rd_geometry.specs.declared.kind.Kind.TheVariants.{Cpm8}
use Rattle.rd_volume.specs.AlikeCbm.{cbm_law}
use Rattle.rd_volume.specs.AlikeCpm.{cpm_law}
use Rattle.rd_volume.specs.Needed.{AgreesOnNeeded, TellTheSame}
use Rattle.rd_volume.specs.TellsAll.{HasLaw, by_law}

-- each kind has its law
has_law : (kind : Kind) → HasLaw kind
has_law Cpm8 = cpm_law
has_law kind = cbm_law kind refl

-- an image that agrees with another on the other's needed bytes tells the same
pub tell_the_same : (kind : Kind) (image other served : List ℕ) → AgreesOnNeeded kind image other served → TellTheSame kind image other served
tell_the_same kind = by_law kind (has_law kind)
