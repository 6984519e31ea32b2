-- The faults in the order in which they are looked through.
use Rattle.std.proofs.Common.{◌≡◌, ◌<◌, ◌∷◌, [], ℕ, List, arith, refl}
use Rattle.std.specs.List.{slice_index_or}
use Rattle.rd_explanations.specs.declared.fault.Fault.{Fault}
use Rattle.rd_explanations.specs.declared.fault.Fault.TheVariants.{BadCount, Crossed, Duplicate, Gap, Hole, Loop, NotClosed, OffDisk, ReadError, Short}

-- all of them
abbrev pub all_faults : List Fault
all_faults = BadCount ∷ Duplicate ∷ Gap ∷ Short ∷ Hole ∷ OffDisk ∷ Crossed ∷ NotClosed ∷ Loop ∷ ReadError ∷ []

-- the place of one
abbrev pub place_of : Fault → ℕ
place_of BadCount = 0
place_of Duplicate = 1
place_of Gap = 2
place_of Short = 3
place_of Hole = 4
place_of OffDisk = 5
place_of Crossed = 6
place_of NotClosed = 7
place_of Loop = 8
place_of ReadError = 9

-- it stands there
pub at_place : (fault : Fault) → slice_index_or all_faults (place_of fault) BadCount ≡ fault
at_place BadCount = refl
at_place Duplicate = refl
at_place Gap = refl
at_place Short = refl
at_place Hole = refl
at_place OffDisk = refl
at_place Crossed = refl
at_place NotClosed = refl
at_place Loop = refl
at_place ReadError = refl

-- it is one of the first ten
pub place_below : (fault : Fault) → place_of fault < 10
place_below BadCount = omega (arith)
place_below Duplicate = omega (arith)
place_below Gap = omega (arith)
place_below Short = omega (arith)
place_below Hole = omega (arith)
place_below OffDisk = omega (arith)
place_below Crossed = omega (arith)
place_below NotClosed = omega (arith)
place_below Loop = omega (arith)
place_below ReadError = omega (arith)
