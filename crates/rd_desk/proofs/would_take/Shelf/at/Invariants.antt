use Rattle.std.proofs.Common.{◌≡◌, None, take}
use Rattle.rd_desk.specs.Shelving.{on_shelf}
use Rattle.rd_desk.proofs.would_take.Shelf.at.Given as goal

-- no image passed is of this accession
abbrev pub invariant-loop-image : goal.invariant-loop-image
invariant-loop-image l = on_shelf (take l.image-index l.self.images.items) l.acc ≡ None
