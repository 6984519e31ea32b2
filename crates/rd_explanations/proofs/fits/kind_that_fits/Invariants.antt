use Rattle.std.proofs.Common.{◌≢◌, ◌<◌, ℕ}
use Rattle.std.specs.List.{slice_index_or}
use Rattle.rd_geometry.specs.Kinds.{size_of}
use Rattle.rd_geometry.specs.declared.kind.Kind.TheVariants.{Cpm8}
use Rattle.rd_explanations.proofs.fits.kind_that_fits.Given as goal

-- no kind passed has images of so many bytes
abbrev pub invariant-loop-kind : goal.invariant-loop-kind
invariant-loop-kind l = (k : ℕ) → k < l.kind-index → size_of (slice_index_or l.kind-items k Cpm8) ≢ l.found
