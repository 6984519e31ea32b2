-- The tests that count a 1541 disk's files, over what rd_cbm says of them.
use Rattle.std.specs.Prelude.{◌&&◌, ◌==◌, Bool, false, not, true}
use Rattle.rd_cbm.specs.declared.class.Class.{Class}
use Rattle.rd_cbm.specs.declared.class.Class.TheVariants.{Del, Seq, Prg, Usr, Rel, Other}
use Rattle.rd_cbm.specs.declared.listing.CbmFile.{CbmFile}
use Rattle.rd_volume.specs.Tells.{is_served}

-- a file of the class claims blocks when it is closed
abbrev pub is_claimant : Class → Bool
is_claimant Del = false
is_claimant Seq = true
is_claimant Prg = true
is_claimant Usr = true
is_claimant Rel = true
is_claimant Other = false

-- a file is sound
abbrev pub is_sound : CbmFile → Bool
is_sound file = is_served file.class && file.faults == 0

-- a file claims blocks, but not as many as its entry states
abbrev pub differs_in_size : CbmFile → Bool
differs_in_size file = file.closed && is_claimant file.class && not (file.claimed == file.size_field)
