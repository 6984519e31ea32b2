use Rattle.rd_geometry.specs.CbmDisks.{cbm_bytes, cbm_kind}
use Rattle.rd_volume.proofs.PieceLemmas.{piece_at_end, piece_before}
use Rattle.rd_volume.proofs.volume.CbmDiskVolume.piece.Goals as goal

pub returns-then-i-units : goal.returns-then-i-units
returns-then-i-units c =
    piece_before (cbm_kind c.args.self.now) (cbm_bytes c.args.self.now) c.args.found.now.units c.as_slice-units.result.now c.body-body.result.now
    c.args.found.now.last_len c.args.i c.as_slice-units.ensures c.body-body.ensures.value c.if-i-units.true

pub returns : goal.returns
returns c =
    piece_at_end (cbm_kind c.args.self.now) (cbm_bytes c.args.self.now) c.args.found.now.units c.as_slice-units.result.now c.body-body.result.now
    c.args.found.now.last_len c.args.i c.as_slice-units.ensures c.body-body.ensures.value c.requires.below c.if-i-units.false
