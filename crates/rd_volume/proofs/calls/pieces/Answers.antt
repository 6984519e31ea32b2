use Rattle.std.proofs.Common.{◌≡◌, rules}
use Rattle.rd_geometry.specs.Images.{bytes_of, kind_of}
use Rattle.rd_volume.specs.PiecesLeft.{pieces_left}
use Rattle.rd_volume.specs.Volumes.{pieces_of}
use Rattle.rd_volume.proofs.PieceLemmas.{pieces_count, pieces_join}
use Rattle.rd_volume.proofs.calls.pieces.Goals as goal

pub returns-clause-count : goal.returns-clause-count
returns-clause-count c =
    let found = c.args.found.now in
    let are : pieces_left c.of-2.result ≡ pieces_of (kind_of c.args.image.now) (bytes_of c.args.image.now) found.units found.last_len = search rules in
    rw are (pieces_count (kind_of c.args.image.now) (bytes_of c.args.image.now) found.units found.last_len)

pub returns-clause-bytes : goal.returns-clause-bytes
returns-clause-bytes c =
    let found = c.args.found.now in
    let are : pieces_left c.of-2.result ≡ pieces_of (kind_of c.args.image.now) (bytes_of c.args.image.now) found.units found.last_len = search rules in
    pieces_join (kind_of c.args.image.now) (bytes_of c.args.image.now) found (pieces_left c.of-2.result) are c.requires.sound
