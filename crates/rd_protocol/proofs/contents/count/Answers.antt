use Rattle.std.proofs.Common.{rules}
use Rattle.rd_protocol.proofs.UnitLemmas.{counted}
use Rattle.rd_protocol.proofs.contents.count.Goals as goal

pub returns-clause-taken : goal.returns-clause-taken
returns-clause-taken c =
    (counted c.args.kind c.args.image.now c.args.file.now c.bytes_of_units.result (search rules) (search rules) (search rules)
    (rw (c.as_slice.ensures, c.from.ensures, c.room.ensures) at c.bytes_of_units.ensures)).0

pub returns-clause-len : goal.returns-clause-len
returns-clause-len c =
    (counted c.args.kind c.args.image.now c.args.file.now c.bytes_of_units.result (search rules) (search rules) (search rules)
    (rw (c.as_slice.ensures, c.from.ensures, c.room.ensures) at c.bytes_of_units.ensures)).1
