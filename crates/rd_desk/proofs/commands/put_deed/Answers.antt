use Rattle.std.proofs.Common.{w32}
use Rattle.std.proofs.lemmas.Int.{to_z-of_z}
use Rattle.rd_desk.proofs.OneChange.{failed_after}
use Rattle.rd_desk.proofs.commands.put_deed.Goals as goal

pub returns-in_err-put_deed-clause-change : goal.returns-in_err-put_deed-clause-change
returns-in_err-put_deed-clause-change g c day =
    let signed = to_z-of_z w32 c.args.signed c.ranges.signed in
    let changes = rw c.as_str.ensures at c.put_deed.ensures.changes in
    record { result = c.put_deed.result; changes = rw signed at changes; returned = failed_after c.put_deed.result c.in_err-put_deed.field-0.0 c.from_residual.result c.in_err-put_deed.was c.from_residual.ensures.0 }
