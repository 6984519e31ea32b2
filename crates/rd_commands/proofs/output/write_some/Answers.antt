use Rattle.std.proofs.Common.{ap, subst, take}
use Rattle.std.specs.Io.KnownBytes.{Appends}
use Rattle.rd_commands.proofs.WriterLemmas.{keeps_by_nothing}
use Rattle.rd_commands.proofs.output.write_some.Goals as goal

pub returns-in-Ok-eq0-clause-bytes : goal.returns-in-Ok-eq0-clause-bytes
returns-in-Ok-eq0-clause-bytes g c =
    keeps_by_nothing _ _ _ c.loop.invariant
    (subst (Appends _ _) (ap (λ n. take n c.args.bytes.now) c.in-Ok-eq0.field-0-test) c.in-Ok-eq0.ensures.bytes)
