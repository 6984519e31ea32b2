use Rattle.std.proofs.Common.{arith, length-drop, length-take-le, ℕ}
use Rattle.rd_commands.proofs.WriterLemmas.{more_written, on_err, part_written}
use Rattle.rd_commands.proofs.output.write_bytes.Goals as goal

pub loop-at-preserved : goal.loop-at-preserved
loop-at-preserved g c = record {
  within = omega (arith, c.in_ok-at.ensures.bound, length-take-le {A = ℕ}, length-drop {A = ℕ});
  written = more_written _ _ _ c.args.bytes.now c.loop-at.at c.in_ok-at.field-0 c.loop-at.invariant.within c.loop-at.invariant.written c.in_ok-at.ensures.bytes;
}

pub returns-in_err-at-clause-cut : goal.returns-in_err-at-clause-cut
returns-in_err-at-clause-cut g c =
    on_err c.from_residual.result (part_written _ _ _ c.args.bytes.now c.loop-at.at c.loop-at.invariant.written c.in_err-at.ensures.bytes)
