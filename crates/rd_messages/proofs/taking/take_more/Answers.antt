use Rattle.std.proofs.Common.{take, arith}
use Rattle.rd_messages.proofs.TakenLemmas.{take-read}
use Rattle.rd_messages.proofs.taking.take_more.Goals as goal

pub returns-clause-read : goal.returns-clause-read
returns-clause-read g c = record {
  bytes = take c.in_ok-count.count c.take.new.into;
  taken = c.in_ok-count.ensures.bytes.0;
  grown = take-read c.args.filled _ c.in_ok-count.count c.args.buf.now c.take.new.into (omega arith) c.in_ok-count.ensures.bound.0;
}
