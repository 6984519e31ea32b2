use Rattle.std.proofs.Common.{inl}
use Rattle.rd_commands.proofs.ReadLimits.{reads_within}
use Rattle.rd_commands.proofs.RunLemmas.{reads_few}
use Rattle.rd_program.proofs.Plain.{plain_completes}
use Rattle.rd_program.proofs.dispatch.perform_parsed.Goals as goal

-- ---- nothing is in a file

pub returns-then-is_plain-clause-limit : goal.returns-then-is_plain-clause-limit
returns-then-is_plain-clause-limit g c = reads_within _ _ _ _ (reads_few c.args.parsed.ask) c.perform.ensures.limit

pub returns-then-is_plain-clause-limit_plain : goal.returns-then-is_plain-clause-limit_plain
returns-then-is_plain-clause-limit_plain g c = λ plain. c.perform.ensures.limit

pub returns-then-is_plain-clause-so : goal.returns-then-is_plain-clause-so
returns-then-is_plain-clause-so g c = inl (record {
  command = c.args.parsed.ask;
  whole = plain_completes _ _ c.args.parsed (c.is_plain.ensures.0 c.if-is_plain.true);
  does = c.perform.ensures.does;
})

-- ---- something is

pub perform_completed-requires-clause-of_store : goal.perform_completed-requires-clause-of_store
perform_completed-requires-clause-of_store g c = c.requires.of_store (λ plain. absurd (cc (c.if-is_plain.false, c.is_plain.ensures.1 plain)))

pub returns-clause-limit_plain : goal.returns-clause-limit_plain
returns-clause-limit_plain g c = λ plain. absurd (cc (c.if-is_plain.false, c.is_plain.ensures.1 plain))
