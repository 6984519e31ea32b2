use Rattle.std.proofs.Common.{arith, subst}
use Rattle.rd_history.specs.Reading.{IsLineOf}
use Rattle.rd_history.proofs.StageLemmas.{not_counted, not_led}
use Rattle.rd_history.proofs.stage.Stage.with_line.Goals as goal
use Rattle.rd_history.proofs.stage.Stage.with_line.Goals.{then-self-ge-LAST_NUMBER-via-then-self-ge-LAST_NUMBER, then-self-ge-LAST_NUMBER-via-else-self-ge-LAST_NUMBER+then-entry-self}

pub returns-then-self-ge-LAST_NUMBER-clause-broken : goal.returns-then-self-ge-LAST_NUMBER-clause-broken
returns-then-self-ge-LAST_NUMBER-clause-broken c = λ broken.
    not_counted c.args.line.now c.args.self c.in-Some.entry (subst (λ l. IsLineOf l c.in-Some.entry) c.in-Ok.ensures.cases.0 (rw c.in-Some.is at c.in-Ok-read_line.ensures))
    (λ counted. elim c.then-self-ge-LAST_NUMBER.branch [
      | then-self-ge-LAST_NUMBER-via-then-self-ge-LAST_NUMBER w ↦ omega (arith, counted.0)
      | then-self-ge-LAST_NUMBER-via-else-self-ge-LAST_NUMBER+then-entry-self w ↦ omega (arith, counted.1)
    ])

pub returns-clause-broken : goal.returns-clause-broken
returns-clause-broken c = λ broken.
    not_led c.args.line.now c.args.self c.in-Some.entry (subst (λ l. IsLineOf l c.in-Some.entry) c.in-Ok.ensures.cases.0 (rw c.in-Some.is at c.in-Ok-read_line.ensures)) c.in-None.ensures
