use Rattle.rd_store.proofs.Common.{state, IsOf, IsFirst, first_desk}
use Rattle.rd_store.specs.declared.faults.OpenFault.TheVariants.{Sql}
use Rattle.rd_store.proofs.CopyLemmas.{turns_none}
use Rattle.rd_store.proofs.MigrationLemmas.{turns_told, turns_failed}
use Rattle.rd_store.proofs.migrating.bring_up.Goals as goal

pub returns-then-not-is_autocommit-clause-turns : goal.returns-then-not-is_autocommit-clause-turns
returns-then-not-is_autocommit-clause-turns g c =
    let old = c.args.conn.now in
    let desk = first_desk (state g.S.Store old).now.trees in
    turns_none g.S.Store old (IsFirst desk) (IsOf desk) c.requires.start Sql

pub returns-in-Ok-clause-turns : goal.returns-in-Ok-clause-turns
returns-in-Ok-clause-turns g c = turns_told g.S.Store c.args.conn.now c.write_version.new.conn _ _ _ c.in-Ok.ensures.turns

pub returns-in-Err-clause-turns : goal.returns-in-Err-clause-turns
returns-in-Err-clause-turns g c = turns_failed g.S.Store c.args.conn.now c.write_version.new.conn _ _ Sql c.in-Err.ensures.turns
