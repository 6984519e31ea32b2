use Rattle.rd_tables.proofs.ConnectionLaws.{stays_then}
use Rattle.rd_store.proofs.Laws.{stays_common}
use Rattle.rd_store.proofs.opening.check_others.Goals as goal

pub check_keys-requires-clause-tables : goal.check_keys-requires-clause-tables
check_keys-requires-clause-tables g c = stays_common g.S.Store c.args.conn.now c.check_rules.new.conn c.check_rules.ensures.tests.stays c.requires.tables

pub check_checks-requires-clause-tables : goal.check_checks-requires-clause-tables
check_checks-requires-clause-tables g c =
    let old = c.args.conn.now in
    stays_common g.S.Store old c.check_keys.new.conn (stays_then g.S.Store old c.check_rules.new.conn c.check_keys.new.conn c.check_rules.ensures.tests.stays c.in_ok-check_rules.ensures.tests.ends_open c.check_keys.ensures.tests.stays) c.requires.tables
