use Rattle.rd_store.proofs.Common.{[], refl, subst, sym, Database, state, have_rowids, AreFiledUnder, AreListed}
use Rattle.rd_store.proofs.IndexTests.{filed_in}
use Rattle.rd_store.proofs.Laws.{stays_common}
use Rattle.rd_store.proofs.TestSequences.{common_in_first, files_in_first}
use Rattle.rd_store.proofs.ImageWalks.{checked_first, filed_first, part_refused, register_first, then_part, walked_keys, part_ok}
use Rattle.rd_store.proofs.opening.check_first_rows.Goals as goal

pub check_common-requires-clause-marks : goal.check_common-requires-clause-marks
check_common-requires-clause-marks g c acc is = absurd cc

pub returns-in_err-accessions-clause-tests : goal.returns-in_err-accessions-clause-tests
returns-in_err-accessions-clause-tests g c = part_refused g.S.Store c.from_residual.result c.from_residual.ensures.1 (λ is_open all.
    let trees = (state g.S.Store c.args.conn.now).now.trees in (common_in_first trees all, filed_first trees all)) c.in_err-accessions.ensures.tests

pub check_filed-requires-clause-tables : goal.check_filed-requires-clause-tables
check_filed-requires-clause-tables g c = stays_common g.S.Store c.args.conn.now c.check_common.new.conn c.check_common.ensures.tests.stays c.requires.tables

pub returns-in_err-check_filed-clause-tests : goal.returns-in_err-check_filed-clause-tests
returns-in_err-check_filed-clause-tests g c = part_refused g.S.Store c.from_residual-in_err-check_filed.result c.from_residual-in_err-check_filed.ensures.1 (λ is_open all.
    let trees = (state g.S.Store c.args.conn.now).now.trees in
    let accessions = c.in_ok-accessions.accessions.items in
    let are = walked_keys [] accessions trees _ (c.in_ok-accessions.ensures.walked (c.check_filed.ensures.tests.stays.lasts.was_open is_open)) c.in_ok-accessions.ensures.numbers in
    subst (λ l. AreFiledUnder l trees) (sym c.deref.ensures.value) (filed_in [] accessions trees are (files_in_first trees accessions all)))
    (then_part g.S.Store c.check_common.ensures.tests.stays c.in_ok-accessions.ensures.tests.ends_open c.in_err-check_filed.ensures.tests)

pub returns-clause-tests : goal.returns-clause-tests
returns-clause-tests g c = part_ok g.S.Store (λ is_open filed.
    let was = c.check_filed.ensures.tests.stays.lasts.was_open is_open in
    let before = c.check_common.ensures.tests.stays.lasts.was_open was in
    let db = (state g.S.Store c.args.conn.now).now in
    let files = subst (λ (d : Database). AreListed d.trees) (c.check_common.ensures.tests.stays.now was) (c.in_ok-check_filed.ensures.listed is_open) in
    let at = c.requires.tables before in
    checked_first db.trees c.in_ok-accessions.accessions.items _ (c.in_ok-accessions.ensures.walked was) c.in_ok-accessions.ensures.numbers (c.requires.version before) (c.in_ok-accessions.ensures.tests.judges was) (subst (λ l. AreFiledUnder l db.trees) c.deref.ensures.value filed) files at.more db refl at.rests.schema (c.requires.sound before))
    (then_part g.S.Store c.check_common.ensures.tests.stays c.in_ok-accessions.ensures.tests.ends_open c.in_ok-check_filed.ensures.tests)

pub returns-clause-rowids : goal.returns-clause-rowids
returns-clause-rowids g c is_open =
    let was = c.check_filed.ensures.tests.stays.lasts.was_open is_open in
    let others = c.in_ok-accessions.ensures.rowids was in
    let files = subst (λ (db : Database). AreListed db.trees) (c.check_common.ensures.tests.stays.now was) (c.in_ok-check_filed.ensures.listed is_open) in
    record { rules = others.0; keys = others.1; checks = others.2; files = have_rowids 9 _ _ _ files.0 files.1 }

pub returns-clause-listed : goal.returns-clause-listed
returns-clause-listed g c is_open =
    register_first (state g.S.Store c.args.conn.now).now.trees c.in_ok-accessions.accessions.items _ (c.in_ok-accessions.ensures.walked (c.check_filed.ensures.tests.stays.lasts.was_open is_open)) c.in_ok-accessions.ensures.numbers
