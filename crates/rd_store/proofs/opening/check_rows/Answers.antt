use Rattle.rd_store.proofs.Common.{◌∙◌, All, false, refl, subst, subst₂, sym, Database, state, have_rowids, IsMarksRow, AreFiledUnder, AreListed, HaveOtherRowids, listed, AreFiledOf, IsWalk, List, ℕ}
use Rattle.rd_store.proofs.IndexTests.{filed_in}
use Rattle.rd_store.proofs.Laws.{common_tables, stays_common, stays_tables}
use Rattle.rd_store.proofs.TestSequences.{common_in, files_in, marks_in}
use Rattle.rd_store.proofs.RowTests.{marks_told}
use Rattle.rd_store.proofs.ImageWalks.{checked_second, filed_second, firsts, known_marks, part_refused, register_second, then_part, walked_keys, part_denied, part_ok}
use Rattle.rd_store.proofs.opening.check_rows.Goals as goal

pub returns-in_err-rows-clause-tests : goal.returns-in_err-rows-clause-tests
returns-in_err-rows-clause-tests g c = part_refused g.S.Store c.from_residual.result c.from_residual.ensures.1 (λ is_open all. all) c.in_err-rows.ensures.tests

pub check_common-requires-clause-tables : goal.check_common-requires-clause-tables
check_common-requires-clause-tables g c = stays_common g.S.Store c.args.conn.now c.read_marks.new.conn c.read_marks.ensures.tests.stays (common_tables (state g.S.Store c.args.conn.now) c.requires.tables)

pub check_common-requires-clause-marks : goal.check_common-requires-clause-marks
check_common-requires-clause-marks g c acc is = stays_tables g.S.Store c.args.conn.now c.read_marks.new.conn c.read_marks.ensures.tests.stays c.requires.tables

pub returns-in_err-accessions-clause-tests : goal.returns-in_err-accessions-clause-tests
returns-in_err-accessions-clause-tests g c = part_refused g.S.Store c.from_residual-in_err-accessions.result c.from_residual-in_err-accessions.ensures.1 (λ is_open all.
    let trees = (state g.S.Store c.args.conn.now).now.trees in
    let rows = c.in_ok-rows.rows.items in
    let shown = c.in_ok-rows.ensures.listed (c.check_common.ensures.tests.stays.lasts.was_open is_open) in
    (common_in trees 2 all, subst (λ l. AreFiledOf l trees) (sym (c.deref.ensures.value ∙ c.in_ok-rows.ensures.numbers)) (filed_second trees (firsts rows) (known_marks trees rows shown all) all)))
    (then_part g.S.Store c.read_marks.ensures.tests.stays c.in_ok-rows.ensures.tests.ends_open c.in_err-accessions.ensures.tests)

pub returns-then-not-are_marks-clause-tests : goal.returns-then-not-are_marks-clause-tests
returns-then-not-are_marks-clause-tests g c = part_denied g.S.Store (λ is_open common all.
    let was = c.check_common.ensures.tests.stays.lasts.was_open is_open in
    let trees = (state g.S.Store c.args.conn.now).now.trees in
    let accessions = c.in_ok-accessions.accessions.items in
    let walk = subst (λ (db : Database). IsWalk c.deref.result.now db.trees (listed c.in_ok-accessions.register)) (c.read_marks.ensures.tests.stays.now was) (c.in_ok-accessions.ensures.walked is_open) in
    let none = subst₂ (λ a r. ¬ All (IsMarksRow a) r) c.deref-3.ensures.value c.deref-2.ensures.value c.if-not-are_marks.ensures in
    marks_told accessions (trees 11) c.in_ok-rows.rows.items (c.in_ok-rows.ensures.listed was) false none (marks_in trees accessions (walked_keys c.deref.result.now accessions trees _ walk c.in_ok-accessions.ensures.numbers) all))
    (then_part g.S.Store c.read_marks.ensures.tests.stays c.in_ok-rows.ensures.tests.ends_open c.in_ok-accessions.ensures.tests)

pub check_filed-requires-clause-tables : goal.check_filed-requires-clause-tables
check_filed-requires-clause-tables g c =
    let second = then_part g.S.Store c.read_marks.ensures.tests.stays c.in_ok-rows.ensures.tests.ends_open c.in_ok-accessions.ensures.tests in
    stays_common g.S.Store c.args.conn.now c.check_common.new.conn second.stays (common_tables (state g.S.Store c.args.conn.now) c.requires.tables)

pub returns-in_err-check_filed-clause-tests : goal.returns-in_err-check_filed-clause-tests
returns-in_err-check_filed-clause-tests g c =
    let second = then_part g.S.Store c.read_marks.ensures.tests.stays c.in_ok-rows.ensures.tests.ends_open c.in_ok-accessions.ensures.tests in
    part_refused g.S.Store c.from_residual-in_err-check_filed.result c.from_residual-in_err-check_filed.ensures.1 (λ is_open all.
    let late = c.check_filed.ensures.tests.stays.lasts.was_open is_open in
    let was = c.check_common.ensures.tests.stays.lasts.was_open late in
    let trees = (state g.S.Store c.args.conn.now).now.trees in
    let rows = c.in_ok-rows.rows.items in
    let accessions = c.in_ok-accessions.accessions.items in
    let walk = subst (λ (db : Database). IsWalk c.deref.result.now db.trees (listed c.in_ok-accessions.register)) (c.read_marks.ensures.tests.stays.now was) (c.in_ok-accessions.ensures.walked late) in
    let are = walked_keys c.deref.result.now accessions trees _ walk c.in_ok-accessions.ensures.numbers in
    subst (λ l. AreFiledUnder l trees) (sym c.deref-4.ensures.value) (filed_in (firsts rows) accessions trees are (files_in trees accessions (firsts rows) (known_marks trees rows (c.in_ok-rows.ensures.listed was) all) all)))
    (then_part g.S.Store second.stays c.in_ok-accessions.ensures.tests.ends_open c.in_err-check_filed.ensures.tests)

pub returns-clause-tests : goal.returns-clause-tests
returns-clause-tests g c =
    let second = then_part g.S.Store c.read_marks.ensures.tests.stays c.in_ok-rows.ensures.tests.ends_open c.in_ok-accessions.ensures.tests in
    part_ok g.S.Store (λ is_open filed.
    let late = c.check_filed.ensures.tests.stays.lasts.was_open is_open in
    let was = c.check_common.ensures.tests.stays.lasts.was_open late in
    let before = c.read_marks.ensures.tests.stays.lasts.was_open was in
    let db = (state g.S.Store c.args.conn.now).now in
    let within = subst₂ (λ a r. All (IsMarksRow a) r) c.deref-3.ensures.value c.deref-2.ensures.value c.if-not-are_marks.ensures in
    let walk = subst₂ (λ (l : List ℕ) (d : Database). IsWalk l d.trees (listed c.in_ok-accessions.register)) (c.deref.ensures.value ∙ c.in_ok-rows.ensures.numbers) (c.read_marks.ensures.tests.stays.now was) (c.in_ok-accessions.ensures.walked late) in
    let files = subst (λ (d : Database). AreListed d.trees) (second.stays.now late) (c.in_ok-check_filed.ensures.listed is_open) in
    let at = common_tables (state g.S.Store c.args.conn.now) c.requires.tables before in
    checked_second db.trees c.in_ok-accessions.accessions.items _ c.in_ok-rows.rows.items (c.in_ok-rows.ensures.listed was) within walk c.in_ok-accessions.ensures.numbers (c.requires.version before) (second.judges late) (subst (λ l. AreFiledUnder l db.trees) c.deref-4.ensures.value filed) files at.more db refl at.rests.schema (c.requires.sound before))
    (then_part g.S.Store second.stays c.in_ok-accessions.ensures.tests.ends_open c.in_ok-check_filed.ensures.tests)

pub returns-clause-rowids : goal.returns-clause-rowids
returns-clause-rowids g c is_open =
    let late = c.check_filed.ensures.tests.stays.lasts.was_open is_open in
    let was = c.check_common.ensures.tests.stays.lasts.was_open late in
    let others = subst (λ (db : Database). HaveOtherRowids db.trees) (c.read_marks.ensures.tests.stays.now was) (c.in_ok-accessions.ensures.rowids late) in
    let files = subst (λ (db : Database). AreListed db.trees) (c.check_common.ensures.tests.stays.now late ∙ c.read_marks.ensures.tests.stays.now was) (c.in_ok-check_filed.ensures.listed is_open) in
    record { rules = others.0; keys = others.1; checks = others.2; files = have_rowids 9 _ _ _ files.0 files.1 }

pub returns-clause-listed : goal.returns-clause-listed
returns-clause-listed g c is_open =
    let late = c.check_filed.ensures.tests.stays.lasts.was_open is_open in
    let was = c.check_common.ensures.tests.stays.lasts.was_open late in
    let within = subst₂ (λ a r. All (IsMarksRow a) r) c.deref-3.ensures.value c.deref-2.ensures.value c.if-not-are_marks.ensures in
    let walk = subst₂ (λ (l : List ℕ) (d : Database). IsWalk l d.trees (listed c.in_ok-accessions.register)) (c.deref.ensures.value ∙ c.in_ok-rows.ensures.numbers) (c.read_marks.ensures.tests.stays.now was) (c.in_ok-accessions.ensures.walked late) in
    register_second (state g.S.Store c.args.conn.now).now.trees c.in_ok-accessions.accessions.items _ c.in_ok-rows.rows.items (c.in_ok-rows.ensures.listed was) within walk c.in_ok-accessions.ensures.numbers
