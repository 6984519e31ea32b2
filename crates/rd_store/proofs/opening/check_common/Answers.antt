use Rattle.rd_store.proofs.Common.{◌≡◌, ◌∙◌, ap, map, subst, subst₂, sym, Database, state, AreNumbers, HaveOtherRowids, LawfulOthers, number_of, IsWalk}
use Rattle.rd_store.proofs.Laws.{stays_common}
use Rattle.rd_store.proofs.TestSequences.{common, others_in}
use Rattle.rd_store.proofs.ImageWalks.{part_ok, part_refused, sql_part, then_part}
use Rattle.rd_store.proofs.opening.check_common.Goals as goal

pub returns-in_err-deeds-clause-tests : goal.returns-in_err-deeds-clause-tests
returns-in_err-deeds-clause-tests g c = part_refused g.S.Store c.from_residual.result c.from_residual.ensures.1 (λ is_open all. (all.0.given, all.1)) c.in_err-deeds.ensures.tests

pub returns-in_err-accessions-clause-tests : goal.returns-in_err-accessions-clause-tests
returns-in_err-accessions-clause-tests g c =
    sql_part g.S.Store c.check_deeds_and_images.ensures.tests.stays c.from_residual-in_err-accessions.result c.from_residual-in_err-accessions.ensures.1 c.in_err-accessions.ensures.fault

pub check_others-requires-clause-tables : goal.check_others-requires-clause-tables
check_others-requires-clause-tables g c = stays_common g.S.Store c.args.conn.now c.check_deeds_and_images.new.conn c.check_deeds_and_images.ensures.tests.stays c.requires.tables

pub returns-in_err-check_others-clause-tests : goal.returns-in_err-check_others-clause-tests
returns-in_err-check_others-clause-tests g c = part_refused g.S.Store c.from_residual-in_err-check_others.result c.from_residual-in_err-check_others.ensures.1 (λ is_open all.
    let trees = (state g.S.Store c.args.conn.now).now.trees in
    let same : c.in_ok-accessions.accessions.items ≡ map number_of c.in_ok-deeds.entries.items = c.in_ok-accessions.ensures.numbers ∙ ap (map number_of) c.of-register.ensures in
    let are = subst (AreNumbers trees c.in_ok-deeds.deeds.items) (sym same) (c.in_ok-deeds.ensures.numbers (c.check_others.ensures.tests.stays.lasts.was_open is_open)) in
    subst₂ (λ a d. LawfulOthers a d trees) (sym c.deref.ensures.value) (sym c.deref-2.ensures.value) (others_in trees c.in_ok-deeds.deeds.items c.in_ok-accessions.accessions.items are all.0))
    (then_part g.S.Store c.check_deeds_and_images.ensures.tests.stays c.in_ok-deeds.ensures.tests.ends_open c.in_err-check_others.ensures.tests)

pub returns-clause-tests : goal.returns-clause-tests
returns-clause-tests g c = part_ok g.S.Store (λ is_open all.
    let trees = (state g.S.Store c.args.conn.now).now.trees in
    let was = c.check_others.ensures.tests.stays.lasts.was_open is_open in
    let same : c.in_ok-accessions.accessions.items ≡ map number_of c.in_ok-deeds.entries.items = c.in_ok-accessions.ensures.numbers ∙ ap (map number_of) c.of-register.ensures in
    let are = subst (AreNumbers trees c.in_ok-deeds.deeds.items) (sym same) (c.in_ok-deeds.ensures.numbers was) in
    common trees c.in_ok-deeds.deeds.items c.in_ok-accessions.accessions.items are (c.in_ok-deeds.ensures.tests.judges was) (subst₂ (λ a d. LawfulOthers a d trees) c.deref.ensures.value c.deref-2.ensures.value all))
    (then_part g.S.Store c.check_deeds_and_images.ensures.tests.stays c.in_ok-deeds.ensures.tests.ends_open c.in_ok-check_others.ensures.tests)

pub returns-clause-rowids : goal.returns-clause-rowids
returns-clause-rowids g c is_open =
    subst (λ (db : Database). HaveOtherRowids db.trees) (c.check_deeds_and_images.ensures.tests.stays.now (c.check_others.ensures.tests.stays.lasts.was_open is_open)) (c.in_ok-check_others.ensures.rowids is_open)

pub returns-clause-walked : goal.returns-clause-walked
returns-clause-walked g c is_open =
    subst (λ l. IsWalk c.args.marked.now (state g.S.Store c.args.conn.now).now.trees l) (sym c.of-register.ensures) (c.in_ok-deeds.ensures.walked (c.check_others.ensures.tests.stays.lasts.was_open is_open))

pub returns-clause-numbers : goal.returns-clause-numbers
returns-clause-numbers g c = c.in_ok-accessions.ensures.numbers

pub returns-clause-ascending : goal.returns-clause-ascending
returns-clause-ascending g c = c.in_ok-accessions.ensures.ascending
