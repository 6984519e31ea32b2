use Rattle.rd_store.proofs.Common.{map, subst, sym, Database, state, map_of, AreKeys, LawfulImages, number_of, image_spelling, IsWalk, LawfulWalk}
use Rattle.rd_store.proofs.Laws.{stays_common, stays_marks}
use Rattle.rd_store.proofs.TestSequences.{given}
use Rattle.rd_store.proofs.ImageWalks.{part_ok, part_refused, then_part, walk_in}
use Rattle.rd_store.proofs.opening.check_deeds_and_images.Goals as goal

pub returns-in_err-deeds-clause-tests : goal.returns-in_err-deeds-clause-tests
returns-in_err-deeds-clause-tests g c = part_refused g.S.Store c.from_residual.result c.from_residual.ensures.1 (λ is_open all. all.0.0) c.in_err-deeds.ensures.tests

pub walk_images-requires-clause-tables : goal.walk_images-requires-clause-tables
walk_images-requires-clause-tables g c = stays_common g.S.Store c.args.conn.now c.check_deeds.new.conn c.check_deeds.ensures.tests.stays c.requires.tables

pub walk_images-requires-clause-marks : goal.walk_images-requires-clause-marks
walk_images-requires-clause-marks g c acc = stays_marks g.S.Store c.args.conn.now c.check_deeds.new.conn c.check_deeds.ensures.tests.stays _ (c.requires.marks acc)

pub returns-in_err-entries-clause-tests : goal.returns-in_err-entries-clause-tests
returns-in_err-entries-clause-tests g c = part_refused g.S.Store c.from_residual-in_err-entries.result c.from_residual-in_err-entries.ensures.1 (λ is_open all.
    let trees = (state g.S.Store c.args.conn.now).now.trees in
    let are = c.in_ok-deeds.ensures.numbers (c.walk_images.ensures.tests.stays.lasts.was_open is_open) in
    subst (λ l. LawfulWalk l c.args.marked.now trees) (sym c.deref.ensures.value) (walk_in trees c.in_ok-deeds.deeds.items c.args.marked.now are all))
    (then_part g.S.Store c.check_deeds.ensures.tests.stays c.in_ok-deeds.ensures.tests.ends_open c.in_err-entries.ensures.tests)

pub returns-clause-tests : goal.returns-clause-tests
returns-clause-tests g c = part_ok g.S.Store (λ is_open images.
    let trees = (state g.S.Store c.args.conn.now).now.trees in
    let was = c.walk_images.ensures.tests.stays.lasts.was_open is_open in
    given trees c.in_ok-deeds.deeds.items (c.in_ok-deeds.ensures.numbers was) (c.in_ok-deeds.ensures.tests.judges was) (subst (λ l. LawfulImages l trees) c.deref.ensures.value images))
    (then_part g.S.Store c.check_deeds.ensures.tests.stays c.in_ok-deeds.ensures.tests.ends_open c.in_ok-entries.ensures.tests)

pub returns-clause-numbers : goal.returns-clause-numbers
returns-clause-numbers g c is_open =
    let was = c.walk_images.ensures.tests.stays.lasts.was_open is_open in (
      c.in_ok-deeds.ensures.numbers was,
      subst (λ (db : Database). AreKeys (map_of image_spelling (db.trees 2)) (map number_of c.in_ok-entries.entries.items)) (c.check_deeds.ensures.tests.stays.now was) (c.in_ok-entries.ensures.walked is_open).numbers,
    )

pub returns-clause-walked : goal.returns-clause-walked
returns-clause-walked g c is_open =
    subst (λ (db : Database). IsWalk c.args.marked.now db.trees c.in_ok-entries.entries.items) (c.check_deeds.ensures.tests.stays.now (c.walk_images.ensures.tests.stays.lasts.was_open is_open)) (c.in_ok-entries.ensures.walked is_open)
