use Rattle.rd_store.proofs.Common.{◌≡◌, ◌∙◌, ◌∷◌, ◌+◌, List, ℕ, ap, arith, drop, subst, sym, drop_more, Database, state, Row, Heading, AreReadNext, IsJudgedImage, IsReadOf, IsWalkTo, last_number}
use Rattle.rd_tables.proofs.ConnectionLaws.{stays_here, stays_then}
use Rattle.rd_store.proofs.Laws.{stays_common, stays_marks}
use Rattle.rd_store.proofs.ImageWalks.{goes_on, next_entry, part_refused, read_of, rest_next, sql_part, then_part}
use Rattle.rd_store.proofs.image_walk.walk_rows.Goals as goal

pub loop-row-init : goal.loop-row-init
loop-row-init g c = record {
  stays = stays_here g.S.Store c.args.conn.now (λ is_open. (c.requires.tables is_open).rests.autocommit);
  open_if_clean = c.requires.open_if_clean;
  follow = c.requires.rows;
  walked = λ is_open start. start;
}

pub check_image-requires-clause-tables : goal.check_image-requires-clause-tables
check_image-requires-clause-tables g c = stays_common g.S.Store c.args.conn.now c.loop-row.conn c.loop-row.invariant.stays c.requires.tables

pub check_image-requires-clause-marks : goal.check_image-requires-clause-marks
check_image-requires-clause-marks g c acc = stays_marks g.S.Store c.args.conn.now c.loop-row.conn c.loop-row.invariant.stays _ (c.requires.marks acc)

pub check_image-requires-clause-row : goal.check_image-requires-clause-row
check_image-requires-clause-row g c is_open =
    let rows = c.args.rows.now in
    let at = c.loop-row.row-index in
    let row : Row = c.row-item.result in
    let after = last_number c.loop-row.entries.items in
    let trees = (state g.S.Store c.args.conn.now).now.trees in
    let split : drop at rows ≡ row ∷ drop (at + 1) rows = drop_more rows at row (omega (arith, c.loop-row-test.true)) ∙ ap (λ r. r ∷ drop (at + 1) rows) (sym c.row-item.is) in
    subst (λ (db : Database). IsReadOf db.trees row) (sym (c.loop-row.invariant.stays.now is_open))
    (read_of after trees row (drop (at + 1) rows) (subst (AreReadNext after trees) split (c.loop-row.invariant.follow is_open)))

pub returns-in_err-entry-clause-tests : goal.returns-in_err-entry-clause-tests
returns-in_err-entry-clause-tests g c =
    part_refused g.S.Store c.from_residual.result c.from_residual.ensures.1 (λ is_open all. all) (then_part g.S.Store c.loop-row.invariant.stays c.loop-row.invariant.open_if_clean c.in_err-entry.ensures.tests)

pub returns-in_err-add_entry-clause-tests : goal.returns-in_err-add_entry-clause-tests
returns-in_err-add_entry-clause-tests g c =
    sql_part g.S.Store (stays_then g.S.Store c.args.conn.now c.loop-row.conn c.check_image.new.conn c.loop-row.invariant.stays c.loop-row.invariant.open_if_clean c.check_image.ensures.tests.stays) c.from_residual-in_err-add_entry.result c.from_residual-in_err-add_entry.ensures.1 c.in_err-add_entry.ensures.fault

pub loop-row-preserved : goal.loop-row-preserved
loop-row-preserved g c =
    let deeds = c.args.deeds.now in
    let marked = c.args.marked.now in
    let rows = c.args.rows.now in
    let at = c.loop-row.row-index in
    let row : Row = c.row-item.result in
    let entry : ℕ × Heading = c.in_ok-entry.entry in
    let listed = c.loop-row.entries.items in
    let after = last_number listed in
    let trees = (state g.S.Store c.args.conn.now).now.trees in
    let stays = c.loop-row.invariant.stays in
    let was = c.check_image.ensures.tests.stays.lasts.was_open in
    let split : drop at rows ≡ row ∷ drop (at + 1) rows = drop_more rows at row (omega (arith, c.loop-row-test.true)) ∙ ap (λ r. r ∷ drop (at + 1) rows) (sym c.row-item.is) in
    record {
      stays = stays_then g.S.Store c.args.conn.now c.loop-row.conn c.check_image.new.conn stays c.loop-row.invariant.open_if_clean c.check_image.ensures.tests.stays;
      open_if_clean = c.in_ok-entry.ensures.tests.ends_open;
      follow = λ is_open.
          let next = subst (AreReadNext after trees) split (c.loop-row.invariant.follow (was is_open)) in
          let judged = subst (λ (db : Database). IsJudgedImage deeds marked row db.trees) (stays.now (was is_open)) (c.in_ok-entry.ensures.tests.judges is_open) in
          subst (λ (l : List (ℕ × Heading)). AreReadNext (last_number l) trees (drop (at + 1) rows)) (sym c.in_ok-add_entry.ensures.items) (rest_next deeds marked trees listed entry row (drop (at + 1) rows) next judged c.in_ok-entry.ensures.entry);
      walked = λ is_open start.
          let next = subst (AreReadNext after trees) split (c.loop-row.invariant.follow (was is_open)) in
          let judged = subst (λ (db : Database). IsJudgedImage deeds marked row db.trees) (stays.now (was is_open)) (c.in_ok-entry.ensures.tests.judges is_open) in
          subst (λ (l : List (ℕ × Heading)). IsWalkTo deeds marked trees l) (sym c.in_ok-add_entry.ensures.items)
          (goes_on deeds marked trees listed entry (c.loop-row.invariant.walked (was is_open) start) (next_entry deeds marked after trees row (drop (at + 1) rows) next judged entry c.in_ok-entry.ensures.entry));
    }

pub returns-clause-tests : goal.returns-clause-tests
returns-clause-tests g c = record { stays = c.loop-row.invariant.stays; judges = λ is_open. tt; ends_open = λ clean. c.loop-row.invariant.open_if_clean clean; refuses = tt; named = tt }

pub returns-clause-walked : goal.returns-clause-walked
returns-clause-walked g c is_open start = c.loop-row.invariant.walked is_open start
