use Rattle.rd_store.proofs.Common.{◌≡◌, ◌∙◌, ℕ, ap, subst, subst₂, sym, state, column, natural, Heading, HoldsMarksIf, HasFilesOnce, IsLawfulAt, StandsOnce}
use Rattle.rd_tables.proofs.ConnectionLaws.{stays_here}
use Rattle.rd_store.proofs.ImageWalks.{among_read, lawful_at, lawful_read, part_ok, part_refused, read_once, sql_part}
use Rattle.rd_store.proofs.image_walk.check_image.Goals as goal

pub returns-then-not-is_image-clause-tests : goal.returns-then-not-is_image-clause-tests
returns-then-not-is_image-clause-tests g c = record {
  stays = stays_here g.S.Store c.args.conn.now (λ is_open. (c.requires.tables is_open).rests.autocommit);
  ends_open = λ clean. tt;
  refuses = λ not_desk not_sql clean. c.requires.open_if_clean clean;
  named = λ is. absurd cc;
  judges = λ is_open lawful. c.if-not-is_image.ensures (lawful_read c.args.deeds.now (state g.S.Store c.args.conn.now).now.trees c.args.row.now (c.requires.row is_open) lawful.0);
}

pub returns-in_err-entry-clause-tests : goal.returns-in_err-entry-clause-tests
returns-in_err-entry-clause-tests g c =
    sql_part g.S.Store (stays_here g.S.Store c.args.conn.now (λ is_open. (c.requires.tables is_open).rests.autocommit)) c.from_residual.result c.from_residual.ensures.1 c.in_err-entry.ensures.fault

pub check_files-requires-clause-marks : goal.check_files-requires-clause-marks
check_files-requires-clause-marks g c =
    subst (λ b. HoldsMarksIf b (state g.S.Store c.args.conn.now)) (sym (c.has_one_of.ensures ∙ among_read c.args.deeds.now c.args.marked.now c.args.row.now c.if-not-is_image.ensures)) (c.requires.marks (natural (column c.args.row.now 0)))

pub check_files-requires-clause-row : goal.check_files-requires-clause-row
check_files-requires-clause-row g c is_open =
    let trees = (state g.S.Store c.args.conn.now).now.trees in
    let number : c.in_ok-entry.entry.0 ≡ natural (column c.args.row.now 0) = ap (λ (e : ℕ × Heading). e.0) c.in_ok-entry.ensures.entry in
    subst (λ n. StandsOnce n c.in_ok-entry.image trees) (sym number) (read_once c.args.deeds.now trees c.args.row.now (c.requires.row is_open) c.if-not-is_image.ensures c.in_ok-entry.image c.in_ok-entry.ensures.image)

pub returns-in_err-check_files-clause-tests : goal.returns-in_err-check_files-clause-tests
returns-in_err-check_files-clause-tests g c =
    let row = c.args.row.now in
    let trees = (state g.S.Store c.args.conn.now).now.trees in
    let number : c.in_ok-entry.entry.0 ≡ natural (column row 0) = ap (λ (e : ℕ × Heading). e.0) c.in_ok-entry.ensures.entry in
    let among = c.has_one_of.ensures ∙ among_read c.args.deeds.now c.args.marked.now row c.if-not-is_image.ensures in
    part_refused g.S.Store c.from_residual-in_err-check_files.result c.from_residual-in_err-check_files.ensures.1
    (λ is_open lawful. subst₂ (λ b n. IsLawfulAt b n trees) (sym among) (sym number) (lawful_at c.args.deeds.now c.args.marked.now trees row (c.requires.row (c.check_files.ensures.tests.stays.lasts.was_open is_open)) lawful))
    c.in_err-check_files.ensures.tests

pub returns-clause-tests : goal.returns-clause-tests
returns-clause-tests g c =
    let row = c.args.row.now in
    let number : c.in_ok-entry.entry.0 ≡ natural (column row 0) = ap (λ (e : ℕ × Heading). e.0) c.in_ok-entry.ensures.entry in
    let among = c.has_one_of.ensures ∙ among_read c.args.deeds.now c.args.marked.now row c.if-not-is_image.ensures in
    part_ok g.S.Store (λ is_open files. (c.if-not-is_image.ensures, subst₂ (λ b n. HasFilesOnce b n (state g.S.Store c.args.conn.now).now.trees) among number files)) c.in_ok-check_files.ensures.tests
