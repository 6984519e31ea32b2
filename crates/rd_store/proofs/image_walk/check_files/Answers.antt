use Rattle.rd_store.proofs.Common.{◌∷◌, [], List, pos, sym, subst, subst₂, MatchBool, Int, Database, state, Row, AreFounds, Found, IsPicked, files_query, ShowFiles, AreFilesIn, image_if, ImageRow}
use Rattle.rd_store.proofs.IndexTests.{has_files, shows_files}
use Rattle.rd_tables.proofs.ConnectionLaws.{stays_then}
use Rattle.rd_store.proofs.Laws.{stays_common}
use Rattle.rd_store.proofs.ImageWalks.{part_refused}
use Rattle.rd_store.proofs.image_walk.check_files.Goals as goal

pub file_rows-requires : goal.file_rows-requires
file_rows-requires g c = record { tables = stays_common g.S.Store c.args.conn.now c.whole_image.new.conn c.whole_image.ensures.tests.stays c.requires.tables }

-- the image is not what the tables of a desk have there
pub returns-in_err-image : goal.returns-in_err-image
returns-in_err-image g c = record { tests = part_refused g.S.Store c.from_residual.result c.from_residual.ensures.1 (λ is_open lawful. (lawful.0, lawful.2.disk)) c.in_err-image.ensures.tests }

pub returns-then-branch : goal.returns-then-branch
returns-then-branch g c = record {
  tests = record {
    stays = stays_then g.S.Store c.args.conn.now c.whole_image.new.conn c.file_rows.new.conn c.whole_image.ensures.tests.stays c.in_ok-image.ensures.tests.ends_open c.file_rows.ensures.asks.stays;
    ends_open = λ clean. c.in-Ok-file_rows.ensures.asks.ends_open clean;
    refuses = tt;
    named = tt;
    judges = λ is_open spells marks numbered.
        let was = c.file_rows.ensures.asks.stays.lasts.was_open is_open in
        let trees = (state g.S.Store c.args.conn.now).now.trees in
        let files : List Found = c.in-Ok.files in
        let rows : List Row = c.in-Ok-file_rows.rows.items in
        let image : ImageRow = c.in_ok-image.image in
        let are : AreFilesIn (image_if c.args.is_marked trees c.args.acc) files =
        subst (λ found. AreFilesIn found files) (sym (c.in_ok-image.ensures.image was spells marks)) (subst (λ bytes. AreFounds image.kind bytes files) c.as_slice.ensures c.in-Ok.ensures.files) in
        let picks : IsPicked files_query (Int (pos c.args.acc) ∷ []) (trees 9) rows =
        subst (λ (db : Database). IsPicked files_query (Int (pos c.args.acc) ∷ []) (db.trees 9) rows) (c.whole_image.ensures.tests.stays.now was) (c.in-Ok-file_rows.ensures.asks.answer is_open) in
        let show : ShowFiles files rows = subst₂ ShowFiles c.as_slice-2.ensures c.deref.ensures.value
        (subst (λ b. MatchBool b (ShowFiles c.as_slice-2.result.now c.deref.result.now) (¬ ShowFiles c.as_slice-2.result.now c.deref.result.now)) c.if-branch.true c.in_ok-show_files.ensures.show) in
        has_files c.args.is_marked c.args.acc trees rows files are picks (c.in_ok-image.ensures.tests.judges was spells) numbered show;
  };
}

pub returns : goal.returns
returns g c = record {
  tests = record {
    stays = stays_then g.S.Store c.args.conn.now c.whole_image.new.conn c.file_rows.new.conn c.whole_image.ensures.tests.stays c.in_ok-image.ensures.tests.ends_open c.file_rows.ensures.asks.stays;
    ends_open = λ clean. tt;
    refuses = λ not_desk not_sql clean. c.in-Ok-file_rows.ensures.asks.ends_open clean;
    named = λ is. absurd cc;
    judges = λ is_open lawful.
        let was = c.file_rows.ensures.asks.stays.lasts.was_open is_open in
        let trees = (state g.S.Store c.args.conn.now).now.trees in
        let files : List Found = c.in-Ok.files in
        let rows : List Row = c.in-Ok-file_rows.rows.items in
        let image : ImageRow = c.in_ok-image.image in
        let are : AreFilesIn (image_if c.args.is_marked trees c.args.acc) files =
        subst (λ found. AreFilesIn found files) (sym (c.in_ok-image.ensures.image was lawful.0 lawful.1)) (subst (λ bytes. AreFounds image.kind bytes files) c.as_slice.ensures c.in-Ok.ensures.files) in
        let picks : IsPicked files_query (Int (pos c.args.acc) ∷ []) (trees 9) rows =
        subst (λ (db : Database). IsPicked files_query (Int (pos c.args.acc) ∷ []) (db.trees 9) rows) (c.whole_image.ensures.tests.stays.now was) (c.in-Ok-file_rows.ensures.asks.answer is_open) in
        let none : ¬ ShowFiles files rows = subst₂ (λ fs rs. ¬ ShowFiles fs rs) c.as_slice-2.ensures c.deref.ensures.value
        (subst (λ b. MatchBool b (ShowFiles c.as_slice-2.result.now c.deref.result.now) (¬ ShowFiles c.as_slice-2.result.now c.deref.result.now)) c.if-branch.false c.in_ok-show_files.ensures.show) in
        none (shows_files c.args.is_marked c.args.acc trees rows files are picks lawful.2);
  };
}
