use Rattle.rd_store.proofs.Common.{◌≢◌, ◌∙◌, Some, ap, rules, sym, IfOk-weaker, state, D64, map_of, with_marks, image_spelling, marks_spelling}
use Rattle.rd_store.proofs.MarkedImages.{joined_at, no_others}
use Rattle.rd_store.proofs.Laws.{holds_tables, stays_still}
use Rattle.rd_store.proofs.marks.marked_image.Goals as goal

-- nothing is asked
pub returns-then-ne-clause-asks : goal.returns-then-ne-clause-asks
returns-then-ne-clause-asks g c = record {
  stays = stays_still g.S.Store c.args.conn.now (holds_tables (state g.S.Store c.args.conn.now) c.requires.holds);
  ends_open = c.requires.open_if_clean;
  fault = tt;
  answer = λ is_open stands.
      let trees = (state g.S.Store c.args.conn.now).now.trees in
      let images = map_of image_spelling (trees 2) in
      let marks = map_of marks_spelling (trees 11) in
      let other : c.args.row.kind ≢ D64 = search rules in
      let none = no_others images marks (c.requires.holds is_open).holds.of.rows.marks.lawful c.args.acc c.args.row stands other in
      joined_at images marks c.args.acc c.args.row stands ∙ ap (λ m. Some (with_marks m c.args.row)) none;
}

pub returns-clause-asks : goal.returns-clause-asks
returns-clause-asks g c = record {
  stays = c.marks_at.ensures.asks.stays;
  ends_open = search rules;
  fault = search rules;
  answer = λ is_open.
      let at = c.requires.holds (c.marks_at.ensures.asks.stays.lasts.was_open is_open) in
      let trees = (state g.S.Store c.args.conn.now).now.trees in
      let found = c.in_ok-marks.ensures.asks.answer is_open at.holds.of.rows.marks.spells in
      IfOk-weaker c.with_marks.result _ _ (λ image is stands.
      joined_at (map_of image_spelling (trees 2)) (map_of marks_spelling (trees 11)) c.args.acc c.args.row stands ∙ ap (λ m. Some (with_marks m c.args.row)) (sym found) ∙ ap Some (sym is)) c.with_marks.ensures.joined;
}
