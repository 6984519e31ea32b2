use Rattle.rd_store.proofs.Common.{◌≡◌, ◌≢◌, ◌∙◌, rules, sym, true≢false, state, D64}
use Rattle.rd_store.proofs.IndexTests.{has_disk, marked_image, no_disk, unmarked_image}
use Rattle.rd_tables.proofs.ConnectionLaws.{stays_here}
use Rattle.rd_store.proofs.image_walk.whole_image.Goals as goal

pub marks_at-requires : goal.marks_at-requires
marks_at-requires g c = record { tables = c.requires.marks c.if-not-is_marked.false }

pub returns-then-not-is_marked-clause-tests : goal.returns-then-not-is_marked-clause-tests
returns-then-not-is_marked-clause-tests g c = record {
  stays = stays_here g.S.Store c.args.conn.now (λ is_open. (c.requires.tables is_open).rests.autocommit);
  ends_open = λ clean. c.requires.open_if_clean clean;
  refuses = tt;
  named = tt;
  judges = λ is_open spells is. absurd (true≢false (sym is ∙ c.if-not-is_marked.true));
}

pub returns-then-not-is_marked-clause-image : goal.returns-then-not-is_marked-clause-image
returns-then-not-is_marked-clause-image g c is_open spells marks = unmarked_image (state g.S.Store c.args.conn.now).now.trees c.args.acc c.args.row (c.requires.row is_open spells) c.args.is_marked c.if-not-is_marked.true

pub returns-then-ne-clause-tests : goal.returns-then-ne-clause-tests
returns-then-ne-clause-tests g c = record {
  stays = stays_here g.S.Store c.args.conn.now (λ is_open. (c.requires.tables is_open).rests.autocommit);
  ends_open = λ clean. tt;
  refuses = λ not_desk not_sql clean. c.requires.open_if_clean clean;
  named = λ is. absurd cc;
  judges = λ is_open lawful.
      let other : c.args.row.kind ≢ D64 = search rules in
      no_disk (state g.S.Store c.args.conn.now).now.trees c.args.acc c.args.row (c.requires.row is_open lawful.0) other (lawful.1 c.if-not-is_marked.false);
}

pub returns-in-Ok-with_marks-clause-tests : goal.returns-in-Ok-with_marks-clause-tests
returns-in-Ok-with_marks-clause-tests g c = record {
  stays = c.marks_at.ensures.asks.stays;
  ends_open = λ clean. c.in-Ok.ensures.asks.ends_open clean;
  refuses = tt;
  named = tt;
  judges = λ is_open spells is.
      let was = c.marks_at.ensures.asks.stays.lasts.was_open is_open in
      let kind : c.args.row.kind ≡ D64 = search rules in
      has_disk (state g.S.Store c.args.conn.now).now.trees c.args.acc c.args.row (c.requires.row was spells) kind;
}

pub returns-in-Ok-with_marks-clause-image : goal.returns-in-Ok-with_marks-clause-image
returns-in-Ok-with_marks-clause-image g c is_open spells marks =
    let was = c.marks_at.ensures.asks.stays.lasts.was_open is_open in
    marked_image (state g.S.Store c.args.conn.now).now.trees c.args.acc c.args.row (c.requires.row was spells) c.args.is_marked c.if-not-is_marked.false c.in-Ok.marks
    (c.in-Ok.ensures.asks.answer is_open (marks c.if-not-is_marked.false)) c.in-Ok-with_marks.image c.in-Ok-with_marks.ensures.joined
