use Rattle.rd_store.proofs.Common.{◌≡◌, ◌∙◌, List, Option, ℕ, ap, eqb-true, length, rules, subst, sym, vec_len, Database, state, empty_by_length, Heading, AreBatchOf, AreReadNext, IsWalkTo, last_number}
use Rattle.rd_tables.proofs.ConnectionLaws.{stays_here, stays_then}
use Rattle.rd_store.proofs.Laws.{stays_common, stays_marks}
use Rattle.rd_store.proofs.ImageWalks.{part_refused, sql_part, starts_to, then_part, walked_all, walked_lawful}
use Rattle.rd_store.proofs.image_walk.walk_images.Goals as goal

pub loop-init : goal.loop-init
loop-init g c = (
  stays_here g.S.Store c.args.conn.now (λ is_open. (c.requires.tables is_open).rests.autocommit),
  c.requires.open_if_clean,
  λ is_open.
      let trees = (state g.S.Store c.args.conn.now).now.trees in
      subst (λ (l : List (ℕ × Heading)). IsWalkTo c.args.deeds.now c.args.marked.now trees l) (sym c.new-entries.ensures.items) (starts_to c.args.deeds.now c.args.marked.now trees),
)

pub next_images-requires : goal.next_images-requires
next_images-requires g c = record { tables = stays_common g.S.Store c.args.conn.now c.loop.conn c.loop.invariant.0 c.requires.tables }

pub returns-in_err-rows-clause-tests : goal.returns-in_err-rows-clause-tests
returns-in_err-rows-clause-tests g c =
    sql_part g.S.Store (stays_then g.S.Store c.args.conn.now c.loop.conn c.next_images.new.conn c.loop.invariant.0 c.loop.invariant.1 c.next_images.ensures.asks.stays) c.from_residual.result c.from_residual.ensures.1 c.in_err-rows.ensures.asks.fault

pub returns-then-is_empty-clause-tests : goal.returns-then-is_empty-clause-tests
returns-then-is_empty-clause-tests g c = record {
  stays = stays_then g.S.Store c.args.conn.now c.loop.conn c.next_images.new.conn c.loop.invariant.0 c.loop.invariant.1 c.next_images.ensures.asks.stays;
  ends_open = λ clean. c.in_ok-rows.ensures.asks.ends_open clean;
  refuses = tt;
  named = tt;
  judges = λ is_open.
      let deeds = c.args.deeds.now in
      let marked = c.args.marked.now in
      let trees = (state g.S.Store c.args.conn.now).now.trees in
      let listed = c.loop.entries.items in
      let was = c.next_images.ensures.asks.stays.lasts.was_open is_open in
      let after : c.last_accession.result ≡ last_number listed = c.last_accession.ensures ∙ ap last_number c.deref.ensures.value in
      let batch : AreBatchOf (last_number listed) trees c.in_ok-rows.rows.items =
      subst (λ (db : Database). AreBatchOf (last_number listed) db.trees c.in_ok-rows.rows.items) (c.loop.invariant.0.now was)
      (subst (λ (a : Option ℕ). AreBatchOf a (state g.S.Store c.loop.conn).now.trees c.in_ok-rows.rows.items) after (c.in_ok-rows.ensures.asks.answer is_open)) in
      let len : vec_len c.in_ok-rows.rows ≡ length c.in_ok-rows.rows.items = search rules in
      walked_lawful deeds marked trees listed (c.loop.invariant.2 was) (batch.1 (empty_by_length _ (sym len ∙ eqb-true (vec_len c.in_ok-rows.rows) 0 (sym c.is_empty.ensures ∙ c.if-is_empty.true))));
}

pub returns-then-is_empty-clause-walked : goal.returns-then-is_empty-clause-walked
returns-then-is_empty-clause-walked g c is_open =
    let deeds = c.args.deeds.now in
    let marked = c.args.marked.now in
    let trees = (state g.S.Store c.args.conn.now).now.trees in
    let listed = c.loop.entries.items in
    let was = c.next_images.ensures.asks.stays.lasts.was_open is_open in
    let after : c.last_accession.result ≡ last_number listed = c.last_accession.ensures ∙ ap last_number c.deref.ensures.value in
    let batch : AreBatchOf (last_number listed) trees c.in_ok-rows.rows.items =
    subst (λ (db : Database). AreBatchOf (last_number listed) db.trees c.in_ok-rows.rows.items) (c.loop.invariant.0.now was)
    (subst (λ (a : Option ℕ). AreBatchOf a (state g.S.Store c.loop.conn).now.trees c.in_ok-rows.rows.items) after (c.in_ok-rows.ensures.asks.answer is_open)) in
    let len : vec_len c.in_ok-rows.rows ≡ length c.in_ok-rows.rows.items = search rules in
    walked_all deeds marked trees listed (c.loop.invariant.2 was) (batch.1 (empty_by_length _ (sym len ∙ eqb-true (vec_len c.in_ok-rows.rows) 0 (sym c.is_empty.ensures ∙ c.if-is_empty.true))))

pub walk_rows-requires-clause-tables : goal.walk_rows-requires-clause-tables
walk_rows-requires-clause-tables g c =
    stays_common g.S.Store c.args.conn.now c.next_images.new.conn (stays_then g.S.Store c.args.conn.now c.loop.conn c.next_images.new.conn c.loop.invariant.0 c.loop.invariant.1 c.next_images.ensures.asks.stays) c.requires.tables

pub walk_rows-requires-clause-marks : goal.walk_rows-requires-clause-marks
walk_rows-requires-clause-marks g c acc =
    stays_marks g.S.Store c.args.conn.now c.next_images.new.conn (stays_then g.S.Store c.args.conn.now c.loop.conn c.next_images.new.conn c.loop.invariant.0 c.loop.invariant.1 c.next_images.ensures.asks.stays) _ (c.requires.marks acc)

pub walk_rows-requires-clause-rows : goal.walk_rows-requires-clause-rows
walk_rows-requires-clause-rows g c is_open =
    let listed = c.loop.entries.items in
    let after : c.last_accession.result ≡ last_number listed = c.last_accession.ensures ∙ ap last_number c.deref.ensures.value in
    let batch = subst (λ (a : Option ℕ). AreBatchOf a (state g.S.Store c.loop.conn).now.trees c.in_ok-rows.rows.items) after (c.in_ok-rows.ensures.asks.answer is_open) in
    subst (AreReadNext (last_number listed) (state g.S.Store c.next_images.new.conn).now.trees) (sym c.deref-in-loop.ensures.value)
    (subst (λ (db : Database). AreReadNext (last_number listed) db.trees c.in_ok-rows.rows.items) (sym (c.next_images.ensures.asks.stays.now is_open)) batch.0)

pub returns-in_err-walk_rows-clause-tests : goal.returns-in_err-walk_rows-clause-tests
returns-in_err-walk_rows-clause-tests g c =
    let stays = stays_then g.S.Store c.args.conn.now c.loop.conn c.next_images.new.conn c.loop.invariant.0 c.loop.invariant.1 c.next_images.ensures.asks.stays in
    part_refused g.S.Store c.from_residual-in_err-walk_rows.result c.from_residual-in_err-walk_rows.ensures.1 (λ is_open all. all) (then_part g.S.Store stays c.in_ok-rows.ensures.asks.ends_open c.in_err-walk_rows.ensures.tests)

pub loop-preserved : goal.loop-preserved
loop-preserved g c =
    let stays = stays_then g.S.Store c.args.conn.now c.loop.conn c.next_images.new.conn c.loop.invariant.0 c.loop.invariant.1 c.next_images.ensures.asks.stays in (
      stays_then g.S.Store c.args.conn.now c.next_images.new.conn c.walk_rows.new.conn stays c.in_ok-rows.ensures.asks.ends_open c.walk_rows.ensures.tests.stays,
      c.in_ok-walk_rows.ensures.tests.ends_open,
      λ is_open.
          let deeds = c.args.deeds.now in
          let marked = c.args.marked.now in
          let trees = (state g.S.Store c.args.conn.now).now.trees in
          let was = c.walk_rows.ensures.tests.stays.lasts.was_open is_open in
          let earlier = c.next_images.ensures.asks.stays.lasts.was_open was in
          subst (λ (db : Database). IsWalkTo deeds marked db.trees c.loop.entries.items → IsWalkTo deeds marked db.trees c.walk_rows.new.entries.items) (stays.now was) (c.in_ok-walk_rows.ensures.walked is_open) (c.loop.invariant.2 earlier),
    )
