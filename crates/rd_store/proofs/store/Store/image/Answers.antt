use Rattle.rd_store.proofs.Common.{◌≡◌, Option, Some, None, Ok, ◌∙◌, rules, subst, sym, get, Database, state, map_of, ImageRow, Sql, Asks, Reads, desk, desk_of, image_spelling, marks_spelling}
use Rattle.rd_store.proofs.ReadLemmas.{reads_of}
use Rattle.rd_store.proofs.MarkedImages.{joined_nowhere}
use Rattle.rd_tables.proofs.ConnectionLaws.{Laws, stays_then}
use Rattle.rd_store.proofs.store.Store.image.Goals as goal

pub returns-in_default-clause-reads : goal.returns-in_default-clause-reads
returns-in_default-clause-reads g c =
    let laws : Laws g.S.Store = record { settles = g.met.S.Store.settled; shuts = g.met.S.Store.shut_if_dirty } in
    let old = c.self.inside.conn in
    let new = c.image_at.new.conn in
    let asks : Asks g.S.Store old new (Ok None) Sql (λ (found : Option ImageRow). found ≡ get (desk g.S.Store old).images c.args.acc) = record {
      stays = c.image_at.ensures.asks.stays;
      ends_open = search rules;
      fault = tt;
      answer = λ is_open.
          let at = c.self.invariant.0 (c.image_at.ensures.asks.stays.lasts.was_open is_open) in
          let trees = (state g.S.Store old).now.trees in
          sym (joined_nowhere (map_of image_spelling (trees 2)) (map_of marks_spelling (trees 11)) c.args.acc (sym (c.in_ok-found.ensures.asks.answer is_open at.holds.of.rows.images) ∙ c.in_default.is));
    } in
    subst (λ h. Reads g.S.Store h new (Ok None) (λ (found : Option ImageRow). found ≡ get (desk g.S.Store h).images c.args.acc)) c.self.view_is (reads_of g.S.Store laws old new c.self.invariant.0 asks)

pub returns-in_err-marked_image-clause-reads : goal.returns-in_err-marked_image-clause-reads
returns-in_err-marked_image-clause-reads g c =
    let laws : Laws g.S.Store = record { settles = g.met.S.Store.settled; shuts = g.met.S.Store.shut_if_dirty } in
    let old = c.self.inside.conn in
    let new = c.marked_image.new.conn in
    let result = c.from_residual-in_err-marked_image.result in
    let asks : Asks g.S.Store old new result Sql (λ (found : Option ImageRow). found ≡ get (desk g.S.Store old).images c.args.acc) = record {
      stays = stays_then g.S.Store old c.image_at.new.conn new c.image_at.ensures.asks.stays c.in_ok-found.ensures.asks.ends_open c.marked_image.ensures.asks.stays;
      ends_open = search rules;
      fault = search rules;
      answer = search rules;
    } in
    subst (λ h. Reads g.S.Store h new result (λ (found : Option ImageRow). found ≡ get (desk g.S.Store h).images c.args.acc)) c.self.view_is (reads_of g.S.Store laws old new c.self.invariant.0 asks)

pub returns-clause-reads : goal.returns-clause-reads
returns-clause-reads g c =
    let laws : Laws g.S.Store = record { settles = g.met.S.Store.settled; shuts = g.met.S.Store.shut_if_dirty } in
    let old = c.self.inside.conn in
    let new = c.marked_image.new.conn in
    let asks : Asks g.S.Store old new (Ok (Some c.in_ok-marked_image.field-0)) Sql (λ (found : Option ImageRow). found ≡ get (desk g.S.Store old).images c.args.acc) = record {
      stays = stays_then g.S.Store old c.image_at.new.conn new c.image_at.ensures.asks.stays c.in_ok-found.ensures.asks.ends_open c.marked_image.ensures.asks.stays;
      ends_open = search rules;
      fault = tt;
      answer = λ is_open.
          let was = c.marked_image.ensures.asks.stays.lasts.was_open is_open in
          let at = c.self.invariant.0 (c.image_at.ensures.asks.stays.lasts.was_open was) in
          let row = sym (c.in_ok-found.ensures.asks.answer was at.holds.of.rows.images) ∙ c.in-Some.is in
          sym (subst (λ (db : Database). get (map_of image_spelling (db.trees 2)) c.args.acc ≡ Some c.in-Some.row → get (desk_of db.trees).images c.args.acc ≡ Some c.in_ok-marked_image.field-0)
          (c.image_at.ensures.asks.stays.now was) (c.in_ok-marked_image.ensures.asks.answer is_open) row);
    } in
    subst (λ h. Reads g.S.Store h new (Ok (Some c.in_ok-marked_image.field-0)) (λ (found : Option ImageRow). found ≡ get (desk g.S.Store h).images c.args.acc)) c.self.view_is (reads_of g.S.Store laws old new c.self.invariant.0 asks)
