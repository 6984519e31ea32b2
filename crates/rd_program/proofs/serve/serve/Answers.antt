use Rattle.std.proofs.Common.{◌≡◌, ◌∙◌, Err, IsTrue, ap, false, inl, inr, refl, rules, subst, sym}
use Rattle.std.proofs.KnownBytes.{Keeps-refl}
use Rattle.rd_commands.specs.Serving.{place_of}
use Rattle.rd_program.proofs.Named.{asked_more, asked_none}
use Rattle.rd_program.proofs.LeftStores.{gives_back, has_both, on_ended_always, opening_fails, still_same, unopened_with}
use Rattle.rd_program.proofs.ImportLemmas.{ok_whole}
use Rattle.rd_program.proofs.InitLemmas.{at_err_both}
use Rattle.rd_program.proofs.Moments.{is_err}
use Rattle.rd_program.proofs.PerformLemmas.{at_both}
use Rattle.rd_program.specs.Does.{DoesServe}
use Rattle.rd_commands.specs.RefusalLines.{whole}
use Rattle.rd_commands.specs.declared.done.Done.{Done}
use Rattle.rd_store.specs.Held.{Lasts}
use Rattle.rd_program.proofs.OnTimeLemmas.{served_on_time}
use Rattle.rd_program.proofs.ShowLemmas.{passed_on}
use Rattle.rd_program.proofs.VisitLemmas.{lent_kept, lent_limits, limits_kept, serves_door, serves_with}
use Rattle.std.specs.Prelude.{⊤}
use Rattle.rd_http.specs.declared.serve.Ended.TheVariants.{Count}
use Rattle.rd_program.proofs.LeftStoresByWords.{lasts_left, read_left, serve_ended, serve_not_begun, serve_unopened}
use Rattle.rd_program.proofs.ServeLines.{both_lines, ends, not_listening, not_opened}
use Rattle.rd_program.specs.World.{World}
use Rattle.rd_program.specs.World.Wanted.{DoorAt, StoreAt}
use Rattle.rd_program.proofs.Frames.{doors_back, opened_doors}
use Rattle.rd_program.proofs.serve.serve.Goals as goal

pub returns-clause-back : goal.returns-clause-back
returns-clause-back g c =
    gives_back (g.M.Machine.seen c.args.machine.now).shows (g.M.Machine.seen c.args.machine.now).left (g.M.Machine.seen c.release.new.self).left _
    (λ shows. c.release.ensures.back (subst (λ b. IsTrue b) (sym ((ap (λ (w : World _ _). w.shows) c.serve_visits-served.ensures.frame) ∙ (ap (λ (w : World _ _). w.shows) c.open_desk.ensures.frame))) shows))

pub returns-in_err-served-clause-back : goal.returns-in_err-served-clause-back
returns-in_err-served-clause-back g c =
    gives_back (g.M.Machine.seen c.args.machine.now).shows (g.M.Machine.seen c.args.machine.now).left (g.M.Machine.seen c.release.new.self).left _
    (λ shows. c.release.ensures.back (subst (λ b. IsTrue b) (sym ((ap (λ (w : World _ _). w.shows) c.serve_visits-served.ensures.frame) ∙ (ap (λ (w : World _ _). w.shows) c.open_desk.ensures.frame))) shows))

pub returns-clause-refused : goal.returns-clause-refused
returns-clause-refused g c =
    ends c.tell_ended.result c.in_ok-served.field-0.ended (place_of c.args.ask.place) c.in_ok-served.field-0.visits c.args.ask.count _ _ _ c.in_ok-served.ensures.count
    c.in_ok-served.ensures.listening c.tell_ended.ensures.refused

pub returns-in_err-served-clause-refused : goal.returns-in_err-served-clause-refused
returns-in_err-served-clause-refused g c =
    passed_on c.from_residual-in_err-served.result c.in_err-served.field-0.0 _ c.from_residual-in_err-served.ensures.1 (not_listening c.in_err-served.field-0.0 (place_of c.args.ask.place) c.args.ask.count _ _ c.in_err-served.ensures.refused)

pub returns-in_err-desk-clause-refused : goal.returns-in_err-desk-clause-refused
returns-in_err-desk-clause-refused g c =
    let refused = not_opened _ (place_of c.args.ask.place) c.args.ask.count (g.W.Write.contents c.args.output.now) c.in_err-desk.ensures.refused in search rules

pub returns-clause-does : goal.returns-clause-does
returns-clause-does g c = record {
  frame = doors_back (g.M.Machine.seen c.args.machine.now) (g.M.Machine.seen c.serve_visits-served.new.machine) (g.M.Machine.seen c.release.new.self)
      (opened_doors (g.M.Machine.seen c.args.machine.now) (g.M.Machine.seen c.open_desk.new.machine) (g.M.Machine.seen c.serve_visits-served.new.machine) c.open_desk.ensures.frame c.serve_visits-served.ensures.frame) c.release.ensures.frame;
  asked = asked_more (g.M.Machine.seen c.args.machine.now).wanted (g.M.Machine.seen c.open_desk.new.machine).wanted (g.M.Machine.seen c.serve_visits-served.new.machine).wanted (g.M.Machine.seen c.release.new.self).wanted
      (StoreAt c.args.ask.store.now false false) (DoorAt (place_of c.args.ask.place)) ⊤ c.open_desk.ensures.asked c.serve_visits-served.ensures.asked (ap (λ (w : World _ _). w.wanted) c.release.ensures.frame);
  there = on_ended_always (whole c.tell_ended.result) _ (has_both (g.M.Machine.seen c.args.machine.now).shows ((g.M.Machine.seen c.args.machine.now).stands c.args.ask.store.now) (g.M.Machine.seen c.release.new.self).left _ c.in_ok-desk.ensures.there (λ shows. c.release.ensures.back (subst (λ b. IsTrue b) (sym ((ap (λ (w : World _ _). w.shows) c.serve_visits-served.ensures.frame) ∙ (ap (λ (w : World _ _). w.shows) c.open_desk.ensures.frame))) shows)));
  leaves = lasts_left g.M.Disk.Store (g.M.Machine.seen c.args.machine.now).left ((g.M.Machine.seen c.args.machine.now).stands c.args.ask.store.now) (g.M.Machine.seen c.release.new.self).left
      c.in_ok-desk.desk.store c.serve_visits-served.new.desk.store c.into_connection.result c.in_ok-desk.ensures.opened c.in_ok-served.ensures.lasts
      (c.into_connection.ensures.same ∙ c.into_store.ensures) c.release.ensures.left;
  so = at_both c.tell_ended.result (whole c.tell_ended.result) _ _ refl
      (both_lines c.tell_ended.result c.in_ok-served.field-0.ended (place_of c.args.ask.place) c.in_ok-served.field-0.visits c.args.ask.count _ _ _ c.in_ok-served.ensures.count
      c.in_ok-served.ensures.listening c.tell_ended.ensures.count c.tell_ended.ensures.done)
      (at_err_both c.tell_ended.result _ _
      (ends c.tell_ended.result c.in_ok-served.field-0.ended (place_of c.args.ask.place) c.in_ok-served.field-0.visits c.args.ask.count _ _ _ c.in_ok-served.ensures.count
      c.in_ok-served.ensures.listening c.tell_ended.ensures.refused)
      (let at = place_of c.args.ask.place in
      serve_ended g.M.Disk.Store c.tell_ended.result (g.M.Machine.seen c.args.machine.now).left ((g.M.Machine.seen c.args.machine.now).stands c.args.ask.store.now)
      (g.M.Machine.seen c.release.new.self).left c.in_ok-served.field-0.ended at c.in_ok-served.field-0.visits _ _ _ _
      (serves_with g.M.Disk.Store g.M.Door.Door.so_far g.M.Door.Door.coming (λ served. ⊤) c.in_ok-served.field-0 c.in_ok-desk.desk.zone c.args.ask.zone ((g.M.Machine.seen c.open_desk.new.machine).doors at) ((g.M.Machine.seen c.args.machine.now).doors at) ((g.M.Machine.seen c.serve_visits-served.new.machine).doors at)
      ((g.M.Machine.seen c.release.new.self).doors at) ((g.M.Machine.seen c.args.machine.now).stands c.args.ask.store.now) (g.M.Machine.seen c.release.new.self).left
      c.in_ok-desk.desk.store c.serve_visits-served.new.desk.store c.into_connection.result tt
      c.in_ok-desk.ensures.zone (ap (λ (w : World _ _). w.doors at) c.open_desk.ensures.frame) (ap (λ (w : World _ _). w.doors at) c.release.ensures.frame) c.in_ok-desk.ensures.opened
      c.in_ok-served.ensures.lasts (c.into_connection.ensures.same ∙ c.into_store.ensures) c.release.ensures.left c.in_ok-served.ensures.visits)
      c.in_ok-served.ensures.listening c.tell_ended.ensures.refused));
  visits = ok_whole _ c.tell_ended.result (whole c.tell_ended.result) refl
      (let at = place_of c.args.ask.place in
      serves_door g.M.Disk.Store g.M.Door.Door.so_far g.M.Door.Door.coming c.tell_ended.result c.in_ok-served.field-0 c.args.ask.count ((g.M.Machine.seen c.args.machine.now).doors at)
      ((g.M.Machine.seen c.release.new.self).doors at) c.args.ask.zone ((g.M.Machine.seen c.args.machine.now).stands c.args.ask.store.now) (g.M.Machine.seen c.release.new.self).left
      c.in_ok-served.ensures.count c.tell_ended.ensures.count
      (λ ends. serves_with g.M.Disk.Store g.M.Door.Door.so_far g.M.Door.Door.coming (λ served. (served.visits ≡ c.args.ask.count) × (served.ended ≡ Count)) c.in_ok-served.field-0
      c.in_ok-desk.desk.zone c.args.ask.zone ((g.M.Machine.seen c.open_desk.new.machine).doors at) ((g.M.Machine.seen c.args.machine.now).doors at) ((g.M.Machine.seen c.serve_visits-served.new.machine).doors at)
      ((g.M.Machine.seen c.release.new.self).doors at) ((g.M.Machine.seen c.args.machine.now).stands c.args.ask.store.now) (g.M.Machine.seen c.release.new.self).left
      c.in_ok-desk.desk.store c.serve_visits-served.new.desk.store c.into_connection.result ends
      c.in_ok-desk.ensures.zone (ap (λ (w : World _ _). w.doors at) c.open_desk.ensures.frame) (ap (λ (w : World _ _). w.doors at) c.release.ensures.frame) c.in_ok-desk.ensures.opened
      c.in_ok-served.ensures.lasts (c.into_connection.ensures.same ∙ c.into_store.ensures) c.release.ensures.left c.in_ok-served.ensures.visits));
  limits = ok_whole _ c.tell_ended.result (whole c.tell_ended.result) refl
      (limits_kept c.tell_ended.result (g.M.Machine.seen c.args.machine.now).shows (g.M.Machine.seen c.open_desk.new.machine).shows (g.M.Machine.seen c.serve_visits-served.new.machine).limits
      (g.M.Machine.seen c.release.new.self).limits c.args.ask.timeouts (ap (λ (w : World _ _). w.shows) c.open_desk.ensures.frame) (ap (λ (w : World _ _). w.limits) c.release.ensures.frame) c.in_ok-served.ensures.limits);
  lent = lent_limits (g.M.Machine.seen c.args.machine.now).shows (g.M.Machine.seen c.open_desk.new.machine).shows (g.M.Machine.seen c.serve_visits-served.new.machine).limits
      (g.M.Machine.seen c.release.new.self).limits c.args.ask.timeouts (g.W.Write.contents c.args.output.now) (g.W.Write.contents c.tell_ended.new.output)
      (ap (λ (w : World _ _). w.shows) c.open_desk.ensures.frame) (ap (λ (w : World _ _). w.limits) c.release.ensures.frame) c.in_ok-served.ensures.limits;
  on_time = λ doubts. inr (served_on_time g.M.Disk.Store ((g.M.Machine.seen c.args.machine.now).stands c.args.ask.store.now) (g.M.Machine.seen c.release.new.self).left c.in_ok-desk.desk.store c.serve_visits-served.new.desk.store c.into_connection.result (g.M.Machine.seen c.args.machine.now).clock (g.M.Machine.seen c.open_desk.new.machine).clock c.in_ok-desk.desk.zone c.args.ask.zone c.in_ok-desk.ensures.opened c.in_ok-served.ensures.lasts (c.into_connection.ensures.same ∙ c.into_store.ensures) c.release.ensures.left (ap (λ (w : World _ _). w.clock) c.open_desk.ensures.frame) c.in_ok-desk.ensures.zone (c.in_ok-served.ensures.on_time doubts));
}

pub returns-in_err-served-clause-does : goal.returns-in_err-served-clause-does
returns-in_err-served-clause-does g c =
    let refusal = c.in_err-served.field-0.0 in
    subst (λ r. DoesServe g.M.Disk.Store (g.M.Machine.seen c.args.machine.now) (g.M.Machine.seen c.release.new.self) (g.W.Write.contents c.args.output.now) (g.W.Write.contents c.serve_visits-served.new.output)
    g.M.Door.Door.so_far g.M.Door.Door.coming c.args.ask (whole r)) (sym (is_err c.from_residual-in_err-served.result refusal c.from_residual-in_err-served.ensures.1)) (record {
      frame = doors_back (g.M.Machine.seen c.args.machine.now) (g.M.Machine.seen c.serve_visits-served.new.machine) (g.M.Machine.seen c.release.new.self)
          (opened_doors (g.M.Machine.seen c.args.machine.now) (g.M.Machine.seen c.open_desk.new.machine) (g.M.Machine.seen c.serve_visits-served.new.machine) c.open_desk.ensures.frame c.serve_visits-served.ensures.frame) c.release.ensures.frame;
      asked = asked_more (g.M.Machine.seen c.args.machine.now).wanted (g.M.Machine.seen c.open_desk.new.machine).wanted (g.M.Machine.seen c.serve_visits-served.new.machine).wanted (g.M.Machine.seen c.release.new.self).wanted
          (StoreAt c.args.ask.store.now false false) (DoorAt (place_of c.args.ask.place)) ⊤ c.open_desk.ensures.asked c.serve_visits-served.ensures.asked (ap (λ (w : World _ _). w.wanted) c.release.ensures.frame);
      there = on_ended_always {T = Done} (Err refusal) _ (has_both (g.M.Machine.seen c.args.machine.now).shows ((g.M.Machine.seen c.args.machine.now).stands c.args.ask.store.now) (g.M.Machine.seen c.release.new.self).left _ c.in_ok-desk.ensures.there (λ shows. c.release.ensures.back (subst (λ b. IsTrue b) (sym ((ap (λ (w : World _ _). w.shows) c.serve_visits-served.ensures.frame) ∙ (ap (λ (w : World _ _). w.shows) c.open_desk.ensures.frame))) shows)));
      leaves = lasts_left g.M.Disk.Store (g.M.Machine.seen c.args.machine.now).left ((g.M.Machine.seen c.args.machine.now).stands c.args.ask.store.now) (g.M.Machine.seen c.release.new.self).left
          c.in_ok-desk.desk.store c.serve_visits-served.new.desk.store c.into_connection.result c.in_ok-desk.ensures.opened (still_same g.M.Disk.Store c.in_ok-desk.desk.store c.serve_visits-served.new.desk.store c.in_err-served.ensures.unserved).lasts
          (c.into_connection.ensures.same ∙ c.into_store.ensures) c.release.ensures.left;
      so = (
        (not_listening c.in_err-served.field-0.0 (place_of c.args.ask.place) c.args.ask.count _ _ c.in_err-served.ensures.refused),
        (serve_not_begun g.M.Disk.Store (g.M.Machine.seen c.args.machine.now).left ((g.M.Machine.seen c.args.machine.now).stands c.args.ask.store.now) (g.M.Machine.seen c.release.new.self).left (place_of c.args.ask.place) (g.W.Write.contents c.args.output.now) (g.W.Write.contents c.serve_visits-served.new.output) _ c.in_err-served.field-0.0
            c.in_err-served.ensures.refused (read_left g.M.Disk.Store (g.M.Machine.seen c.args.machine.now).left ((g.M.Machine.seen c.args.machine.now).stands c.args.ask.store.now) (g.M.Machine.seen c.release.new.self).left c.in_ok-desk.desk.store c.serve_visits-served.new.desk.store c.into_connection.result c.in_ok-desk.ensures.opened c.in_err-served.ensures.unserved
            (c.into_connection.ensures.same ∙ c.into_store.ensures) c.release.ensures.left)),
      );
      visits = tt;
      limits = tt;
      lent = lent_kept (g.M.Machine.seen c.args.machine.now).shows (g.M.Machine.seen c.open_desk.new.machine).shows (g.M.Machine.seen c.serve_visits-served.new.machine).limits
          (g.M.Machine.seen c.release.new.self).limits (g.W.Write.contents c.args.output.now) (g.W.Write.contents c.serve_visits-served.new.output)
          (ap (λ (w : World _ _). w.shows) c.open_desk.ensures.frame) (ap (λ (w : World _ _). w.limits) c.release.ensures.frame) c.serve_visits-served.ensures.lent;
      on_time = λ doubts. elim (c.in_err-served.ensures.begun_on_time doubts) [
        | inl kept ↦ inl kept
        | inr on ↦ inr (served_on_time g.M.Disk.Store ((g.M.Machine.seen c.args.machine.now).stands c.args.ask.store.now) (g.M.Machine.seen c.release.new.self).left c.in_ok-desk.desk.store c.serve_visits-served.new.desk.store c.into_connection.result (g.M.Machine.seen c.args.machine.now).clock (g.M.Machine.seen c.open_desk.new.machine).clock c.in_ok-desk.desk.zone c.args.ask.zone c.in_ok-desk.ensures.opened ((still_same g.M.Disk.Store c.in_ok-desk.desk.store c.serve_visits-served.new.desk.store c.in_err-served.ensures.unserved).lasts) (c.into_connection.ensures.same ∙ c.into_store.ensures) c.release.ensures.left (ap (λ (w : World _ _). w.clock) c.open_desk.ensures.frame) c.in_ok-desk.ensures.zone on)
      ];
    })

pub returns-in_err-desk-clause-does : goal.returns-in_err-desk-clause-does
returns-in_err-desk-clause-does g c =
    let refusal = c.in_err-desk.field-0.0 in
    subst (λ r. DoesServe g.M.Disk.Store (g.M.Machine.seen c.args.machine.now) (g.M.Machine.seen c.open_desk.new.machine) (g.W.Write.contents c.args.output.now) (g.W.Write.contents c.args.output.now)
    g.M.Door.Door.so_far g.M.Door.Door.coming c.args.ask (whole r)) (sym (is_err c.from_residual.result refusal c.from_residual.ensures.1)) (record {
      frame = opened_doors (g.M.Machine.seen c.args.machine.now) (g.M.Machine.seen c.open_desk.new.machine) (g.M.Machine.seen c.open_desk.new.machine) c.open_desk.ensures.frame refl;
      asked = let mid = (g.M.Machine.seen c.open_desk.new.machine).wanted in
          asked_more (g.M.Machine.seen c.args.machine.now).wanted mid mid mid (StoreAt c.args.ask.store.now false false) (DoorAt (place_of c.args.ask.place)) ⊤ c.open_desk.ensures.asked (asked_none mid mid _ ⊤ refl) refl;
      there = opening_fails {T = Done} (Err refusal) refusal _ refl c.in_err-desk.ensures.refused;
      leaves = unopened_with g.M.Disk.Store (g.M.Machine.seen c.args.machine.now).left ((g.M.Machine.seen c.args.machine.now).stands c.args.ask.store.now) (g.M.Machine.seen c.open_desk.new.machine).left
          (Lasts g.M.Disk.Store) (λ fault before after failed. failed.lasts) refusal c.in_err-desk.ensures.refused c.in_err-desk.ensures.left;
      so = (not_opened refusal (place_of c.args.ask.place) c.args.ask.count (g.W.Write.contents c.args.output.now) c.in_err-desk.ensures.refused, (serve_unopened g.M.Disk.Store (g.M.Machine.seen c.args.machine.now).left ((g.M.Machine.seen c.args.machine.now).stands c.args.ask.store.now) (g.M.Machine.seen c.open_desk.new.machine).left (place_of c.args.ask.place) (g.W.Write.contents c.args.output.now) (g.W.Write.contents c.args.output.now) _ c.in_err-desk.field-0.0 c.in_err-desk.ensures.refused c.in_err-desk.ensures.left));
      visits = tt;
      limits = tt;
      lent = λ shows. inl (Keeps-refl _);
      on_time = λ doubts. inl (Keeps-refl _);
    })
