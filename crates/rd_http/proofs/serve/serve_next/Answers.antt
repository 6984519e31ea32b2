use Rattle.std.proofs.Common.{FitsSigned, rules, subst, sym, w64}
use Rattle.std.proofs.lemmas.Int.{to_z-of_z}
use Rattle.rd_http.specs.Runs.{HasRun}
use Rattle.rd_http.specs.Visits.{IsAnswer, IsServed}
use Rattle.rd_http.proofs.RunLemmas.{run_step}
use Rattle.rd_http.proofs.serve.serve_next.Goals as goal

pub returns-clause-next : goal.returns-clause-next
returns-clause-next g c =
    let conn = c.in-Ok.conn in
    let left = c.serve_visit-ending.new.wire in
    let old = c.args.desk.now.store in
    let new = c.serve_visit-ending.new.desk.store in
    let zone = c.args.desk.now.zone in
    let ending = c.serve_visit-ending.result in
    let fits : FitsSigned w64 c.in-Ok.seconds = search rules in
    let visit = subst (λ seconds. IsServed g.S.Store g.D.Conn.Wire seconds zone conn left old new ending) (to_z-of_z w64 c.in-Ok.seconds fits) c.serve_visit-ending.ensures.served in
    record {
      run = λ told coming start run.
          subst (λ served. HasRun (IsAnswer g.S.Store) zone told (g.D.Door.so_far c.leave.new.self) coming (g.D.Door.coming c.leave.new.self) served start new) (sym c.with.ensures)
          (run_step (IsAnswer g.S.Store) zone coming (g.D.Door.coming c.args.door.now) (g.D.Door.coming c.admit.new.self) (g.D.Door.coming c.leave.new.self)
          told (g.D.Door.so_far c.args.door.now) (g.D.Door.so_far c.admit.new.self) (g.D.Door.so_far c.leave.new.self) c.args.served start old new c.in-Ok.seconds
          (g.D.Conn.Wire.came conn) (g.D.Conn.Wire.incoming conn) (g.D.Conn.Wire.came left) (g.D.Conn.Wire.outgoing conn) (g.D.Conn.Wire.outgoing left) (g.D.Conn.Wire.read_failed left) (g.D.Conn.Wire.write_failed left)
          ending run c.in-Ok.ensures.next c.leave.ensures.kept c.requires.counting c.in-Ok.ensures.visits c.in-Ok.ensures.whole c.in-Ok.ensures.tells visit.answered visit.came c.leave.ensures.visits
          (record { read = visit.read; write = visit.write; clock = visit.clock }));
      more = search rules;
      over = search rules;
      faults = search rules;
      shut = search rules;
      stays = search rules;
      last = search rules;
      lasts = visit.lasts;
    }
