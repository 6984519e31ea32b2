use Rattle.std.proofs.Common.{◌≡◌, ◌≢◌, ◌<◌, ◌≤◌, ◌+◌, ◌-◌, ℕ, false, true, None, IfSome}
use Rattle.rd_store.specs.Held.{Lasts}
use Rattle.rd_http.specs.Runs.{HasRun, NoneLeft}
use Rattle.rd_http.specs.Visits.{IsAnswer}
use Rattle.rd_http.specs.declared.serve.Ended.{Ended}
use Rattle.rd_http.specs.declared.serve.Ended.TheVariants.{Clock, Count, Shut}
use Rattle.rd_http.proofs.serve.serve_many.Given as goal

abbrev pub invariant-loop-served : goal.invariant-loop-served
invariant-loop-served g l = record {
  within : l.served.visits ≤ l.count;
  over : l.served.ended ≢ Count → l.served.visits < l.count;
  faults : l.served.read_faults + l.served.write_faults ≤ l.served.visits;
  run : IfSome (g.D.Door.so_far l.fn.door) (λ told. HasRun (IsAnswer g.S.Store) l.fn.desk.zone told (g.D.Door.so_far l.door) (g.D.Door.coming l.fn.door) (g.D.Door.coming l.door) l.served l.fn.desk.store l.desk.store);
  shut : l.served.ended ≡ Shut → g.D.Door.has_shut l.door ≡ true;
  stays : l.served.ended ≢ Shut → g.D.Door.has_shut l.door ≡ g.D.Door.has_shut l.fn.door;
  last : l.served.ended ≡ Shut → g.D.Door.has_shut l.fn.door ≡ false → IfSome (g.D.Door.so_far l.fn.door) (λ told. told.under_way ≡ None → NoneLeft (g.D.Door.coming l.door));
  lasts : Lasts g.S.Store l.fn.desk.store l.desk.store;
  zone : l.desk.zone ≡ l.fn.desk.zone;
  heard : ((conn : _) → g.D.Conn.Wire.read_failed conn ≡ false) → l.served.read_faults ≡ 0;
}

-- a run that goes on may have an end before it
abbrev ends_left : Ended → ℕ
ends_left Count = 1
ends_left Clock = 0
ends_left Shut = 0

abbrev pub decreases-loop-served : goal.decreases-loop-served
decreases-loop-served g l = (l.count - l.served.visits) + ends_left l.served.ended
