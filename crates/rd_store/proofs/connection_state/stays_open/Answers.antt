use Rattle.rd_store.proofs.Common.{[], Ok, Err, refl, subst, sym, ⊤, desk_schema, marks_asks, Sql, Asks}
use Rattle.rd_tables.proofs.ConnectionLaws.{Laws}
use Rattle.rd_store.proofs.Laws.{stays_desk}
use Rattle.rd_tables.proofs.QueryCalls.{not_prepared_stays, prepared_stays}
use Rattle.rd_store.proofs.connection_state.stays_open.Goals as goal
use Rattle.rd_store.proofs.connection_state.stays_open.Goals.{in-Ok, in-Err}

pub returns-clause-asks : goal.returns-clause-asks
returns-clause-asks g c =
    let laws : Laws g.S.Store = record { settles = g.met.S.Store.settled; shuts = g.met.S.Store.shut_if_dirty } in
    let old = c.args.conn.now in
    let new = c.prepare.new.self in
    elim c.match-prepare.branch [
      | in-Ok w ↦
          let stays = prepared_stays g.S.Store laws _ old new (λ is_open. record { over = desk_schema; rests = (c.requires.holds is_open).tables; plain = marks_asks.plain }) c.prepare.ensures.survives (λ clean. (w.in-Ok.ensures.ok clean).1) in
          let asks : Asks g.S.Store old new (Ok tt) Sql (λ done. ⊤) = record { stays = stays; answer = λ is_open. tt; ends_open = λ clean. (w.in-Ok.ensures.ok clean).1.0.is_open; fault = tt } in
          subst (λ r. Asks g.S.Store old new r Sql (λ done. ⊤)) (sym w.result-is) asks
      | in-Err w ↦
          let stays = not_prepared_stays g.S.Store laws _ old new (λ is_open. record { over = desk_schema; rests = (c.requires.holds is_open).tables; plain = marks_asks.plain }) c.prepare.ensures.survives _ (λ clean. w.in-Err.ensures.err clean []) in
          let asks : Asks g.S.Store old new (Err Sql) Sql (λ done. ⊤) = record { stays = stays; answer = λ is_open. tt; ends_open = λ clean. tt; fault = refl } in
          subst (λ r. Asks g.S.Store old new r Sql (λ done. ⊤)) (sym w.result-is) asks
    ]

pub returns-clause-kept : goal.returns-clause-kept
returns-clause-kept g c =
    let laws : Laws g.S.Store = record { settles = g.met.S.Store.settled; shuts = g.met.S.Store.shut_if_dirty } in
    let old = c.args.conn.now in
    let new = c.prepare.new.self in
    elim c.match-prepare.branch [
      | in-Ok w ↦ stays_desk g.S.Store old new (prepared_stays g.S.Store laws _ old new (λ is_open. record { over = desk_schema; rests = (c.requires.holds is_open).tables; plain = marks_asks.plain }) c.prepare.ensures.survives (λ clean. (w.in-Ok.ensures.ok clean).1)) c.requires.holds
      | in-Err w ↦ stays_desk g.S.Store old new (not_prepared_stays g.S.Store laws _ old new (λ is_open. record { over = desk_schema; rests = (c.requires.holds is_open).tables; plain = marks_asks.plain }) c.prepare.ensures.survives _ (λ clean. w.in-Err.ensures.err clean [])) c.requires.holds
    ]
