use Rattle.rd_store.specs.Held.{desk as tables}
use Rattle.rd_http.specs.Hidden.{RepliesAndHides}
use Rattle.rd_http.specs.Runs.{HasRun}
use Rattle.rd_http.specs.Visits.{IsAnswer, IsReplied}
use Rattle.rd_http.proofs.VisitHiding.{run_hidden}
use Rattle.rd_http.proofs.RunLemmas.{if_told, run_replied}
use Rattle.rd_http.proofs.serve.serve_many.Goals as goal

pub returns-clause-replied : goal.returns-clause-replied
returns-clause-replied g c is_open =
    let zone = c.args.desk.now.zone in
    let old = c.args.desk.now.store in
    let new = c.loop-served.desk.store in
    let served = c.loop-served.served in
    let coming = g.D.Door.coming c.args.door.now in
    let left = g.D.Door.coming c.loop-served.door in
    let later = g.D.Door.so_far c.loop-served.door in
    if_told (λ told. HasRun (IsAnswer g.S.Store) zone told later coming left served old new) (λ told. HasRun IsReplied zone told later coming left served (tables g.S.Store old) (tables g.S.Store new))
    (g.D.Door.so_far c.args.door.now) c.loop-served.invariant.run (λ told run. run_replied g.S.Store zone coming left told later served old new run is_open)

pub returns-clause-hidden : goal.returns-clause-hidden
returns-clause-hidden g c is_open =
    let zone = c.args.desk.now.zone in
    let old = tables g.S.Store c.args.desk.now.store in
    let new = tables g.S.Store c.loop-served.desk.store in
    let served = c.loop-served.served in
    let coming = g.D.Door.coming c.args.door.now in
    let left = g.D.Door.coming c.loop-served.door in
    let later = g.D.Door.so_far c.loop-served.door in
    if_told (λ told. HasRun IsReplied zone told later coming left served old new) (λ told. HasRun RepliesAndHides zone told later coming left served old new)
    (g.D.Door.so_far c.args.door.now) (returns-clause-replied g c is_open) (λ told run. run_hidden zone coming left told later served old new run)
