use Rattle.std.proofs.Common.{subst, w64}
use Rattle.std.proofs.lemmas.Int.{to_z-of_z}
use Rattle.rd_policy.specs.Zones.{day_number}
use Rattle.rd_store.specs.Held.{IsOpen, desk as tables}
use Rattle.rd_http.specs.Hidden.{HidesFromVisitor}
use Rattle.rd_http.specs.Visits.{IsAnswer, IsServed, Visits}
use Rattle.rd_http.proofs.VisitHiding.{answer_hides}
use Rattle.rd_http.proofs.RunLemmas.{if_told}
use Rattle.rd_http.proofs.VisitLemmas.{visits_then}
use Rattle.rd_http.proofs.visit.serve_one.Goals as goal

pub returns-clause-served : goal.returns-clause-served
returns-clause-served g c =
    let old = c.args.desk.now in
    let new = c.serve_visit.new.desk in
    subst (λ seconds. IsServed g.S.Store g.W.Wire seconds old.zone c.args.wire.now c.serve_visit.new.wire old.store new.store c.serve_visit.result) (to_z-of_z w64 c.args.seconds c.ranges.seconds) c.serve_visit.ensures.served

pub returns-clause-hidden : goal.returns-clause-hidden
returns-clause-hidden g c =
    let old = c.args.desk.now in
    let new = c.serve_visit.new.desk in
    let day = day_number c.args.seconds old.zone in
    let before = g.W.Wire.outgoing c.args.wire.now in
    let after = g.W.Wire.outgoing c.serve_visit.new.wire in
    let result = c.serve_visit.result in
    if_told (λ stream. Visits (IsAnswer g.S.Store stream old.store new.store day) old.store new.store before after result)
    (λ stream. Visits (λ text. IsOpen g.S.Store new.store → HidesFromVisitor stream (tables g.S.Store old.store) day text) old.store new.store before after result)
    (g.W.Wire.incoming c.args.wire.now) (returns-clause-served g c).answered (λ stream visits.
    visits_then (IsAnswer g.S.Store stream old.store new.store day) (λ text. IsOpen g.S.Store new.store → HidesFromVisitor stream (tables g.S.Store old.store) day text) old.store new.store
    (λ text answer. answer_hides g.S.Store old.zone stream old.store new.store day text answer) before after result visits)
