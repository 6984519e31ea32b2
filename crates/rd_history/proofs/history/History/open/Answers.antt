use Rattle.std.proofs.Common.{◌≡◌, Bool, Err, Ok, Result, subst, sym}
use Rattle.rd_chain.specs.Held.{IsNotOpened, lines}
use Rattle.rd_chain.specs.declared.faults.OpenFault.{OpenFault}
use Rattle.rd_chain.specs.declared.faults.OpenFault.TheVariants.{Sql}
use Rattle.rd_history.specs.Histories.{HoldsHistory}
use Rattle.rd_history.proofs.Judging.{opened_then, refused_then}
use Rattle.rd_history.proofs.StageLemmas.{so_history}
use Rattle.rd_history.proofs.history.History.open.Goals as goal

pub returns-in-Ok-judge-clause-opened : goal.returns-in-Ok-judge-clause-opened
returns-in-Ok-judge-clause-opened g c =
    let opened = c.in-Ok.ensures.opened in
    let judged = c.in-Ok-judge.ensures in
    opened_then g.S.Store c.args.conn c.in-Ok.chain c.judge.new.chain opened judged.keeps
    (judged.ends_open opened.ends_open (λ (e : ◌≡◌ {A = Result Bool OpenFault} (Ok c.in-Ok-judge.ends_in_change) (Err Sql)). absurd cc))
    (λ is_open. so_history c.in-Ok-judge.ends_in_change (lines g.S.Store c.in-Ok.chain) (judged.ok is_open))
    c.between_calls.ensures

pub returns-in-Err-judge-clause-refused : goal.returns-in-Err-judge-clause-refused
returns-in-Err-judge-clause-refused g c =
    let opened = c.in-Ok.ensures.opened in
    let judged = c.in-Err-judge.ensures in
    let fault = c.in-Err-judge.fault in
    subst (λ h. IsNotOpened g.S.Store HoldsHistory c.args.conn h fault) (sym c.into_connection.ensures.same)
    (refused_then g.S.Store c.args.conn c.in-Ok.chain c.judge.new.chain opened judged.keeps fault judged.named
    (λ broken. judged.ends_open opened.ends_open (λ (e : ◌≡◌ {A = Result Bool OpenFault} (Err fault) (Err Sql)). absurd cc)) judged.broken)
