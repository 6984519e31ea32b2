use Rattle.rd_store.proofs.Common.{inl, inr, refl, IfErr-weaker, IfOk-weaker}
use Rattle.rd_store.proofs.CopyLemmas.{opened_left, unopened_left, untouched_left}
use Rattle.rd_store.proofs.copying.open_copy.Goals as goal

pub returns-then-not-is_autocommit-clause-keeps : goal.returns-then-not-is_autocommit-clause-keeps
returns-then-not-is_autocommit-clause-keeps g c = inl refl

pub returns-then-not-is_autocommit-clause-refused : goal.returns-then-not-is_autocommit-clause-refused
returns-then-not-is_autocommit-clause-refused g c = (untouched_left g.S.Store c.args.conn, refl)

pub returns-in-Ok-clause-keeps : goal.returns-in-Ok-clause-keeps
returns-in-Ok-clause-keeps g c = inr c.compared.ensures.keeps

pub returns-in-Ok-clause-opened : goal.returns-in-Ok-clause-opened
returns-in-Ok-clause-opened g c =
    IfOk-weaker c.compared.result _ _
    (λ store is. record { leaves = opened_left g.S.Store c.args.conn c.in-Ok.copy store c.in-Ok.ensures.opened is.0; same = is.1.same; ends_open = is.1.ends_open; durable = is.0.durable })
    c.compared.ensures.same

pub returns-in-Ok-clause-refused : goal.returns-in-Ok-clause-refused
returns-in-Ok-clause-refused g c =
    IfErr-weaker c.compared.result _ _ (λ refused is. (opened_left g.S.Store c.args.conn c.in-Ok.copy refused.conn c.in-Ok.ensures.opened is.0, is.1)) c.compared.ensures.refused

pub returns-in-Err-clause-keeps : goal.returns-in-Err-clause-keeps
returns-in-Err-clause-keeps g c = inl refl

pub returns-in-Err-clause-refused : goal.returns-in-Err-clause-refused
returns-in-Err-clause-refused g c = (unopened_left g.S.Store c.args.conn c.in-Err.field-0.conn c.in-Err.field-0.fault c.in-Err.ensures.refused, refl)
