use Rattle.rd_store.proofs.store.Store.migrate.Goals as goal

pub invariant_of-result : goal.invariant_of-result
invariant_of-result g c = (c.in-Ok.ensures.holds, c.in-Ok.ensures.listed, λ is_open. tt)
