use Rattle.rd_store.proofs.Common.{◌≡◌, IfOk, map, subst, numbered_accession}
use Rattle.rd_store.proofs.register.Register.numbered.Goals as goal

pub returns-clause-numbered : goal.returns-clause-numbered
returns-clause-numbered c = subst (λ l. IfOk c.numbered_in.result (λ numbered. numbered.items ≡ map numbered_accession l)) c.as_slice.ensures c.numbered_in.ensures.numbered
