use Rattle.rd_store.proofs.Common.{◌≡◌, IfOk, map, subst, number_of}
use Rattle.rd_store.proofs.register.Register.accessions.Goals as goal

pub returns-clause-numbers : goal.returns-clause-numbers
returns-clause-numbers c = subst (λ l. IfOk c.numbers_in.result (λ numbers. numbers.items ≡ map number_of l)) c.as_slice.ensures c.numbers_in.ensures.numbers
