use Rattle.rd_store.proofs.Common.{◌≡◌, ◌∙◌, IfOk, ap, map, subst, desk, IsRegisterOf, number_of, register_of, Desk}
use Rattle.rd_store.proofs.Registers.{numbers_told}
use Rattle.rd_store.proofs.ReadLemmas.{read_told}
use Rattle.rd_store.proofs.store.Store.accessions.Goals as goal

pub returns-clause-reads : goal.returns-clause-reads
returns-clause-reads g c = read_told g.S.Store _ _ c.in_ok-stays_open.ensures.reads c.accessions.result (λ is_open are.
    let now = subst (λ h. IsRegisterOf g.S.Store h c.self.inside.register) c.self.view_is c.self.invariant.1 is_open in
    let was = now ∙ ap (λ (d : Desk). register_of d.images) (c.stays_open.ensures.reads.keeps.same is_open) in
    let all = ap (map number_of) was ∙ numbers_told (desk g.S.Store c.args.self.now).images in
    subst (λ l. IfOk c.accessions.result (λ numbers. numbers.items ≡ l)) all c.accessions.ensures.numbers)
