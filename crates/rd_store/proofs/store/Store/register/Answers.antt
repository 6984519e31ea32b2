use Rattle.rd_store.proofs.Common.{◌≡◌, ◌∙◌, IfOk, ap, map, subst, desk, IsRegisterOf, numbered_accession, register_of, Desk}
use Rattle.rd_store.proofs.Registers.{givens_told}
use Rattle.rd_store.proofs.ReadLemmas.{read_told}
use Rattle.rd_store.proofs.store.Store.register.Goals as goal

pub returns-clause-reads : goal.returns-clause-reads
returns-clause-reads g c = read_told g.S.Store _ _ c.in_ok-stays_open.ensures.reads c.numbered.result (λ is_open are.
    let now = subst (λ h. IsRegisterOf g.S.Store h c.self.inside.register) c.self.view_is c.self.invariant.1 is_open in
    let was = now ∙ ap (λ (d : Desk). register_of d.images) (c.stays_open.ensures.reads.keeps.same is_open) in
    let all = ap (map numbered_accession) was ∙ givens_told (desk g.S.Store c.args.self.now).images in
    subst (λ l. IfOk c.numbered.result (λ numbered. numbered.items ≡ l)) all c.numbered.ensures.numbered)
