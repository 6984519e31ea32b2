use Rattle.rd_store.proofs.Common.{◌∙◌, Option, IsSome, ap, rules, subst, sym, MatchBool, DeedRow, ImageRow, Desk, IsOpen, desk, IsRegisterOf, IsSameHeading, register_of, heading_of}
use Rattle.rd_store.proofs.Registers.{another}
use Rattle.rd_store.proofs.store.Store.put_image.Goals as goal

-- another stands
pub returns-in-Some-2-clause-judges : goal.returns-in-Some-2-clause-judges
returns-in-Some-2-clause-judges g c =
    let d = desk g.S.Store c.args.self.now in
    let image : ImageRow = record { kind = c.args.kind; deed = c.args.deed; digest = c.args.digest.now; bytes = c.args.bytes.now } in
    let new = c.deed.new.self in
    let listed = λ (is_open : IsOpen g.S.Store new). subst (λ h. IsRegisterOf g.S.Store h c.self.inside.register) c.self.view_is c.self.invariant.1 is_open ∙ ap (λ (e : Desk). register_of e.images) (c.deed.ensures.reads.keeps.same is_open) in
    let found = λ (is_open : IsOpen g.S.Store new). sym c.in-Some.is ∙ c.find.ensures d.images (listed is_open) in
    let some : IsSome c.in_ok-deed.field-0 = search rules in
    let apart : ¬ IsSameHeading c.in-Some.standing (heading_of image) = subst (λ b. MatchBool b (IsSameHeading c.in-Some.standing (heading_of image)) (¬ IsSameHeading c.in-Some.standing (heading_of image))) c.if-is_same.false c.is_same.ensures in
    record {
      why = λ o. (subst (λ (row : Option DeedRow). IsSome row) (c.in_ok-deed.ensures.reads.answer o) some, another d c.args.acc image c.in-Some.standing (found o) apart);
      ends_open = c.in_ok-deed.ensures.reads.ends_open;
    }
