use Rattle.std.proofs.Common.{[], append-nil, inl, refl, subst, sym}
use Rattle.rd_store.specs.Held.{desk}
use Rattle.rd_history.specs.Rebuilt.{IsMissing}
use Rattle.rd_history.specs.declared.entry.Change.{Change}
use Rattle.rd_history.proofs.rebuilding.with_missing.Goals as goal

pub returns-in-Some-clause-more : goal.returns-in-Some-clause-more
returns-in-Some-clause-more g c = λ is_open.
    let has = rw c.in-Some.is at (c.in_ok-found.ensures.reads.answer is_open) in
    ([], subst (λ (change : Change). IsMissing (desk g.F.Store c.args.source.now) change []) (sym c.in-Image.is) (inl (has, refl)), sym (append-nil c.args.missing.items))
