use Rattle.std.proofs.Common.{◌≡◌, ◌∷◌, [], ℕ, IfErr, subst, sym}
use Rattle.rd_store.specs.Held.{desk}
use Rattle.rd_history.specs.Rebuilt.{IsMissing}
use Rattle.rd_history.specs.declared.entry.Change.{Change}
use Rattle.rd_history.specs.declared.rebuilding.RebuildFault.TheVariants.{Missing}
use Rattle.rd_history.proofs.rebuilding.carry_out.Goals as goal

pub returns-in-Image-clause-missing : goal.returns-in-Image-clause-missing
returns-in-Image-clause-missing g c = λ is_open.
    subst (λ (change : Change). IfErr c.put_image.result (λ fault. (acc : ℕ) → fault ≡ Missing acc → IsMissing (desk g.F.Store c.args.source.now) change (acc ∷ []))) (sym c.in-Image.is) (c.put_image.ensures.missing is_open)
