use Rattle.std.proofs.Common.{◌≡◌, IfOk, IfSome, List, Option, subst, sym, ℕ}
use Rattle.rd_program.proofs.machine.sheet_at.Goals as goal

pub returns-clause-bytes : goal.returns-clause-bytes
returns-clause-bytes g c =
    subst (λ (sheets : List ℕ → Option (List ℕ)). IfOk c.read_sheet.result (λ bytes. IfSome (sheets c.args.path.now) (λ shown. bytes.items ≡ shown)))
    (sym (g.met.M.Machine.gives c.args.machine.now).1) c.read_sheet.ensures.bytes
