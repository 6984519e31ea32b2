use Rattle.std.proofs.Common.{◌≡◌, IfOk, IfSome, List, Option, subst, sym, ℕ}
use Rattle.rd_program.proofs.machine.file_at.Goals as goal

pub returns-clause-bytes : goal.returns-clause-bytes
returns-clause-bytes g c =
    subst (λ (files : List ℕ → Option (List ℕ)). IfOk c.read_file.result (λ bytes. IfSome (files c.args.path.now) (λ shown. bytes.items ≡ shown)))
    (sym (g.met.M.Machine.gives c.args.machine.now).0) c.read_file.ensures.bytes
