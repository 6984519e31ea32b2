use Rattle.std.proofs.Common.{◌≡◌, ◌<◌, ◌^◌, sym, subst, arith, rules}
use Rattle.std.proofs.lemmas.Grind.{common_steps}
use Rattle.std.specs.Prelude.{string_bytes}
use Rattle.rd_operands.specs.FileNames.{IsSafeName, file_name}
use Rattle.rd_operands.proofs.NameLemmas.{safe_name}
use Rattle.rd_operands.proofs.names.file_name.Goals as goal

pub returns-clause-safe : goal.returns-clause-safe
returns-clause-safe c =
    let small : c.args.slot < 2 ^ 16 = omega arith in
    let is : string_bytes c.push_safe.new.text ≡ file_name c.args.slot c.args.name.now = first_of (search rules, grind (arith, common_steps)) in
    subst IsSafeName (sym is) (safe_name c.args.slot c.args.name.now small)
