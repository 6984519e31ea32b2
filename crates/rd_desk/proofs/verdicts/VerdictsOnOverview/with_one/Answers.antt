use Rattle.std.proofs.Common.{◌++◌, ◌∷◌, [], FitsSigned, rules, subst, sym, w32}
use Rattle.std.proofs.lemmas.Int.{to_z-of_z}
use Rattle.std.proofs.lemmas.Result.{IfOk-weaker}
use Rattle.std.specs.List.{AllZip}
use Rattle.rd_protocol.specs.Verdicts.{IsVerdictsOf}
use Rattle.rd_desk.proofs.BatchLemmas.{verdicts_more}
use Rattle.rd_desk.proofs.verdicts.VerdictsOnOverview.with_one.Goals as goal

pub returns : goal.returns
returns c =
    let day = c.args.self.now.day in
    let fits : FitsSigned w32 day = search rules in
    let acc = c.args.indexed.acc in
    let are_verdicts = rw (to_z-of_z w32 day fits) at c.in_ok-verdicts.ensures in
    IfOk-weaker c.with_line.result _ _ (λ all is desk accs are stands says.
    subst (AllZip (IsVerdictsOf desk day) (accs ++ acc ∷ [])) (sym is) (verdicts_more desk day accs c.args.lines.items acc c.in_ok-verdicts.verdicts says (are_verdicts desk are stands))) c.with_line.ensures
