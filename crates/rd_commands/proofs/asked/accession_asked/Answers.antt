use Rattle.clap.specs.Words.{found_of, rows_of}
use Rattle.std.proofs.Common.{◌≡◌, ◌∙◌, IfSome, codes, false, refl, subst, sym, true}
use Rattle.clap.proofs.WalkLemmas.{one_text-rows}
use Rattle.rd_policy.specs.Rules.{IsScope}
use Rattle.rd_commands.proofs.GetterLemmas.{number_is}
use Rattle.rd_commands.proofs.Looks.{accession_is_given}
use Rattle.rd_commands.proofs.Places.{count_given}
use Rattle.rd_commands.specs.Serving.{IsCountGiven}
use Rattle.rd_commands.proofs.asked.accession_asked.Goals as goal

pub returns-in_err-acc-clause-number : goal.returns-in_err-acc-clause-number
returns-in_err-acc-clause-number c = λ text acc there parses within.
    c.from_residual.ensures ∙ sym c.in_err-acc.was
    ∙ number_is 32 text acc c.get_one.result (c.get_one.ensures.value text (one_text-rows (found_of c.args.found.now) (codes "acc") ∙ there)) parses

pub returns-then-is_scope-clause-number : goal.returns-then-is_scope-clause-number
returns-then-is_scope-clause-number c = λ text acc there parses within.
    sym c.in_ok-acc.was
    ∙ number_is 32 text acc c.get_one.result (c.get_one.ensures.value text (one_text-rows (found_of c.args.found.now) (codes "acc") ∙ there)) parses

pub returns-else-is_scope-clause-number : goal.returns-else-is_scope-clause-number
returns-else-is_scope-clause-number c = λ text acc there parses within.
    let both = sym c.in_ok-acc.was ∙ number_is 32 text acc c.get_one.result (c.get_one.ensures.value text (one_text-rows (found_of c.args.found.now) (codes "acc") ∙ there)) parses in
    let same : acc ≡ c.in_ok-acc.acc = cc in
    absurd (let no : false ≡ true = c.if-is_scope.ensures.1 (subst IsScope same within) in cc)

pub returns-then-is_scope-clause-from : goal.returns-then-is_scope-clause-from
returns-then-is_scope-clause-from c =
    accession_is_given (rows_of (found_of c.args.found.now)) c.get_one.result c.in_ok-acc.acc c.in_ok-acc.was
    (subst (λ told. IfSome c.get_one.result (IsCountGiven told)) (one_text-rows (found_of c.args.found.now) (codes "acc"))
    (count_given _ c.get_one.result c.get_one.ensures.none c.get_one.ensures.value)) (c.if-is_scope.ensures.0 refl)
