use Rattle.std.proofs.Common.{FitsSigned, refl, rules, subst, w32}
use Rattle.std.proofs.lemmas.Int.{to_z-of_z}
use Rattle.rd_policy.specs.Dates.{IsDateOf}
use Rattle.rd_desk.proofs.surveys.survey_of.Goals as goal

pub returns : goal.returns
returns c =
    let fits : FitsSigned w32 c.args.deed.signed = search rules in
    record {
      accession = refl;
      number = refl;
      donor = refl;
      signed = subst (λ day. IsDateOf day c.in_ok-signed.signed) (to_z-of_z w32 c.args.deed.signed fits) c.in_ok-signed.ensures;
      kind = refl;
      report = c.in_ok-report.ensures;
    }
