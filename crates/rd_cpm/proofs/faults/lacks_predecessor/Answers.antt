use Rattle.std.proofs.Common.{◌≡◌, ◌+◌, sym, subst, arith}
use Rattle.rd_cpm.specs.Entries.{extent_number_of}
use Rattle.rd_cpm.specs.Gathered.{HasExtent}
use Rattle.rd_cpm.proofs.TestLemmas.{not_by}
use Rattle.rd_cpm.proofs.faults.lacks_predecessor.Goals as goal

pub returns-in-Some : goal.returns-in-Some
returns-in-Some c =
    let whole : c.in-Some.number + 1 ≡ extent_number_of c.args.own.now = omega (arith, c.in-Some.ensures, c.extent_number.ensures) in (
      λ t. record {
        later = omega arith;
        alone = λ number next. let same : number ≡ c.in-Some.number = omega arith in
            subst (λ n. ¬ HasExtent c.args.entries.now n) (sym same) ((not_by c.has_extent.result c.has_extent.ensures).0 t);
      },
      λ lacks. (not_by c.has_extent.result c.has_extent.ensures).1 (lacks.alone c.in-Some.number whole),
    )
