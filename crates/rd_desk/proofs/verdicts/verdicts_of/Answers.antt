use Rattle.std.proofs.Common.{◌≡◌, ◌∙◌, ◌++◌, All, ap, ap₂, refl, subst, sym, w32}
use Rattle.std.proofs.lemmas.Int.{to_z-of_z}
use Rattle.rd_policy.specs.declared.rule.Band.TheVariants.{Deed}
use Rattle.rd_volume.specs.Volumes.{AreFounds}
use Rattle.rd_holdings.specs.State.{rules_at, rules_for, rules_with}
use Rattle.rd_protocol.specs.Verdicts.{IsDecided}
use Rattle.rd_desk.proofs.verdicts.verdicts_of.Goals as goal

pub returns : goal.returns
returns c = λ desk are stands.
    let decided = rw (to_z-of_z w32 c.args.day c.ranges.day) at c.in_ok-files.ensures.decided in
    let image = stands.0 in
    let is = stands.2 in
    let indexed = c.args.indexed in
    let under = c.under in
    let both : under.result.0.now ++ under.result.1.now ≡ rules_for desk indexed.acc =
    ap₂ (λ t r. t ++ r) (under.ensures.takedowns desk are) (under.ensures.rules desk are ∙ ap (rules_at desk Deed) is.deed) ∙ ap (rules_with desk indexed.acc) (sym stands.1) in
    record {
      image = image;
      standing = stands.1;
      accession = refl;
      deed = is.deed;
      kind = is.kind;
      files = record {
        all = subst (AreFounds image.kind image.bytes) (sym c.in_ok-files.ensures.files) is.files;
        decided = subst (λ rules. All (IsDecided rules c.args.day) c.in_ok-files.files) both decided;
      };
    }
