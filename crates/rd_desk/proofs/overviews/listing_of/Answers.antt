use Rattle.std.proofs.Common.{◌≡◌, ◌∙◌, ◌++◌, ap, ap₂, refl, subst, sym}
use Rattle.rd_policy.specs.Verdicts.{AreInOrder}
use Rattle.rd_policy.specs.declared.rule.Band.TheVariants.{Deed}
use Rattle.rd_holdings.specs.State.{rules_at, rules_for, rules_with}
use Rattle.rd_protocol.specs.Queries.{AreLinesOf}
use Rattle.rd_protocol.proofs.ListedFiles.{lines_are}
use Rattle.rd_desk.proofs.overviews.listing_of.Goals as goal

pub returns : goal.returns
returns c = λ desk are stands.
    let image = stands.0 in
    let is = stands.2 in
    let audience = c.args.caller.now.audience in
    let day = c.args.caller.now.day in
    let one = c.args.one in
    let under = c.under in
    let both : under.result.0.now ++ under.result.1.now ≡ rules_for desk one.acc =
    ap₂ (λ t r. t ++ r) (under.ensures.takedowns desk are) (under.ensures.rules desk are ∙ ap (rules_at desk Deed) is.deed) ∙ ap (rules_with desk one.acc) (sym stands.1) in
    record {
      image = image;
      standing = stands.1;
      accession = refl;
      deed = is.deed;
      kind = is.kind;
      listed = lines_are image (rules_for desk one.acc) audience day one.files c.in_ok-files.files (subst AreInOrder both under.ensures.order) is.files
          (subst (λ r. AreLinesOf r audience day one.files c.in_ok-files.files) both c.in_ok-files.ensures);
    }
