use Rattle.std.proofs.Common.{◌≡◌, ◌∙◌, IfSome, OnSome, ap, codes, refl, subst, sym}
use Rattle.std.specs.Prelude.{IsSomeAnd}
use Rattle.clap.specs.Words.{first_of, found_of, rows_of}
use Rattle.rd_policy.specs.Zones.{IsZoneOf, IsZoneRule}
use Rattle.rd_commands.specs.Zones.{rule_text}
use Rattle.rd_commands.proofs.GetterLemmas.{rule_is, zone_ruled, zone_given}
use Rattle.rd_commands.proofs.Looks.{zone_of}
use Rattle.rd_commands.proofs.asked.zone_asked.Goals as goal

-- the text that is read is the rule that the rows tell
same : (c : goal.After-ok) → c.unwrap_or-rule.result.now ≡ rule_text (first_of (codes "zone") (rows_of (found_of c.args.found.now)))
same c = ap (λ text. text.now) c.unwrap_or-rule.ensures ∙ rule_is (found_of c.args.found.now) (codes "zone") c.get_str.result _ c.get_str.ensures refl

pub returns-clause-zone : goal.returns-clause-zone
returns-clause-zone c = subst (λ rule. OnSome c.ok.result (IsZoneRule rule)) (same c) (zone_ruled c.read.result c.ok.result _ c.ok.ensures.value c.read.ensures.taken)

pub returns-clause-asked : goal.returns-clause-asked
returns-clause-asked c = λ rule told.
    let is = same c ∙ sym told.0 in
    subst (λ text. IsSomeAnd c.ok.result (IsZoneOf text)) is
    (zone_given c.read.result c.ok.result _ c.ok.ensures.value c.read.ensures.taken c.read.ensures.zone (subst IsZoneRule (sym is) told.1))

pub returns-clause-from : goal.returns-clause-from
returns-clause-from c = subst (λ rule. IfSome c.ok.result (IsZoneOf rule)) (same c) (zone_of c.read.result c.ok.result _ c.ok.ensures.value c.read.ensures.zone)
