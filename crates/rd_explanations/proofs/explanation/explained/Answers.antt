use Rattle.std.proofs.Common.{◌≡◌, rules, arith}
use Rattle.std.specs.Prelude.{flat_map}
use Rattle.std.proofs.lemmas.Grind.{common_steps}
use Rattle.rd_explanations.specs.Explained.{shown_line}
use Rattle.rd_explanations.proofs.LineLemmas.{are_lines}
use Rattle.rd_explanations.proofs.explanation.explained.Goals as goal

pub returns-clause-lines : goal.returns-clause-lines
returns-clause-lines c =
    let is : c.loop-line.bytes.items ≡ flat_map shown_line c.args.lines.now = first_of (search rules, grind (arith, common_steps)) in
    are_lines c.args.lines.now c.loop-line.bytes.items is
