use Rattle.std.proofs.Common.{◌≡◌, ◌∙◌, ℕ, List, ap, arith, length, min, take}
use Rattle.std.proofs.lemmas.List.{take_min}
use Rattle.rd_operands.specs.FileNames.{without_dots}
use Rattle.rd_operands.proofs.names.kept_part.Goals as goal

pub returns : goal.returns
returns c =
    let place : c.min.result ≡ min 249 (length c.args.name.now) = omega arith in
    let part : take c.min.result c.args.name.now ≡ take 249 c.args.name.now =
    ap (λ (k : ℕ). take k c.args.name.now) place ∙ take_min 249 c.args.name.now in
    c.without_dots.ensures ∙ ap (λ (bytes : List ℕ). without_dots bytes) part
