use Rattle.std.proofs.Common.{◌≡◌, ◌∙◌, ◌+◌, ◌++◌, ◌∷◌, [], ap, of_z, refl, rules, subst, sym, take, take_all, to_z, w32}
use Rattle.std.proofs.lemmas.Int.{to_z-of_z}
use Rattle.std.proofs.lemmas.List.{take_more}
use Rattle.rd_desk.specs.Rehearsing.{AreFileDifferences, with_verdicts_on}
use Rattle.rd_desk.proofs.RehearsalLemmas.{file_differences_more, no_file_differences}
use Rattle.rd_desk.proofs.rehearsals.between.Goals as goal

pub loop-file-init : goal.loop-file-init
loop-file-init c =
    let day = to_z w32 (of_z w32 c.args.day) in
    subst (AreFileDifferences c.args.rules.now c.args.later.now day c.args.accession []) (sym c.new-lines.ensures.items) (no_file_differences c.args.rules.now c.args.later.now day c.args.accession)

pub loop-file-preserved : goal.loop-file-preserved
loop-file-preserved c =
    let day = to_z w32 (of_z w32 c.args.day) in
    let file = c.file-item.result in
    let files = c.args.files.now in
    let before = with_verdicts_on file c.verdicts_on-before.result in
    let after = with_verdicts_on file c.verdicts_on-after.result in
    let so_far = take c.loop-file.file-index files in
    let longer : so_far ++ file ∷ [] ≡ take (c.loop-file.file-index + 1) files =
    ap (λ f. so_far ++ f ∷ []) (search rules) ∙ sym (take_more files c.loop-file.file-index file (search rules)) in
    subst (λ found. AreFileDifferences c.args.rules.now c.args.later.now day c.args.accession found c.in_ok-lines.lines.items) longer
    (subst (AreFileDifferences c.args.rules.now c.args.later.now day c.args.accession (so_far ++ file ∷ [])) (sym c.in_ok-lines.ensures)
    (file_differences_more c.args.rules.now c.args.later.now day c.args.accession so_far c.loop-file.lines.items before after refl c.verdicts_on-before.ensures c.verdicts_on-after.ensures c.loop-file.invariant))

pub returns : goal.returns
returns c =
    let day = to_z-of_z w32 c.args.day c.ranges.day in
    let whole = take_all c.loop-file.file-index c.args.files.now (search rules) in
    subst (λ d. AreFileDifferences c.args.rules.now c.args.later.now d c.args.accession c.args.files.now c.loop-file.lines.items) day
    (subst (λ found. AreFileDifferences c.args.rules.now c.args.later.now (to_z w32 (of_z w32 c.args.day)) c.args.accession found c.loop-file.lines.items) whole c.loop-file.invariant)
