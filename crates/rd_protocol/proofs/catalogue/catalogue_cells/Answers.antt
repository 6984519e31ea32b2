use Rattle.std.proofs.Common.{◌≡◌, refl, rules}
use Rattle.std.specs.Fmt.{decimal}
use Rattle.rd_geometry.specs.Kinds.{word_of}
use Rattle.rd_policy.specs.Verdicts.{label_text}
use Rattle.rd_protocol.specs.Catalogues.{effect_word, faults_text, number_text}
use Rattle.rd_protocol.proofs.catalogue.catalogue_cells.Goals as goal

pub returns : goal.returns
returns c =
    let listing = c.args.listing.now in
    let line = c.args.line.now in
    let accession : c.in_ok-heading.heading.accession ≡ decimal listing.accession = search rules in
    let deed : c.in_ok-heading.heading.deed ≡ decimal listing.deed = search rules in
    let kind : c.in_ok-heading.heading.kind ≡ word_of listing.kind = search rules in
    let slot : c.in_ok-file.file.slot ≡ decimal line.file.slot = search rules in
    let user : c.in_ok-file.file.user ≡ number_text line.file.user = search rules in
    let name : c.in_ok-file.file.name ≡ line.file.name = search rules in
    let ty : c.in_ok-file.file.ty ≡ line.file.ty = search rules in
    let size : c.in_ok-file.file.size ≡ number_text line.file.size = search rules in
    let faults : c.in_ok-file.file.faults ≡ faults_text listing.kind line.file.faults = search rules in
    let rule : c.in_ok-ruled.ruled.rule ≡ label_text line.verdict.label = search rules in
    let effect : c.in_ok-ruled.ruled.effect ≡ effect_word line.verdict.effect = search rules in
    rw (accession, deed, kind, slot, user, name, ty, size, faults, rule, effect) refl
