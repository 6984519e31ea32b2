use Rattle.std.proofs.Common.{◌≡◌, refl, rules}
use Rattle.std.specs.Fmt.{decimal}
use Rattle.rd_geometry.specs.Kinds.{word_of}
use Rattle.rd_policy.specs.Verdicts.{label_text}
use Rattle.rd_protocol.specs.Catalogues.{effect_word, faults_text, number_text}
use Rattle.rd_protocol.proofs.verdicts.verdict_cells.Goals as goal

pub returns : goal.returns
returns c =
    let one = c.args.one.now in
    let file = c.args.file.now in
    let accession : c.in_ok-heading.heading.accession ≡ decimal one.accession = search rules in
    let deed : c.in_ok-heading.heading.deed ≡ decimal one.deed = search rules in
    let kind : c.in_ok-heading.heading.kind ≡ word_of one.kind = search rules in
    let slot : c.in_ok-cells.cells.slot ≡ decimal file.file.slot = search rules in
    let user : c.in_ok-cells.cells.user ≡ number_text file.file.user = search rules in
    let name : c.in_ok-cells.cells.name ≡ file.file.name = search rules in
    let ty : c.in_ok-cells.cells.ty ≡ file.file.ty = search rules in
    let size : c.in_ok-cells.cells.size ≡ number_text file.file.size = search rules in
    let faults : c.in_ok-cells.cells.faults ≡ faults_text one.kind file.file.faults = search rules in
    let public : c.in_ok-public.public.effect ≡ effect_word file.public.effect = search rules in
    let public_rule : c.in_ok-public.public.rule ≡ label_text file.public.label = search rules in
    let room : c.in_ok-room.room.effect ≡ effect_word file.room.effect = search rules in
    let room_rule : c.in_ok-room.room.rule ≡ label_text file.room.label = search rules in
    let staff : c.in_ok-staff.staff.effect ≡ effect_word file.staff.effect = search rules in
    let staff_rule : c.in_ok-staff.staff.rule ≡ label_text file.staff.label = search rules in
    rw (accession, deed, kind, slot, user, name, ty, size, faults, public, public_rule, room, room_rule, staff, staff_rule) refl
