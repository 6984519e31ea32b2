use Rattle.std.proofs.Common.{◌≡◌, ◌∙◌, FitsSigned, ap, arith, codes, of_z, option_map, rules, to_z, w64}
use Rattle.std.proofs.lemmas.Int.{to_z-of_z}
use Rattle.hex.specs.Hex.{encode_lower}
use Rattle.serde_json.specs.Data.{string}
use Rattle.serde_json.specs.Find.{get}
use Rattle.rd_protocol.specs.Texts.{natural, text_or_null}
use Rattle.rd_history.specs.Lines.{change_data, integer}
use Rattle.rd_history.proofs.reading.entry_of.Goals as goal

pub returns-clause-reads : goal.returns-clause-reads
returns-clause-reads c = λ entry within digests same.
    let fits : FitsSigned w64 c.moment_of.result = search rules in
    let badge : c.badge_of.result ≡ entry.badge =
    c.badge_of.ensures.reads entry.badge digests.0 (c.at-4.ensures (text_or_null (option_map encode_lower entry.badge)) (ap (get (codes "badge")) same)) in
    let change : c.in_ok-change.change ≡ entry.change =
    c.in_ok-change.ensures.reads entry.change within.change digests.1 (c.at.ensures (change_data entry.change) (ap (get (codes "change")) same)) in
    let moment : to_z w64 (of_z w64 c.moment_of.result) ≡ entry.moment = to_z-of_z w64 c.moment_of.result fits
    ∙ c.moment_of.ensures entry.moment within.moment (c.at-5.ensures (integer entry.moment) (ap (get (codes "moment")) same)) in
    let note : c.in_ok-note.note ≡ entry.note = c.in_ok-note.ensures entry.note (c.at-2.ensures (string entry.note) (ap (get (codes "note")) same)) in
    let number : c.number_of.result ≡ entry.number =
    c.number_of.ensures entry.number (omega (arith, within.number.1)) (c.at-6.ensures (natural entry.number) (ap (get (codes "number")) same)) in
    let staff : c.in_ok-staff.staff ≡ entry.staff = c.in_ok-staff.ensures entry.staff (c.at-3.ensures (string entry.staff) (ap (get (codes "staff")) same)) in
    λ i. record { badge = badge i; change = change i; moment = moment i; note = note i; number = number i; staff = staff i }
