use Rattle.std.proofs.Common.{◌≡◌, ◌∙◌, FitsSigned, ap, arith, codes, of_z, rules, to_z, w32}
use Rattle.std.proofs.lemmas.Int.{to_z-of_z}
use Rattle.serde_json.specs.Data.{string}
use Rattle.serde_json.specs.View.{view}
use Rattle.rd_protocol.specs.DayTexts.{day_text}
use Rattle.rd_protocol.specs.Texts.{natural, one_member}
use Rattle.rd_history.specs.Entries.{IsChange}
use Rattle.rd_history.specs.Lines.{change_data}
use Rattle.rd_history.specs.declared.entry.Change.TheVariants.{Deed}
use Rattle.rd_history.proofs.LineEntries.{tag}
use Rattle.rd_history.proofs.ReadingLemmas.{part, tag_of}
use Rattle.rd_history.proofs.reading.deed_of.Goals as goal

pub returns-clause-reads : goal.returns-clause-reads
returns-clause-reads c = λ change is digests same.
    let fits : FitsSigned w32 c.in_ok-signed.signed = search rules in
    elim change as (λ change. tag change ≡ 1 → IsChange change → one_member (codes "deed") (view c.args.value.now) ≡ change_data change
    → Deed c.number_of.result c.in_ok-donor.donor (to_z w32 (of_z w32 c.in_ok-signed.signed)) ≡ change) [
      | Deed num donor signed ↦ λ tags is same.
          let number : c.number_of.result ≡ num = c.number_of.ensures num (omega (arith, is.scope.1)) (c.at-3.ensures (natural num) (ap (part (codes "deed") (codes "deed")) same)) in
          let name : c.in_ok-donor.donor ≡ donor = c.in_ok-donor.ensures donor (c.at.ensures (string donor) (ap (part (codes "deed") (codes "donor")) same)) in
          let day : to_z w32 (of_z w32 c.in_ok-signed.signed) ≡ signed = to_z-of_z w32 c.in_ok-signed.signed fits
          ∙ c.in_ok-signed.ensures signed is.signed (c.at-2.ensures (string (day_text signed)) (ap (part (codes "deed") (codes "signed")) same)) in
          λ i. Deed (number i) (name i) (day i)
      | _ ↦ λ tags is same. absurd (omega (arith, tags))
    ] (tag_of _ change same) is same
