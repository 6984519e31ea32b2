use Rattle.std.proofs.Common.{◌≡◌, ◌∙◌, [], ap, arith, codes, unwrap_or}
use Rattle.serde_json.specs.Data.{string}
use Rattle.serde_json.specs.Find.{as_str}
use Rattle.serde_json.specs.View.{view}
use Rattle.rd_geometry.specs.Kinds.{word_of}
use Rattle.rd_geometry.specs.declared.kind.Kind.TheVariants.{Cpm8}
use Rattle.rd_protocol.specs.Texts.{natural, one_member}
use Rattle.rd_history.specs.Entries.{IsChange, TellsDigests}
use Rattle.rd_history.specs.Lines.{change_data, digest_data}
use Rattle.rd_history.specs.declared.entry.Change.TheVariants.{Image}
use Rattle.rd_history.proofs.LineEntries.{kind_back, kind_in, tag}
use Rattle.rd_history.proofs.ReadingLemmas.{part, read_word, tag_of}
use Rattle.rd_history.proofs.reading.image_of.Goals as goal

pub returns-clause-reads : goal.returns-clause-reads
returns-clause-reads c = λ change is digests same.
    elim change as (λ change. tag change ≡ 2 → IsChange change → TellsDigests change → one_member (codes "image") (view c.args.value.now) ≡ change_data change
    → Image c.number_of.result c.unwrap_or.result c.number_of-2.result c.digest_of.result ≡ change) [
      | Image acc kind deed digest ↦ λ tags is digests same.
          let number : c.number_of.result ≡ acc = c.number_of.ensures acc (omega (arith, is.0.1)) (c.at.ensures (natural acc) (ap (part (codes "image") (codes "accession")) same)) in
          let word = c.at-2.ensures (string (word_of kind)) (ap (part (codes "image") (codes "kind")) same) in
          let of_kind : c.unwrap_or.result ≡ kind = c.unwrap_or.ensures
          ∙ read_word word_of kind_in kind_back c.from_word.result Cpm8 c.text_of.result.now c.from_word.ensures.found c.from_word.ensures.none kind
          (c.text_of.ensures ∙ ap (λ d. unwrap_or (as_str d) []) word) in
          let under : c.number_of-2.result ≡ deed = c.number_of-2.ensures deed (omega (arith, is.1.1)) (c.at-3.ensures (natural deed) (ap (part (codes "image") (codes "deed")) same)) in
          let bytes : c.digest_of.result ≡ digest = c.digest_of.ensures.reads digest digests (c.at-4.ensures (digest_data digest) (ap (part (codes "image") (codes "digest")) same)) in
          λ i. Image (number i) (of_kind i) (under i) (bytes i)
      | _ ↦ λ tags is digests same. absurd (omega (arith, tags))
    ] (tag_of _ change same) is digests same
