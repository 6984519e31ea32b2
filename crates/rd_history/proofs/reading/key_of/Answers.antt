use Rattle.std.proofs.Common.{◌≡◌, ◌∙◌, [], ap, arith, codes, unwrap_or}
use Rattle.serde_json.specs.Data.{string}
use Rattle.serde_json.specs.Find.{as_str}
use Rattle.serde_json.specs.View.{view}
use Rattle.rd_policy.specs.Audiences.{audience_word}
use Rattle.rd_policy.specs.declared.audience.Audience.TheVariants.{Staff}
use Rattle.rd_protocol.specs.Texts.{one_member}
use Rattle.rd_history.specs.Entries.{TellsDigests}
use Rattle.rd_history.specs.Lines.{change_data, digest_data}
use Rattle.rd_history.specs.declared.entry.Change.TheVariants.{Key}
use Rattle.rd_history.proofs.LineEntries.{audience_back, audience_in, tag}
use Rattle.rd_history.proofs.ReadingLemmas.{part, read_word, tag_of}
use Rattle.rd_history.proofs.reading.key_of.Goals as goal

pub returns-clause-reads : goal.returns-clause-reads
returns-clause-reads c = λ change is digests same.
    elim change as (λ change. tag change ≡ 5 → TellsDigests change → one_member (codes "key") (view c.args.value.now) ≡ change_data change
    → Key c.digest_of.result c.unwrap_or.result ≡ change) [
      | Key digest audience ↦ λ tags digests same.
          let word = c.at.ensures (string (audience_word audience)) (ap (part (codes "key") (codes "audience")) same) in
          let of_audience : c.unwrap_or.result ≡ audience = c.unwrap_or.ensures
          ∙ read_word audience_word audience_in audience_back c.from_word-audience.result Staff c.text_of.result.now c.from_word-audience.ensures.found
          c.from_word-audience.ensures.none audience (c.text_of.ensures ∙ ap (λ d. unwrap_or (as_str d) []) word) in
          let bytes : c.digest_of.result ≡ digest = c.digest_of.ensures.reads digest digests (c.at-2.ensures (digest_data digest) (ap (part (codes "key") (codes "digest")) same)) in
          λ i. Key (bytes i) (of_audience i)
      | _ ↦ λ tags digests same. absurd (omega (arith, tags))
    ] (tag_of _ change same) digests same
