-- What a check of an image finds.
use Rattle.std.specs.Prelude.{ℕ, List, cond}
use Rattle.std.specs.Ordering.{is_eq}
use Rattle.sha2.specs.Sha256.{sha256}
use Rattle.rd_holdings.specs.State.{digest_cmp}
use Rattle.rd_holdings.specs.declared.rows.Outcome.{Outcome}
use Rattle.rd_holdings.specs.declared.rows.Outcome.TheVariants.{Sound, Changed}

-- for bytes and a digest: sound if the SHA-256 of the bytes is the digest, otherwise changed
abbrev pub outcome_of : List ℕ → List ℕ → Outcome
outcome_of bytes digest = cond (is_eq (digest_cmp (sha256 bytes) digest)) Sound Changed
