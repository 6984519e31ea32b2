use Rattle.std.proofs.Common.{◌<◌, ℕ, All, rules}
use Rattle.rd_history.proofs.SoLemmas.{bytes_all}
use Rattle.rd_history.proofs.entry.is_digest.Goals as goal

pub returns : goal.returns
returns c = λ ok.
    let all : All (λ (byte : ℕ). byte < 256) c.args.digest.now = search rules in
    (c.told-digest, bytes_all c.args.digest.now all)
