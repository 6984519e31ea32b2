use Rattle.std.proofs.Common.{◌≡◌, length, drop}
use Rattle.std.proofs.lemmas.Bool.Decides.{Decides-eqb}
use Rattle.std.proofs.lemmas.Slice.Eq.{starts_is}
use Rattle.rd_policy.proofs.select.begins_with.Goals as goal

pub returns : goal.returns
returns c =
    let text : c.as_bytes.result.now ≡ c.args.text.now = c.as_bytes.ensures.value in
    let prefix : c.as_bytes-2.result.now ≡ c.args.prefix.now = c.as_bytes-2.ensures.value in
    let is = rw (text, prefix) at (starts_is Decides-eqb c.as_bytes.result.now c.as_bytes-2.result.now c.starts_with.result c.starts_with.ensures.value) in
    (λ starts. (drop (length c.args.prefix.now) c.args.text.now, is.0 starts), λ begins. is.1 begins.0 begins.1)
