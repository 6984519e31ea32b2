use Rattle.std.proofs.lemmas.Result.{on_ok_weaker}
use Rattle.rd_protocol.proofs.TokenLemmas.{last, more, one}
use Rattle.rd_protocol.proofs.listings.put_listing.Goals as goal

pub returns : goal.returns
returns c = on_ok_weaker c.end_object.result (λ ended.
    more _ _ _ _ _ (one _ _ _ _ c.in_ok-begin_object.ensures)
    (more _ _ _ _ _ (one _ _ _ _ c.in_ok-key.ensures) (more _ _ _ _ _ (one _ _ _ _ c.in_ok-u64.ensures)
    (more _ _ _ _ _ (one _ _ _ _ c.in_ok-key-2.ensures) (more _ _ _ _ _ (one _ _ _ _ c.in_ok-u64-2.ensures)
    (more _ _ _ _ _ (one _ _ _ _ c.in_ok-key-3.ensures) (more _ _ _ _ _ (rw c.as_slice.ensures at c.in_ok-put_lines.ensures)
    (more _ _ _ _ _ (one _ _ _ _ c.in_ok-key-4.ensures) (more _ _ _ _ _ (one _ _ _ _ (rw c.word.ensures at c.in_ok-string.ensures)) ended)))))))))
    (last _ _ _ _ c.end_object.ensures)
