use Rattle.std.proofs.lemmas.Result.{on_ok_weaker}
use Rattle.rd_protocol.proofs.TokenLemmas.{last, more, one}
use Rattle.rd_protocol.proofs.listings.put_file.Goals as goal

pub returns : goal.returns
returns c = on_ok_weaker c.end_object.result (λ ended.
    more _ _ _ _ _ (one _ _ _ _ c.in_ok-begin_object.ensures)
    (more _ _ _ _ _ (one _ _ _ _ c.in_ok-key.ensures) (more _ _ _ _ _ (one _ _ _ _ c.in_ok-string.ensures)
    (more _ _ _ _ _ (one _ _ _ _ c.in_ok-key-2.ensures) (more _ _ _ _ _ c.in_ok-put_words.ensures
    (more _ _ _ _ _ (one _ _ _ _ c.in_ok-key-3.ensures) (more _ _ _ _ _ (one _ _ _ _ (rw c.as_str.ensures at c.in_ok-string-2.ensures))
    (more _ _ _ _ _ (one _ _ _ _ c.in_ok-key-4.ensures) (more _ _ _ _ _ (one _ _ _ _ c.in_ok-string-3.ensures)
    (more _ _ _ _ _ (one _ _ _ _ c.in_ok-key-5.ensures) (more _ _ _ _ _ c.in_ok-put_some_number.ensures
    (more _ _ _ _ _ (one _ _ _ _ c.in_ok-key-6.ensures) (more _ _ _ _ _ (one _ _ _ _ c.in_ok-u64.ensures)
    (more _ _ _ _ _ (one _ _ _ _ c.in_ok-key-7.ensures) (more _ _ _ _ _ (one _ _ _ _ (rw c.as_str-2.ensures at c.in_ok-string-4.ensures))
    (more _ _ _ _ _ (one _ _ _ _ c.in_ok-key-8.ensures) (more _ _ _ _ _ (rw c.user_number.ensures at c.in_ok-put_some_number-2.ensures) ended)))))))))))))))))
    (last _ _ _ _ c.end_object.ensures)
