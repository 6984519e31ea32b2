use Rattle.rd_store.proofs.Common.{◌≡◌, ◌∙◌, Option, None, Some, ap, map, slice_get, option_to_list, Found, file_in, file_shown}
use Rattle.rd_store.proofs.Orders.{file_back}
use Rattle.rd_store.proofs.files.first_file.Goals as goal

pub returns-in_ok-read_file-in-Some-clause-file : goal.returns-in_ok-read_file-in-Some-clause-file
returns-in_ok-read_file-in-Some-clause-file c found are = go found are
  where
    go : (one : Option Found) → c.args.rows.now ≡ map file_shown (option_to_list one) → Some c.in_ok-read_file-in-Some.field-0 ≡ one
    go None none = let wrong : Some c.in-Some.row.now ≡ None = c.in-Some.ensures.value ∙ ap (λ l. slice_get l 0) none in absurd cc
    go (Some file) shown =
        let first : Some c.in-Some.row.now ≡ Some (file_shown file) = c.in-Some.ensures.value ∙ ap (λ l. slice_get l 0) shown in
        let row : c.in-Some.row.now ≡ file_shown file = cc in
        ap Some (c.in_ok-read_file-in-Some.ensures.file ∙ ap file_in row ∙ file_back file)
