use Rattle.rd_store.proofs.Common.{◌≡◌, ◌∙◌, inl, inr, ◌<◌, ap, arith, get_or, length, subst, subst₂, sym, MatchBool, Row, Found, IsFileRow}
use Rattle.rd_store.proofs.Listings.{any_default, below_or_at}
use Rattle.rd_store.proofs.index_checks.show_files.Goals as goal

pub loop-at-preserved : goal.loop-at-preserved
loop-at-preserved c k file row before within = elim (below_or_at k c.loop-at.at before) [
  | inl early ↦ c.loop-at.invariant k file row early within
  | inr same ↦
      let files = c.args.files.now in
      let rows = c.args.rows.now in
      let one : Found = c.index-files-at.result in
      let other : Row = c.index-rows-at.result in
      let in_rows : k < length rows = omega (arith, within, c.if-rows-files.false) in
      let file_is : one ≡ get_or files k file = c.index-files-at.is ∙ ap (λ n. get_or files n one) (sym same) ∙ any_default files k one file within in
      let row_is : other ≡ get_or rows k row = c.index-rows-at.is ∙ ap (λ n. get_or rows n other) (sym same) ∙ any_default rows k other row in_rows in
      let shows : IsFileRow one other = subst (λ b. MatchBool b (IsFileRow one other) (¬ IsFileRow one other)) c.if-not-branch.false c.in_ok-shows_file.ensures.shows in
      subst₂ IsFileRow file_is row_is shows
]
