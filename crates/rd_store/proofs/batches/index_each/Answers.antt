use Rattle.rd_store.proofs.Common.{◌+◌, ◌++◌, ◌∷◌, [], arith, subst, sym, take, take_more, AllZip, IsIndexedBy}
use Rattle.std.proofs.lemmas.Slice.Zip.{all_zipped_more}
use Rattle.rd_store.proofs.batches.index_each.Goals as goal

pub loop-entry-preserved : goal.loop-entry-preserved
loop-entry-preserved c =
    let rows = c.args.rows.now in
    let entries = c.args.entries.now in
    let at = c.loop-entry.entry-index in
    let old = c.loop-entry.batch.items in
    let one = c.in_ok-one.one in
    subst (AllZip (IsIndexedBy rows) (take (at + 1) entries)) (sym c.in-Ok.ensures.items)
    (subst (λ l. AllZip (IsIndexedBy rows) l (old ++ one ∷ [])) (sym (take_more entries at _ (omega arith)))
    (all_zipped_more (IsIndexedBy rows) (take at entries) old _ one c.loop-entry.invariant c.in_ok-one.ensures.one))
