use Rattle.std.proofs.Common.{ℕ, List, subst}
use Rattle.rd_geometry.specs.CbmDisks.{cbm_bytes}
use Rattle.rd_cbm.specs.Marked.{AreUses}
use Rattle.rd_cbm.proofs.MapLemmas.{claimed_free_as, unclaimed_used_as}
use Rattle.rd_cbm.proofs.map.block_map.Goals as goal

pub returns : goal.returns
returns c =
    let image : List ℕ = cbm_bytes c.args.disk.now in
    let blocks : List ℕ = c.in_ok-directory.directory.blocks in
    let uses : AreUses image blocks c.in_ok-uses.uses.used c.in_ok-uses.uses.shared =
    subst (λ list. AreUses image list c.in_ok-uses.uses.used c.in_ok-uses.uses.shared) c.as_slice.ensures c.in_ok-uses.ensures in
    record {
      blocks = blocks;
      directory = c.in_ok-directory.ensures.blocks;
      wrong_counts = c.count_wrong_counts.ensures;
      claimed_free = claimed_free_as image blocks _ _ _ uses c.count_claimed_free.ensures;
      unclaimed_used = unclaimed_used_as image blocks _ _ _ uses c.count_unclaimed_used.ensures;
    }
