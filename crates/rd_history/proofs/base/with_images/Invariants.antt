use Rattle.std.proofs.Common.{◌≡◌, ◌++◌, take}
use Rattle.std.specs.List.{flat_map}
use Rattle.rd_store.specs.Held.{IsClean, IsOpen, Keeps, desk}
use Rattle.rd_history.specs.Bases.{image_puts}
use Rattle.rd_history.proofs.base.with_images.Given as goal

abbrev pub invariant-loop-entry : goal.invariant-loop-entry
invariant-loop-entry g l = record {
  keeps : Keeps g.S.Store l.fn.store l.store;
  open_if_clean : IsClean g.S.Store l.store → IsOpen g.S.Store l.store;
  listed : IsOpen g.S.Store l.store → l.all.items ≡ l.fn.listed.items ++ flat_map (λ entry. image_puts (desk g.S.Store l.fn.store) entry.0) (take l.entry-index l.register);
}
