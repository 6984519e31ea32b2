use Rattle.std.proofs.Common.{map, option_map, take}
use Rattle.rd_store.specs.Held.{IsClean, IsOpen, Keeps, desk}
use Rattle.rd_desk.specs.Rehearsing.{AreDifferencesOf, desk_changed, place_at}
use Rattle.rd_desk.proofs.rehearsals.of_register.Given as goal

abbrev pub invariant-loop-entry : goal.invariant-loop-entry
invariant-loop-entry g l = record {
  keeps : Keeps g.S.Store l.fn.store l.store;
  open_if_clean : IsClean g.S.Store l.store → IsOpen g.S.Store l.store;
  lines : IsOpen g.S.Store l.store → AreDifferencesOf (desk g.S.Store l.fn.store)
      (desk_changed (place_at l.rehearsal.band l.rehearsal.scope l.rehearsal.rank) (option_map (λ rule. rule.now) l.rehearsal.rule) (desk g.S.Store l.fn.store))
      l.rehearsal.day (map (λ entry. entry.0) (take l.entry-index l.register)) l.lines.items;
}
