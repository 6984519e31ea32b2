-- What words leave of the store, by what is asked for.
use Rattle.std.proofs.Common.{◌≡◌, ◌⊎◌, ℕ, List, [], Option, Some, Result, Ok, Err, IfErr, IfSome, append-nil, inl, inr, subst, sym}
use Rattle.std.proofs.KnownBytes.{Appends-kept, Appends-trans}
use Rattle.std.specs.Io.KnownBytes.{Appends, Keeps}
use Rattle.sqlite.specs.Held.{Held}
use Rattle.sqlite.specs.Store.{Ghosts}
use Rattle.rd_store.specs.Held.{Lasts}
use Rattle.rd_store.specs.Migrated.{IsMigrated, IsNotMigrated}
use Rattle.rd_store.specs.declared.faults.OpenFault.TheVariants as open_fault
use Rattle.rd_store.proofs.Laws.{lasts_then}
use Rattle.rd_http.specs.declared.serve.Ended.{Ended}
use Rattle.rd_http.specs.declared.serve.Ended.TheVariants as ended
use Rattle.rd_program.specs.Asked.{IsOpenedToRead, IsStillOrRead}
use Rattle.rd_program.specs.Leaves.{Leaves, LeavesUnopened}
use Rattle.rd_program.specs.Visiting.{HasListened, LeavesServe}
use Rattle.rd_commands.specs.Output.{AppendsPart}
use Rattle.rd_commands.specs.Serving.{Place}
use Rattle.rd_commands.specs.Refusals.{IsDeviceOrMemory}
use Rattle.rd_program.specs.Serving.{IsOpenRefusal, RefusesToEnd, RefusesVisits, listening_at, served_line}
use Rattle.rd_commands.specs.declared.refusal.Refusal.{Refusal}
use Rattle.rd_commands.specs.declared.refusal.Refusal.TheVariants.{Clock, Device, NoMemory, Store}
use Rattle.rd_program.proofs.DaylessMoments.{opened_to_read}
use Rattle.rd_program.proofs.LeftStores.{after_opening, leaves_weaker, none_left}

-- ---- visits

module _ {S : Type 0} (g : Ghosts S) where
  -- the visits are served by the desk that was opened
  pub lasts_left : (was old new : Option (Held S)) (opened last conn : Held S) → IfSome old (λ before. IsMigrated g before opened) → Lasts g opened last
      → conn ≡ last → IfSome new (λ held. Some conn ≡ Some held) → Leaves was old new (Lasts g)
  lasts_left was old new opened last conn is lasts same took =
      after_opening g was old new (Lasts g) opened last conn is (λ before at. lasts_then g before opened last at.lasts lasts) same took

  -- where there were none the desk was opened, and at most read
  pub read_left : (was old new : Option (Held S)) (opened last conn : Held S) → IfSome old (λ before. IsMigrated g before opened) → IsStillOrRead g opened last
      → conn ≡ last → IfSome new (λ held. Some conn ≡ Some held) → Leaves was old new (IsOpenedToRead g)
  read_left was old new opened last conn is read same took =
      after_opening g was old new (IsOpenedToRead g) opened last conn is (λ before at. opened_to_read g before opened last at read) same took

  -- no visits were served, for this reason
  pub serve_not_begun : (was old new : Option (Held S)) (place : Place) (out written : Option (List ℕ)) (Visited : Type 0) (refusal : Refusal) → RefusesVisits place out written refusal
      → Leaves was old new (IsOpenedToRead g) → LeavesServe g was old new place out written Visited refusal
  serve_not_begun was old new place out written Visited Clock kept left = inr left
  serve_not_begun was old new place out written Visited Device failed left = inr left
  serve_not_begun was old new place out written Visited NoMemory failed left = inr left
  serve_not_begun was old new place out written Visited Store kept left =
      leaves_weaker was old new (IsOpenedToRead g) (λ before after. IsNotMigrated g before after open_fault.Sql ⊎ IsOpenedToRead g before after) (λ before after read. inr read) left
  serve_not_begun was old new place out written Visited refusal failed left = absurd failed.0

  -- nor was a desk opened
  pub serve_unopened : (was old new : Option (Held S)) (place : Place) (out written : Option (List ℕ)) (Visited : Type 0) (refusal : Refusal) → IsOpenRefusal refusal
      → LeavesUnopened g was old new refusal → LeavesServe g was old new place out written Visited refusal
  serve_unopened was old new place out written Visited refusal (inl is) left =
      subst (LeavesServe g was old new place out written Visited) (sym is) (subst (LeavesUnopened g was old new) is left)
  serve_unopened was old new place out written Visited refusal (inr (inl is)) left =
      subst (LeavesServe g was old new place out written Visited) (sym is) (subst (LeavesUnopened g was old new) is left)
  serve_unopened was old new place out written Visited refusal (inr (inr (inl is))) left =
      subst (LeavesServe g was old new place out written Visited) (sym is) (subst (LeavesUnopened g was old new) is left)
  serve_unopened was old new place out written Visited refusal (inr (inr (inr (inl is)))) left =
      subst (LeavesServe g was old new place out written Visited) (sym is) (leaves_weaker was old new (λ before after. IsNotMigrated g before after open_fault.Sql)
      (λ before after. IsNotMigrated g before after open_fault.Sql ⊎ IsOpenedToRead g before after) (λ before after failed. inl failed) (subst (LeavesUnopened g was old new) is left))
  serve_unopened was old new place out written Visited refusal (inr (inr (inr (inr is)))) left =
      subst (LeavesServe g was old new place out written Visited) (sym is) (inr (none_left was old new (IsOpenedToRead g) (subst (LeavesUnopened g was old new) is left)))

  -- after they began, the first line is written
  listened_part : (place : Place) (visits : ℕ) (out mid written : Option (List ℕ)) → Appends out mid (listening_at place) → AppendsPart mid written (served_line visits)
      → HasListened place out written
  listened_part place visits out mid written first part = (part.part, Appends-trans out mid written (listening_at place) part.part first part.gained)

  listened_kept : (place : Place) (out mid written : Option (List ℕ)) → Appends out mid (listening_at place) → Keeps mid written → HasListened place out written
  listened_kept place out mid written first kept =
      ([], subst (Appends out written) (sym (append-nil (listening_at place))) (Appends-kept out mid written (listening_at place) first kept))

  of_device : (was old new : Option (Held S)) (place : Place) (out written : Option (List ℕ)) (Visited : Type 0) (refusal : Refusal) → IsDeviceOrMemory refusal
      → HasListened place out written × Visited → LeavesServe g was old new place out written Visited refusal
  of_device was old new place out written Visited Device failure first = inl first
  of_device was old new place out written Visited NoMemory failure first = inl first
  of_device was old new place out written Visited refusal failure first = absurd failure

  ended_left : (was old new : Option (Held S)) (how : Ended) (place : Place) (visits : ℕ) (out mid written : Option (List ℕ)) (Visited : Type 0) (refusal : Refusal)
      → Visited → Appends out mid (listening_at place) → RefusesToEnd how visits mid written refusal → LeavesServe g was old new place out written Visited refusal
  ended_left was old new ended.Count place visits out mid written Visited refusal visited first refused =
      of_device was old new place out written Visited refusal refused.0 (listened_part place visits out mid written first refused.1, visited)
  ended_left was old new ended.Clock place visits out mid written Visited refusal visited first refused =
      subst (LeavesServe g was old new place out written Visited) (sym refused.0) (inl (listened_kept place out mid written first refused.1, visited))
  ended_left was old new ended.Shut place visits out mid written Visited refusal visited first refused =
      subst (LeavesServe g was old new place out written Visited) (sym refused.0) (inl (listened_kept place out mid written first refused.1, visited))

  pub serve_ended : {T : Type 0} (r : Result T Refusal) (was old new : Option (Held S)) (how : Ended) (place : Place) (visits : ℕ) (out mid written : Option (List ℕ)) (Visited : Type 0)
      → Visited → Appends out mid (listening_at place) → IfErr r (RefusesToEnd how visits mid written) → IfErr r (LeavesServe g was old new place out written Visited)
  serve_ended (Ok value) was old new how place visits out mid written Visited visited first refused = tt
  serve_ended (Err refusal) was old new how place visits out mid written Visited visited first refused =
      ended_left was old new how place visits out mid written Visited refusal visited first refused
