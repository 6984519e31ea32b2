use Rattle.std.proofs.Common.{◌≡◌, ◌∙◌, ◌+◌, ◌≤◌, inl, inr, Err, FitsSigned, IsErr, Ok, Result, false, length, refl, rules, subst, sym, true≢false, w64}
use Rattle.std.proofs.lemmas.Bool.{cases_lt}
use Rattle.std.proofs.lemmas.Int.{to_z-of_z}
use Rattle.rd_chain.specs.declared.faults.ChainFault.{ChainFault}
use Rattle.rd_chain.specs.declared.faults.ChainFault.TheVariants.{Full}
use Rattle.rd_history.specs.declared.entry.TheConstants.{LAST_NUMBER}
use Rattle.rd_chain.specs.Held.{lines}
use Rattle.rd_tables.specs.Connections.{IsClean, IsOpen}
use Rattle.rd_store.specs.Held.{LeavesOnly, desk}
use Rattle.rd_history.specs.Histories.{with_entry}
use Rattle.rd_history.specs.Remembered.{Agrees, AreSettled}
use Rattle.rd_history.specs.Settled.{IsTold}
use Rattle.rd_history.proofs.Carried.{ahead_err, none_put, pending_near, settles_err, settles_ok}
use Rattle.rd_history.proofs.Crashed.{is_pending}
use Rattle.rd_history.proofs.LeftLemmas.{agrees_near, more_leaves_near, told_near}
use Rattle.rd_history.proofs.remembering.put_ahead.Goals.{then-recorder+in_ok-settle, else-recorder}
use Rattle.rd_history.proofs.remembering.put_ahead.Goals as goal

pub returns-in_err-settle-clause-puts : goal.returns-in_err-settle-clause-puts
returns-in_err-settle-clause-puts g c = λ o.
    let these = lines g.H.Store c.args.recorder.now.history in
    let same = settles_err g.H.Store c.args.recorder.now.history c.settle.new.history _ _ c.in_err-settle.ensures.history o in
    none_put c.args.recorder.now.is_unsettled c.args.recorder.now.is_unsettled these these (lines g.H.Store c.settle.new.history) c.args.entry c.from_residual.result (search rules) (inl refl) same (λ is. (is, same))

pub returns-in_err-append-clause-puts : goal.returns-in_err-append-clause-puts
returns-in_err-append-clause-puts g c = λ o.
    let these = lines g.H.Store c.args.recorder.now.history in
    let mid = c.if-recorder.recorder.history in
    let fits : FitsSigned w64 c.args.entry.moment = search rules in
    let first : IsOpen g.H.Store mid → AreSettled c.args.recorder.now.is_unsettled c.args.entry.moment these (lines g.H.Store mid) = elim c.if-recorder.branch [
      | then-recorder+in_ok-settle w ↦ rw w.recorder-is (λ is_open.
          let settles = rw (to_z-of_z w64 c.args.entry.moment fits) at w.in_ok-settle.ensures.history in
          settles_ok g.H.Store c.args.recorder.now.history w.settle.new.history c.args.entry.moment w.in_ok-settle.field-0 settles c.args.recorder.now.is_unsettled w.if-recorder.true is_open)
      | else-recorder w ↦ rw w.recorder-is (λ is_open. inl refl)
    ] in
    let settled : c.if-recorder.recorder.is_unsettled ≡ false = elim c.if-recorder.branch [
      | then-recorder+in_ok-settle w ↦ rw w.recorder-is refl
      | else-recorder w ↦ rw w.recorder-is w.if-recorder.false
    ] in
    let appends = c.in_err-append.ensures.appends in
    none_put c.args.recorder.now.is_unsettled c.if-recorder.recorder.is_unsettled these (lines g.H.Store mid) (lines g.H.Store c.append.new.self) c.args.entry c.from_residual-in_err-append.result (search rules) (first (appends.lasts.was_open o)) (appends.err o)
    (λ is. absurd (true≢false (sym is ∙ settled)))

pub returns-in_err-append-clause-ahead : goal.returns-in_err-append-clause-ahead
returns-in_err-append-clause-ahead g c = λ store_open o agrees.
    let d = desk g.S.Store c.args.store.now in
    let these = lines g.H.Store c.args.recorder.now.history in
    let mid = c.if-recorder.recorder.history in
    let failed : IsErr c.from_residual-in_err-append.result = search rules in
    let appends = c.in_err-append.ensures.appends in
    let told : IsOpen g.S.Store c.if-recorder.store → IsOpen g.H.Store mid → Agrees c.if-recorder.recorder.is_unsettled d (lines g.H.Store mid) = elim c.if-recorder.branch [
      | then-recorder+in_ok-settle w ↦ rw (w.recorder-is, w.store-is) (λ store_is_open is_open. let near = rw w.if-recorder.true at agrees in w.in_ok-settle.ensures.told store_is_open is_open near.0 near.1 near.2)
      | else-recorder w ↦ rw (w.recorder-is, w.store-is) (λ store_is_open is_open. agrees)
    ] in
    ahead_err d (lines g.H.Store c.append.new.self) c.args.entry c.if-recorder.recorder.is_unsettled c.from_residual-in_err-append.result failed
    (subst (Agrees c.if-recorder.recorder.is_unsettled d) (sym (appends.err o)) (told store_open (appends.lasts.was_open o)))

pub returns-clause-puts : goal.returns-clause-puts
returns-clause-puts g c = λ o.
    let these = lines g.H.Store c.args.recorder.now.history in
    let mid = c.if-recorder.recorder.history in
    let fits : FitsSigned w64 c.args.entry.moment = search rules in
    let first : IsOpen g.H.Store mid → AreSettled c.args.recorder.now.is_unsettled c.args.entry.moment these (lines g.H.Store mid) = elim c.if-recorder.branch [
      | then-recorder+in_ok-settle w ↦ rw w.recorder-is (λ is_open.
          let settles = rw (to_z-of_z w64 c.args.entry.moment fits) at w.in_ok-settle.ensures.history in
          settles_ok g.H.Store c.args.recorder.now.history w.settle.new.history c.args.entry.moment w.in_ok-settle.field-0 settles c.args.recorder.now.is_unsettled w.if-recorder.true is_open)
      | else-recorder w ↦ rw w.recorder-is (λ is_open. inl refl)
    ] in
    let appends = c.in_ok-append.ensures.appends in
    record { settled = lines g.H.Store mid; first = first (appends.lasts.was_open o); ok = appends.ok o; err = tt }

pub returns-clause-ahead : goal.returns-clause-ahead
returns-clause-ahead g c = λ store_open o agrees.
    let d = desk g.S.Store c.args.store.now in
    let mid = c.if-recorder.recorder.history in
    let appends = c.in_ok-append.ensures.appends in
    let was = appends.lasts.was_open o in
    let full = c.in_ok-append.ensures.full in
    let number : length (lines g.H.Store mid) + 1 ≤ LAST_NUMBER = elim (cases_lt LAST_NUMBER (length (lines g.H.Store mid) + 1)) [
      | inl beyond ↦ absurd (let e : ◌≡◌ {A = Result (Unit {0}) ChainFault} (Ok c.in_ok-append.field-0) (Err Full) = full.full was beyond in cc)
      | inr within ↦ within
    ] in
    let told : IsOpen g.S.Store c.if-recorder.store → IsOpen g.H.Store mid → IsTold d (lines g.H.Store mid) = elim c.if-recorder.branch [
      | then-recorder+in_ok-settle w ↦ rw (w.recorder-is, w.store-is) (λ store_is_open is_open. let near = rw w.if-recorder.true at agrees in w.in_ok-settle.ensures.told store_is_open is_open near.0 near.1 near.2)
      | else-recorder w ↦ rw (w.recorder-is, w.store-is) (λ store_is_open is_open. rw w.if-recorder.false at agrees)
    ] in
    is_pending d (lines g.H.Store mid) (lines g.H.Store c.append.new.self) c.args.entry (told store_open was) c.requires.fits c.requires.digests c.requires.asked (appends.ok o) number (c.between_calls-2.ensures.history o)

pub returns-in_err-settle-clause-crash : goal.returns-in_err-settle-clause-crash
returns-in_err-settle-clause-crash g c = λ failed store_was history_was store_clean history_clean agrees.
    c.in_err-settle.ensures.crash store_was history_was store_clean history_clean
    (agrees_near c.args.recorder.now.is_unsettled (desk g.S.Store c.args.store.now) (lines g.H.Store c.args.recorder.now.history) agrees)

pub returns-in_err-append-clause-crash : goal.returns-in_err-append-clause-crash
returns-in_err-append-clause-crash g c = λ failed store_was history_was store_clean history_clean agrees.
    let d = desk g.S.Store c.args.store.now in
    let mid = c.if-recorder.recorder.history in
    let new = c.append.new.self in
    let entry = c.args.entry in
    let appends = c.in_err-append.ensures.appends in
    let open_mid : IsClean g.H.Store mid → IsOpen g.H.Store mid = elim c.if-recorder.branch [
      | then-recorder+in_ok-settle w ↦ rw w.recorder-is (λ clean. w.in_ok-settle.ensures.opens_history (λ early. history_was) clean)
      | else-recorder w ↦ rw w.recorder-is (λ clean. history_was)
    ] in
    let open_store : IsClean g.S.Store c.if-recorder.store → IsOpen g.S.Store c.if-recorder.store = elim c.if-recorder.branch [
      | then-recorder+in_ok-settle w ↦ rw w.store-is (λ clean. w.in_ok-settle.ensures.opens (λ early. store_was) clean)
      | else-recorder w ↦ rw w.store-is (λ clean. store_was)
    ] in
    let only : IsClean g.S.Store c.if-recorder.store → LeavesOnly g.S.Store c.if-recorder.store d = elim c.if-recorder.branch [
      | then-recorder+in_ok-settle w ↦ rw w.store-is (λ clean. w.in_ok-settle.ensures.store.crash store_was clean)
      | else-recorder w ↦ rw w.store-is (λ clean. c.between_calls.ensures.leaves store_was)
    ] in
    let told : IsOpen g.S.Store c.if-recorder.store → IsOpen g.H.Store mid → IsTold d (lines g.H.Store mid) = elim c.if-recorder.branch [
      | then-recorder+in_ok-settle w ↦ rw (w.recorder-is, w.store-is) (λ store_is_open is_open. let near = rw w.if-recorder.true at agrees in w.in_ok-settle.ensures.told store_is_open is_open near.0 near.1 near.2)
      | else-recorder w ↦ rw (w.recorder-is, w.store-is) (λ store_is_open is_open. rw w.if-recorder.false at agrees)
    ] in
    let mid_open = open_mid (appends.lasts.clean history_clean) in
    let stands = told (open_store store_clean) mid_open in
    more_leaves_near g.S.Store g.H.Store c.if-recorder.store d (only store_clean) mid new entry c.append.result c.append.ensures.appends c.append.ensures.crash mid_open history_clean (told_near d (lines g.H.Store mid) stands)
    (λ room history. pending_near d (with_entry (lines g.H.Store mid) entry) entry
    (is_pending d (lines g.H.Store mid) (with_entry (lines g.H.Store mid) entry) entry stands c.requires.fits c.requires.digests c.requires.asked refl room history))

pub returns-clause-ends_open : goal.returns-clause-ends_open
returns-clause-ends_open g c = c.in_ok-append.ensures.appends.ends_open

pub returns-clause-crash : goal.returns-clause-crash
returns-clause-crash g c = λ failed. absurd (true≢false (sym failed))
