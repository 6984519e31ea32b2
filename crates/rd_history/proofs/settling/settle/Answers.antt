use Rattle.std.proofs.Common.{◌≡◌, ◌∙◌, ◌+◌, ◌∷◌, [], ◌++◌, ap, false, inl, inr, length, refl, rules, subst, sym, true, true≢false, w64}
use Rattle.std.proofs.lemmas.Int.{to_z-of_z}
use Rattle.rd_chain.proofs.Laws.{keeps_still, lines_kept}
use Rattle.rd_chain.specs.Held.{lines}
use Rattle.rd_store.specs.Held.{desk}
use Rattle.rd_history.specs.Histories.{AreLinesOf, MayBeTakenBack, void_of, with_entry}
use Rattle.rd_history.specs.Lines.{line_of}
use Rattle.rd_history.specs.Settled.{EndIn, IsNear, IsSo}
use Rattle.rd_history.specs.declared.entry.Cause.TheVariants.{Lost}
use Rattle.rd_history.specs.declared.entry.Entry.{Entry}
use Rattle.rd_history.proofs.LeftLemmas.{keeps_lines, leaves_near, more_leaves_near, told_near, void_within}
use Rattle.rd_history.proofs.NearLemmas.{asked_if_taken_back, end_of, stands_if_settled, stands_if_so, on_ok_both, told_back}
use Rattle.rd_history.proofs.settling.settle.Goals as goal

pub returns-then-not-ends_in_change-clause-told : goal.returns-then-not-ends_in_change-clause-told
returns-then-not-ends_in_change-clause-told g c = λ store_open history_open entries of near.
    let ends : c.ends_in_change.result ≡ false = search rules in
    (entries, of, stands_if_settled (desk g.S.Store c.args.store.now) entries near (lines g.H.Store c.args.history.now) of (λ may. true≢false (sym ((c.ends_in_change.ensures history_open).1 may) ∙ ends)))

pub returns-then-not-ends_in_change-clause-history : goal.returns-then-not-ends_in_change-clause-history
returns-then-not-ends_in_change-clause-history g c = record { middle = c.args.history.now; keeps = keeps_still g.H.Store c.args.history.now; last = inl refl }

pub returns-in_default-clause-history : goal.returns-in_default-clause-history
returns-in_default-clause-history g c = record { middle = c.last_entry.new.self; keeps = c.last_entry.ensures.keeps; last = inl refl }

pub returns-in_default-found-clause-history : goal.returns-in_default-found-clause-history
returns-in_default-found-clause-history g c = record { middle = c.last_entry.new.self; keeps = c.last_entry.ensures.keeps; last = inl refl }

pub returns-in-Ok-true-clause-told : goal.returns-in-Ok-true-clause-told
returns-in-Ok-true-clause-told g c = λ store_open history_open entries of near.
    let d = desk g.S.Store c.args.store.now in
    let old = c.args.history.now in
    let keeps = c.last_entry.ensures.keeps in
    let entry = c.in-Some.entry in
    let ends : c.ends_in_change.result ≡ true = search rules in
    let end : EndIn (lines g.H.Store old) entry = rw c.in-Some.is at (c.in-Ok.ensures.last history_open) in
    let front = end_of entries (lines g.H.Store old) entry of end in
    let may : MayBeTakenBack (lines g.H.Store old) = (c.ends_in_change.ensures (keeps.lasts.was_open history_open)).0 ends in
    let asked = asked_if_taken_back entries front.0 entry (lines g.H.Store old) of front.1 may in
    let so : IsSo entry.change d = rw c.in-Ok-true.field-0-test at (c.in-Ok-true.ensures.reads.answer store_open) in
    (entries, subst (AreLinesOf entries) (sym (lines_kept g.H.Store old c.last_entry.new.self keeps history_open)) of, stands_if_so d entries near front.0 entry front.1 asked so)

pub returns-in-Ok-true-clause-history : goal.returns-in-Ok-true-clause-history
returns-in-Ok-true-clause-history g c = record { middle = c.last_entry.new.self; keeps = c.last_entry.ensures.keeps; last = inl refl }

pub returns-in-Ok-false-clause-told : goal.returns-in-Ok-false-clause-told
returns-in-Ok-false-clause-told g c = λ store_open history_open entries of near.
    let d = desk g.S.Store c.args.store.now in
    let old = c.args.history.now in
    let mid = c.last_entry.new.self in
    let keeps = c.last_entry.ensures.keeps in
    let takes = rw (to_z-of_z w64 c.args.moment c.ranges.moment) at c.take_back.ensures.takes in
    let mid_open = takes.appends.lasts.was_open history_open in
    let entry = c.in-Some.entry in
    let void : Entry = record (void_of c.args.moment Lost) { number = length (lines g.H.Store mid) + 1 } in
    let ends : c.ends_in_change.result ≡ true = search rules in
    let end : EndIn (lines g.H.Store old) entry = rw c.in-Some.is at (c.in-Ok.ensures.last mid_open) in
    let front = end_of entries (lines g.H.Store old) entry of end in
    let may : MayBeTakenBack (lines g.H.Store old) = (c.ends_in_change.ensures (keeps.lasts.was_open mid_open)).0 ends in
    let asked = asked_if_taken_back entries front.0 entry (lines g.H.Store old) of front.1 may in
    let never : ¬ IsSo entry.change d = rw c.in-Ok-false.field-0-test at (c.in-Ok-false.ensures.reads.answer store_open) in
    let same = lines_kept g.H.Store old mid keeps mid_open in
    on_ok_both c.take_back.result (λ is within.
    told_back d entries front.0 entry void (lines g.H.Store old) (lines g.H.Store c.take_back.new.history) near of front.1 asked never refl within (tt, tt)
    (is ∙ ap (λ l. l ++ line_of void ∷ []) same) (c.take_back.ensures.history history_open))
    (takes.appends.ok history_open) (takes.within mid_open)

pub returns-in-Ok-false-clause-history : goal.returns-in-Ok-false-clause-history
returns-in-Ok-false-clause-history g c = record { middle = c.last_entry.new.self; keeps = c.last_entry.ensures.keeps; last = inr (rw (to_z-of_z w64 c.args.moment c.ranges.moment) at c.take_back.ensures.takes) }

pub returns-clause-history : goal.returns-clause-history
returns-clause-history g c = record { middle = c.last_entry.new.self; keeps = c.last_entry.ensures.keeps; last = inl refl }

pub returns-then-not-ends_in_change-clause-crash : goal.returns-then-not-ends_in_change-clause-crash
returns-then-not-ends_in_change-clause-crash g c = λ store_was history_was store_clean history_clean near.
    let store = c.args.store.now in
    let history = c.args.history.now in
    leaves_near g.S.Store g.H.Store store (desk g.S.Store store) (c.between_calls.ensures.leaves store_was) history (lines g.H.Store history) (c.between_calls-2.ensures.rest.leaves history_was) near

pub returns-in_default-clause-crash : goal.returns-in_default-clause-crash
returns-in_default-clause-crash g c = λ store_was history_was store_clean history_clean near.
    let store = c.args.store.now in
    let old = c.args.history.now in
    let new = c.last_entry.new.self in
    leaves_near g.S.Store g.H.Store store (desk g.S.Store store) (c.between_calls.ensures.leaves store_was) new (lines g.H.Store old)
    (keeps_lines g.H.Store old new c.last_entry.ensures.keeps c.between_calls-2.ensures.rest history_was history_clean) near

pub returns-in_default-found-clause-crash : goal.returns-in_default-found-clause-crash
returns-in_default-found-clause-crash g c = λ store_was history_was store_clean history_clean near.
    let store = c.args.store.now in
    let old = c.args.history.now in
    let new = c.last_entry.new.self in
    leaves_near g.S.Store g.H.Store store (desk g.S.Store store) (c.between_calls.ensures.leaves store_was) new (lines g.H.Store old)
    (keeps_lines g.H.Store old new c.last_entry.ensures.keeps c.between_calls-2.ensures.rest history_was history_clean) near

pub returns-in-Ok-true-clause-crash : goal.returns-in-Ok-true-clause-crash
returns-in-Ok-true-clause-crash g c = λ store_was history_was store_clean history_clean near.
    let old = c.args.history.now in
    let new = c.last_entry.new.self in
    leaves_near g.S.Store g.H.Store c.is_so.new.store (desk g.S.Store c.args.store.now) (c.is_so.ensures.reads.keeps.crash store_was store_clean) new (lines g.H.Store old)
    (keeps_lines g.H.Store old new c.last_entry.ensures.keeps c.between_calls-2.ensures.rest history_was history_clean) near

pub returns-in-Ok-false-clause-crash : goal.returns-in-Ok-false-clause-crash
returns-in-Ok-false-clause-crash g c = λ store_was history_was store_clean history_clean near.
    let d = desk g.S.Store c.args.store.now in
    let old = c.args.history.now in
    let mid = c.last_entry.new.self in
    let new = c.take_back.new.history in
    let takes = rw (to_z-of_z w64 c.args.moment c.ranges.moment) at c.take_back.ensures.takes in
    let mid_open = c.in-Ok.ensures.ends_open (takes.appends.lasts.clean history_clean) in
    let entry = c.in-Some.entry in
    let void : Entry = record (void_of c.args.moment Lost) { number = length (lines g.H.Store mid) + 1 } in
    let ends : c.ends_in_change.result ≡ true = search rules in
    let end : EndIn (lines g.H.Store old) entry = rw c.in-Some.is at (c.in-Ok.ensures.last mid_open) in
    let front = end_of near.0 (lines g.H.Store old) entry near.1 end in
    let may : MayBeTakenBack (lines g.H.Store old) = (c.ends_in_change.ensures history_was).0 ends in
    let asked = asked_if_taken_back near.0 front.0 entry (lines g.H.Store old) near.1 front.1 may in
    let never : ¬ IsSo entry.change d = rw c.in-Ok-false.field-0-test at (c.in-Ok-false.ensures.reads.answer (c.in-Ok-false.ensures.reads.ends_open store_clean)) in
    let same = lines_kept g.H.Store old mid c.last_entry.ensures.keeps mid_open in
    more_leaves_near g.S.Store g.H.Store c.is_so.new.store d (c.is_so.ensures.reads.keeps.crash store_was store_clean) mid new (void_of c.args.moment Lost) c.take_back.result
    takes.appends c.take_back.ensures.crash mid_open history_clean (subst (IsNear d) (sym same) near)
    (λ room history. told_near d (with_entry (lines g.H.Store mid) (void_of c.args.moment Lost))
    (told_back d near.0 front.0 entry void (lines g.H.Store old) (with_entry (lines g.H.Store mid) (void_of c.args.moment Lost)) near.2 near.1 front.1 asked never refl
    (void_within c.args.moment Lost (length (lines g.H.Store mid)) c.requires room) (tt, tt) (ap (λ l. l ++ line_of void ∷ []) same) history))

pub returns-clause-crash : goal.returns-clause-crash
returns-clause-crash g c = λ store_was history_was store_clean history_clean near.
    let old = c.args.history.now in
    let new = c.last_entry.new.self in
    leaves_near g.S.Store g.H.Store c.is_so.new.store (desk g.S.Store c.args.store.now) (c.is_so.ensures.reads.keeps.crash store_was store_clean) new (lines g.H.Store old)
    (keeps_lines g.H.Store old new c.last_entry.ensures.keeps c.between_calls-2.ensures.rest history_was history_clean) near

pub returns-in-Ok-false-clause-opens_history : goal.returns-in-Ok-false-clause-opens_history
returns-in-Ok-false-clause-opens_history g c = λ opens. c.take_back.ensures.takes.appends.ends_open
