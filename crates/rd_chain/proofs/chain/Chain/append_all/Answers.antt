use Rattle.rd_chain.proofs.Common.{◌+◌, ◌≤◌, Ok, Err, length, map, refl, rules, subst, Appends, IsFullFor, MOST_LINES}
use Rattle.rd_chain.proofs.Appending.{appended_as, appends_nothing, end_still, full_done, full_failed, is_full, not_appended_as, over}
use Rattle.rd_tables.proofs.ConnectionLaws.{Laws}
use Rattle.rd_chain.specs.declared.faults.ChainFault.TheVariants.{Full, Sql}
use Rattle.rd_chain.proofs.chain.Chain.append_all.Goals as goal

pub returns-then-not-has_room-clause-appends : goal.returns-then-not-has_room-clause-appends
returns-then-not-has_room-clause-appends g c =
    let laws : Laws g.S.Store = record { settles = g.met.S.Store.settled; shuts = g.met.S.Store.shut_if_dirty } in
    let more = map (λ line. line.now) c.args.lines.now in
    let none = appends_nothing {T = Unit {0}} g.S.Store laws c.self.inside.conn more Full c.self.invariant.0 in
    let given : Appends {T = Unit {0}} g.S.Store c.args.self.now c.args.self.now more (Err Full) = subst (λ h. Appends {T = Unit {0}} g.S.Store h h more (Err Full)) c.self.view_is none in
    let inside : Appends {T = Unit {0}} g.S.Store c.args.self.now c.self.inside.conn more (Err Full) = subst (λ h. Appends {T = Unit {0}} g.S.Store h c.self.inside.conn more (Err Full)) c.self.view_is none in
    first_of (assumption given, assumption inside)

pub returns-then-not-has_room-clause-full : goal.returns-then-not-has_room-clause-full
returns-then-not-has_room-clause-full g c =
    let count = length c.args.lines.now in
    let none : ¬ (c.self.inside.end.number + count ≤ MOST_LINES) = search rules in
    let full : IsFullFor {T = Unit {0}} g.S.Store c.self.inside.conn c.self.inside.conn count (Err Full) = is_full g.S.Store c.self.inside.conn c.self.inside.conn c.self.inside.end count c.self.invariant.1 (over (c.self.inside.end.number + count) none) refl in
    let given : IsFullFor {T = Unit {0}} g.S.Store c.args.self.now c.args.self.now count (Err Full) = subst (λ h. IsFullFor {T = Unit {0}} g.S.Store h h count (Err Full)) c.self.view_is full in
    let inside : IsFullFor {T = Unit {0}} g.S.Store c.args.self.now c.self.inside.conn count (Err Full) = subst (λ h. IsFullFor {T = Unit {0}} g.S.Store h c.self.inside.conn count (Err Full)) c.self.view_is full in
    first_of (assumption given, assumption inside)

pub returns-then-not-is_autocommit-clause-appends : goal.returns-then-not-is_autocommit-clause-appends
returns-then-not-is_autocommit-clause-appends g c =
    let laws : Laws g.S.Store = record { settles = g.met.S.Store.settled; shuts = g.met.S.Store.shut_if_dirty } in
    let more = map (λ line. line.now) c.args.lines.now in
    let none = appends_nothing {T = Unit {0}} g.S.Store laws c.self.inside.conn more Sql c.self.invariant.0 in
    let given : Appends {T = Unit {0}} g.S.Store c.args.self.now c.args.self.now more (Err Sql) = subst (λ h. Appends {T = Unit {0}} g.S.Store h h more (Err Sql)) c.self.view_is none in
    let inside : Appends {T = Unit {0}} g.S.Store c.args.self.now c.self.inside.conn more (Err Sql) = subst (λ h. Appends {T = Unit {0}} g.S.Store h c.self.inside.conn more (Err Sql)) c.self.view_is none in
    first_of (assumption given, assumption inside)

pub returns-then-not-is_autocommit-clause-full : goal.returns-then-not-is_autocommit-clause-full
returns-then-not-is_autocommit-clause-full g c =
    let count = length c.args.lines.now in
    let room : c.self.inside.end.number + count ≤ MOST_LINES = search rules in
    let full : IsFullFor {T = Unit {0}} g.S.Store c.self.inside.conn c.self.inside.conn count (Err Sql) = full_failed g.S.Store c.self.inside.conn c.self.inside.conn c.self.inside.end count c.self.invariant.1 room in
    let given : IsFullFor {T = Unit {0}} g.S.Store c.args.self.now c.args.self.now count (Err Sql) = subst (λ h. IsFullFor {T = Unit {0}} g.S.Store h h count (Err Sql)) c.self.view_is full in
    let inside : IsFullFor {T = Unit {0}} g.S.Store c.args.self.now c.self.inside.conn count (Err Sql) = subst (λ h. IsFullFor {T = Unit {0}} g.S.Store h c.self.inside.conn count (Err Sql)) c.self.view_is full in
    first_of (assumption given, assumption inside)

pub invariant_of-self : goal.invariant_of-self
invariant_of-self g c = (c.write_lines.ensures.kept, c.in-Ok.ensures.last)

pub returns-in-Ok-clause-appends : goal.returns-in-Ok-clause-appends
returns-in-Ok-clause-appends g c =
    let more = map (λ line. line.now) c.args.lines.now in
    let new = c.write_lines.new.conn in
    subst (λ h. Appends g.S.Store h new more (Ok tt)) c.self.view_is (appended_as g.S.Store c.self.inside.conn new more c.in-Ok.end tt c.in-Ok.ensures.appends)

pub returns-in-Ok-clause-full : goal.returns-in-Ok-clause-full
returns-in-Ok-clause-full g c =
    let count = length c.args.lines.now in
    let new = c.write_lines.new.conn in
    let room : c.self.inside.end.number + count ≤ MOST_LINES = search rules in
    subst (λ h. IsFullFor g.S.Store h new count (Ok tt)) c.self.view_is (full_done g.S.Store c.self.inside.conn new c.self.inside.end count c.self.invariant.1 tt room)

pub invariant_of-self-in-Err : goal.invariant_of-self-in-Err
invariant_of-self-in-Err g c =
    (c.write_lines.ensures.kept, end_still g.S.Store c.self.inside.conn c.write_lines.new.conn (map (λ line. line.now) c.args.lines.now) c.self.inside.end c.in-Err.field-0 c.in-Err.ensures.appends c.self.invariant.1)

pub returns-in-Err-clause-appends : goal.returns-in-Err-clause-appends
returns-in-Err-clause-appends g c =
    let more = map (λ line. line.now) c.args.lines.now in
    let new = c.write_lines.new.conn in
    subst (λ h. Appends g.S.Store h new more (Err Sql)) c.self.view_is (not_appended_as g.S.Store c.self.inside.conn new more c.in-Err.field-0 Sql c.in-Err.ensures.appends)

pub returns-in-Err-clause-full : goal.returns-in-Err-clause-full
returns-in-Err-clause-full g c =
    let count = length c.args.lines.now in
    let new = c.write_lines.new.conn in
    let room : c.self.inside.end.number + count ≤ MOST_LINES = search rules in
    subst (λ h. IsFullFor {T = Unit {0}} g.S.Store h new count (Err Sql)) c.self.view_is (full_failed g.S.Store c.self.inside.conn new c.self.inside.end count c.self.invariant.1 room)
