use Rattle.rd_store.proofs.Common.{◌≡◌, rules, w32, to_z-of_z, get_removed, insert_removed, desk, Desk, checkup_cmp, with_check, without_check, lawful_check, Checkup, get, Error, FinMap, Ghosts, Held, IsOf, Moves, None, Ok, Outcome, Result, subst, ℕ, ℤ}
use Rattle.rd_store.proofs.Transactions.{put_done, put_failed, starts}
use Rattle.rd_tables.proofs.TransactionSteps.{and_then, stopped}
use Rattle.rd_store.proofs.Orders.{checkup_order}
use Rattle.rd_store.proofs.checks.write_check.Goals as goal

-- a check that was taken away and put is put in its place
put_again : {S T U : Type 0} (g : Ghosts S) (acc : ℕ) (day : ℤ) (outcome : Outcome) {d : Desk} {a b c : Held S} {n : T} {r : Result U Error} → Moves {X = Error} g a b (IsOf d) (IsOf (without_check acc day d)) (Ok n)
    → (get (without_check acc day d).checks (record { acc = acc; day = day }) ≡ None → Moves g b c (IsOf (without_check acc day d)) (IsOf (with_check acc day outcome (without_check acc day d))) r) → Moves g a c (IsOf d) (IsOf (with_check acc day outcome d)) r
put_again g acc day outcome {d} {b} {c} {r} drop put =
    let at : Checkup = record { acc = acc; day = day } in
    and_then g drop (subst (λ (k : FinMap checkup_cmp Outcome). Moves g b c (IsOf (without_check acc day d)) (IsOf (record d { checks = k })) r) (insert_removed checkup_cmp checkup_order d.checks at outcome) (put (get_removed checkup_cmp checkup_order d.checks at)))

pub returns-in_err-delete_check : goal.returns-in_err-delete_check
returns-in_err-delete_check g c =
    let d = desk g.S.Store c.args.conn.now in
    let is = to_z-of_z w32 c.args.day c.ranges.day in
    put_failed g.S.Store (record { settles = g.met.S.Store.settled; shuts = g.met.S.Store.shut_if_dirty }) c.args.conn.now _ c.transaction-tx.ensures.begun (starts g.S.Store c.args.conn.now c.requires.holds) c.drop-tx.new.self.0 c.conn-1.given.0 (search rules) c.requires.holds (λ was. lawful_check c.args.acc c.args.day c.args.outcome d c.requires.day (c.requires.stands was))
    (stopped g.S.Store c.from_residual.result c.from_residual.ensures.0 (rw is at c.in_err-delete_check.ensures.moves d)) c.drop-tx.ensures.undone c.drop-tx.ensures.survives c.from_residual.result c.from_residual.ensures.0

pub returns-in_err-insert_check : goal.returns-in_err-insert_check
returns-in_err-insert_check g c =
    let d = desk g.S.Store c.args.conn.now in
    let is = to_z-of_z w32 c.args.day c.ranges.day in
    put_failed g.S.Store (record { settles = g.met.S.Store.settled; shuts = g.met.S.Store.shut_if_dirty }) c.args.conn.now _ c.transaction-tx.ensures.begun (starts g.S.Store c.args.conn.now c.requires.holds) c.drop-tx-in_err-insert_check.new.self.0 c.conn-in_err-insert_check-1.given.0 (search rules) c.requires.holds (λ was. lawful_check c.args.acc c.args.day c.args.outcome d c.requires.day (c.requires.stands was))
    (put_again g.S.Store c.args.acc c.args.day c.args.outcome (rw is at c.in_ok-delete_check.ensures.moves d) (rw is at c.in_err-insert_check.ensures.moves (without_check c.args.acc c.args.day d))) c.drop-tx-in_err-insert_check.ensures.undone c.drop-tx-in_err-insert_check.ensures.survives c.from_residual-in_err-insert_check.result c.from_residual-in_err-insert_check.ensures.0

pub returns : goal.returns
returns g c =
    let d = desk g.S.Store c.args.conn.now in
    let is = to_z-of_z w32 c.args.day c.ranges.day in
    put_done g.S.Store (record { settles = g.met.S.Store.settled; shuts = g.met.S.Store.shut_if_dirty }) c.args.conn.now _ c.transaction-tx.ensures.begun (starts g.S.Store c.args.conn.now c.requires.holds) c.commit.new.self.0 c.conn-2-1.given.0 (search rules) c.requires.holds (λ was. lawful_check c.args.acc c.args.day c.args.outcome d c.requires.day (c.requires.stands was))
    (put_again g.S.Store c.args.acc c.args.day c.args.outcome (rw is at c.in_ok-delete_check.ensures.moves d) (rw is at c.in_ok-insert_check.ensures.moves (without_check c.args.acc c.args.day d))) c.commit.ensures.survives c.commit.result c.commit.ensures.ok c.commit.ensures.err
