use Rattle.rd_store.proofs.Common.{◌≡◌, rules, get_removed, insert_removed, desk, Desk, digest_cmp, with_key, without_key, lawful_key, Audience, Error, FinMap, Ghosts, Held, IsOf, List, Moves, None, Ok, Result, get, subst, ℕ}
use Rattle.rd_store.proofs.Transactions.{put_done, put_failed, starts}
use Rattle.rd_tables.proofs.TransactionSteps.{and_then, stopped}
use Rattle.rd_store.proofs.Orders.{digest_order}
use Rattle.rd_store.proofs.keys.write_key.Goals as goal

-- a key that was taken away and put is put in its place
put_again : {S T U : Type 0} (g : Ghosts S) (digest : List ℕ) (audience : Audience) {d : Desk} {a b c : Held S} {n : T} {r : Result U Error} → Moves {X = Error} g a b (IsOf d) (IsOf (without_key digest d)) (Ok n)
    → (get (without_key digest d).keys digest ≡ None → Moves g b c (IsOf (without_key digest d)) (IsOf (with_key digest audience (without_key digest d))) r) → Moves g a c (IsOf d) (IsOf (with_key digest audience d)) r
put_again g digest audience {d} {b} {c} {r} drop put =
    and_then g drop (subst (λ (k : FinMap digest_cmp Audience). Moves g b c (IsOf (without_key digest d)) (IsOf (record d { keys = k })) r) (insert_removed digest_cmp digest_order d.keys digest audience) (put (get_removed digest_cmp digest_order d.keys digest)))

pub returns-in_err-delete_digest : goal.returns-in_err-delete_digest
returns-in_err-delete_digest g c =
    let d = desk g.S.Store c.args.conn.now in
    put_failed g.S.Store (record { settles = g.met.S.Store.settled; shuts = g.met.S.Store.shut_if_dirty }) c.args.conn.now _ c.transaction-tx.ensures.begun (starts g.S.Store c.args.conn.now c.requires.holds) c.drop-tx.new.self.0 c.conn-1.given.0 (search rules) c.requires.holds (λ was lawful. lawful_key c.args.digest.now d lawful c.args.audience c.requires.key (c.requires.staff was))
    (stopped g.S.Store c.from_residual.result c.from_residual.ensures.0 (c.in_err-delete_digest.ensures.moves d)) c.drop-tx.ensures.undone c.drop-tx.ensures.survives c.from_residual.result c.from_residual.ensures.0

pub returns-in_err-insert_key : goal.returns-in_err-insert_key
returns-in_err-insert_key g c =
    let d = desk g.S.Store c.args.conn.now in
    put_failed g.S.Store (record { settles = g.met.S.Store.settled; shuts = g.met.S.Store.shut_if_dirty }) c.args.conn.now _ c.transaction-tx.ensures.begun (starts g.S.Store c.args.conn.now c.requires.holds) c.drop-tx-in_err-insert_key.new.self.0 c.conn-in_err-insert_key-1.given.0 (search rules) c.requires.holds (λ was lawful. lawful_key c.args.digest.now d lawful c.args.audience c.requires.key (c.requires.staff was))
    (put_again g.S.Store c.args.digest.now c.args.audience (c.in_ok-delete_digest.ensures.moves d) (c.in_err-insert_key.ensures.moves (without_key c.args.digest.now d))) c.drop-tx-in_err-insert_key.ensures.undone c.drop-tx-in_err-insert_key.ensures.survives c.from_residual-in_err-insert_key.result c.from_residual-in_err-insert_key.ensures.0

pub returns : goal.returns
returns g c =
    let d = desk g.S.Store c.args.conn.now in
    put_done g.S.Store (record { settles = g.met.S.Store.settled; shuts = g.met.S.Store.shut_if_dirty }) c.args.conn.now _ c.transaction-tx.ensures.begun (starts g.S.Store c.args.conn.now c.requires.holds) c.commit.new.self.0 c.conn-2-1.given.0 (search rules) c.requires.holds (λ was lawful. lawful_key c.args.digest.now d lawful c.args.audience c.requires.key (c.requires.staff was))
    (put_again g.S.Store c.args.digest.now c.args.audience (c.in_ok-delete_digest.ensures.moves d) (c.in_ok-insert_key.ensures.moves (without_key c.args.digest.now d))) c.commit.ensures.survives c.commit.result c.commit.ensures.ok c.commit.ensures.err
