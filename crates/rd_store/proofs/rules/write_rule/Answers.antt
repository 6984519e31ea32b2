use Rattle.rd_store.proofs.Common.{◌≡◌, rules, get_removed, insert_removed, desk, Desk, place_cmp, place_of, terms_of, with_rule, without_rule, lawful_rule, Error, FinMap, Ghosts, Held, IsOf, Moves, None, Ok, Place, Result, Terms, get, subst}
use Rattle.rd_store.proofs.Transactions.{put_done, put_failed, starts}
use Rattle.rd_tables.proofs.TransactionSteps.{and_then, stopped}
use Rattle.rd_store.proofs.Orders.{place_order}
use Rattle.rd_store.proofs.rules.write_rule.Goals as goal

-- a rule that was taken away and put is put in its place
put_again : {S T U : Type 0} (g : Ghosts S) (place : Place) (terms : Terms) {d : Desk} {a b c : Held S} {n : T} {r : Result U Error} → Moves {X = Error} g a b (IsOf d) (IsOf (without_rule place d)) (Ok n)
    → (get (without_rule place d).rules place ≡ None → Moves g b c (IsOf (without_rule place d)) (IsOf (with_rule place terms (without_rule place d))) r) → Moves g a c (IsOf d) (IsOf (with_rule place terms d)) r
put_again g place terms {d} {b} {c} {r} drop put =
    and_then g drop (subst (λ (k : FinMap place_cmp Terms). Moves g b c (IsOf (without_rule place d)) (IsOf (record d { rules = k })) r) (insert_removed place_cmp place_order d.rules place terms) (put (get_removed place_cmp place_order d.rules place)))

pub returns-in_err-delete_place : goal.returns-in_err-delete_place
returns-in_err-delete_place g c =
    let d = desk g.S.Store c.args.conn.now in
    put_failed g.S.Store (record { settles = g.met.S.Store.settled; shuts = g.met.S.Store.shut_if_dirty }) c.args.conn.now _ c.transaction-tx.ensures.begun (starts g.S.Store c.args.conn.now c.requires.holds) c.drop-tx.new.self.0 c.conn-1.given.0 (search rules) c.requires.holds (λ was. lawful_rule (place_of c.args.rule.now) (terms_of c.args.rule.now) d c.requires.rule (c.requires.stands was))
    (stopped g.S.Store c.from_residual.result c.from_residual.ensures.0 (c.in_err-delete_place.ensures.moves d)) c.drop-tx.ensures.undone c.drop-tx.ensures.survives c.from_residual.result c.from_residual.ensures.0

pub returns-in_err-insert_rule : goal.returns-in_err-insert_rule
returns-in_err-insert_rule g c =
    let d = desk g.S.Store c.args.conn.now in
    put_failed g.S.Store (record { settles = g.met.S.Store.settled; shuts = g.met.S.Store.shut_if_dirty }) c.args.conn.now _ c.transaction-tx.ensures.begun (starts g.S.Store c.args.conn.now c.requires.holds) c.drop-tx-in_err-insert_rule.new.self.0 c.conn-in_err-insert_rule-1.given.0 (search rules) c.requires.holds (λ was. lawful_rule (place_of c.args.rule.now) (terms_of c.args.rule.now) d c.requires.rule (c.requires.stands was))
    (put_again g.S.Store (place_of c.args.rule.now) (terms_of c.args.rule.now) (c.in_ok-delete_place.ensures.moves d) (c.in_err-insert_rule.ensures.moves (without_rule (place_of c.args.rule.now) d))) c.drop-tx-in_err-insert_rule.ensures.undone c.drop-tx-in_err-insert_rule.ensures.survives c.from_residual-in_err-insert_rule.result c.from_residual-in_err-insert_rule.ensures.0

pub returns : goal.returns
returns g c =
    let d = desk g.S.Store c.args.conn.now in
    put_done g.S.Store (record { settles = g.met.S.Store.settled; shuts = g.met.S.Store.shut_if_dirty }) c.args.conn.now _ c.transaction-tx.ensures.begun (starts g.S.Store c.args.conn.now c.requires.holds) c.commit.new.self.0 c.conn-2-1.given.0 (search rules) c.requires.holds (λ was. lawful_rule (place_of c.args.rule.now) (terms_of c.args.rule.now) d c.requires.rule (c.requires.stands was))
    (put_again g.S.Store (place_of c.args.rule.now) (terms_of c.args.rule.now) (c.in_ok-delete_place.ensures.moves d) (c.in_ok-insert_rule.ensures.moves (without_rule (place_of c.args.rule.now) d))) c.commit.ensures.survives c.commit.result c.commit.ensures.ok c.commit.ensures.err
