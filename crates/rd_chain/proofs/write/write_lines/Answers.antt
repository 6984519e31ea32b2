use Rattle.rd_chain.proofs.Common.{map, rules, lines}
use Rattle.rd_chain.proofs.Appending.{failed_as, starts, told_as, written, written_end, written_kept}
use Rattle.rd_tables.proofs.ConnectionLaws.{Laws}
use Rattle.rd_tables.proofs.TransactionSteps.{step_done, step_failed}
use Rattle.rd_chain.proofs.write.write_lines.Goals as goal

pub returns-in_err-last-clause-kept : goal.returns-in_err-last-clause-kept
returns-in_err-last-clause-kept g c =
    let laws : Laws g.S.Store = record { settles = g.met.S.Store.settled; shuts = g.met.S.Store.shut_if_dirty } in
    let old = c.args.conn.now in
    let turns = step_failed g.S.Store laws old _ c.transaction-tx.ensures.begun (starts g.S.Store old c.args.end.now c.requires.holds c.requires.end) c.drop-tx.new.self.0 c.conn-1.given.0 (search rules) (c.in_err-last.ensures.moves (lines g.S.Store old)) c.drop-tx.ensures.undone c.drop-tx.ensures.survives c.from_residual.result c.from_residual.ensures.0 in
    written_kept g.S.Store old _ laws c.requires.holds c.args.end.now (map (λ line. line.now) c.args.lines.now) _ turns

pub returns-in_err-last-clause-appends : goal.returns-in_err-last-clause-appends
returns-in_err-last-clause-appends g c =
    let laws : Laws g.S.Store = record { settles = g.met.S.Store.settled; shuts = g.met.S.Store.shut_if_dirty } in
    let old = c.args.conn.now in
    let turns = step_failed g.S.Store laws old _ c.transaction-tx.ensures.begun (starts g.S.Store old c.args.end.now c.requires.holds c.requires.end) c.drop-tx.new.self.0 c.conn-1.given.0 (search rules) (c.in_err-last.ensures.moves (lines g.S.Store old)) c.drop-tx.ensures.undone c.drop-tx.ensures.survives c.from_residual.result c.from_residual.ensures.0 in
    written g.S.Store old _ laws c.requires.holds c.args.end.now (map (λ line. line.now) c.args.lines.now) _ turns

pub returns-in_err-commit-clause-kept : goal.returns-in_err-commit-clause-kept
returns-in_err-commit-clause-kept g c =
    let laws : Laws g.S.Store = record { settles = g.met.S.Store.settled; shuts = g.met.S.Store.shut_if_dirty } in
    let old = c.args.conn.now in
    let turns = step_done g.S.Store laws old _ c.transaction-tx.ensures.begun (starts g.S.Store old c.args.end.now c.requires.holds c.requires.end) c.commit.new.self.0 c.conn-2-1.given.0 (search rules) (c.in_ok-last.ensures.moves (lines g.S.Store old)) c.commit.ensures.survives c.commit.result c.commit.ensures.ok c.commit.ensures.err in
    written_kept g.S.Store old _ laws c.requires.holds c.args.end.now (map (λ line. line.now) c.args.lines.now) _ turns

pub returns-in_err-commit-clause-appends : goal.returns-in_err-commit-clause-appends
returns-in_err-commit-clause-appends g c =
    let laws : Laws g.S.Store = record { settles = g.met.S.Store.settled; shuts = g.met.S.Store.shut_if_dirty } in
    let old = c.args.conn.now in
    let turns = step_done g.S.Store laws old _ c.transaction-tx.ensures.begun (starts g.S.Store old c.args.end.now c.requires.holds c.requires.end) c.commit.new.self.0 c.conn-2-1.given.0 (search rules) (c.in_ok-last.ensures.moves (lines g.S.Store old)) c.commit.ensures.survives c.commit.result c.commit.ensures.ok c.commit.ensures.err in
    written g.S.Store old _ laws c.requires.holds c.args.end.now (map (λ line. line.now) c.args.lines.now) _ (failed_as g.S.Store old _ c.in_err-commit.field-0.0 _ c.from_residual-in_err-commit.ensures.0 (rw c.in_err-commit.was at turns))

pub returns-clause-kept : goal.returns-clause-kept
returns-clause-kept g c =
    let laws : Laws g.S.Store = record { settles = g.met.S.Store.settled; shuts = g.met.S.Store.shut_if_dirty } in
    let old = c.args.conn.now in
    let turns = step_done g.S.Store laws old _ c.transaction-tx.ensures.begun (starts g.S.Store old c.args.end.now c.requires.holds c.requires.end) c.commit.new.self.0 c.conn-2-1.given.0 (search rules) (c.in_ok-last.ensures.moves (lines g.S.Store old)) c.commit.ensures.survives c.commit.result c.commit.ensures.ok c.commit.ensures.err in
    written_kept g.S.Store old _ laws c.requires.holds c.args.end.now (map (λ line. line.now) c.args.lines.now) _ turns

pub returns-clause-appends : goal.returns-clause-appends
returns-clause-appends g c =
    let laws : Laws g.S.Store = record { settles = g.met.S.Store.settled; shuts = g.met.S.Store.shut_if_dirty } in
    let old = c.args.conn.now in
    let turns = step_done g.S.Store laws old _ c.transaction-tx.ensures.begun (starts g.S.Store old c.args.end.now c.requires.holds c.requires.end) c.commit.new.self.0 c.conn-2-1.given.0 (search rules) (c.in_ok-last.ensures.moves (lines g.S.Store old)) c.commit.ensures.survives c.commit.result c.commit.ensures.ok c.commit.ensures.err in
    written g.S.Store old _ laws c.requires.holds c.args.end.now (map (λ line. line.now) c.args.lines.now) _ (told_as g.S.Store old _ tt c.in_ok-last.last (rw c.in_ok-commit.was at turns))

pub returns-clause-last : goal.returns-clause-last
returns-clause-last g c =
    let laws : Laws g.S.Store = record { settles = g.met.S.Store.settled; shuts = g.met.S.Store.shut_if_dirty } in
    let old = c.args.conn.now in
    let turns = step_done g.S.Store laws old _ c.transaction-tx.ensures.begun (starts g.S.Store old c.args.end.now c.requires.holds c.requires.end) c.commit.new.self.0 c.conn-2-1.given.0 (search rules) (c.in_ok-last.ensures.moves (lines g.S.Store old)) c.commit.ensures.survives c.commit.result c.commit.ensures.ok c.commit.ensures.err in
    written_end g.S.Store old _ laws c.requires.holds c.args.end.now (map (λ line. line.now) c.args.lines.now) tt c.in_ok-last.last c.in_ok-last.ensures.last (rw c.in_ok-commit.was at turns)
