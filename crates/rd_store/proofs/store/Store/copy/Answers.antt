use Rattle.rd_store.proofs.Common.{◌≡◌, false, rules, IfErr-weaker, IsBlank, has_desk}
use Rattle.rd_store.proofs.CopyLemmas.{copied_if, keeps_still, not_copied_whole, not_written}
use Rattle.rd_store.proofs.store.Store.copy.Goals as goal

pub returns-in-Ok-clause-keeps : goal.returns-in-Ok-clause-keeps
returns-in-Ok-clause-keeps g c =
    keeps_still g.S.Store c.args.self.now c.write_copy.new.from c.open_copy.new.from c.in-Ok.ensures.keeps c.in-Ok.ensures.read_open c.open_copy.ensures.keeps

pub returns-in-Ok-clause-copied : goal.returns-in-Ok-clause-copied
returns-in-Ok-clause-copied g c =
    let blank : IsBlank c.args.conn.schema = search rules in
    copied_if g.S.Store c.args.self.now c.write_copy.new.from c.open_copy.new.from c.args.conn c.write_copy.new.conn c.in-Ok.ensures.keeps c.open_copy.ensures.keeps c.in-Ok.ensures.turns blank c.open_copy.result c.open_copy.ensures.opened
    c.open_copy.ensures.read_open

pub returns-in-Ok-clause-refused : goal.returns-in-Ok-clause-refused
returns-in-Ok-clause-refused g c =
    let blank : IsBlank c.args.conn.schema = search rules in
    let none : has_desk c.args.conn.schema ≡ false = search rules in
    IfErr-weaker c.open_copy.result _ _
    (λ refused is. not_copied_whole g.S.Store c.args.self.now c.write_copy.new.from c.open_copy.new.from c.args.conn c.write_copy.new.conn refused.conn c.in-Ok.ensures.keeps c.open_copy.ensures.keeps c.in-Ok.ensures.turns refused.fault blank none is.0 is.1)
    c.open_copy.ensures.refused

pub returns-in-Err-clause-refused : goal.returns-in-Err-clause-refused
returns-in-Err-clause-refused g c =
    let blank : IsBlank c.args.conn.schema = search rules in
    let none : has_desk c.args.conn.schema ≡ false = search rules in
    not_written g.S.Store c.args.self.now c.write_copy.new.from c.args.conn c.write_copy.new.conn c.write_copy.result blank none c.write_copy.ensures.turns
