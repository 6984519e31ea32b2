use Rattle.std.proofs.Common.{◌∙◌, [], ap, codes, unwrap_or}
use Rattle.std.proofs.lemmas.Result.{IfOk-weaker}
use Rattle.serde_json.specs.Find.{as_str}
use Rattle.serde_json.specs.View.{view}
use Rattle.rd_history.specs.Entries.{cause_word}
use Rattle.rd_history.specs.Lines.{digest_data}
use Rattle.rd_history.specs.declared.entry.Cause.TheVariants.{Lost}
use Rattle.rd_history.specs.declared.entry.Change.TheVariants.{Begin, DropKey, Rule}
use Rattle.rd_history.proofs.LineEntries.{cause_back, cause_in}
use Rattle.rd_history.proofs.ReadingLemmas.{at_first, moved, read_begin, read_drop_key, read_drop_rule, read_drop_takedown, read_rule, read_takedown, read_void, read_word}
use Rattle.rd_history.proofs.reading.change_of.Goals as goal

pub returns-in-begin-clause-reads : goal.returns-in-begin-clause-reads
returns-in-begin-clause-reads c =
    moved c.member_of.result.0.now (codes "begin") (view c.member_of.result.1.now) (view c.args.value.now) (Begin c.number_of.result) c.in-begin.is c.member_of.ensures
    (read_begin (view c.member_of.result.1.now) c.number_of.result c.number_of.ensures)

pub returns-in-deed-clause-reads : goal.returns-in-deed-clause-reads
returns-in-deed-clause-reads c =
    IfOk-weaker c.deed_of.result _ _
    (λ read reads. moved c.member_of.result.0.now (codes "deed") (view c.member_of.result.1.now) (view c.args.value.now) read c.in-deed.is c.member_of.ensures reads)
    c.deed_of.ensures.reads

pub returns-in-image-clause-reads : goal.returns-in-image-clause-reads
returns-in-image-clause-reads c =
    moved c.member_of.result.0.now (codes "image") (view c.member_of.result.1.now) (view c.args.value.now) c.image_of.result c.in-image.is c.member_of.ensures c.image_of.ensures.reads

pub returns-in_ok-rule_of-in-takedown-clause-reads : goal.returns-in_ok-rule_of-in-takedown-clause-reads
returns-in_ok-rule_of-in-takedown-clause-reads c =
    let rule = c.in_ok-rule_of-in-takedown in
    moved c.member_of.result.0.now (codes "takedown") (view c.member_of.result.1.now) (view c.args.value.now) (Rule rule.field-0) c.in-takedown.is c.member_of.ensures
    (read_takedown (view c.member_of.result.1.now) rule.field-0 rule.ensures)

pub returns-in_ok-rule_of-in-rule-clause-reads : goal.returns-in_ok-rule_of-in-rule-clause-reads
returns-in_ok-rule_of-in-rule-clause-reads c =
    let rule = c.in_ok-rule_of-in-rule in
    moved c.member_of.result.0.now (codes "rule") (view c.member_of.result.1.now) (view c.args.value.now) (Rule rule.field-0) c.in-rule.is c.member_of.ensures
    (read_rule (view c.member_of.result.1.now) rule.field-0 rule.ensures)

pub returns-in-drop_takedown-clause-reads : goal.returns-in-drop_takedown-clause-reads
returns-in-drop_takedown-clause-reads c =
    moved c.member_of.result.0.now (codes "drop_takedown") (view c.member_of.result.1.now) (view c.args.value.now) c.drop_of.result c.in-drop_takedown.is c.member_of.ensures
    (read_drop_takedown (view c.member_of.result.1.now) c.drop_of.result c.drop_of.ensures.reads)

pub returns-in-drop_rule-clause-reads : goal.returns-in-drop_rule-clause-reads
returns-in-drop_rule-clause-reads c =
    let drop = c.drop_of-in-drop_rule in
    moved c.member_of.result.0.now (codes "drop_rule") (view c.member_of.result.1.now) (view c.args.value.now) drop.result c.in-drop_rule.is c.member_of.ensures
    (read_drop_rule (view c.member_of.result.1.now) drop.result drop.ensures.reads)

pub returns-in-key-clause-reads : goal.returns-in-key-clause-reads
returns-in-key-clause-reads c =
    moved c.member_of.result.0.now (codes "key") (view c.member_of.result.1.now) (view c.args.value.now) c.key_of.result c.in-key.is c.member_of.ensures c.key_of.ensures.reads

pub returns-in-drop_key-clause-reads : goal.returns-in-drop_key-clause-reads
returns-in-drop_key-clause-reads c =
    moved c.member_of.result.0.now (codes "drop_key") (view c.member_of.result.1.now) (view c.args.value.now) (DropKey c.digest_of.result) c.in-drop_key.is c.member_of.ensures
    (read_drop_key (view c.member_of.result.1.now) c.digest_of.result (λ digest is there. c.digest_of.ensures.reads digest is (c.at.ensures (digest_data digest) there)))

pub returns-in_default-clause-reads : goal.returns-in_default-clause-reads
returns-in_default-clause-reads c =
    let not = c.in_default in
    λ change is digests same.
    read_void c.member_of.result.0.now (view c.member_of.result.1.now) c.unwrap_or.result not.not-begin not.not-deed not.not-image not.not-takedown not.not-rule
    not.not-drop_takedown not.not-drop_rule not.not-key not.not-drop_key
    (λ cause written. c.unwrap_or.ensures
    ∙ read_word cause_word cause_in cause_back c.from_word.result Lost c.text_of.result.now c.from_word.ensures.found c.from_word.ensures.none cause
    (c.text_of.ensures ∙ ap (λ d. unwrap_or (as_str d) []) written))
    change is digests (at_first c.member_of.result.0.now (view c.member_of.result.1.now) (view c.args.value.now) c.member_of.ensures change same)
