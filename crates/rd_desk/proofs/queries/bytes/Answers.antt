use Rattle.std.proofs.Common.{◌≡◌, Some, rules, subst, sym, ◌∙◌}
use Rattle.std.specs.FinMap.{get}
use Rattle.rd_store.specs.Held.{desk}
use Rattle.rd_holdings.specs.State.{Desk}
use Rattle.rd_desk.specs.Calls.{AreAccessionRules}
use Rattle.rd_protocol.specs.Queries.{Standing}
use Rattle.rd_protocol.proofs.FileReplies.{if_ok, read_answered}
use Rattle.rd_desk.proofs.queries.bytes.Goals as goal

pub returns-in_ok-loaded-in-Some : goal.returns-in_ok-loaded-in-Some
returns-in_ok-loaded-in-Some g c = record {
  keeps = search rules;
  answer = λ o.
      let d = desk g.S.Store c.args.store.now in
      let audience = c.args.caller.now.audience in
      let day = c.args.caller.now.day in
      let loaded = c.in_ok-loaded-in-Some.loaded in
      let held_open = c.read.ensures.keeps.lasts.was_open o in
      let found_open = c.load_rules.ensures.reads.keeps.lasts.was_open held_open in
      let same = c.load_rules.ensures.reads.keeps.same held_open ∙ c.accession.ensures.reads.keeps.same found_open in
      let held = subst (λ (e : Desk). AreAccessionRules e c.args.acc loaded) (c.accession.ensures.reads.keeps.same found_open) (c.in_ok-loaded-in-Some.ensures.reads.answer held_open) in
      let standing : Standing = record { image = held.0; rules = loaded.rules } in
      if_ok c.read.result _ _
      (λ answer is badge known. read_answered d day badge audience c.args.acc c.args.slot standing known held.1 held.4 answer (is held.0 (subst (λ (e : Desk). get e.images c.args.acc ≡ Some held.0) (sym same) held.1) held.2))
      (c.read.ensures.answer o);
  ends_open = search rules;
}
