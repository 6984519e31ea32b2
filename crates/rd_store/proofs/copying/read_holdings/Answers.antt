use Rattle.rd_store.proofs.Common.{◌≡◌, map, subst, entries, Desk, all_rules, numbered_check}
use Rattle.rd_store.proofs.CopyLemmas.{failed_read, keeps_then}
use Rattle.rd_store.proofs.copying.read_holdings.Goals as goal

pub returns-in_err-rules : goal.returns-in_err-rules
returns-in_err-rules g c =
    let a = c.args.from.now in
    let p = c.deeds.new.self in
    let q = c.rulebook.new.self in
    let one = c.in_ok-deeds.ensures.reads in
    record { reads = failed_read g.S.Store a q (keeps_then g.S.Store a p q one.keeps one.ends_open c.rulebook.ensures.reads.keeps) c.from_residual-in_err-rules.result c.from_residual-in_err-rules.ensures.0 _ }

pub returns-in_err-keys : goal.returns-in_err-keys
returns-in_err-keys g c =
    let a = c.args.from.now in
    let p = c.deeds.new.self in
    let q = c.rulebook.new.self in
    let r = c.keys.new.self in
    let one = c.in_ok-deeds.ensures.reads in
    let two = c.in_ok-rules.ensures.reads in
    let early = keeps_then g.S.Store a p q one.keeps one.ends_open two.keeps in
    record { reads = failed_read g.S.Store a r (keeps_then g.S.Store a q r early two.ends_open c.keys.ensures.reads.keeps) c.from_residual-in_err-keys.result c.from_residual-in_err-keys.ensures.0 _ }

pub returns-in_err-checks : goal.returns-in_err-checks
returns-in_err-checks g c =
    let a = c.args.from.now in
    let p = c.deeds.new.self in
    let q = c.rulebook.new.self in
    let r = c.keys.new.self in
    let s = c.checks.new.self in
    let one = c.in_ok-deeds.ensures.reads in
    let two = c.in_ok-rules.ensures.reads in
    let three = c.in_ok-keys.ensures.reads in
    let early = keeps_then g.S.Store a p q one.keeps one.ends_open two.keeps in
    let later = keeps_then g.S.Store a q r early two.ends_open three.keeps in
    record { reads = failed_read g.S.Store a s (keeps_then g.S.Store a r s later three.ends_open c.checks.ensures.reads.keeps) c.from_residual-in_err-checks.result c.from_residual-in_err-checks.ensures.0 _ }

pub returns : goal.returns
returns g c =
    let a = c.args.from.now in
    let p = c.deeds.new.self in
    let q = c.rulebook.new.self in
    let r = c.keys.new.self in
    let s = c.checks.new.self in
    let one = c.in_ok-deeds.ensures.reads in
    let two = c.in_ok-rules.ensures.reads in
    let three = c.in_ok-keys.ensures.reads in
    let four = c.in_ok-checks.ensures.reads in
    let early = keeps_then g.S.Store a p q one.keeps one.ends_open two.keeps in
    let later = keeps_then g.S.Store a q r early two.ends_open three.keeps in
    record {
      reads = record {
        keeps = keeps_then g.S.Store a r s later three.ends_open four.keeps;
        ends_open = four.ends_open;
        answer = λ o.
            let o3 = four.keeps.lasts.was_open o in
            let o2 = three.keeps.lasts.was_open o3 in
            let o1 = two.keeps.lasts.was_open o2 in
            record {
              deeds_are = one.answer o1;
              rules_are = subst (λ (d : Desk). c.in_ok-rules.rules ≡ all_rules d) (one.keeps.same o1) (two.answer o2);
              keys_are = subst (λ (d : Desk). c.in_ok-keys.keys.items ≡ entries d.keys) (early.same o2) (three.answer o3);
              checks_are = subst (λ (d : Desk). c.in_ok-checks.checks.items ≡ map numbered_check (entries d.checks)) (later.same o3) (four.answer o);
            };
      };
    }
