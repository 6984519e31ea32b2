use Rattle.std.proofs.Common.{◌≡◌, ◌∙◌, ◌++◌, All, map-id, subst, sym}
use Rattle.std.proofs.lemmas.Iterator.Adapters.{YieldsList-from_vec}
use Rattle.std.proofs.lemmas.Iterator.Consumers.{YieldsList-end}
use Rattle.rd_desk.specs.Calls.{StandsAs}
use Rattle.rd_desk.proofs.BatchLemmas.{all_before, all_last, numbers_more, numbers_of}
use Rattle.rd_desk.proofs.overviews.with_batch.Goals as goal

pub loop-one-preserved : goal.loop-one-preserved
loop-one-preserved g c = λ desk accs are stand of.
    let one = c.in-Some.one in
    let before = c.loop-one.yielded in
    let told = c.loop-one.invariant desk accs are (all_before (StandsAs desk) before one stand) of in
    let more = c.in_ok-all.ensures desk (accs ++ numbers_of before) are (all_last (StandsAs desk) before one stand) told in
    subst (λ l. g.O.Overview.says c.args.overview.now desk l c.in_ok-all.all.items) (sym (numbers_more accs before one)) more

pub returns : goal.returns
returns g c =
    let gives = c.into_iter-one-iterator.ensures.into_iter_gives in
    let end = YieldsList-end (YieldsList-from_vec {s = c.into_iter-one-iterator.result} c.args.batch.items gives.0 (gives.1 ∙ c.args.batch.ok.0)) c.loop-one.yielded c.loop-one.one-iterator c.loop-one.yielded_by c.next.result c.next.new.self c.in-None.is c.next.ensures.steps in
    let all : c.loop-one.yielded ≡ c.args.batch.items = sym (map-id c.loop-one.yielded) ∙ end.0 in
    λ desk accs are stand of.
    subst (λ l. g.O.Overview.says c.args.overview.now desk (accs ++ numbers_of l) c.loop-one.all.items) all (c.loop-one.invariant desk accs are (subst (All (StandsAs desk)) (sym all) stand) of)
