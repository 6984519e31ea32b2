use Rattle.std.proofs.Common.{◌++◌, ◌∷◌, [], subst, sym}
use Rattle.std.proofs.lemmas.Result.{IfOk-weaker}
use Rattle.rd_protocol.specs.Queries.{AreLinesOfEach}
use Rattle.rd_protocol.proofs.ListedFiles.{image_more, nothing_more}
use Rattle.rd_desk.proofs.overviews.ImagesSeenOverview.with_one.Goals as goal

pub returns-then-line-eq0 : goal.returns-then-line-eq0
returns-then-line-eq0 c = λ desk accs are stands says.
    nothing_more desk c.args.self.now.caller.audience c.args.self.now.caller.day accs c.args.lines.items c.args.one.acc c.in_ok-line.line says (c.in_ok-line.ensures desk are stands) c.if-line-eq0.true

pub returns : goal.returns
returns c =
    let audience = c.args.self.now.caller.audience in
    let day = c.args.self.now.caller.day in
    let acc = c.args.one.acc in
    IfOk-weaker c.with_line.result _ _ (λ all is desk accs are stands says.
    subst (AreLinesOfEach desk audience day (accs ++ acc ∷ [])) (sym is) (image_more desk audience day accs c.args.lines.items acc c.in_ok-line.line says (c.in_ok-line.ensures desk are stands) c.if-line-eq0.false)) c.with_line.ensures
