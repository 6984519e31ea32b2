use Rattle.std.proofs.Common.{refl, sym}
use Rattle.rd_messages.proofs.RouteLemmas.{path_names, path_names_nothing}
use Rattle.rd_messages.proofs.PartTexts.{named_texts}
use Rattle.rd_messages.proofs.route.Route.of_path.Goals as goal

pub path_values-requires : goal.path_values-requires
path_values-requires c = rw c.in-Ok.ensures.path (named_texts c.args.path.now _ c.requires.ascii (rw c.requires.router at c.in-Ok.ensures.found))

pub returns-in-Some : goal.returns-in-Some
returns-in-Some c =
    let found = rw c.requires.router at c.in-Ok.ensures.found in
    let values = rw (c.in-Ok.ensures.path, c.in-Some.is) at c.in_ok-values-in-Ok.ensures in
    rw (path_names c.args.path.now _ c.requires.ascii found, ← values) refl

pub returns-in-None : goal.returns-in-None
returns-in-None c =
    let found = rw c.requires.router at c.in-Ok.ensures.found in
    let values = rw (c.in-Ok.ensures.path, c.in-None.is) at c.in_ok-values-in-Ok.ensures in
    rw (path_names c.args.path.now _ c.requires.ascii found, ← values) refl

pub returns-in-Err : goal.returns-in-Err
returns-in-Err c =
    let missing = rw c.requires.router at c.in-Err.ensures.missing in
    sym (path_names_nothing c.args.path.now c.requires.ascii missing)
