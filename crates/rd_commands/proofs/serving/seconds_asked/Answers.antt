use Rattle.clap.specs.Words.{found_of, one_of, rows_of}
use Rattle.std.proofs.Common.{subst, sym}
use Rattle.std.specs.Prelude.{unwrap_or}
use Rattle.clap.proofs.WalkLemmas.{one_text-rows}
use Rattle.rd_commands.specs.Serving.{AreSeconds}
use Rattle.rd_commands.proofs.Places.{seconds_are}
use Rattle.rd_commands.proofs.serving.seconds_asked.Goals as goal

pub returns : goal.returns
returns c =
    subst (AreSeconds c.args.usual (one_of c.args.name.now (rows_of (found_of c.args.found.now)))) (sym c.unwrap_or.ensures)
    (subst (λ told. AreSeconds c.args.usual told (unwrap_or c.get_one.result c.args.usual)) (one_text-rows (found_of c.args.found.now) c.args.name.now)
    (seconds_are _ c.get_one.result c.args.usual c.get_one.ensures.none c.get_one.ensures.value))
