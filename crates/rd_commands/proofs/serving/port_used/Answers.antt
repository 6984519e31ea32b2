use Rattle.std.proofs.Common.{◌∙◌, Some, ap, codes, inr, refl, sym}
use Rattle.clap.specs.Words.{found_of, rows_of}
use Rattle.clap.proofs.WalkLemmas.{first_value-rows}
use Rattle.rd_commands.proofs.Places.{port_read, port_used, port_usual}
use Rattle.rd_commands.proofs.serving.port_used.Goals as goal

pub returns-in-Some-clause-asked : goal.returns-in-Some-clause-asked
returns-in-Some-clause-asked c = λ port told.
    port_read (rows_of (found_of c.args.found.now)) _ c.port_asked.result port
    (c.in-Some.ensures ∙ first_value-rows (found_of c.args.found.now) (codes "port")) c.port_asked.ensures.asked told

pub returns-in-Some-clause-given : goal.returns-in-Some-clause-given
returns-in-Some-clause-given c = port_used (rows_of (found_of c.args.found.now)) c.port_asked.result c.port_asked.ensures.given

pub returns-in-None-clause-asked : goal.returns-in-None-clause-asked
returns-in-None-clause-asked c = λ port told.
    ap Some (sym (port_usual (rows_of (found_of c.args.found.now)) port (c.in-None.ensures ∙ first_value-rows (found_of c.args.found.now) (codes "port")) told))

pub returns-in-None-clause-given : goal.returns-in-None-clause-given
returns-in-None-clause-given c = inr (sym (c.in-None.ensures ∙ first_value-rows (found_of c.args.found.now) (codes "port")), refl)
