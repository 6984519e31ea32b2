use Rattle.std.proofs.Common.{◌∙◌, codes, sym}
use Rattle.clap.specs.Words.{found_of, rows_of}
use Rattle.clap.proofs.WalkLemmas.{first_value-rows}
use Rattle.rd_commands.proofs.Places.{no_port, port_place, socket_is, socket_named}
use Rattle.rd_commands.proofs.serving.place_asked.Goals as goal

pub returns-in-Some-clause-asked : goal.returns-in-Some-clause-asked
returns-in-Some-clause-asked c = λ place named.
    socket_is (rows_of (found_of c.args.found.now)) _ c.socket_alone.result place
    (c.in-Some.ensures ∙ first_value-rows (found_of c.args.found.now) (codes "socket")) c.socket_alone.ensures.alone named

pub returns-in-Some-clause-named : goal.returns-in-Some-clause-named
returns-in-Some-clause-named c =
    socket_named (rows_of (found_of c.args.found.now)) _ c.socket_alone.result
    (c.in-Some.ensures ∙ first_value-rows (found_of c.args.found.now) (codes "socket")) c.socket_alone.ensures.named

pub returns-in_err-port_used-in-None-clause-asked : goal.returns-in_err-port_used-in-None-clause-asked
returns-in_err-port_used-in-None-clause-asked c = λ place named.
    absurd (no_port (rows_of (found_of c.args.found.now)) place
    (c.in-None.ensures ∙ first_value-rows (found_of c.args.found.now) (codes "socket")) c.in_err-port_used-in-None.ensures.asked named)

pub returns-in_ok-port_used-in-None-clause-asked : goal.returns-in_ok-port_used-in-None-clause-asked
returns-in_ok-port_used-in-None-clause-asked c = λ place named.
    port_place (rows_of (found_of c.args.found.now)) _ place
    (c.in-None.ensures ∙ first_value-rows (found_of c.args.found.now) (codes "socket")) c.in_ok-port_used-in-None.ensures.asked named

pub returns-in_ok-port_used-in-None-clause-named : goal.returns-in_ok-port_used-in-None-clause-named
returns-in_ok-port_used-in-None-clause-named c =
    (c.in_ok-port_used-in-None.ensures.given, sym (c.in-None.ensures ∙ first_value-rows (found_of c.args.found.now) (codes "socket")))
