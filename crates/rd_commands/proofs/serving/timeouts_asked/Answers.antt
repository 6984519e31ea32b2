use Rattle.rd_commands.proofs.serving.timeouts_asked.Goals as goal

pub returns : goal.returns
returns c = record { request = c.seconds_asked.ensures; write = c.seconds_asked-2.ensures; reply = c.seconds_asked-3.ensures }
