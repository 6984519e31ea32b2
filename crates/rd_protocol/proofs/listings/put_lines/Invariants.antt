use Rattle.std.proofs.Common.{take}
use Rattle.rd_protocol.specs.Texts.{line_data}
use Rattle.rd_protocol.specs.Tokens.{Gains}
use Rattle.rd_protocol.proofs.TokenLemmas.{values_begun}
use Rattle.rd_protocol.proofs.listings.put_lines.Given as goal

-- the lines so far are written
abbrev pub invariant-loop-line : goal.invariant-loop-line
invariant-loop-line l = Gains l.fn.out l.out (values_begun (line_data l.kind) (take l.line-index l.lines))
