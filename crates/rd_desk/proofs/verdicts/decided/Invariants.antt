use Rattle.std.proofs.Common.{◌≡◌, ◌++◌, All, map}
use Rattle.rd_protocol.specs.Verdicts.{IsDecided}
use Rattle.rd_desk.proofs.verdicts.decided.Given as goal

abbrev pub invariant-loop-file : goal.invariant-loop-file
invariant-loop-file l = record {
  files : map (λ line. line.file) l.lines.items ≡ l.yielded;
  decided : All (IsDecided (l.takedowns ++ l.rules) l.day) l.lines.items;
}
