use Rattle.std.proofs.Common.{subst, sym}
use Rattle.std.specs.Fmt.{HasWritten}
use Rattle.rd_explanations.specs.Lines.{line_text}
use Rattle.rd_explanations.proofs.line.LineDisplay.fmt.Goals as goal

pub returns-in-Size-clause-writes : goal.returns-in-Size-clause-writes
returns-in-Size-clause-writes g c = λ plain ok.
    subst (λ line. HasWritten g.W.Write.write_str_gives c.args.f.now (line_text line) c.write-in-Size.new.self) (sym c.in-Size.is) (c.write-in-Size.ensures.writes plain ok)

pub returns-in-TooLong-clause-writes : goal.returns-in-TooLong-clause-writes
returns-in-TooLong-clause-writes g c = λ plain ok.
    subst (λ line. HasWritten g.W.Write.write_str_gives c.args.f.now (line_text line) c.write-in-TooLong.new.self) (sym c.in-TooLong.is) (c.write-in-TooLong.ensures.writes plain ok)

pub returns-in-OtherSize-clause-writes : goal.returns-in-OtherSize-clause-writes
returns-in-OtherSize-clause-writes g c = λ plain ok.
    subst (λ line. HasWritten g.W.Write.write_str_gives c.args.f.now (line_text line) c.write-in-OtherSize.new.self) (sym c.in-OtherSize.is) (c.write-in-OtherSize.ensures.writes plain ok)

pub returns-in-Length-clause-writes : goal.returns-in-Length-clause-writes
returns-in-Length-clause-writes g c = λ plain ok.
    subst (λ line. HasWritten g.W.Write.write_str_gives c.args.f.now (line_text line) c.write-in-Length.new.self) (sym c.in-Length.is) (c.write-in-Length.ensures.writes plain ok)

pub returns-in-More-clause-writes : goal.returns-in-More-clause-writes
returns-in-More-clause-writes g c = λ plain ok.
    subst (λ line. HasWritten g.W.Write.write_str_gives c.args.f.now (line_text line) c.write-in-More.new.self) (sym c.in-More.is) (c.write-in-More.ensures.writes plain ok)

pub returns-in-RowSize-clause-writes : goal.returns-in-RowSize-clause-writes
returns-in-RowSize-clause-writes g c = λ plain ok.
    subst (λ line. HasWritten g.W.Write.write_str_gives c.args.f.now (line_text line) c.write-in-RowSize.new.self) (sym c.in-RowSize.is) (c.write-in-RowSize.ensures.writes plain ok)

pub returns-in-RowTooLong-clause-writes : goal.returns-in-RowTooLong-clause-writes
returns-in-RowTooLong-clause-writes g c = λ plain ok.
    subst (λ line. HasWritten g.W.Write.write_str_gives c.args.f.now (line_text line) c.write-in-RowTooLong.new.self) (sym c.in-RowTooLong.is) (c.write-in-RowTooLong.ensures.writes plain ok)

pub returns-in-RowFitsNone-clause-writes : goal.returns-in-RowFitsNone-clause-writes
returns-in-RowFitsNone-clause-writes g c = λ plain ok.
    subst (λ line. HasWritten g.W.Write.write_str_gives c.args.f.now (line_text line) c.write-in-RowFitsNone.new.self) (sym c.in-RowFitsNone.is) (c.write-in-RowFitsNone.ensures.writes plain ok)

pub returns-in-PutDeed-clause-writes : goal.returns-in-PutDeed-clause-writes
returns-in-PutDeed-clause-writes g c = λ plain ok.
    subst (λ line. HasWritten g.W.Write.write_str_gives c.args.f.now (line_text line) c.write-in-PutDeed.new.self) (sym c.in-PutDeed.is) (c.write-in-PutDeed.ensures.writes plain ok)
