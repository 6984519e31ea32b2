-- What contracts see of a body, by what holds its bytes.
use Rattle.rd_protocol.specs.Lent.{BodyView, held, lent_out}
use Rattle.rd_protocol.specs.declared.body.Inner.{Inner}
use Rattle.rd_protocol.specs.declared.body.Inner.TheVariants.{Fixed, Written, Table, File}

-- a text or a table has bytes of its own, and the contents of a file lend theirs
abbrev pub body_of : Inner → BodyView
body_of (Fixed text) = held text.now
body_of (Written text) = held text
body_of (Table bytes) = held bytes
body_of (File contents) = lent_out contents
