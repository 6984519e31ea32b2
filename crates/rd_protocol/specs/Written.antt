-- What a writer of CSV has written.
use Rattle.std.specs.Prelude.{◌≡◌, ℕ, List, Some, false}
use Rattle.std.specs.declared.alloc.Global.{Global}
use Rattle.std.specs.declared.vec.Vec.{Vec}
use Rattle.csv.specs.Writing.{default_writer, fields_written, has_written, text_written, writer_setup}
use Rattle.csv.specs.declared.writer.Writer.{Writer}

-- The writer is between two records, writes with the defaults, and has written this text.
pub record HasWritten (writer : Writer (Vec ℕ Global)) (written : List ℕ) : Type 0 where
  pub text : text_written (λ (bytes : Vec ℕ Global). Some bytes.items) writer ≡ Some written
  pub fields : fields_written writer ≡ 0
  pub wrote : has_written writer ≡ false
  pub setup : writer_setup writer ≡ default_writer
