-- How many bytes were read of a reader.
use Rattle.std.proofs.Common.{◌+◌, ◌≤◌, ◌++◌, ℕ, List, [], Option, length, length-append, arith}
use Rattle.std.proofs.KnownBytes.{Consumes-nil, Consumes-trans}
use Rattle.std.specs.Io.KnownBytes.{Consumes}
use Rattle.rd_geometry.specs.Kinds.{size_of}
use Rattle.rd_geometry.specs.declared.kind.Kind.{Kind}
use Rattle.rd_geometry.specs.declared.kind.Kind.TheVariants.{Cpm8}
use Rattle.rd_commands.specs.Input.{ReadsUpTo}

-- nothing was read
pub reads_none : (limit : ℕ) (a : Option (List ℕ)) → ReadsUpTo limit a a
reads_none limit a = record { bytes = []; few = omega arith; taken = Consumes-nil a }

-- after some bytes, some more
pub reads_after : (limit more : ℕ) (old mid new : Option (List ℕ)) (bytes : List ℕ) → Consumes old mid bytes → ReadsUpTo more mid new → length bytes + more ≤ limit
    → ReadsUpTo limit old new
reads_after limit more old mid new bytes taken reads room =
    let few : length reads.bytes ≤ more = reads.few in
    record {
      bytes = bytes ++ reads.bytes;
      few = omega (arith, length-append bytes reads.bytes);
      taken = Consumes-trans old mid new bytes reads.bytes taken reads.taken;
    }

-- a higher limit is kept too
pub reads_within : (limit higher : ℕ) (old new : Option (List ℕ)) → limit ≤ higher → ReadsUpTo limit old new → ReadsUpTo higher old new
reads_within limit higher old new within reads =
    let few : length reads.bytes ≤ limit = reads.few in record { bytes = reads.bytes; few = omega arith; taken = reads.taken }

-- no kind has larger images than CP/M
pub largest : (kind : Kind) → size_of kind + 1 ≤ size_of Cpm8 + 1
largest Cpm8 = omega arith
largest _ = omega arith
