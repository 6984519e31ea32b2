use Rattle.std.proofs.Common.{◌≡◌, ◌++◌, length}
use Rattle.std.specs.Vec.Iter.{into_iter_items, into_iter_len}
use Rattle.rd_volume.specs.Tells.{TellsCpmFiles}
use Rattle.rd_volume.proofs.cpm.tell_files.Given as goal

abbrev pub invariant-loop-file : goal.invariant-loop-file
invariant-loop-file l = record {
  left : l.yielded ++ into_iter_items l.file-iterator ≡ into_iter_items l.initial.file-iterator;
  count : into_iter_len l.file-iterator ≡ length (into_iter_items l.file-iterator);
  described : TellsCpmFiles l.yielded l.founds.items;
}
