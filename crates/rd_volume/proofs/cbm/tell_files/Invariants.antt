use Rattle.std.proofs.Common.{◌≡◌, ◌++◌, length}
use Rattle.std.specs.Vec.Iter.{into_iter_items, into_iter_len}
use Rattle.rd_volume.specs.Tells.{TellsCbmFiles}
use Rattle.rd_volume.proofs.cbm.tell_files.Given as goal

abbrev pub invariant-loop-file : goal.invariant-loop-file
invariant-loop-file l = record {
  left : l.yielded ++ into_iter_items l.file-iterator ≡ into_iter_items l.initial.file-iterator;
  count : into_iter_len l.file-iterator ≡ length (into_iter_items l.file-iterator);
  described : TellsCbmFiles l.yielded l.founds.items;
}
