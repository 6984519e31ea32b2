use Rattle.std.proofs.Common.{◌≡◌, ◌+◌, ◌*◌, ◌/◌, ◌%◌, ◌<◌, ℕ, length, take, slice_index}
use Rattle.rd_cpm.specs.Entries.{pointer_of}
use Rattle.rd_cpm.proofs.sectors.add_records.Given as goal

abbrev pub invariant-loop-record : goal.invariant-loop-record
invariant-loop-record l = record {
  before : take (length l.fn.sectors.items) l.sectors.items ≡ l.fn.sectors.items;
  count : length l.sectors.items ≡ length l.fn.sectors.items + l.record;
  each : (t : ℕ) → t < l.record → slice_index l.sectors.items (length l.fn.sectors.items + t) ≡ 8 * pointer_of l.own (t / 8) + t % 8;
}
