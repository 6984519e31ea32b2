-- The words of the faults of a file, and what they mean.
use Rattle.std.specs.Prelude.{ℕ, List, codes}
use Rattle.rd_explanations.specs.declared.fault.Fault.{Fault}
use Rattle.rd_explanations.specs.declared.fault.Fault.TheVariants.{BadCount, Crossed, Duplicate, Gap, Hole, Loop, NotClosed, OffDisk, ReadError, Short}

-- the word with which a refusal names it
abbrev pub fault_word : Fault → List ℕ
fault_word BadCount = codes "bad-count"
fault_word Duplicate = codes "duplicate"
fault_word Gap = codes "gap"
fault_word Short = codes "short"
fault_word Hole = codes "hole"
fault_word OffDisk = codes "off-disk"
fault_word Crossed = codes "crossed"
fault_word NotClosed = codes "not-closed"
fault_word Loop = codes "loop"
fault_word ReadError = codes "read-error"

-- what it means
abbrev pub fault_text : Fault → List ℕ
fault_text BadCount = codes "the directory gives a part of this file more than 128 records, and a part has at most 128."
fault_text Duplicate = codes "two parts of this file have the same number."
fault_text Gap = codes "a part of this file is missing, and a later one is there."
fault_text Short = codes "a part of this file is not full, and a later one is there."
fault_text Hole = codes "the directory leaves out a block that this file needs."
fault_text OffDisk = codes "this file names a block that its disk does not have."
fault_text Crossed = codes "a block of this file is also another file's, comes twice in it, or is one that the disk keeps for itself."
fault_text NotClosed = codes "the drive has not finished this file."
fault_text Loop = codes "the blocks of this file lead back to one of its own, so it has no end."
fault_text ReadError = codes "the drive could not read a block of this file when the disk was copied."
