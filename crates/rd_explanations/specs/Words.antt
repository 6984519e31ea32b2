-- The words of an explanation.
use Rattle.std.specs.Prelude.{ℕ, List, ◌++◌, codes}
use Rattle.std.specs.Fmt.{decimal}
use Rattle.std.specs.declared.io.ErrorKind.{ErrorKind}
use Rattle.std.specs.declared.io.ErrorKind.TheVariants as system
use Rattle.rd_explanations.specs.declared.said.Said.{Said}
use Rattle.rd_explanations.specs.declared.said.Said.TheVariants as said
use Rattle.rd_explanations.specs.declared.words.Advice.{Advice}
use Rattle.rd_explanations.specs.declared.words.Advice.TheVariants.{CheckKey, CheckPath, CheckStore, CopyAgain, CopyAnew, FileInFolder, FirstLook, FreshFolder, FreshPath, InitFirst, InitThere, KeepGoing, KeyAlone, KnownNumber, ListSlots, MakeFolder, MomentLimits, NameColumns, OtherCopy, OtherMoment, OtherPlace, OtherProgram, OtherType, Restore, SaveFirst, SetClock, ShowDeeds, ShownDay, StaffKey, TrustClock, UseCommas, ZoneFile}
use Rattle.rd_explanations.specs.declared.words.Column.{Column}
use Rattle.rd_explanations.specs.declared.words.Column.TheVariants as column
use Rattle.rd_explanations.specs.declared.words.Reason.{Reason}
use Rattle.rd_explanations.specs.declared.words.Reason.TheVariants as reason
use Rattle.rd_explanations.specs.declared.words.Unusable.{Unusable}
use Rattle.rd_explanations.specs.declared.words.Unusable.TheVariants as unusable

-- the name of a column in the first row of a sheet
abbrev pub column_word : Column → List ℕ
column_word column.Accession = codes "accession"
column_word column.Kind = codes "kind"
column_word column.Deed = codes "deed"
column_word column.Digest = codes "sha256"
column_word column.File = codes "file"

-- what to do next
abbrev pub advice_text : Advice → List ℕ
advice_text CheckPath = codes "Check how the path is written, and what you may do there."
advice_text FileInFolder = codes "Give the path of a file in it."
advice_text InitFirst = codes "The file holds no desk: give the path of one that does, or make one at a new path with desk init."
advice_text InitThere = codes "For a new desk, make it there with desk init."
advice_text OtherPlace = codes "Give another port, or stop what uses this one."
advice_text CopyAgain = codes "No kind of disk has images of this size: copy the disk again."
advice_text NameColumns = codes "The first row must be, in small letters: accession,kind,deed,sha256,file"
advice_text UseCommas = codes "Save the sheet as CSV with commas between the fields."
advice_text ListSlots = codes "Give a slot as the number that desk list shows first."
advice_text CheckKey = codes "Check how the key is written, or give the file that holds it by --key-file."
advice_text StaffKey = codes "Only the staff may do this: give a key of the staff."
advice_text OtherMoment = codes "Set the clock of this machine, or name another moment by --at."
advice_text MomentLimits = codes "--at takes moments from 0001-01-03 to 9999-12-29 in UTC: give one of these."
advice_text ShownDay = codes "The clocks of this zone pass over this day: give another day, or a moment in seconds."
advice_text SetClock = codes "Set the clock of this machine."
advice_text TrustClock = codes "If the clock is right, a check was recorded while it was ahead: write --trust-clock."
advice_text OtherProgram = codes "Use the desk that made this store, or a newer one."
advice_text Restore = codes "Give the file of a store, or bring back a backup of it."
advice_text CheckStore = codes "Check which file you name; if it was a store, bring back a backup of it."
advice_text FirstLook = codes "First look that no other desk or sqlite3 uses it; else give the file of a store, or bring back a backup of it."
advice_text KeyAlone = codes "Put nothing but the key into a file, and give that."
advice_text ZoneFile = codes "Give a file such as /usr/share/zoneinfo/Europe/Prague, or a rule by --zone."
advice_text MakeFolder = codes "Make the folder first, or give one that is there."
advice_text KeepGoing = codes "Import again: what is done stays, and --keep-going goes past such files."
advice_text FreshPath = codes "Give the path of a file that is not there yet."
advice_text FreshFolder = codes "Nothing is replaced: give a folder that is there and has none of these files, or move them all out of it."
advice_text CopyAnew = codes "Remove the new file and its log, if they are there, and copy again."
advice_text OtherType = codes "Give the slot of a file of the type SEQ, PRG or USR: desk gives the bytes of these."
advice_text KnownNumber = codes "Give the number of an accession that stands: desk show checks names them all."
advice_text SaveFirst = codes "Save it as a file, and give its path: then more can be said of it."
advice_text OtherCopy = codes "desk gives no bytes of a damaged file: desk list shows which files of the disk are sound. Copy the disk again, or look for another copy of it."
advice_text ShowDeeds = codes "If the number is wrong, correct it in the sheet: desk show deeds shows the deeds that there are."

-- why the desk does not take in the image of a row
abbrev pub reason_text : Reason → List ℕ
reason_text (reason.NoDeed deed) = codes "the desk has no deed " ++ (decimal deed ++ codes ".")
reason_text reason.Digest = codes "the file has another SHA-256 than the sheet says."
reason_text reason.Conflict = codes "another image stands at this accession."
reason_text reason.Key = codes "the key is none of the staff."
reason_text reason.Other = codes "the desk refuses it."

-- why a file gives no key or no zone
abbrev pub unusable_text : Unusable → List ℕ
unusable_text unusable.LongKey = codes "it has more than 4096 bytes."
unusable_text unusable.NoKey = codes "it cannot be read, or has more than 4096 bytes."
unusable_text unusable.LongZone = codes "it has more than 65536 bytes."
unusable_text unusable.NoZone = codes "it is no file of the time zone database."
unusable_text unusable.NoRule = codes "it ends in no rule for clocks that desk can use."
unusable_text unusable.Unknown = codes "desk cannot use what it gives."

-- what the system says
abbrev pub said_text : Said → List ℕ
said_text said.Missing = codes "there is no such file"
said_text said.Denied = codes "the system does not allow it"
said_text said.Folder = codes "it is a folder"
said_text said.NoFolder = codes "a part of the path is no folder"
said_text said.NoRoom = codes "the folder for it is not there"
said_text said.Standing = codes "there is one already"
said_text said.Full = codes "the disk is full"
said_text said.Closed = codes "nobody reads what is written there"
said_text said.Taken = codes "another program uses it"
said_text said.Unfit = codes "it is no file of the right sort"
said_text said.NoStore = codes "it is no store of a desk"
said_text said.Failed = codes "the system failed, and says no more"

-- what a kind of error says
abbrev pub said_of : ErrorKind → Said
said_of system.NotFound = said.Missing
said_of system.PermissionDenied = said.Denied
said_of system.IsADirectory = said.Folder
said_of system.NotADirectory = said.NoFolder
said_of system.AlreadyExists = said.Standing
said_of system.StorageFull = said.Full
said_of system.QuotaExceeded = said.Full
said_of system.BrokenPipe = said.Closed
said_of system.AddrInUse = said.Taken
said_of system.InvalidData = said.Unfit
said_of system.FileTooLarge = said.Unfit
said_of _ = said.Failed
