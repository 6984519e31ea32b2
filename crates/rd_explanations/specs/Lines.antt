-- What a line of an explanation says.
use Rattle.std.specs.Prelude.{ℕ, List, ◌++◌, codes}
use Rattle.std.specs.Fmt.{decimal}
use Rattle.std.specs.String.{string_bytes}
use Rattle.rd_geometry.specs.Kinds.{size_of, word_of}
use Rattle.rd_geometry.specs.declared.kind.Kind.{Kind}
use Rattle.rd_explanations.specs.Faults.{fault_text, fault_word}
use Rattle.rd_explanations.specs.Words.{advice_text, column_word, reason_text, said_text, unusable_text}
use Rattle.rd_explanations.specs.declared.line.Line.{Line}
use Rattle.rd_explanations.specs.declared.line.Line.TheVariants.{Fault, Field, Fits, Length, More, Next, Operand, OtherSize, Path, PutDeed, Row, RowFits, RowFitsNone, RowSize, RowTooLong, Size, TooLong, Unread}

-- a kind, and how many bytes its images have
abbrev pub wanted_text : Kind → List ℕ
wanted_text kind = word_of kind ++ (codes " has " ++ decimal (size_of kind))

-- what it says, before control bytes are taken out of it
abbrev pub line_text : Line → List ℕ
line_text (Path path said) = string_bytes path ++ (codes ": " ++ said_text said)
line_text (Size path found kind) =
    string_bytes path ++ (codes " has " ++ (decimal found ++ (codes " bytes, and an image of the kind " ++ (wanted_text kind ++ codes "."))))
line_text (TooLong path kind) =
    string_bytes path ++ (codes " has more bytes than an image of its kind: " ++ (wanted_text kind ++ codes "."))
line_text (OtherSize path kind) =
    string_bytes path ++ (codes " has another number of bytes than an image of its kind: " ++ (wanted_text kind ++ codes "."))
line_text (Fits kind) =
    codes "An image of the kind " ++ (word_of kind ++ codes " has as many bytes as this file: is it one?")
line_text (Operand path unusable) = string_bytes path ++ (codes ": " ++ unusable_text unusable)
line_text (Fault fault) = fault_word fault ++ (codes ": " ++ fault_text fault)
line_text (Field row column) =
    codes "Row " ++ (decimal row ++ (codes ", column " ++ (column_word column ++ codes ": missing or badly written.")))
line_text (Length row) = codes "Row " ++ (decimal row ++ codes " has another number of fields than five.")
line_text (Unread row path said) =
    codes "Row " ++ (decimal row ++ (codes ": " ++ (string_bytes path ++ (codes ": " ++ said_text said))))
line_text (RowSize row path found kind) =
    codes "Row " ++ (decimal row ++ (codes ": " ++ (string_bytes path ++ (codes " has " ++ (decimal found
    ++ (codes " bytes, and an image of the kind " ++ (wanted_text kind ++ codes ".")))))))
line_text (RowTooLong row path kind) =
    codes "Row " ++ (decimal row ++ (codes ": " ++ (string_bytes path ++ (codes " has more bytes than an image of its kind: "
    ++ (wanted_text kind ++ codes ".")))))
line_text (RowFits row kind) =
    codes "Row " ++ (decimal row ++ (codes ": an image of the kind " ++ (word_of kind ++ (codes " has as many bytes: write "
    ++ (word_of kind ++ codes " in the row, if it is one.")))))
line_text (RowFitsNone row) =
    codes "Row " ++ (decimal row ++ codes ": no kind of disk has images of this size: copy the disk again.")
line_text (Row row acc reason) =
    codes "Row " ++ (decimal row ++ (codes ", accession " ++ (decimal acc ++ (codes ": " ++ reason_text reason))))
line_text (More count) = codes "And " ++ (decimal count ++ codes " more rows.")
line_text (PutDeed deed) =
    codes "If the deed is new, start desk serve, put the deed there, end desk serve, and import again: curl -X PUT -H 'Desk-Key: KEY' http://127.0.0.1:8041/deeds/"
    ++ (decimal deed ++ codes " -d '{\"donor\":\"NAME\",\"signed\":\"YYYY-MM-DD\"}'")
line_text (Next advice) = advice_text advice
