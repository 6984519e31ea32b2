-- The key in a file.
use Rattle.std.specs.Prelude.{ℕ, Bool, ◌==◌, List, None, Option, Some, take}
use Rattle.std.specs.Io.BufRead.{strip_last}
use Rattle.std.specs.List.{position}
use Rattle.httparse.specs.Grammar.{trim_ows}

-- the byte that ends a line
abbrev pub is_line_feed : ℕ → Bool
is_line_feed byte = byte == 10

-- the bytes before a place, without a carriage return (13) at their end; all bytes, where there is no place
abbrev pub line_before : Option ℕ → List ℕ → List ℕ
line_before (Some place) bytes = strip_last 13 (take place bytes)
line_before None bytes = bytes

-- the first line of bytes: what stands before the first line feed, and before the carriage return that may precede it
abbrev pub first_line : List ℕ → List ℕ
first_line bytes = line_before (position is_line_feed bytes) bytes

-- the key in a file of these bytes: its first line, without blanks and tabs at both ends
abbrev pub key_of : List ℕ → List ℕ
key_of bytes = trim_ows (first_line bytes)
