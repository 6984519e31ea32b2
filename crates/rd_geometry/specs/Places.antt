-- Where the units of a CP/M 2.2 eight-inch disk lie in its image. A unit is a logical sector of 128
-- bytes. The disk's parameters and its skew are those of the CP/M 2.2 Alteration Guide; that the image
-- is a raw dump of its 77 tracks of 26 sectors, in order, is this project's profile. The first two
-- tracks are system tracks.
use Rattle.std.specs.Prelude.{ℕ, ◌+◌, ◌*◌, ◌/◌, ◌%◌, List, slice_range}

-- how many bytes a unit has
abbrev pub CPM_UNIT_LENGTH : ℕ
CPM_UNIT_LENGTH = 128

-- how many bytes a disk has: 77 tracks of 26 sectors of 128 bytes
abbrev pub CPM_SIZE : ℕ
CPM_SIZE = 256256

-- how many units a disk has without the two system tracks: 75 tracks of 26
abbrev pub CPM_UNITS : ℕ
CPM_UNITS = 1950

-- the sector, counted from 0, at place s (0 to 25) of a track: six sectors on at each place, going round
-- at 26, and one more from place 13 on (1 7 13 19 25 5 .. 22 as the guide counts, from 1)
abbrev pub skewed : ℕ → ℕ
skewed s = (6 * s) % 26 + s / 13

-- the byte at which unit n begins: the sectors of the tracks before its own come before it, and on its track those
-- before its place. The code has the guide's table, and is proved to agree with this formula
abbrev pub place_of_cpm_unit : ℕ → ℕ
place_of_cpm_unit n = 128 * (26 * (2 + n / 26) + skewed (n % 26))

-- the bytes of unit n of an image
abbrev pub cpm_unit : List ℕ → ℕ → List ℕ
cpm_unit image n = slice_range image (place_of_cpm_unit n) (place_of_cpm_unit n + CPM_UNIT_LENGTH)
