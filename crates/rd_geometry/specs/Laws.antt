-- Proofs of the laws of `Geometry` for the disks, which their `impl`s cite.
use Rattle.std.specs.Prelude.{◌≡◌, ◌≢◌, ℕ, ◌+◌, ◌*◌, ◌/◌, ◌%◌, ◌<◌, ◌≤◌, ◌⊎◌}
use Rattle.std.proofs.Common.{arith}
use Rattle.rd_geometry.specs.Blocks.{place_of_block, CBM_SIZE, CBM_BLOCKS, CBM_BLOCK_LENGTH}
use Rattle.rd_geometry.specs.Places.{skewed, place_of_cpm_unit, CPM_SIZE, CPM_UNITS, CPM_UNIT_LENGTH}

-- each unit of a track has one of its 26 sectors
skewed-below : (s : ℕ) → s < 26 → skewed s < 26
skewed-below s low = omega arith

-- no two units of a track have the same sector
skewed-injective : (s t : ℕ) → s < 26 → t < 26 → skewed s ≡ skewed t → s ≡ t
skewed-injective s t low_s low_t same = omega arith

-- each sector of a CP/M disk ends within an image of its size
pub cpm_unit_inside : (n size : ℕ) → n < CPM_UNITS → size ≡ CPM_SIZE → place_of_cpm_unit n + CPM_UNIT_LENGTH ≤ size
cpm_unit_inside n size below whole =
    let sector : skewed (n % 26) < 26 = skewed-below (n % 26) (omega arith) in omega arith

-- sectors x and y of the tracks of units m and n lie apart, where units of one track have two sectors
sectors_apart : (m n x y : ℕ) → m ≢ n → (m / 26 ≡ n / 26 → x ≡ y → m % 26 ≡ n % 26) → x < 26 → y < 26
    → (128 * (26 * (2 + m / 26) + x) + 128 ≤ 128 * (26 * (2 + n / 26) + y))
    ⊎ (128 * (26 * (2 + n / 26) + y) + 128 ≤ 128 * (26 * (2 + m / 26) + x))
sectors_apart m n x y differ apart low_x low_y = grind arith

-- of two sectors of a CP/M disk one ends before the other begins
pub cpm_units_apart : (m n : ℕ) → m < CPM_UNITS → n < CPM_UNITS → m ≢ n
    → (place_of_cpm_unit m + CPM_UNIT_LENGTH ≤ place_of_cpm_unit n) ⊎ (place_of_cpm_unit n + CPM_UNIT_LENGTH ≤ place_of_cpm_unit m)
cpm_units_apart m n low_m low_n differ =
    sectors_apart m n (skewed (m % 26)) (skewed (n % 26)) differ
    (λ _ same. skewed-injective (m % 26) (n % 26) (omega arith) (omega arith) same)
    (skewed-below (m % 26) (omega arith)) (skewed-below (n % 26) (omega arith))

-- each block of a 1541 disk ends within an image that has all blocks
pub block_inside : (n size : ℕ) → n < CBM_BLOCKS → CBM_SIZE ≤ size → place_of_block n + CBM_BLOCK_LENGTH ≤ size
block_inside n size below whole = omega arith

-- of two blocks of a 1541 disk one ends before the other begins
pub blocks_apart : (m n : ℕ) → m < CBM_BLOCKS → n < CBM_BLOCKS → m ≢ n
    → (place_of_block m + CBM_BLOCK_LENGTH ≤ place_of_block n) ⊎ (place_of_block n + CBM_BLOCK_LENGTH ≤ place_of_block m)
blocks_apart m n low_m low_n differ = grind arith
