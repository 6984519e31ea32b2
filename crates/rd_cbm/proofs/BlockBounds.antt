-- The links and the starts of an image lead to blocks of the disk.
use Rattle.std.proofs.Common.{◌≡◌, ◌<◌, ℕ, Bool, true, false, List, Option, Some, None, IfSome, refl, nat_lt, if◌then◌else◌, slice_index, subst}
use Rattle.rd_geometry.specs.Blocks.{CBM_BLOCKS, index_of, cbm_block}
use Rattle.rd_geometry.proofs.Zones.{index_below}
use Rattle.rd_cbm.specs.declared.chains.Link.TheVariants.{Last, Next}
use Rattle.rd_cbm.specs.Links.{link_of, link_to}
use Rattle.rd_cbm.proofs.Existence.{StaysInside}

next_below : (b : Bool) (o : Option ℕ) (e n : ℕ) → ((m : ℕ) → o ≡ Some m → m < CBM_BLOCKS) → (if b then link_to o else Last e) ≡ Next n → n < CBM_BLOCKS
next_below true (Some m) e n low is = let same : m ≡ n = cc in subst (λ k. k < CBM_BLOCKS) same (low m refl)
next_below true None e n low is = absurd (cc)
next_below false o e n low is = absurd (cc)

pub links_inside : (image : List ℕ) → StaysInside (link_of image)
unfolding StaysInside link_of
links_inside image m n is =
    let track : ℕ = slice_index (cbm_block image m) 0 in
    let sector : ℕ = slice_index (cbm_block image m) 1 in
    next_below (nat_lt 0 track) (index_of track sector) sector n (λ k found. index_below track sector k found) is

some_below : (o : Option ℕ) → ((n : ℕ) → o ≡ Some n → n < CBM_BLOCKS) → IfSome o (λ n. n < CBM_BLOCKS)
some_below (Some n) low = low n refl
some_below None low = tt

pub start_inside : (t s : ℕ) → IfSome (index_of t s) (λ n. n < CBM_BLOCKS)
start_inside t s = some_below (index_of t s) (λ n found. index_below t s n found)
