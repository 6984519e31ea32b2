-- The walk from a block along the links, and the ways in which it can end. No code follows these
-- definitions step by step.
use Rattle.std.specs.Prelude.{◌≡◌, ◌≢◌, ℕ, zero, suc, ◌<◌, ◌⊎◌, List, Option, Some, None, option_and_then, length, slice_index, AllPairs, Contains, codes}
use Rattle.rd_cbm.specs.declared.chains.Link.{Link}
use Rattle.rd_cbm.specs.declared.chains.Link.TheVariants.{Last, Next, Off}
use Rattle.rd_cbm.specs.declared.chains.End.{End}
use Rattle.rd_cbm.specs.declared.chains.End.TheVariants as end

-- The links of a disk: the link of each block.
abbrev pub Links : Type 0
Links = ℕ → Link

-- the block that a link leads to, where it leads to one
abbrev pub next_of : Link → Option ℕ
next_of (Next n) = Some n
next_of (Last e) = None
next_of Off = None

-- place i, counted from 0, of the walk from s: the block there, if the walk comes that far. Place 0 is s, where it is
-- on the disk; place i + 1 is the block that the link of place i leads to. No code follows this definition.
unfoldable pub at : Links → Option ℕ → ℕ → Option ℕ
at link s zero = s
at link s (suc i) = option_and_then (λ n. next_of (link n)) (at link s i)

-- The walk from s comes to block n.
pub record Reaches (link : Links) (s : Option ℕ) (n : ℕ) : Type 0 where
  pub place : ℕ
  pub there : at link s place ≡ Some n

-- The walk comes to a last block, and byte 1 of it is e.
pub record Ends (link : Links) (s : Option ℕ) (e : ℕ) : Type 0 where
  pub block : ℕ
  pub reached : Reaches link s block
  pub last : link block ≡ Last e

-- The walk comes to a block whose link is to no block of the disk.
pub record Leaves (link : Links) (s : Option ℕ) : Type 0 where
  pub block : ℕ
  pub reached : Reaches link s block
  pub off : link block ≡ Off

-- The walk goes off the disk: its start is not on it, or a link leads off it.
abbrev pub GoesOff : Links → Option ℕ → Type 0
GoesOff link s = (s ≡ None) ⊎ Leaves link s

-- The walk comes to one block at two places.
pub record Loops (link : Links) (s : Option ℕ) : Type 0 where
  pub first : ℕ
  pub second : ℕ
  pub block : ℕ
  pub later : first < second
  pub reached : at link s first ≡ Some block
  pub again : at link s second ≡ Some block

-- the walk ends in this way
abbrev pub EndsBy : Links → Option ℕ → End → Type 0
EndsBy link s (end.Last e) = Ends link s e
EndsBy link s end.Off = GoesOff link s
EndsBy link s end.Loop = Loops link s

-- the word for the end of a walk
abbrev pub end_word : End → List ℕ
end_word (end.Last e) = codes "end"
end_word end.Off = codes "off"
end_word end.Loop = codes "loop"

-- The walk ends in one way, and in no other: at a last block, with one last byte, off the disk, or in a loop.
pub record EndsOnce (link : Links) (s : Option ℕ) : Type 0 where
  pub ending : End
  pub holds : EndsBy link s ending
  pub only : (other : End) → EndsBy link s other → other ≡ ending

-- The blocks are the chain of s: all that the walk comes to, each once, in the order of their first
-- places.
pub record IsChain (link : Links) (s : Option ℕ) (blocks : List ℕ) : Type 0 where
  pub in_order : (i : ℕ) → i < length blocks → at link s i ≡ Some (slice_index blocks i)
  pub once : AllPairs (λ m n. m ≢ n) blocks
  pub all : (n : ℕ) → Reaches link s n → Contains blocks n
