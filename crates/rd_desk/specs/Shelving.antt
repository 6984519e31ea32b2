-- What a desk would answer to requests to take in images, one after the other, where it takes none in.
use Rattle.std.specs.Prelude.{◌≡◌, ◌≢◌, ◌⊎◌, ◌==◌, ◌++◌, ℕ, ℤ, IsSome, IsSomeAnd, List, [], ◌∷◌, None, Option, Some, if◌then◌else◌, length, option_map}
use Rattle.std.specs.FinMap.{get}
use Rattle.sha2.specs.Sha256.{sha256}
use Rattle.rd_geometry.specs.Kinds.{size_of}
use Rattle.rd_holdings.specs.State.{Desk}
use Rattle.rd_holdings.specs.declared.rows.ImageRow.{ImageRow}
use Rattle.rd_protocol.specs.Replies.{IsAnswered}
use Rattle.rd_protocol.specs.declared.refusal.Refusal.{Refusal}
use Rattle.rd_protocol.specs.declared.refusal.Refusal.TheVariants.{Conflict, DigestDiffers, NoDeed, WrongSize}
use Rattle.rd_protocol.specs.declared.request.What.TheVariants.{PutImage}
use Rattle.rd_protocol.specs.declared.response.Response.{Response}
use Rattle.rd_protocol.specs.declared.response.Response.TheVariants as response
use Rattle.rd_desk.specs.declared.would_take.Shelved.{Shelved}

-- ---- a shelf

-- the first image of an accession on a shelf
abbrev pub on_shelf : List Shelved → ℕ → Option Shelved
on_shelf [] acc = None
on_shelf (image ∷ more) acc = if image.acc == acc then Some image else on_shelf more acc

-- what is asked of the image that stands at an accession
abbrev pub shelved_of : ℕ → ImageRow → Shelved
shelved_of acc row = record { acc = acc; kind = row.kind; deed = row.deed; digest = row.digest }

-- an image that stands has this kind, deed and SHA-256
abbrev pub HasHeading : Shelved → ImageRow → Type 0
HasHeading image row = (row.kind ≡ image.kind) × ((row.deed ≡ image.deed) × (row.digest ≡ image.digest))

-- what stands at an accession: one like the image of the shelf, or else what stood
abbrev pub StandsAt : Option Shelved → Option ImageRow → Option ImageRow → Type 0
StandsAt (Some image) stood row = IsSomeAnd row (HasHeading image)
StandsAt None stood row = row ≡ stood

-- A desk is the one that stood, with images like those of a shelf.
pub record StandsBeside (shelf : List Shelved) (stood mid : Desk) : Type 0 where
  pub rest : mid ≡ record stood { images = mid.images }
  pub images : (acc : ℕ) → StandsAt (on_shelf shelf acc) (get stood.images acc) (get mid.images acc)

-- ---- the answer

-- Each desk that stands beside the shelf gives this answer to the request to take in an image, on each day, and what it leaves
-- stands beside the new shelf.
abbrev pub WouldAnswer : List Shelved → List Shelved → Desk → List ℕ → Shelved → List ℕ → Response → Type 0
WouldAnswer old new stood badge image bytes answer =
    (day : ℤ) (mid : Desk) → StandsBeside old stood mid → (after : Desk)
    × IsAnswered mid day (record { badge = Some badge; what = PutImage image.acc image.kind image.deed image.digest bytes }) answer after
    × StandsBeside new stood after

-- ---- inside

-- the first fault of an image that the staff gives, before a conflict; none if its deed stands and its bytes are as they
-- should be
abbrev pub IsFaultOfImage : Desk → Shelved → List ℕ → Option Refusal → Type 0
IsFaultOfImage desk image bytes (Some NoDeed) = get desk.deeds image.deed ≡ None
IsFaultOfImage desk image bytes (Some WrongSize) = IsSome (get desk.deeds image.deed) × (length bytes ≢ size_of image.kind)
IsFaultOfImage desk image bytes (Some DigestDiffers) = IsSome (get desk.deeds image.deed) × ((length bytes ≡ size_of image.kind) × (sha256 bytes ≢ image.digest))
IsFaultOfImage desk image bytes (Some other) = ⊥
IsFaultOfImage desk image bytes None = IsSome (get desk.deeds image.deed) × ((length bytes ≡ size_of image.kind) × (sha256 bytes ≡ image.digest))

-- the first of two that is there
abbrev pub first_there : Option Shelved → Option Shelved → Option Shelved
first_there (Some image) standing = Some image
first_there None standing = standing

-- the image that would stand at an accession, if any
abbrev pub would_stand : List Shelved → Desk → ℕ → Option Shelved
would_stand shelf stood acc = first_there (on_shelf shelf acc) (option_map (shelved_of acc) (get stood.images acc))

-- what becomes of an image that has no fault by itself, by the one that would stand at its accession: it is put on the shelf if
-- there is none, nothing changes if that is the same, and it is refused if it is another
abbrev pub ShelvesAs : Option Shelved → Shelved → List Shelved → List Shelved → Response → Type 0
ShelvesAs None image old new answer = (answer ≡ response.Done) × (new ≡ old ++ image ∷ [])
ShelvesAs (Some standing) image old new answer =
    ((standing ≡ image) × ((answer ≡ response.Done) × (new ≡ old)))
    ⊎ ((standing ≢ image) × ((answer ≡ response.Refused Conflict) × (new ≡ old)))
