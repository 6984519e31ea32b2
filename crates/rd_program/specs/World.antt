-- What a machine shows of itself, as far as it shows it.
use Rattle.std.specs.Prelude.{◌≡◌, ℕ, ℤ, Bool, List, None, Option, false}
use Rattle.sqlite.specs.Held.{Held}
use Rattle.rd_messages.specs.declared.pace.TimeLimits.{TimeLimits}
use Rattle.rd_commands.specs.Serving.{Place}

-- what was asked for: a connection to the store in the file at a path, whether a file is made where none is, and whether one
-- that is new has sums; one to a new store, in a file there that is new, with sums or without; or a door, which was lent
pub data Wanted : Type 0 where
  StoreAt : List ℕ → Bool → Bool → Wanted
  NewAt : List ℕ → Bool → Wanted
  DoorAt : Place → Wanted

-- A file that stands, or that a machine made: in this folder, under this name, with these bytes.
pub record Made : Type 0 where
  pub folder : List ℕ
  pub name : List ℕ
  pub bytes : List ℕ

-- What a machine shows: whether it shows its connections; the moment that its clock shows next; the bytes that it gives of
-- each file and of each sheet; the connection that stands for the store at each path, and the one that it took back last;
-- the same for new stores; what it was asked for, the latest first; the door at each place, and how long visitors may take
-- at the one that it lent last; and what stood in folders from the first, and then the files that it made, the earliest first.
pub record World (S D : Type 0) : Type 0 where
  pub shows : Bool
  pub clock : Option ℤ
  pub files : List ℕ → Option (List ℕ)
  pub sheets : List ℕ → Option (List ℕ)
  pub stands : List ℕ → Option (Held S)
  pub left : Option (Held S)
  pub fresh : List ℕ → Option (Held S)
  pub made : Option (Held S)
  pub wanted : Option (List Wanted)
  pub doors : Place → Option D
  pub limits : Option TimeLimits
  pub written : Option (List Made)

-- a machine that shows nothing
abbrev pub nothing_shown : {S D : Type 0} → World S D
nothing_shown = record {
  shows = false;
  clock = None;
  files = λ path. None;
  sheets = λ path. None;
  stands = λ path. None;
  left = None;
  fresh = λ path. None;
  made = None;
  wanted = None;
  doors = λ place. None;
  limits = None;
  written = None;
}

-- ---- what stays

-- of all that is shown only the clock may have changed
abbrev pub ChangesClock : {S D : Type 0} → World S D → World S D → Type 0
ChangesClock old new = new ≡ record old { clock = new.clock }

-- only the stores, and the connection that was taken back last
abbrev pub TakesBack : {S D : Type 0} → World S D → World S D → Type 0
TakesBack old new = new ≡ record old { stands = new.stands; left = new.left }

-- the same of new stores
abbrev pub TakesBackNew : {S D : Type 0} → World S D → World S D → Type 0
TakesBackNew old new = new ≡ record old { fresh = new.fresh; made = new.made }

-- only the stores, the connection that was taken back last, and what was asked for
abbrev pub OpensStore : {S D : Type 0} → World S D → World S D → Type 0
OpensStore old new = new ≡ record old { stands = new.stands; left = new.left; wanted = new.wanted }

-- these, and the clock
abbrev pub ChangesStore : {S D : Type 0} → World S D → World S D → Type 0
ChangesStore old new = new ≡ record old { clock = new.clock; stands = new.stands; left = new.left; wanted = new.wanted }

-- only the clock, the doors and the limits of their visitors, and what was asked for
abbrev pub ChangesDoors : {S D : Type 0} → World S D → World S D → Type 0
ChangesDoors old new = new ≡ record old { clock = new.clock; doors = new.doors; limits = new.limits; wanted = new.wanted }

-- these, and what a store changes
abbrev pub ChangesStoreAndDoors : {S D : Type 0} → World S D → World S D → Type 0
ChangesStoreAndDoors old new =
    new ≡ record old { clock = new.clock; stands = new.stands; left = new.left; wanted = new.wanted; doors = new.doors; limits = new.limits }

-- only the new stores, and what was asked for
abbrev pub OpensNewStore : {S D : Type 0} → World S D → World S D → Type 0
OpensNewStore old new = new ≡ record old { fresh = new.fresh; made = new.made; wanted = new.wanted }

-- these, and what a store changes
abbrev pub CopiesStore : {S D : Type 0} → World S D → World S D → Type 0
CopiesStore old new = new ≡ record old { stands = new.stands; left = new.left; fresh = new.fresh; made = new.made; wanted = new.wanted }

-- only the files that were made
abbrev pub ChangesFolders : {S D : Type 0} → World S D → World S D → Type 0
ChangesFolders old new = new ≡ record old { written = new.written }
