-- What a list of entries tells: what stands, as a desk without checks and without the bytes of its images.
use Rattle.std.specs.Prelude.{ℕ, List, [], ◌∷◌, ◌++◌, Option, Some, None, map}
use Rattle.std.specs.Ordering.{nat_cmp}
use Rattle.std.specs.FinMap.{FinMap, empty, entries, get, insert, remove}
use Rattle.rd_geometry.specs.declared.kind.Kind.{Kind}
use Rattle.rd_policy.specs.declared.audience.Audience.{Audience}
use Rattle.rd_holdings.specs.State.{Desk, Terms, all_rules, digest_cmp, place_cmp, place_of, terms_of}
use Rattle.rd_holdings.specs.declared.rows.DeedRow.{DeedRow}
use Rattle.rd_holdings.specs.declared.rows.ImageRow.{ImageRow}
use Rattle.rd_history.specs.declared.entry.Change.{Change}
use Rattle.rd_history.specs.declared.entry.Change.TheVariants.{Begin, Deed, Image, Rule, DropRule, Key, DropKey, Void}
use Rattle.rd_history.specs.declared.entry.Entry.{Entry}

-- An image without its bytes.
pub record Deposit : Type 0 where
  pub kind : Kind
  pub deed : ℕ
  pub digest : List ℕ

-- What stands, with at most one thing for each number, place or digest.
pub record Standing : Type 0 where
  pub deeds : FinMap nat_cmp DeedRow
  pub images : FinMap nat_cmp Deposit
  pub rules : FinMap place_cmp Terms
  pub keys : FinMap digest_cmp Audience

-- nothing stands
abbrev pub NOTHING : Standing
NOTHING = record { deeds = empty; images = empty; rules = empty; keys = empty }

-- an image is put where none stands, and one that stands is kept
abbrev pub put_or_kept : Option Deposit → ℕ → Deposit → Standing → Standing
put_or_kept None acc image now = record now { images = insert now.images acc image }
put_or_kept (Some standing) acc image now = now

-- what stands after a change is carried out, as commands of a desk carry it out
abbrev pub changed : Change → Standing → Standing
changed (Deed num donor signed) now =
    record now { deeds = insert now.deeds num (record { donor = donor; signed = signed }) }
changed (Image acc kind deed digest) now =
    put_or_kept (get now.images acc) acc (record { kind = kind; deed = deed; digest = digest }) now
changed (Rule rule) now = record now { rules = insert now.rules (place_of rule) (terms_of rule) }
changed (DropRule band scope rank) now =
    record now { rules = remove now.rules (record { band = band; scope = scope; rank = rank }) }
changed (Key digest audience) now = record now { keys = insert now.keys digest audience }
changed (DropKey digest) now = record now { keys = remove now.keys digest }
changed other now = now

-- what stood before the last entry, and what stands after it, with one change more
abbrev pub step : Change → Standing × Standing → Standing × Standing
step (Begin count) told = (NOTHING, NOTHING)
step (Void cause) told = (told.0, told.0)
step change told = (told.1, changed change told.1)

-- the same with several entries more
abbrev pub told_after : Standing × Standing → List Entry → Standing × Standing
told_after told [] = told
told_after told (entry ∷ entries) = told_after (step entry.change told) entries

-- what stood before the last of the entries, and what stands after it
abbrev pub told : List Entry → Standing × Standing
told entries = told_after (NOTHING, NOTHING) entries

-- what stands after the entries
abbrev pub standing_after : List Entry → Standing
standing_after entries = (told entries).1

-- ---- what a base lists

-- to put a deed that stands
abbrev pub deed_put : ℕ × DeedRow → Change
deed_put e = Deed e.0 e.1.donor e.1.signed

-- to take in an image that stands
abbrev pub image_put : ℕ × ImageRow → Change
image_put e = Image e.0 e.1.kind e.1.deed e.1.digest

-- to put a key that stands
abbrev pub key_put : List ℕ × Audience → Change
key_put e = Key e.0 e.1

-- all that stands in a desk: deeds by number, images by accession, rules by place, takedowns before those of deeds,
-- keys by digest
abbrev pub base_of : Desk → List Change
base_of desk =
    map deed_put (entries desk.deeds)
    ++ (map image_put (entries desk.images)
    ++ (map Rule (all_rules desk) ++ map key_put (entries desk.keys)))
