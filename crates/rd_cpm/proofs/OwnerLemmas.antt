-- Each entry of a file has one owner, the slot of its file.
use Rattle.std.proofs.Common.{◌≡◌, ◌∙◌, ◌<◌, ◌≤◌, ℕ, arith, refl, sym, subst}
use Rattle.rd_cpm.specs.Entries.{IsOfFile}
use Rattle.rd_cpm.specs.Files.{Directory, IsEntryOf, IsFileSlot}
use Rattle.rd_cpm.specs.Owners.{IsOwner}

-- the slot of a file has an entry of it
pub own_entry : (d : Directory) (k : ℕ) → IsFileSlot d k → IsEntryOf d k k
own_entry d k file = record { slot = file.slot; file = file.file; user = refl; name = refl }

-- two slots that have an entry of the file of a third have entries of one file
pub same_file : (d : Directory) (a b j : ℕ) → b < 64 → IsEntryOf d a j → IsEntryOf d b j → IsEntryOf d a b
same_file d a b j low of_a of_b = record {
  slot = low;
  file = of_a.file;
  user = sym of_b.user ∙ of_a.user;
  name = sym of_b.name ∙ of_a.name;
}

-- two file slots with an entry of one slot are the same
pub one_owner : (d : Directory) (a b j : ℕ) → IsFileSlot d a → IsFileSlot d b → IsEntryOf d a j → IsEntryOf d b j → a ≡ b
one_owner d a b j file_a file_b of_a of_b =
    let low : a ≤ b = file_a.least b (same_file d a b j file_b.slot of_a of_b) in
    let high : b ≤ a = file_b.least a (same_file d b a j file_a.slot of_b of_a) in
    omega arith

-- an entry of a file is one of a user
pub of_file : (d : Directory) (k j : ℕ) → IsEntryOf d k j → IsOfFile (d j)
of_file d k j entry = subst (λ n. n < 16) (sym entry.user) entry.file

-- the owner of an entry of a file is the slot of that file
pub owner_is : (d : Directory) (k j owner : ℕ) → IsFileSlot d k → IsEntryOf d k j → IsOwner d j owner → owner ≡ k
owner_is d k j owner file entry owned =
    let low : owner < 64 = not_above_64 owner (λ high. owned.free high (of_file d k j entry)) in
    one_owner d owner k j (owned.file_slot low) file (owned.of_file low) entry
  where
    not_above_64 : (n : ℕ) → (64 ≤ n → ⊥) → n < 64
    not_above_64 n none = omega arith
