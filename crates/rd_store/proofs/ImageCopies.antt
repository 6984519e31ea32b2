-- Images that are copied one by one, inside one transaction, from the desk of another connection.
use Rattle.rd_store.proofs.Common.{◌≡◌, ◌∙◌, ℕ, ◌+◌, ◌<◌, List, [], length, get_or, Some, None, Result, Ok, Err, ap, subst, sym, IsErr, nat_cmp, FinMap, entries, from_entries, get, insert, keys, get_or-map, length-map, Ghosts, Database, Held, Error, D64, entry_got, Desk, ImageRow, AndClean, TakesImage, with_images, IsClean, IsOf, Moves, desk, with_new_image}
use Rattle.rd_store.proofs.Listings.{any_default, has_at}
use Rattle.rd_store.proofs.CopyLemmas.{both_clean, first_all, first_of, moves_none, next_free, next_put}
use Rattle.rd_store.proofs.Orders.{number_order}
use Rattle.rd_tables.proofs.TransactionSteps.{and_then, moves_to, stopped, then_told}

-- the entry at a place, of a map whose keys these are
module _ {X : Type 0} (m : FinMap nat_cmp X) (numbers : List ℕ) (at number : ℕ) (none : ℕ × X) (are : numbers ≡ keys m) (low : at < length numbers) (is : number ≡ get_or numbers at number) where
  within : at < length (entries m)
  within = subst (λ n. at < n) (ap length are ∙ length-map (entries m) (λ (x : ℕ × X). x.0)) low

  named : (get_or (entries m) at none).0 ≡ number
  named = sym (get_or-map (λ (x : ℕ × X). x.0) (entries m) at none number within) ∙ ap (λ (ks : List ℕ). get_or ks at number) (sym are) ∙ sym is

  this : get_or (entries m) at (get_or (entries m) at none) ≡ get_or (entries m) at none
  this = any_default (entries m) at (get_or (entries m) at none) none within

  pub value_got : get m number ≡ Some (get_or (entries m) at none).1
  value_got =
      let e = get_or (entries m) at none in
      ap (get m) (sym named) ∙ entry_got nat_cmp number_order m e.0 e.1 (has_at (entries m) at e within this)

  pub value_free : get (first_of nat_cmp at m) number ≡ None
  value_free = ap (get (first_of nat_cmp at m)) (sym named) ∙ next_free nat_cmp number_order m at (get_or (entries m) at none) within this

  pub value_put : insert (first_of nat_cmp at m) number (get_or (entries m) at none).1 ≡ first_of nat_cmp (at + 1) m
  value_put = ap (λ n. insert (first_of nat_cmp at m) n (get_or (entries m) at none).1) (sym named) ∙ next_put nat_cmp number_order m at (get_or (entries m) at none) within this

-- an image that is looked at nowhere
abbrev pub no_entry : ℕ × ImageRow
no_entry = (0, record { kind = D64; deed = 0; digest = []; bytes = [] })

module _ {S : Type 0} (g : Ghosts S) (old : Held S) (before : Desk) (images : FinMap nat_cmp ImageRow) where
  -- the desk with so many of the images
  abbrev pub with_first : ℕ → Desk
  with_first count = with_images (first_of nat_cmp count images) before

  -- so many are there, where the disk of the connection that is read has returned what was written
  abbrev pub PutsFirst : ℕ → Held S → Held S → Type 0
  PutsFirst count read new = Moves {T = Unit {0}} {X = Error} g old new (AndClean g read (IsOf before)) (AndClean g read (IsOf (with_first count))) (Ok tt)

  pub puts_none : (read : Held S) → before.images ≡ from_entries [] → PutsFirst 0 read old
  puts_none read none =
      moves_to g {Q = AndClean g read (IsOf before)} (λ db held. (held.0, subst (λ (all : FinMap nat_cmp ImageRow). IsOf (with_images all before) db) none held.1)) (moves_none g old (AndClean g read (IsOf before)))

  pub puts_all : (read new : Held S) (numbers : List ℕ) (at : ℕ) → (IsClean g read → numbers ≡ keys images) → at ≡ length numbers → PutsFirst at read new
      → Moves {T = Unit {0}} {X = Error} g old new (AndClean g read (IsOf before)) (IsOf (with_images images before)) (Ok tt)
  puts_all read new numbers at are end puts =
      moves_to g {Q = AndClean g read (IsOf (with_first at))} (λ db held. subst (λ (all : FinMap nat_cmp ImageRow). IsOf (with_images all before) db) (first_all nat_cmp number_order images at (end ∙ ap length (are held.0) ∙ length-map (entries images) (λ (x : ℕ × ImageRow). x.0))) held.1) puts

  -- one more is put
  module _ (read later mid new : Held S) (was : IsClean g later → IsClean g read) (numbers : List ℕ) (at acc : ℕ) (are : IsClean g later → numbers ≡ keys images) (same : IsClean g later → (desk g read).images ≡ images)
      (low : at < length numbers) (is : acc ≡ get_or numbers at acc) (puts : PutsFirst at read mid) where
    abbrev pub image_at : ImageRow
    image_at = (get_or (entries images) at no_entry).1

    abbrev pub next : Desk
    next = with_new_image acc image_at (with_first at)

    abbrev Takes : Database → Type 0
    Takes = TakesImage acc image_at (desk g read) (with_first at)

    -- what stands before the step is what the step takes
    takes : Moves {T = Unit {0}} {X = Error} g old mid (AndClean g later (IsOf before)) (AndClean g later Takes) (Ok tt)
    takes =
        moves_to g {Q = AndClean g later (IsOf (with_first at))} (λ db held.
        let got : get (desk g read).images acc ≡ Some image_at = ap (λ (all : FinMap nat_cmp ImageRow). get all acc) (same held.0) ∙ value_got images numbers at acc no_entry (are held.0) low is in
        (held.0, (got, (held.1, value_free images numbers at acc no_entry (are held.0) low is))))
        (both_clean g read later was (moves_to g {Q = AndClean g read (IsOf (with_first at))} (λ db held. held.1) puts))

    pub puts_next : {U : Type 0} (u : U) → Moves {X = Error} g mid new (AndClean g later Takes) (IsOf next) (Ok u)
        → Moves {T = Unit {0}} {X = Error} g old new (AndClean g later (IsOf before)) (AndClean g later (IsOf (with_first (at + 1)))) (Ok tt)
    puts_next u step =
        moves_to g {Q = AndClean g later (IsOf next)} (λ db held. (held.0, subst (λ (all : FinMap nat_cmp ImageRow). IsOf (with_images all before) db) (value_put images numbers at acc no_entry (are held.0) low is) held.1))
        (then_told g takes (both_clean g later later (λ clean. clean) step))

    pub puts_stop : {U V : Type 0} (e : Error) → Moves {T = V} g mid new (AndClean g later Takes) (IsOf next) (Err e) → (q : Result U Error) → IsErr q
        → Moves {X = Error} g old new (AndClean g later (IsOf before)) (IsOf (with_images images before)) q
    puts_stop e step q failed = stopped g q failed (and_then g takes step)
