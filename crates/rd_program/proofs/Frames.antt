-- What stays of a world over two calls, by what stays over each.
use Rattle.std.proofs.Common.{ap, subst, sym}
use Rattle.rd_program.specs.World.{ChangesClock, ChangesDoors, ChangesFolders, ChangesStore, ChangesStoreAndDoors, CopiesStore, OpensNewStore, OpensStore, TakesBack, TakesBackNew, World}

module _ {S D : Type 0} (old mid new : World S D) where
  -- the connection to a store is taken back
  pub opened_back : OpensStore old mid → TakesBack mid new → OpensStore old new
  opened_back opened back =
      subst (OpensStore old) (sym back) (ap (λ (w : World S D). record w { stands = new.stands; left = new.left; wanted = mid.wanted }) opened)

  -- the clock is looked at
  pub opened_clock : OpensStore old mid → ChangesClock mid new → ChangesStore old new
  opened_clock opened clock =
      subst (ChangesStore old) (sym clock)
      (ap (λ (w : World S D). record w { clock = new.clock; stands = mid.stands; left = mid.left; wanted = mid.wanted }) opened)

  pub store_back : ChangesStore old mid → TakesBack mid new → ChangesStore old new
  store_back changes back =
      subst (ChangesStore old) (sym back)
      (ap (λ (w : World S D). record w { clock = mid.clock; stands = new.stands; left = new.left; wanted = mid.wanted }) changes)

  -- a door is lent, after the clock was looked at
  pub clock_doors : ChangesClock old mid → ChangesDoors mid new → ChangesDoors old new
  clock_doors clock doors =
      subst (ChangesDoors old) (sym doors) (ap (λ (w : World S D). record w { clock = new.clock; doors = new.doors; limits = new.limits; wanted = new.wanted }) clock)

  -- after a store was opened
  pub opened_doors : OpensStore old mid → ChangesDoors mid new → ChangesStoreAndDoors old new
  opened_doors opened doors =
      subst (ChangesStoreAndDoors old) (sym doors)
      (ap (λ (w : World S D). record w { clock = new.clock; stands = mid.stands; left = mid.left; wanted = new.wanted; doors = new.doors; limits = new.limits }) opened)

  pub doors_back : ChangesStoreAndDoors old mid → TakesBack mid new → ChangesStoreAndDoors old new
  doors_back changes back =
      subst (ChangesStoreAndDoors old) (sym back)
      (ap (λ (w : World S D). record w { clock = mid.clock; stands = new.stands; left = new.left; wanted = mid.wanted; doors = mid.doors; limits = mid.limits }) changes)

  -- a new store is opened
  pub new_back : OpensNewStore old mid → TakesBackNew mid new → OpensNewStore old new
  new_back opened back =
      subst (OpensNewStore old) (sym back)
      (ap (λ (w : World S D). record w { fresh = new.fresh; made = new.made; wanted = mid.wanted }) opened)

  -- after a store was
  pub opened_new : OpensStore old mid → OpensNewStore mid new → CopiesStore old new
  opened_new opened made =
      subst (CopiesStore old) (sym made)
      (ap (λ (w : World S D). record w { stands = mid.stands; left = mid.left; fresh = new.fresh; made = new.made; wanted = new.wanted }) opened)

  pub copied_back : CopiesStore old mid → TakesBack mid new → CopiesStore old new
  copied_back copies back =
      subst (CopiesStore old) (sym back)
      (ap (λ (w : World S D). record w { stands = new.stands; left = new.left; fresh = mid.fresh; made = mid.made; wanted = mid.wanted }) copies)

  -- a file is made after others
  pub more_made : ChangesFolders old mid → ChangesFolders mid new → ChangesFolders old new
  more_made made more = subst (ChangesFolders old) (sym more) (ap (λ (w : World S D). record w { written = new.written }) made)
