use Rattle.rd_store.proofs.Common.{◌≡◌, ◌∙◌, ◌<◌, ap, is_ok, subst, sym, true, vec_capacity, vec_len, HasRoomIn, entry_for, listed_in}
use Rattle.std.specs.List.{insert as insert_at}
use Rattle.rd_store.proofs.register.Register.insert.Goals as goal

pub returns-in_default : goal.returns-in_default
returns-in_default c = absurd (subst HasRoomIn (sym c.take.ensures.value ∙ c.in_default.is) c.requires.room)

pub returns : goal.returns
returns c = record {
  put = λ images image is free same.
      let old = c.in-Some.entries in
      let opened = sym c.take.ensures.value ∙ c.in-Some.is in
      let room : vec_len old < vec_capacity old = subst HasRoomIn opened c.requires.room in
      let there : old.items ≡ _ = sym (ap listed_in opened) ∙ is in
      let ok : is_ok c.insert-inserted.result ≡ true = c.insert-inserted.ensures.succeeds room in
      let put_in : c.insert-inserted.new.self.items ≡ insert_at old.items c.place_for-at.result (c.args.acc, c.args.heading) = rw ok at c.insert-inserted.ensures.items in
      put_in ∙ ap (λ h. insert_at old.items c.place_for-at.result (c.args.acc, h)) same
      ∙ sym (ap (λ l. insert_at l c.place_for-at.result (entry_for (c.args.acc, image))) c.as_slice.ensures.value) ∙ c.place_for-at.ensures.place images image (c.as_slice.ensures.value ∙ there) free;
}
