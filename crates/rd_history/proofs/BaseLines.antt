-- The lines of a base, one by one, and behind a history.
use Rattle.std.proofs.Common.{◌≡◌, ◌∙◌, ◌+◌, inl, inr, ℕ, suc, ℤ, false, Bool, IsUtf8, List, [], ◌∷◌, ◌++◌, ◌<◌, None, Some, ap, ap₂, append_assoc, append-nil, arith, flat_map, get_or, length, map, nat_cmp, refl, subst, sym, take}
use Rattle.std.proofs.lemmas.List.{flat_map_more, length-map, map-append, take_more}
use Rattle.std.specs.FinMap.{entries, get}
use Rattle.std.specs.List.{AllByRecursion}
use Rattle.rd_holdings.specs.State.{Desk, all_rules, registered}
use Rattle.rd_holdings.specs.declared.rows.Accession.{Accession}
use Rattle.rd_holdings.specs.declared.rows.ImageRow.{ImageRow}
use Rattle.rd_holdings.proofs.KeyOrders.{number_order}
use Rattle.rd_holdings.proofs.Members.{Has, entry_got}
use Rattle.rd_history.specs.Bases.{AreBaseLines, image_puts, puts_at}
use Rattle.rd_history.specs.Entries.{HasDigests, IsEntry, TellsDigests}
use Rattle.rd_history.specs.Histories.{AreLinesOf, AreNumbered, AreParts, IsHistory, IsPut, base_entries, base_entry, base_lines, changes_of}
use Rattle.rd_history.specs.Lines.{line_of}
use Rattle.rd_history.specs.Settled.{IsTold}
use Rattle.rd_history.specs.Stages.{Arrives, EndsSo, Follows, Path, START, Steps}
use Rattle.rd_history.specs.Standings.{base_of, deed_put, image_put, key_put}
use Rattle.rd_history.specs.declared.entry.Change.{Change}
use Rattle.rd_history.specs.declared.entry.Change.TheVariants.{Begin, Rule}
use Rattle.rd_history.specs.declared.entry.Entry.{Entry}
use Rattle.rd_history.proofs.BaseLemmas.{base_puts, bases_tell}
use Rattle.rd_history.proofs.StageLemmas.{arrives_number, arrives_of, base_comes, each_more, parts_more, path_join}

numbered_join : (number : ℕ) (entries others : List Entry) → AreNumbered number entries → AreNumbered (number + length entries) others → AreNumbered number (entries ++ others)
numbered_join number [] others are more = subst (λ n. AreNumbered n others) (omega arith) more
numbered_join number (entry ∷ entries) others are more =
    (are.0, are.1, are.2, numbered_join (number + 1) entries others are.3 (subst (λ n. AreNumbered n others) (omega arith) more))

texts_join : (texts others : List (List ℕ)) → AllByRecursion IsUtf8 texts → AllByRecursion IsUtf8 others → AllByRecursion IsUtf8 (texts ++ others)
texts_join [] others each more = more
texts_join (text ∷ texts) others each more = (each.0, texts_join texts others each.1 more)

module _ (moment : ℤ) (note : List ℕ) where
  entries_more : (number : ℕ) (changes : List Change) (change : Change)
      → base_entries moment note number (changes ++ change ∷ []) ≡ base_entries moment note number changes ++ base_entry moment note (number + length changes) change ∷ []
  entries_more number [] change = ap (λ n. base_entry moment note n change ∷ []) (omega arith)
  entries_more number (first ∷ changes) change =
      ap (λ l. base_entry moment note number first ∷ l)
      (entries_more (number + 1) changes change ∙ ap (λ n. base_entries moment note (number + 1) changes ++ base_entry moment note n change ∷ []) (omega arith))

  entries_length : (number : ℕ) (changes : List Change) → length (base_entries moment note number changes) ≡ length changes
  entries_length number [] = refl
  entries_length number (change ∷ changes) = ap (λ n. suc n) (entries_length (number + 1) changes)

  pub entries_tell : (number : ℕ) (changes : List Change) → changes_of (base_entries moment note number changes) ≡ changes
  entries_tell number [] = refl
  entries_tell number (change ∷ changes) = ap (λ l. change ∷ l) (entries_tell (number + 1) changes)

  -- a line more
  pub base_line_more : (number : ℕ) (changes : List Change) (lines : List (List ℕ)) (change : Change) (text : List ℕ) → AreBaseLines moment note number changes lines
      → text ≡ line_of (base_entry moment note (number + length changes) change) → IsUtf8 text
      → IsEntry (base_entry moment note (number + length changes) change) → TellsDigests change → AreBaseLines moment note number (changes ++ change ∷ []) (lines ++ text ∷ [])
  base_line_more number changes lines change text are is utf8 within digests =
      let these = base_entries moment note number changes in
      let entry = base_entry moment note (number + length changes) change in
      let more = entries_more number changes change in
      record {
        are = (λ i. are.are i ++ is i ∷ []) ∙ sym (map-append line_of these (entry ∷ [])) ∙ ap (map line_of) (sym more);
        texts = each_more IsUtf8 lines text are.texts utf8;
        numbered = subst (AreNumbered number) (sym more) (numbered_join number these (entry ∷ []) are.numbered (ap (λ n. number + n) (sym (entries_length number changes)), within, (tt, digests), tt));
      }

  -- behind a history
  pub ends_base : (these : List (List ℕ)) (ends : Bool) → EndsSo ends these → (number : ℕ) → number ≡ length these + 1 → (listed : List Change) (lines : List (List ℕ))
      → AreBaseLines moment note number (Begin (length listed) ∷ listed) lines → AllByRecursion IsPut listed → EndsSo false (these ++ lines)
  ends_base these ends so number is listed lines are puts =
      let changes = Begin (length listed) ∷ listed in
      let comes = base_comes listed so.end puts so.whole in
      let next : number ≡ so.end.number + 1 = omega (arith, is, arrives_number START so.end these so.arrives) in
      let base = base_entries moment note number changes in
      let path = arrives_of so.end comes.0.end base (subst (λ l. Path Steps so.end l comes.0.end) (sym (entries_tell number changes)) comes.0.path)
      (subst (λ n. AreNumbered n base) next are.numbered) (subst (AllByRecursion IsUtf8) are.are are.texts) in
      record {
        end = comes.0.end;
        arrives = path_join Follows START so.end comes.0.end these lines so.arrives (subst (λ l. Arrives so.end l comes.0.end) (sym are.are) path);
        whole = comes.0.whole;
        ends = comes.1;
      }

  -- what stands in a desk is told by its base, behind a history
  pub base_told : (desk : Desk) (these after : List (List ℕ)) → IsHistory these → IsHistory after → after ≡ these ++ base_lines moment note (length these + 1) (base_of desk)
      → AreNumbered (length these + 1) (base_entries moment note (length these + 1) (Begin (length (base_of desk)) ∷ base_of desk)) → IsTold desk after
  base_told desk these after was now is numbered =
      let entries = was.0 in
      let of = was.1 in
      let number = length these + 1 in
      let listed = base_of desk in
      let changes = Begin (length listed) ∷ listed in
      let first = base_entry moment note number (Begin (length listed)) in
      let rest = base_entries moment note (number + 1) listed in
      let count : length these ≡ length entries = ap length of.are ∙ length-map entries line_of in (
        entries ++ first ∷ rest,
        record {
          are = is ∙ ap (λ l. l ++ base_lines moment note number listed) of.are ∙ sym (map-append line_of entries (first ∷ rest));
          texts = now.1.texts;
          numbered = numbered_join 1 entries (first ∷ rest) of.numbered (subst (λ n. AreNumbered n (first ∷ rest)) (omega (arith, count)) numbered);
          parts = subst AreParts (sym (map-append (λ (entry : Entry). entry.change) entries (first ∷ rest) ∙ ap (λ l. changes_of entries ++ Begin (length listed) ∷ l) (entries_tell (number + 1) listed)))
              (parts_more (changes_of entries) changes of.parts (refl, base_puts desk));
        },
        bases_tell entries rest first (length listed) desk refl (entries_tell (number + 1) listed),
      )

-- the images of a register are those of the desk
pub images_alike : (desk : Desk) → flat_map (λ (entry : ℕ × Accession). image_puts desk entry.0) (map registered (entries desk.images)) ≡ map image_put (entries desk.images)
images_alike desk = alike (entries desk.images) (λ e there. there)
  where
    alike : (es : List (ℕ × ImageRow)) → ((e : ℕ × ImageRow) → Has es e → Has (entries desk.images) e)
        → flat_map (λ (entry : ℕ × Accession). image_puts desk entry.0) (map registered es) ≡ map image_put es
    alike [] within = refl
    alike (e ∷ es) within =
        ap (λ found. puts_at e.0 found ++ flat_map (λ (entry : ℕ × Accession). image_puts desk entry.0) (map registered es)) (entry_got nat_cmp number_order desk.images e.0 e.1 (within e (inl refl)))
        ∙ ap (λ l. image_put e ∷ l) (alike es (λ f there. within f (inr there)))

-- the image of one accession more
pub images_more : (d e : Desk) (xs : List (ℕ × Accession)) (k : ℕ) (at : ℕ × Accession) (listed old new : List Change) → new ≡ old ++ image_puts e (get_or xs k at).0 → e ≡ d → k < length xs
    → old ≡ listed ++ flat_map (λ (entry : ℕ × Accession). image_puts d entry.0) (take k xs) → new ≡ listed ++ flat_map (λ (entry : ℕ × Accession). image_puts d entry.0) (take (k + 1) xs)
images_more d e xs k at listed old new adds same below before =
    let puts = λ (entry : ℕ × Accession). image_puts d entry.0 in
    adds ∙ ap₂ (λ (l : List Change) (f : Desk). l ++ image_puts f (get_or xs k at).0) before same
    ∙ append_assoc listed (flat_map puts (take k xs)) (puts (get_or xs k at))
    ∙ ap (λ l. listed ++ l) (flat_map_more puts [] (take k xs) (get_or xs k at) ∙ ap (flat_map puts) (sym (take_more xs k at below)))

-- what is listed part by part is the base of the desk
pub listed_all : (desk : Desk) (deeds images rules keys : List Change) → deeds ≡ map deed_put (entries desk.deeds) → images ≡ deeds ++ map image_put (entries desk.images)
    → rules ≡ images ++ map Rule (all_rules desk) → keys ≡ rules ++ map key_put (entries desk.keys) → keys ≡ base_of desk
listed_all desk deeds images rules keys first second third fourth =
    let d = map deed_put (entries desk.deeds) in
    let i = map image_put (entries desk.images) in
    let r = map Rule (all_rules desk) in
    let k = map key_put (entries desk.keys) in
    fourth ∙ ap (λ l. l ++ k) (third ∙ ap (λ l. l ++ r) (second ∙ ap (λ l. l ++ i) first)) ∙ append_assoc (d ++ i) r k ∙ append_assoc d i (r ++ k)

pub no_image : (desk : Desk) (acc : ℕ) (listed : List Change) → get desk.images acc ≡ None → listed ≡ listed ++ image_puts desk acc
no_image desk acc listed none = sym (ap (λ found. listed ++ puts_at acc found) none ∙ append-nil listed)

pub one_image : (desk : Desk) (acc : ℕ) (listed : List Change) (image : ImageRow) → get desk.images acc ≡ Some image → listed ++ image_put (acc, image) ∷ [] ≡ listed ++ image_puts desk acc
one_image desk acc listed image is = sym (ap (λ found. listed ++ puts_at acc found) is)
