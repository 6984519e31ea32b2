-- An entry is put at the end of a history.
use Rattle.std.proofs.Common.{◌≡◌, ◌∙◌, ◌⊎◌, ◌+◌, inl, ℕ, Bool, true, false, IsTrue, IsErr, IsUtf8, Err, Ok, Result, List, [], ◌∷◌, ◌++◌, ap, arith, length, refl, subst, sym, true≢false}
use Rattle.sqlite.specs.Held.{Held}
use Rattle.sqlite.specs.Store.{Ghosts}
use Rattle.rd_tables.proofs.ConnectionLaws.{lasts_still}
use Rattle.sqlite.specs.Tree.{Trees}
use Rattle.rd_tables.specs.Connections.{IsOpen}
use Rattle.rd_chain.specs.Held.{Appends, IsAtRest, IsLeft, lines}
use Rattle.rd_history.specs.Entries.{HasDigests, IsEntry}
use Rattle.rd_history.specs.Histories.{IsAsked, MayCome}
use Rattle.rd_history.specs.Lines.{line_of}
use Rattle.rd_history.specs.Stages.{EndsSo, Follows, Leads, START}
use Rattle.rd_history.specs.declared.entry.Change.{Change}
use Rattle.rd_history.specs.declared.entry.Change.TheVariants.{Begin, Void}
use Rattle.rd_history.specs.declared.entry.Entry.{Entry}
use Rattle.rd_history.specs.declared.stage.Stage.{Stage}
use Rattle.rd_history.proofs.StageLemmas.{arrives_number, led_alone, led_on, path_join}

-- nothing is put
pub appends_nothing : {S T X : Type 0} (g : Ghosts S) (h : Held S) (more : List (List ℕ)) (fault : X) → IsAtRest g h → Appends {T = T} g h h more (Err fault)
appends_nothing g h more fault rest = record {
  lasts = lasts_still g h;
  ok = λ o. tt;
  err = λ o. refl;
  ends_open = λ clean. tt;
  crash = λ was clean left may. inl (rest.leaves was left may);
  durable = rest.leaves;
}

-- whether the history then ends in a change that nothing has taken back
flag_is : (change : Change) (at next : Stage) (flag : Bool) → Leads change at next → at.to_come ≡ 0 → (IsTrue flag → IsAsked change) → (IsAsked change → IsTrue flag) → next.ends_in_change ≡ flag
flag_is change at next true leads none is may = led_alone change at next (is refl) leads none
flag_is (Begin count) at next false leads none is may = leads.2
flag_is (Void cause) at next false leads none is may = leads.2
flag_is change at next false leads none is may = absurd (let e : false ≡ true = may tt in cc)

pub ends_more : (these : List (List ℕ)) (ends flag : Bool) (entry : Entry) → EndsSo ends these → MayCome entry.change these → IsEntry entry → HasDigests entry → entry.number ≡ length these + 1 → IsUtf8 (line_of entry)
    → (IsTrue flag → IsAsked entry.change) → (IsAsked entry.change → IsTrue flag) → EndsSo flag (these ++ line_of entry ∷ [])
ends_more these ends flag entry so comes within digests number text is may =
    let on = led_on entry.change ends these so comes in
    let next = on.0 in
    record {
      end = next;
      arrives = path_join Follows START so.end next these (line_of entry ∷ []) so.arrives (
        next,
        record {
          entry = entry;
          text = text;
          of = record { within = within; digests = digests; written = refl };
          number = omega (arith, number, arrives_number START so.end these so.arrives);
          steps = on.1;
        },
        refl,
      );
      whole = on.2;
      ends = flag_is entry.change so.end next flag on.1.1 so.whole is may;
    }

-- lines were put, told in another way
module _ {S : Type 0} (g : Ghosts S) (old new : Held S) (more other : List (List ℕ)) (same : IsOpen g old → more ≡ other) where
  left_as : (left : Trees) → IsOpen g old → IsLeft (lines g old) left ⊎ IsLeft (lines g old ++ more) left → IsLeft (lines g old) left ⊎ IsLeft (lines g old ++ other) left
  left_as left was = subst (λ l. IsLeft (lines g old) left ⊎ IsLeft (lines g old ++ l) left) (same was)

  pub appended_ok : {X Y : Type 0} (done : Unit {0}) → Appends {X = X} g old new more (Ok done) → Appends {X = Y} g old new other (Ok done)
  appended_ok done appends = record {
    lasts = appends.lasts;
    ok = λ o. appends.ok o ∙ ap (λ l. lines g old ++ l) (same (appends.lasts.was_open o));
    err = λ o. tt;
    ends_open = appends.ends_open;
    crash = λ was clean left may. left_as left was (appends.crash was clean left may);
    durable = appends.durable;
  }

  pub appended_err : {X Y : Type 0} (fault : X) (told : Result (Unit {0}) Y) → IsErr told → Appends {T = Unit {0}} g old new more (Err fault) → Appends g old new other told
  appended_err fault (Ok done) failed appends = absurd (true≢false (sym failed))
  appended_err fault (Err other) failed appends = record {
    lasts = appends.lasts;
    ok = λ o. tt;
    err = appends.err;
    ends_open = λ clean. tt;
    crash = λ was clean left may. left_as left was (appends.crash was clean left may);
    durable = appends.durable;
  }
