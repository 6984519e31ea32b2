-- How far a history has come: each line leads to one stage at most, and lines that arrive whole are those of a history.
use Rattle.std.proofs.Common.{◌≡◌, ◌≢◌, ◌∙◌, ◌⊎◌, ◌+◌, ◌≤◌, inl, inr, ℕ, zero, suc, Bool, true, false, true≢false, List, [], ◌∷◌, ◌++◌, ap, arith, length, map, refl, subst, sym, IsUtf8, append_assoc, append-nil, flat_map, length-append}
use Rattle.std.specs.List.{AllByRecursion}
use Rattle.std.proofs.lemmas.List.Concat.{flat_map-append}
use Rattle.rd_history.specs.Histories.{AreLinesOf, AreNumbered, AreParts, IsHistory, IsPart, IsAsked, IsPut, IsTail, MayBeTakenBack, MayCome, changes_of}
use Rattle.rd_history.specs.Laws.{ChangesMayCome}
use Rattle.rd_history.specs.Lines.{line_of}
use Rattle.rd_history.specs.Reading.{IsLineOf}
use Rattle.rd_history.specs.Stages.{Arrives, EndsSo, Follows, IsListedOrAlone, Leads, Path, START, StandsAlone, Steps}
use Rattle.rd_history.specs.declared.entry.TheConstants.{LAST_NUMBER}
use Rattle.rd_history.specs.declared.entry.Cause.TheVariants.{Lost}
use Rattle.rd_history.specs.declared.entry.Change.{Change}
use Rattle.rd_history.specs.declared.entry.Change.TheVariants.{Begin, DropRule, DropKey, Void}
use Rattle.rd_history.specs.declared.entry.Entry.{Entry}
use Rattle.rd_history.specs.declared.stage.Stage.{Stage}
use Rattle.rd_history.proofs.LineEntries.{lines_are_entries}

-- ---- steps

module _ {X : Type 0} (Next : X → Stage → Stage → Type 0) where
  pub path_join : (at mid end : Stage) (xs ys : List X) → Path Next at xs mid → Path Next mid ys end → Path Next at (xs ++ ys) end
  path_join at mid end [] ys first rest = subst (λ s. Path Next s ys end) first rest
  path_join at mid end (x ∷ xs) ys first rest = (first.0, first.1, path_join first.0 mid end xs ys first.2 rest)

  pub path_split : (at end : Stage) (xs ys : List X) → Path Next at (xs ++ ys) end → (mid : Stage) × Path Next at xs mid × Path Next mid ys end
  path_split at end [] ys path = (at, refl, path)
  path_split at end (x ∷ xs) ys path = let more = path_split path.0 end xs ys path.2 in (more.0, (path.0, path.1, more.1), more.2)

  pub path_once : ((x : X) (at one other : Stage) → Next x at one → Next x at other → one ≡ other) → (at one other : Stage) (xs : List X) → Path Next at xs one → Path Next at xs other → one ≡ other
  path_once once at one other [] first second = first ∙ sym second
  path_once once at one other (x ∷ xs) first second =
      path_once once first.0 one other xs first.2 (subst (λ s. Path Next s xs other) (once x at second.0 first.0 second.1 first.1) second.2)

leads_plainly : (change : Change) (at next : Stage) → IsPut change → IsListedOrAlone at next → Leads change at next
leads_plainly (Begin count) at next put leads = absurd put
leads_plainly (Void cause) at next put leads = absurd put
leads_plainly (DropRule band scope rank) at next put leads = absurd put
leads_plainly (DropKey digest) at next put leads = absurd put
leads_plainly change at next put leads = leads

-- what a request asks leads on alone
leads_alone : (change : Change) (at : Stage) → IsAsked change → at.to_come ≡ 0 → Leads change at (record { number = at.number + 1; to_come = 0; ends_in_change = true })
leads_alone (Begin count) at asked none = absurd asked
leads_alone (Void cause) at asked none = absurd asked
leads_alone (DropRule band scope rank) at asked none = (none, refl, refl)
leads_alone (DropKey digest) at asked none = (none, refl, refl)
leads_alone change at asked none = ((λ e. (refl, refl)), (λ some. absurd (some none)))

pub led_alone : (change : Change) (at next : Stage) → IsAsked change → Leads change at next → at.to_come ≡ 0 → next.ends_in_change ≡ true
led_alone (Begin count) at next asked leads none = absurd asked
led_alone (Void cause) at next asked leads none = absurd asked
led_alone (DropRule band scope rank) at next asked leads none = leads.2
led_alone (DropKey digest) at next asked leads none = leads.2
led_alone change at next asked leads none = (leads.0 none).1

by_zero : {P : Type 0} → (n : ℕ) → (n ≡ 0 → P) → (n ≢ 0 → P) → P
by_zero zero none some = none refl
by_zero (suc n) none some = some (λ e. absurd (omega (arith, e)))

stage_is : (one other : Stage) → one.number ≡ other.number → one.to_come ≡ other.to_come → one.ends_in_change ≡ other.ends_in_change → one ≡ other
stage_is one other number to_come ends = λ i. record { number = number i; to_come = to_come i; ends_in_change = ends i }

plainly_once : (at one other : Stage) → one.number ≡ other.number → IsListedOrAlone at one → IsListedOrAlone at other → one ≡ other
plainly_once at one other number first second =
    by_zero at.to_come
    (λ none. stage_is one other number ((first.0 none).0 ∙ sym (second.0 none).0) ((first.0 none).1 ∙ sym (second.0 none).1))
    (λ some. stage_is one other number (omega (arith, (first.1 some).0, (second.1 some).0)) ((first.1 some).1 ∙ sym (second.1 some).1))

leads_once : (change : Change) (at one other : Stage) → one.number ≡ other.number → Leads change at one → Leads change at other → one ≡ other
leads_once (Begin count) at one other number first second = stage_is one other number (first.1 ∙ sym second.1) (first.2 ∙ sym second.2)
leads_once (Void cause) at one other number first second = stage_is one other number (first.1 ∙ sym second.1) (first.2 ∙ sym second.2)
leads_once (DropRule band scope rank) at one other number first second = stage_is one other number (first.1 ∙ sym second.1) (first.2 ∙ sym second.2)
leads_once (DropKey digest) at one other number first second = stage_is one other number (first.1 ∙ sym second.1) (first.2 ∙ sym second.2)
leads_once change at one other number first second = plainly_once at one other number first second

pub steps_once : (change : Change) (at one other : Stage) → Steps change at one → Steps change at other → one ≡ other
steps_once change at one other first second = leads_once change at one other (first.0 ∙ sym second.0) first.1 second.1

-- the next entry is the one that was read
read_next : (line : List ℕ) (at next : Stage) (read : Entry) → IsLineOf line read → (follows : Follows line at next) → follows.entry ≡ read
read_next line at next read of follows = lines_are_entries follows.entry read follows.of.within of.within follows.of.digests of.digests (follows.of.written ∙ sym of.written)

pub follows_once : (line : List ℕ) (at one other : Stage) → Follows line at one → Follows line at other → one ≡ other
follows_once line at one other first second =
    steps_once second.entry.change at one other (subst (λ (entry : Entry). Steps entry.change at one) (read_next line at one second.entry second.of first) first.steps) second.steps

pub not_counted : (line : List ℕ) (at : Stage) (read : Entry) → IsLineOf line read → ¬ ((at.number + 1 ≤ LAST_NUMBER) × (read.number ≡ at.number + 1)) → (next : Stage) → ¬ Follows line at next
not_counted line at read of never next follows =
    let number : read.number ≡ at.number + 1 = ap (λ (entry : Entry). entry.number) (sym (read_next line at next read of follows)) ∙ follows.number in
    never (omega (arith, number, of.within.number.1), number)

pub not_led : (line : List ℕ) (at : Stage) (read : Entry) → IsLineOf line read → ((next : Stage) → ¬ Leads read.change at next) → (next : Stage) → ¬ Follows line at next
not_led line at read of never next follows = never next (subst (λ (entry : Entry). Leads entry.change at next) (read_next line at next read of follows) follows.steps.1)

pub arrives_once : (at one other : Stage) (lines : List (List ℕ)) → Arrives at lines one → Arrives at lines other → one ≡ other
arrives_once = path_once Follows follows_once

-- All lines lead from a start to an end exactly where those that are left lead there from a stage.
pub record Decides (start at : Stage) (all left : List (List ℕ)) : Type 0 where
  pub leads : (end : Stage) → Arrives start all end → Arrives at left end
  pub led : (end : Stage) → Arrives at left end → Arrives start all end

pub decides_after : (start at next : Stage) (all some left : List (List ℕ)) → Decides start at all (some ++ left) → Arrives at some next → Decides start next all left
decides_after start at next all some left decides arrives = record {
  leads = λ end path.
      let split = path_split Follows at end some left (decides.leads end path) in
      subst (λ s. Arrives s left end) (arrives_once at split.0 next some split.1 arrives) split.2;
  led = λ end path. decides.led end (path_join Follows at next end some left arrives path);
}

-- each line has a number
pub arrives_number : (at end : Stage) (lines : List (List ℕ)) → Arrives at lines end → end.number ≡ at.number + length lines
arrives_number at end [] path = ap (λ (s : Stage). s.number) path ∙ omega arith
arrives_number at end (line ∷ lines) path = omega (arith, arrives_number path.0 end lines path.2, path.1.steps.0)

-- ---- lines and the changes of their entries

pub arrives_of : (at end : Stage) (entries : List Entry) → Path Steps at (changes_of entries) end → AreNumbered (at.number + 1) entries → AllByRecursion IsUtf8 (map line_of entries) → Arrives at (map line_of entries) end
arrives_of at end [] path numbered texts = path
arrives_of at end (entry ∷ entries) path numbered texts = (
  path.0,
  record {
    entry = entry;
    text = texts.0;
    of = record { within = numbered.1; digests = numbered.2; written = refl };
    number = numbered.0;
    steps = path.1;
  },
  arrives_of path.0 end entries path.2 (subst (λ n. AreNumbered (n + 1) entries) (sym path.1.0) numbered.3) texts.1,
)

record Tells (at end : Stage) (lines : List (List ℕ)) : Type 0 where
  entries : List Entry
  are : lines ≡ map line_of entries
  texts : AllByRecursion IsUtf8 lines
  numbered : AreNumbered (at.number + 1) entries
  path : Path Steps at (changes_of entries) end

tells : (at end : Stage) (lines : List (List ℕ)) → Arrives at lines end → Tells at end lines
tells at end [] path = record { entries = []; are = refl; texts = tt; numbered = tt; path = path }
tells at end (line ∷ lines) path =
    let more = tells path.0 end lines path.2 in
    let first = path.1 in
    record {
      entries = first.entry ∷ more.entries;
      are = λ i. sym first.of.written i ∷ more.are i;
      texts = (first.text, more.texts);
      numbered = (first.number, first.of.within, first.of.digests, subst (λ n. AreNumbered (n + 1) more.entries) first.steps.0 more.numbered);
      path = (path.0, first.steps, more.path);
    }

-- ---- parts lead from a stage without a base under way to another

pub record Comes (at : Stage) (changes : List Change) : Type 0 where
  pub end : Stage
  pub path : Path Steps at changes end
  pub whole : end.to_come ≡ 0

pub listed_come : (listed : List Change) (at : Stage) → AllByRecursion IsPut listed → at.to_come ≡ length listed → at.ends_in_change ≡ false
    → (comes : Comes at listed) × (comes.end.ends_in_change ≡ false)
listed_come [] at each left ends = (record { end = at; path = refl; whole = left }, ends)
listed_come (change ∷ listed) at each left ends =
    let next : Stage = record { number = at.number + 1; to_come = length listed; ends_in_change = false } in
    let more = listed_come listed next each.1 refl refl in (
      record {
        end = more.0.end;
        path = (next, (refl, leads_plainly change at next each.0 ((λ none. absurd (omega (arith, none, left))), (λ some. (omega (arith, left), refl)))), more.0.path);
        whole = more.0.whole;
      },
      more.1,
    )

-- a base comes where none is under way
pub base_comes : (listed : List Change) (at : Stage) → AllByRecursion IsPut listed → at.to_come ≡ 0 → (comes : Comes at (Begin (length listed) ∷ listed)) × (comes.end.ends_in_change ≡ false)
base_comes listed at each none =
    let next : Stage = record { number = at.number + 1; to_come = length listed; ends_in_change = false } in
    let more = listed_come listed next each refl refl in
    (record { end = more.0.end; path = (next, (refl, (none, refl, refl)), more.0.path); whole = more.0.whole }, more.1)

tail_comes : (tail : List Change) (at : Stage) → IsTail tail → at.to_come ≡ 0 → at.ends_in_change ≡ true → Comes at tail
tail_comes [] at is none ends = record { end = at; path = refl; whole = none }
tail_comes (Void cause ∷ []) at is none ends =
    let next : Stage = record { number = at.number + 1; to_come = 0; ends_in_change = false } in
    record { end = next; path = (next, (refl, (ends, refl, refl)), refl); whole = refl }
tail_comes other at is none ends = absurd is

alone_comes : (change : Change) (tail : List Change) (at : Stage) → IsAsked change → IsTail tail → at.to_come ≡ 0 → Comes at (change ∷ tail)
alone_comes change tail at may is none =
    let next : Stage = record { number = at.number + 1; to_come = 0; ends_in_change = true } in
    let more = tail_comes tail next is refl refl in
    record {
      end = more.end;
      path = (next, (refl, leads_alone change at may none), more.path);
      whole = more.whole;
    }

part_comes : (part : List Change) (at : Stage) → IsPart part → at.to_come ≡ 0 → Comes at part
part_comes [] at is none = absurd is
part_comes (Begin count ∷ listed) at is none = subst (λ n. Comes at (Begin n ∷ listed)) is.0 (base_comes listed at is.1 none).0
part_comes (change ∷ tail) at is none = alone_comes change tail at is.0 is.1 none

parts_come : (parts : List (List Change)) (at : Stage) → AllByRecursion IsPart parts → at.to_come ≡ 0 → Comes at (flat_map (λ part. part) parts)
parts_come [] at each none = record { end = at; path = refl; whole = none }
parts_come (part ∷ parts) at each none =
    let first = part_comes part at each.0 none in
    let more = parts_come parts first.end each.1 first.whole in
    record { end = more.end; path = path_join Steps at first.end more.end part (flat_map (λ part. part) parts) first.path more.path; whole = more.whole }

pub changes_come : (changes : List Change) (at : Stage) → AreParts changes → at.to_come ≡ 0 → Comes at changes
changes_come changes at are none = subst (Comes at) (sym are.are) (parts_come are.parts at are.each none)

-- ---- and what leads there is parts

pub part_alone : (change : Change) (tail : List Change) → IsAsked change → IsTail tail → IsPart (change ∷ tail)
part_alone (Begin count) tail may is = absurd may
part_alone (Void cause) tail may is = absurd may
part_alone change tail may is = (may, is)

pub each_more : {X : Type 0} (P : X → Type 0) (xs : List X) (x : X) → AllByRecursion P xs → P x → AllByRecursion P (xs ++ x ∷ [])
each_more P [] x each has = (has, tt)
each_more P (first ∷ xs) x each has = (each.0, each_more P xs x each.1 has)

pub parts_more : (changes part : List Change) → AreParts changes → IsPart part → AreParts (changes ++ part)
parts_more changes part are is = record {
  parts = are.parts ++ part ∷ [];
  each = each_more IsPart are.parts part are.each is;
  are = ap (λ l. l ++ part) are.are ∙ ap (λ l. flat_map (λ part. part) are.parts ++ l) (sym (append-nil part)) ∙ sym (flat_map-append (λ part. part) are.parts (part ∷ []));
}

-- the changes end in one that nothing has taken back
record Alone (done : List Change) : Type 0 where
  before : List Change
  last : Change
  are : done ≡ before ++ last ∷ []
  parts : AreParts before
  may : IsAsked last

-- a base is under way, of which so many are to come
record Under (to_come : ℕ) (done : List Change) : Type 0 where
  before : List Change
  count : ℕ
  listed : List Change
  are : done ≡ before ++ Begin count ∷ listed
  parts : AreParts before
  each : AllByRecursion IsPut listed
  left : length listed + to_come ≡ count

abbrev Stood : Stage → List Change → Type 0
Stood at done = ((at.ends_in_change ≡ true) × (at.to_come ≡ 0) × Alone done) ⊎ ((at.ends_in_change ≡ false) × (((at.to_come ≡ 0) × AreParts done) ⊎ Under at.to_come done))

stood_whole : (at : Stage) (done : List Change) → at.to_come ≡ 0 → Stood at done → AreParts done
stood_whole at done none stood = elim stood [
  | inl alone ↦ subst AreParts (sym alone.2.are) (parts_more alone.2.before (alone.2.last ∷ []) alone.2.parts (part_alone alone.2.last [] alone.2.may tt))
  | inr plain ↦ elim plain.1 [
    | inl whole ↦ whole.1
    | inr under ↦ subst AreParts (sym under.are) (parts_more under.before (Begin under.count ∷ under.listed) under.parts (omega (arith, under.left, none), under.each))
  ]
]

pub put_asked : (change : Change) → IsPut change → IsAsked change
put_asked (DropRule band scope rank) put = absurd put
put_asked (DropKey digest) put = absurd put
put_asked change put = put

alone_stood : (change : Change) (at next : Stage) (done : List Change) → IsAsked change → StandsAlone at next → Stood at done → Stood next (done ++ change ∷ [])
alone_stood change at next done asked alone stood = inl (alone.2, alone.1, record { before = done; last = change; are = refl; parts = stood_whole at done alone.0 stood; may = asked })

plainly_stood : (change : Change) (at next : Stage) (done : List Change) → IsPut change → IsListedOrAlone at next → Stood at done → Stood next (done ++ change ∷ [])
plainly_stood change at next done put leads stood =
    by_zero at.to_come
    (λ none. alone_stood change at next done (put_asked change put) (none, (leads.0 none).0, (leads.0 none).1) stood)
    (λ some. elim stood [
      | inl alone ↦ absurd (some alone.1)
      | inr plain ↦ elim plain.1 [
        | inl whole ↦ absurd (some whole.0)
        | inr under ↦ inr (
          (leads.1 some).1,
          inr (record {
            before = under.before;
            count = under.count;
            listed = under.listed ++ change ∷ [];
            are = ap (λ l. l ++ change ∷ []) under.are ∙ append_assoc under.before (Begin under.count ∷ under.listed) (change ∷ []);
            parts = under.parts;
            each = each_more IsPut under.listed change under.each put;
            left = omega (arith, under.left, (leads.1 some).0, length-append under.listed (change ∷ []));
          }),
        )
      ]
    ])

steps_stood : (change : Change) (at next : Stage) (done : List Change) → Leads change at next → Stood at done → Stood next (done ++ change ∷ [])
steps_stood (Begin count) at next done leads stood = inr (
  leads.2,
  inr (record {
    before = done;
    count = count;
    listed = [];
    are = refl;
    parts = stood_whole at done leads.0 stood;
    each = tt;
    left = omega (arith, leads.1);
  }),
)
steps_stood (Void cause) at next done leads stood = elim stood [
  | inl alone ↦ inr (
    leads.2,
    inl (
      leads.1,
      subst AreParts (sym (append_assoc alone.2.before (alone.2.last ∷ []) (Void cause ∷ [])) ∙ ap (λ l. l ++ Void cause ∷ []) (sym alone.2.are))
          (parts_more alone.2.before (alone.2.last ∷ Void cause ∷ []) alone.2.parts (part_alone alone.2.last (Void cause ∷ []) alone.2.may tt)),
    ),
  )
  | inr plain ↦ absurd (true≢false (sym leads.0 ∙ plain.0))
]
steps_stood (DropRule band scope rank) at next done leads stood = alone_stood (DropRule band scope rank) at next done tt leads stood
steps_stood (DropKey digest) at next done leads stood = alone_stood (DropKey digest) at next done tt leads stood
steps_stood change at next done leads stood = plainly_stood change at next done tt leads stood

path_stood : (changes done : List Change) (at end : Stage) → Path Steps at changes end → Stood at done → Stood end (done ++ changes)
path_stood [] done at end path stood = subst (λ s. Stood s (done ++ [])) (sym path) (subst (Stood at) (sym (append-nil done)) stood)
path_stood (change ∷ changes) done at end path stood =
    subst (Stood end) (append_assoc done (change ∷ []) changes) (path_stood changes (done ++ change ∷ []) path.0 end path.2 (steps_stood change at path.0 done path.1.1 stood))

start_stood : Stood START []
start_stood = inr (refl, inl (refl, record { parts = []; each = tt; are = refl }))

pub comes_parts : (changes : List Change) (end : Stage) → Path Steps START changes end → end.to_come ≡ 0 → AreParts changes
comes_parts changes end path whole =
    stood_whole end changes whole (path_stood changes [] START end path start_stood)

-- ---- lines that arrive whole, and those of a history

-- the entries of lines that arrive whole, and how their changes lead there
pub lines_tell : (lines : List (List ℕ)) (end : Stage) → Arrives START lines end → end.to_come ≡ 0 → (entries : List Entry) × AreLinesOf entries lines × Path Steps START (changes_of entries) end
lines_tell lines end path whole =
    let told = tells START end lines path in
    (told.entries, record { are = told.are; texts = told.texts; numbered = told.numbered; parts = comes_parts (changes_of told.entries) end told.path whole }, told.path)

pub arrives_history : (lines : List (List ℕ)) (end : Stage) → Arrives START lines end → end.to_come ≡ 0 → IsHistory lines
arrives_history lines end path whole = let told = lines_tell lines end path whole in (told.0, told.1)

-- the entries of a history lead from the start to where no base is under way
record Arriving (entries : List Entry) (lines : List (List ℕ)) : Type 0 where
  end : Stage
  path : Path Steps START (changes_of entries) end
  arrives : Arrives START lines end
  whole : end.to_come ≡ 0

entries_arrive : (entries : List Entry) (lines : List (List ℕ)) → AreLinesOf entries lines → Arriving entries lines
entries_arrive entries lines of =
    let comes = changes_come (changes_of entries) START of.parts refl in
    record {
      end = comes.end;
      path = comes.path;
      arrives = subst (λ l. Arrives START l comes.end) (sym of.are) (arrives_of START comes.end entries comes.path of.numbered (subst (AllByRecursion IsUtf8) of.are of.texts));
      whole = comes.whole;
    }

pub history_arrives : (lines : List (List ℕ)) → IsHistory lines → (end : Stage) × Arrives START lines end × (end.to_come ≡ 0)
history_arrives lines history = let it = entries_arrive history.0 lines history.1 in (it.end, it.arrives, it.whole)

pub so_history : (ends : Bool) (lines : List (List ℕ)) → EndsSo ends lines → IsHistory lines
so_history ends lines so = arrives_history lines so.end so.arrives so.whole

pub none_so : (lines : List (List ℕ)) → lines ≡ [] → EndsSo false lines
none_so lines none = subst (EndsSo false) (sym none) (record { end = START; arrives = refl; whole = refl; ends = refl })

-- ---- what may come

pub changes_may_come : ChangesMayCome
changes_may_come change lines may entries of = parts_more (changes_of entries) (change ∷ []) of.parts (part_alone change [] may tt)

-- a history may go on with a change exactly where one leads on from its end
pub led_on : (change : Change) (ends : Bool) (lines : List (List ℕ)) → (so : EndsSo ends lines) → MayCome change lines → (next : Stage) × Steps change so.end next × (next.to_come ≡ 0)
led_on change ends lines so comes =
    let told = lines_tell lines so.end so.arrives so.whole in
    let after = changes_come (changes_of told.0 ++ change ∷ []) START (comes told.0 told.1) refl in
    let split = path_split Steps START after.end (changes_of told.0) (change ∷ []) after.path in
    let same : split.0 ≡ so.end = path_once Steps steps_once START split.0 so.end (changes_of told.0) split.1 told.2 in
    (split.2.0, subst (λ s. Steps change s split.2.0) same split.2.1, ap (λ (s : Stage). s.to_come) (sym split.2.2) ∙ after.whole)

pub may_be_taken_back : (lines : List (List ℕ)) → EndsSo true lines → MayBeTakenBack lines
may_be_taken_back lines so cause entries of =
    let it = entries_arrive entries lines of in
    let ends : it.end.ends_in_change ≡ true = ap (λ (s : Stage). s.ends_in_change) (arrives_once START it.end so.end lines it.arrives so.arrives) ∙ so.ends in
    let next : Stage = record { number = it.end.number + 1; to_come = 0; ends_in_change = false } in
    comes_parts (changes_of entries ++ Void cause ∷ []) next (path_join Steps START it.end next (changes_of entries) (Void cause ∷ []) it.path (next, (refl, (ends, refl, refl)), refl)) refl

pub taken_back_ends : (ends : Bool) (lines : List (List ℕ)) → EndsSo ends lines → MayBeTakenBack lines → ends ≡ true
taken_back_ends ends lines so may = let on = led_on (Void Lost) ends lines so (may Lost) in sym so.ends ∙ on.1.1.0
