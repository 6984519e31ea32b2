-- The rows of a sheet, as they are read one after the other.
use Rattle.std.proofs.Common.{◌≡◌, ◌≢◌, ◌+◌, ◌∙◌, ◌++◌, ◌&&◌, ◌==◌, ℕ, Bool, true, false, not, if◌then◌else◌, option_map, List, [], ◌∷◌, Option, None, Some, Result, IfErr, IfSome, inl, inr, refl, ap, ap₂, subst, sym, length}
use Rattle.std.specs.Borrow.{Bor}
use Rattle.std.specs.Prelude.{All}
use Rattle.std.proofs.lemmas.List.Elements.{All-cons, All-head, All-tail}
use Rattle.csv.specs.Machine.{Read, next_record}
use Rattle.csv.specs.Reading.{NextIs, ReadRecord, ReadsNext, ReadsOn, Ready, TookRecord, buffered_of, default_config, expected_len, has_failed, is_flexible, pending_of, reader_config, reader_state, reader_trim, source_of, strip_bom, took_first}
use Rattle.csv.specs.declared.parser.State.{State}
use Rattle.csv.specs.declared.parser.State.TheVariants.{StartRecord}
use Rattle.csv.specs.declared.reader.Reader.{Reader}
use Rattle.csv.specs.declared.reader.Trim.TheVariants as trim
use Rattle.rd_commands.specs.RefusalLines.{both}
use Rattle.rd_commands.specs.Sheets.{HasOtherLength, header}
use Rattle.rd_commands.specs.declared.refusal.Refusal.TheVariants.{BadSheet}
use Rattle.rd_program.specs.Importing.{IsRowRefusal}
use Rattle.rd_program.specs.Serving.{IsOpenRefusal}
use Rattle.rd_commands.specs.declared.done.Done.{Done}
use Rattle.rd_commands.specs.declared.refusal.Refusal.{Refusal}
use Rattle.rd_program.specs.Rows.{HasRows, IsBadSheetDue, IsSheetOf, TakesRecords}
use Rattle.rd_program.proofs.LeftStores.{of_opening}

-- ---- records

-- one record more
pub records_more : (first : State) (bytes : List ℕ) (rows : List (List (List ℕ))) (mid last : State) (left rest : List ℕ) (fields : List (List ℕ))
    → TakesRecords first bytes rows mid left → next_record default_config mid [] [] left ≡ Some (fields, last, rest)
    → TakesRecords first bytes (rows ++ fields ∷ []) last rest
records_more first bytes [] mid last left rest fields (same, all) next = (
  last,
  rest,
  subst (λ s. next_record default_config s [] [] bytes ≡ Some (fields, last, rest)) same
      (subst (λ b. next_record default_config mid [] [] b ≡ Some (fields, last, rest)) all next),
  (refl, refl),
)
records_more first bytes (row ∷ rows) mid last left rest fields (next, after, is, more) then_is =
    (next, after, is, records_more next after rows mid last left rest fields more then_is)

-- ---- the reader

-- the bytes to come of a reader over a slice
abbrev pub slice_rest : Bor (List ℕ) → Option (List ℕ)
slice_rest bytes = Some bytes.now

-- What is known of a reader over a slice: its state and the bytes to come.
pub record IsAt (reader : Reader (Bor (List ℕ))) (state : State) (rest : List ℕ) : Type 0 where
  pub source : source_of slice_rest reader ≡ Some rest
  pub state_is : reader_state reader ≡ state
  pub config : reader_config reader ≡ default_config
  pub untrimmed : reader_trim reader ≡ trim.None
  pub ready : Ready reader
  pub well : has_failed reader ≡ false

-- the bytes that the next read reads from, once a read has been made
source_after : (reader : Reader (Bor (List ℕ))) → reader.bom_checked ≡ true → source_of slice_rest reader ≡ pending_of (slice_rest reader.rdr) reader
source_after reader checked =
    subst (λ b. (if has_failed reader then None else (if not b && (reader.at == 0) && (reader.filled == 0) then option_map strip_bom (slice_rest reader.rdr) else buffered_of (slice_rest reader.rdr) reader))
    ≡ pending_of (slice_rest reader.rdr) reader) (sym checked) refl

-- What a read gives of the records, and where the reader is after it.
pub record HasRead (state : State) (bytes : List ℕ) (found : Bool) (fields : List (List ℕ)) (new : Reader (Bor (List ℕ))) : Type 0 where
  pub last : State
  pub rest : List ℕ
  pub next : NextIs (next_record default_config state [] [] bytes) found fields last rest
  pub at : IsAt new last rest

pub reads_on : (old new : Reader (Bor (List ℕ))) (state : State) (bytes : List ℕ) (found : Bool) (fields : List (List ℕ)) → IsAt old state bytes
    → ReadRecord slice_rest old new found fields → has_failed new ≡ has_failed old → took_first new ≡ true → HasRead state bytes found fields new
reads_on old new state bytes found fields at read kept took = from (pending_of (slice_rest new.rdr) new) refl read.0
  where
    from : (after : Option (List ℕ)) → pending_of (slice_rest new.rdr) new ≡ after
        → ReadsNext (reader_config old) (reader_state old) (source_of slice_rest old) (pending_of (slice_rest new.rdr) new) found fields (reader_state new) → HasRead state bytes found fields new
    from after is next = go after is
        (subst (λ a. ReadsNext default_config state (Some bytes) a found fields (reader_state new)) is
        (subst (λ b. ReadsNext default_config state b (pending_of (slice_rest new.rdr) new) found fields (reader_state new)) at.source
        (subst (λ s. ReadsNext default_config s (source_of slice_rest old) (pending_of (slice_rest new.rdr) new) found fields (reader_state new)) at.state_is
        (subst (λ c. ReadsNext c (reader_state old) (source_of slice_rest old) (pending_of (slice_rest new.rdr) new) found fields (reader_state new)) at.config next))))
      where
        go : (after : Option (List ℕ)) → pending_of (slice_rest new.rdr) new ≡ after → ReadsNext default_config state (Some bytes) after found fields (reader_state new) → HasRead state bytes found fields new
        go None is none = absurd none
        go (Some rest) is next = record {
          last = reader_state new;
          rest = rest;
          next = next;
          at = record {
            source = source_after new read.1 ∙ is;
            state_is = refl;
            config = read.2 ∙ at.config;
            untrimmed = read.3 ∙ at.untrimmed;
            ready = inl took;
            well = kept ∙ at.well;
          };
        }

pub next_some : (next : Option Read) (fields : List (List ℕ)) (last : State) (rest : List ℕ) → NextIs next true fields last rest → next ≡ Some (fields, last, rest)
next_some None fields last rest is = let e : true ≡ false = is in cc
next_some (Some p) fields last rest (found, is, state, left) =
    sym (ap (λ f. Some (f, last, rest)) is ∙ (ap (λ s. Some (p.0, s, rest)) state ∙ ap (λ r. Some (p.0, p.1, r)) left))

pub next_none : (next : Option Read) (fields : List (List ℕ)) (last : State) (rest : List ℕ) → NextIs next false fields last rest → next ≡ None
next_none None fields last rest is = refl
next_none (Some p) fields last rest (found, is, state, left) = let e : false ≡ true = found in cc

-- A reader takes rows of as many fields as there are columns alone.
pub record IsStrict (reader : Reader (Bor (List ℕ))) : Type 0 where
  pub strict : is_flexible reader ≡ false
  pub columns : expected_len reader ≡ Some (length header)

-- so once it has taken the names of the columns
pub strict_first : (old new : Reader (Bor (List ℕ))) (found : Bool) (fields : List (List ℕ)) → ReadRecord slice_rest old new found fields → (found ≡ true → ReadsOn old new)
    → found ≡ true → fields ≡ header → is_flexible old ≡ false → IsStrict new
strict_first old new found fields read on is named strict = record {
  strict = (on is).2 ∙ strict;
  columns = (read.5 is strict).1 ∙ ap (λ f. Some (length f)) named;
}

-- a row that it takes has as many
pub strict_next : (old new : Reader (Bor (List ℕ))) (found : Bool) (fields : List (List ℕ)) → ReadRecord slice_rest old new found fields → (found ≡ true → ReadsOn old new)
    → found ≡ true → IsStrict old → IsStrict new × (length fields ≡ length header)
strict_next old new found fields read on is strict =
    let kept : expected_len new ≡ Some (length header) = subst (λ o. IfSome o (λ e. expected_len new ≡ Some e)) strict.columns (read.5 is strict.strict).0 in
    let both : Some (length fields) ≡ Some (length header) = sym (read.5 is strict.strict).1 ∙ kept in
    (record { strict = (on is).2 ∙ strict.strict; columns = kept }, cc both)

-- ---- a sheet that is none

same_read : (p q : Read) → Some p ≡ Some q → p ≡ q
same_read p q is = cc is

none_read : (p : Read) → Some p ≡ None → ⊥
none_read p is = let no : Some p ≡ None = is in cc no

-- where a row of another number of fields comes after some rows, these and all others are not all rows
no_fit : (state : State) (bytes : List ℕ) (rows others : List (List (List ℕ))) (mid last after : State) (left rest over : List ℕ) (fields : List (List ℕ))
    → TakesRecords state bytes rows mid left → next_record default_config mid [] [] left ≡ Some (fields, after, over) → length fields ≢ length header
    → TakesRecords state bytes others last rest → next_record default_config last [] [] rest ≡ None → All (λ row. length row ≡ length header) others → ⊥
no_fit state bytes [] [] mid last after left rest over fields (same, all) next other (last_is, rest_is) ends fit =
    none_read (fields, after, over) (sym next ∙ ap₂ (λ s b. next_record default_config s [] [] b) (same ∙ sym last_is) (all ∙ sym rest_is) ∙ ends)
no_fit state bytes [] (first ∷ more) mid last after left rest over fields (same, all) next other (step, past, is, takes) ends fit =
    let both = same_read (fields, after, over) (first, step, past) (sym next ∙ ap₂ (λ s b. next_record default_config s [] [] b) same all ∙ is) in
    other (ap (λ (p : Read). length p.0) both ∙ All-head (λ row. length row ≡ length header) first more fit)
no_fit state bytes (row ∷ rows) [] mid last after left rest over fields (step, past, is, takes) next other (last_is, rest_is) ends fit =
    none_read (row, step, past) (sym is ∙ ap₂ (λ s b. next_record default_config s [] [] b) (sym last_is) (sym rest_is) ∙ ends)
no_fit state bytes (row ∷ rows) (first ∷ more) mid last after left rest over fields (step, past, is, takes) next other (then_step, then_past, then_is, then_takes) ends fit =
    let both = same_read (row, step, past) (first, then_step, then_past) (sym is ∙ then_is) in
    no_fit step past rows more mid last after left rest over fields takes next other
    (subst (λ s. TakesRecords s past more last rest) (sym (ap (λ (p : Read). p.1) both))
    (subst (λ b. TakesRecords then_step b more last rest) (sym (ap (λ (p : Read). p.2) both)) then_takes))
    ends (All-tail (λ row. length row ≡ length header) first more fit)

-- the record that a reader took, although it gives it as an error
took_next : (old new : Reader (Bor (List ℕ))) (state : State) (bytes : List ℕ) (fields : List (List ℕ)) → IsAt old state bytes → TookRecord slice_rest old new fields
    → (rest : List ℕ) × (next_record default_config state [] [] bytes ≡ Some (fields, reader_state new, rest))
took_next old new state bytes fields at took =
    go (pending_of (slice_rest new.rdr) new)
    (subst (λ b. ReadsNext default_config state b (pending_of (slice_rest new.rdr) new) true fields (reader_state new)) at.source
    (subst (λ s. ReadsNext default_config s (source_of slice_rest old) (pending_of (slice_rest new.rdr) new) true fields (reader_state new)) at.state_is
    (subst (λ c. ReadsNext c (reader_state old) (source_of slice_rest old) (pending_of (slice_rest new.rdr) new) true fields (reader_state new)) at.config took)))
  where
    go : (after : Option (List ℕ)) → ReadsNext default_config state (Some bytes) after true fields (reader_state new)
        → (rest : List ℕ) × (next_record default_config state [] [] bytes ≡ Some (fields, reader_state new, rest))
    go None next = absurd next
    go (Some rest) next = (rest, next_some (next_record default_config state [] [] bytes) fields (reader_state new) rest next)

-- a row of another number of fields comes after some rows
pub longer_no_sheet : (sheet : List ℕ) (first : List (List (List ℕ))) (state : State) (rest : List ℕ) (reader after : Reader (Bor (List ℕ))) → IsAt reader state rest
    → HasRows sheet first state rest → IsStrict reader → HasOtherLength reader after → (rows : List (List (List ℕ))) → IsSheetOf sheet rows → ⊥
longer_no_sheet sheet first state rest reader after at has strict longer rows is =
    let next = took_next reader after state rest longer.fields at longer.took in
    let both : Some longer.expected ≡ Some (length header) = sym longer.first ∙ strict.columns in
    let columns : longer.expected ≡ length header = cc both in
    no_fit StartRecord (strip_bom sheet) (header ∷ first) (header ∷ rows) state is.last (reader_state after) rest is.rest next.0 longer.fields
    has next.1 (λ same. longer.other (columns ∙ sym same)) is.has is.ends (All-cons (λ row. length row ≡ length header) header rows refl is.fit)

-- a reader that has read nothing refuses no first record for its length
pub none_expected : (reader after : Reader (Bor (List ℕ))) → expected_len reader ≡ None → HasOtherLength reader after → ⊥
none_expected reader after fresh longer = let no : Some longer.expected ≡ None = sym longer.first ∙ fresh in cc no

-- a refusal is due that is not of the sheet, or of one that is none
pub due_if : (sheet : List ℕ) (refusal : Refusal) → (refusal ≡ BadSheet → (rows : List (List (List ℕ))) → IsSheetOf sheet rows → ⊥) → IsBadSheetDue sheet refusal
due_if sheet BadSheet none = none refl
due_if sheet refusal none = tt

pub row_no_sheet : (sheet : List ℕ) (refusal : Refusal) → IsRowRefusal refusal → IsBadSheetDue sheet refusal
row_no_sheet sheet refusal (inl is) = subst (IsBadSheetDue sheet) (sym is) tt
row_no_sheet sheet refusal (inr (inl is)) = subst (IsBadSheetDue sheet) (sym is) tt
row_no_sheet sheet refusal (inr (inr is)) = subst (IsBadSheetDue sheet) (sym is) tt

pub always_due : (shown : Option (List ℕ)) (refusal : Refusal) → ((sheet : List ℕ) → IsBadSheetDue sheet refusal) → IfSome shown (λ bytes. IsBadSheetDue bytes refusal)
always_due None refusal due = tt
always_due (Some sheet) refusal due = due sheet

-- what is due of the bytes that were read is due of those that are shown
pub due_shown : (shown : Option (List ℕ)) (bytes : List ℕ) (refusal : Refusal) → IfSome shown (λ sheet. bytes ≡ sheet) → IsBadSheetDue bytes refusal
    → IfSome shown (λ sheet. IsBadSheetDue sheet refusal)
due_shown None bytes refusal is due = tt
due_shown (Some sheet) bytes refusal is due = subst (λ b. IsBadSheetDue b refusal) is due

pub opening_no_sheet : (shown : Option (List ℕ)) (refusal : Refusal) → IsOpenRefusal refusal → IfSome shown (λ bytes. IsBadSheetDue bytes refusal)
opening_no_sheet shown refusal opening = always_due shown refusal (λ sheet. of_opening (IsBadSheetDue sheet) refusal opening tt tt tt tt tt)

-- and the one that it showed before
pub shown_before : (r : Result Done Refusal) (later shown : Option (List ℕ)) → later ≡ shown → IfErr r (λ refusal. IfSome later (λ sheet. IsBadSheetDue sheet refusal))
    → IfErr r (λ refusal. IfSome shown (λ sheet. IsBadSheetDue sheet refusal))
shown_before r later shown same due = subst (λ o. IfErr r (λ refusal. IfSome o (λ sheet. IsBadSheetDue sheet refusal))) same due
