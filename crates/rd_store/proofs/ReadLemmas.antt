-- Calls that read.
use Rattle.rd_store.proofs.Common.{Ok, Err, IfOk, OnOk, Result, ◌≡◌, ℕ, List, Vec, Global, IfOk-weaker, Ghosts, Held, state, Asks, HoldsDesk, IsOpen, Keeps, Reads, HoldsCommonTables, Table, Term, Row, Shown, desk_schema, desk_with, SpellDesk, IsPicked, IsStart, asks_of, shown_picks, shown_starts, shown_was_open, AsksStart, AsksOver, Key}
use Rattle.rd_tables.proofs.ConnectionLaws.{Laws, asks_as}
use Rattle.rd_store.proofs.Laws.{crash_same, desk_same, leaves_only, stays_desk}

-- a query leaves the desk as it was
pub keeps_of : {S T X : Type 0} (g : Ghosts S) → Laws g → (old new : Held S) → HoldsDesk (state g old) → {r : Result T X} {only : X} {Answers : T → Type 0} → Asks g old new r only Answers → Keeps g old new
keeps_of g laws old new held asks = record {
  lasts = asks.stays.lasts;
  same = desk_same g old new asks.stays;
  crash = crash_same g old new asks.stays laws held;
  durable = λ o. leaves_only g laws new (stays_desk g old new asks.stays held) o;
}

-- a query is a call that reads
pub reads_of : {S T X : Type 0} (g : Ghosts S) → Laws g → (old new : Held S) → HoldsDesk (state g old) → {r : Result T X} {only : X} {Answers : T → Type 0} → Asks g old new r only Answers → Reads g old new r Answers
reads_of g laws old new held asks = record { keeps = keeps_of g laws old new held asks; answer = asks.answer; ends_open = asks.ends_open }

-- what it answers, told in another way
pub reads_as : {S T X : Type 0} (g : Ghosts S) (old new : Held S) {P Q : T → Type 0} {r : Result T X} → Reads g old new r P → (IsOpen g new → (value : T) → P value → Q value) → Reads g old new r Q
reads_as g old new {P} {Q} {r} reads told_so = record { keeps = reads.keeps; answer = λ o. IfOk-weaker r P Q (told_so o) (reads.answer o); ends_open = reads.ends_open }

module _ {S X : Type 0} (g : Ghosts S) (old new : Held S) {text : List ℕ} {tree : ℕ} {tests shown : List Term} {order : List (Term × Key)} (params : Row) {r : Result (Vec Row Global) X} where
  -- what a query shows of a desk
  module _ (holds : HoldsDesk (state g old)) {told : List Row} (reads : Reads g old new r (λ rows. Shown text params (state g old) (state g new) rows.items)) where
    pub rows_told : AsksOver desk_schema text tree tests shown order → ((rows : List Row) → SpellDesk 2 (state g old).now.trees → IsPicked (asks_of tree tests shown order) params ((state g old).now.trees tree) rows → rows ≡ told)
        → Reads g old new r (λ rows. rows.items ≡ told)
    rows_told asks is = reads_as g old new reads (λ o rows h.
        let at = holds (shown_was_open text params (state g old) (state g new) rows.items h) in
        is rows.items at.holds.of.rows (shown_picks asks params (state g old) (state g new) at.tables.schema rows.items h))

    -- and a query of the first rows
    pub first_told : {most : ℕ} → AsksStart desk_schema text most tree tests shown order → ((rows : List Row) → SpellDesk 2 (state g old).now.trees → IsStart (asks_of tree tests shown order) most params ((state g old).now.trees tree) rows → rows ≡ told)
        → Reads g old new r (λ rows. rows.items ≡ told)
    first_told asks is = reads_as g old new reads (λ o rows h.
        let at = holds (shown_was_open text params (state g old) (state g new) rows.items h) in
        is rows.items at.holds.of.rows (shown_starts asks params (state g old) (state g new) at.tables.schema rows.items h))

  -- what a query shows of the tables that each version has
  module _ (held : HoldsCommonTables (state g old)) {only : X} (asks : Asks g old new r only (λ rows. Shown text params (state g old) (state g new) rows.items)) where
    pub rows_picked : ((more : List Table) → AsksOver (desk_with more) text tree tests shown order) → Asks g old new r only (λ rows. IsPicked (asks_of tree tests shown order) params ((state g old).now.trees tree) rows.items)
    rows_picked means = asks_as g old new asks (λ o rows h.
        let at = held (shown_was_open text params (state g old) (state g new) rows.items h) in
        shown_picks (means at.more) params (state g old) (state g new) at.rests.schema rows.items h)

    pub rows_started : {most : ℕ} → ((more : List Table) → AsksStart (desk_with more) text most tree tests shown order) → Asks g old new r only (λ rows. IsStart (asks_of tree tests shown order) most params ((state g old).now.trees tree) rows.items)
    rows_started means = asks_as g old new asks (λ o rows h.
        let at = held (shown_was_open text params (state g old) (state g new) rows.items h) in
        shown_starts (means at.more) params (state g old) (state g new) at.rests.schema rows.items h)

-- a call that reads rows, and then tells what they show
pub read_told : {S T U X Y : Type 0} (g : Ghosts S) (old new : Held S) {rows : T} {P : T → Type 0} → Reads {X = X} g old new (Ok rows) P → (r : Result U Y) {Q : U → Type 0} → (IsOpen g new → P rows → IfOk r Q) → Reads g old new r Q
read_told {S} {T} {U} {X} {Y} g old new reads r told = record { keeps = reads.keeps; answer = λ o. told o (reads.answer o); ends_open = λ clean. still r (reads.ends_open clean) }
  where
    still : (q : Result U Y) → IsOpen g new → OnOk q (IsOpen g new)
    still (Ok value) o = o
    still (Err fault) o = tt
