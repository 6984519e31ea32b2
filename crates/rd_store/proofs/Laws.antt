-- What a connection to a desk leaves, and what of it a query leaves.
use Rattle.rd_store.proofs.Common.{◌≡◌, [], ◌∷◌, ◌∙◌, Bool, sym, ap, subst, Trees, Ghosts, Database, State, Held, state, marks_table, Desk, get, desk_of, index_of, HoldsMarksIf, Holds, IsAtRest, IsLeft, HoldsDesk, HoldsTables, HoldsCommonTables, LeavesOnly, Stays, IsOpen, IsClean, desk}
pub use Rattle.rd_tables.proofs.ConnectionLaws.{lasts_still, lasts_then}
use Rattle.rd_tables.proofs.ConnectionLaws.{Laws, stays_here}
use Rattle.rd_store.proofs.IndexQueries.{files_in, files_of}

pub left_is : (d : Desk) (db : Database) (left : Trees) → Holds d db → left ≡ db.trees → IsLeft d left
left_is d db left h is = subst (Holds d) (λ i. record { schema = h.of.schema i; trees = sym is i }) h

module _ {S : Type 0} (g : Ghosts S) (laws : Laws g) where
  pub leaves_only : (h : Held S) → HoldsDesk (state g h) → IsOpen g h → LeavesOnly g h (desk g h)
  leaves_only h holds is_open left may =
      let at = holds is_open in
      left_is (desk g h) (state g h).now left at.holds (laws.settles h.store left is_open may ∙ ap (λ (db : Database). db.trees) at.tables.settled)

  pub holds_between_calls : (h : Held S) → HoldsDesk (state g h) → IsAtRest g h
  holds_between_calls h holds = record {
    tables = λ is_open. (holds is_open).tables.schema;
    lawful = λ is_open. (holds is_open).holds.lawful;
    files = λ is_open acc.
        let db = (state g h).now in (
          files_of (get (desk g h).images acc) (index_of db.trees) acc ((holds is_open).holds.of.index acc),
          files_in (get (desk g h).images acc) (index_of db.trees) acc ((holds is_open).holds.of.index acc),
        );
    leaves = λ is_open. leaves_only h holds is_open;
  }

pub holds_tables : (s : State) → HoldsDesk s → HoldsTables s
holds_tables s holds is_open = (holds is_open).tables

-- the tables of a desk are also those of each version
pub common_tables : (s : State) → HoldsTables s → HoldsCommonTables s
common_tables s held is_open = record { more = marks_table 11 ∷ []; rests = held is_open }

module _ {S : Type 0} (g : Ghosts S) (old new : Held S) (stays : Stays g old new) where
  pub stays_common : HoldsCommonTables (state g old) → HoldsCommonTables (state g new)
  stays_common held is_open =
      let was = held (stays.lasts.was_open is_open) in
      record {
        more = was.more;
        rests = record { schema = ap (λ (db : Database). db.schema) (stays.now is_open) ∙ was.rests.schema; settled = stays.committed is_open ∙ was.rests.settled ∙ sym (stays.now is_open); autocommit = stays.autocommit is_open };
      }

  pub stays_tables : HoldsTables (state g old) → HoldsTables (state g new)
  stays_tables held is_open =
      let was = held (stays.lasts.was_open is_open) in
      record { schema = ap (λ (db : Database). db.schema) (stays.now is_open) ∙ was.schema; settled = stays.committed is_open ∙ was.settled ∙ sym (stays.now is_open); autocommit = stays.autocommit is_open }

  pub stays_marks : (is_marked : Bool) → HoldsMarksIf is_marked (state g old) → HoldsMarksIf is_marked (state g new)
  stays_marks is_marked held is = stays_tables (held is)

  pub stays_desk : HoldsDesk (state g old) → HoldsDesk (state g new)
  stays_desk held is_open = record {
    tables = stays_tables (holds_tables (state g old) held) is_open;
    holds = subst (λ (db : Database). Holds (desk_of db.trees) db) (sym (stays.now is_open)) (held (stays.lasts.was_open is_open)).holds;
  }

  pub desk_same : IsOpen g new → desk g new ≡ desk g old
  desk_same o = ap (λ (db : Database). desk_of db.trees) (stays.now o)

  pub crash_same : Laws g → HoldsDesk (state g old) → IsOpen g old → IsClean g new → LeavesOnly g new (desk g old)
  crash_same laws held was clean left may = leaves_only g laws old held was left (stays.quiet was clean left may)

pub stays_still : {S : Type 0} (g : Ghosts S) (h : Held S) → HoldsTables (state g h) → Stays g h h
stays_still g h held = stays_here g h (λ o. (held o).autocommit)
