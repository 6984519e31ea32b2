use Rattle.rd_tables.proofs.Common.{◌≡◌, ◌∙◌, List, ℕ, Some, true, false, refl, codes, slice_get, subst, sym, take, list_any, is_named_desk, tells_version}
use Rattle.sqlite_schema.specs.Names.{same_name}
use Rattle.sqlite_schema.specs.declared.schema.Table.{Table}
use Rattle.rd_tables.proofs.VersionText.{all_taken, item_at, none_named, none_told}
use Rattle.rd_tables.proofs.desk.desk_tree.Goals as goal

pub returns-then-tells_version : goal.returns-then-tells_version
returns-then-tells_version c =
    let is = c.as_slice-tables.ensures in
    let at = c.loop-at.at in
    let table = c.index-tables-at.result in
    record {
      at = at;
      table = table;
      here = subst (λ (tables : List Table). slice_get tables at ≡ Some table) is (item_at table _ at c.loop-at-test.true c.index-tables-at.is);
      named = subst (λ (name : List ℕ). same_name name (codes "desk") ≡ true) c.as_slice.ensures (sym c.same_name.ensures ∙ c.if-same_name.true);
      first = subst (λ (tables : List Table). list_any is_named_desk (take at tables) ≡ false) is c.loop-at.invariant;
      tells = subst (λ (tables : List Table). tells_version (take at tables) table ≡ true) is (sym c.tells_version.ensures ∙ c.if-tells_version.true);
      on = refl;
    }

pub returns-else-tells_version : goal.returns-else-tells_version
returns-else-tells_version c =
    let is = c.as_slice-tables.ensures in
    let at = c.loop-at.at in
    let table = c.index-tables-at.result in
    none_told c.args.schema.now at table (subst (λ (tables : List Table). slice_get tables at ≡ Some table) is (item_at table _ at c.loop-at-test.true c.index-tables-at.is))
    (subst (λ (name : List ℕ). same_name name (codes "desk") ≡ true) c.as_slice.ensures (sym c.same_name.ensures ∙ c.if-same_name.true))
    (subst (λ (tables : List Table). list_any is_named_desk (take at tables) ≡ false) is c.loop-at.invariant)
    (subst (λ (tables : List Table). tells_version (take at tables) table ≡ false) is (sym c.tells_version.ensures ∙ c.if-tells_version.false))

pub returns : goal.returns
returns c =
    let all = all_taken c.as_slice-tables.result.now c.loop-at.at c.loop-at-test.false in
    let none = subst (λ (tables : List Table). list_any is_named_desk tables ≡ false) all c.loop-at.invariant in
    none_named c.args.schema.now (subst (λ (tables : List Table). list_any is_named_desk tables ≡ false) c.as_slice-tables.ensures none)
