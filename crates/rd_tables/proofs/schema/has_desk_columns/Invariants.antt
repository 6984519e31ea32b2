use Rattle.rd_tables.proofs.Common.{◌≡◌, ◌&&◌, false, take, codes, list_any, are_desk_columns}
use Rattle.sqlite_schema.specs.Names.{same_name}
use Rattle.rd_tables.proofs.schema.has_desk_columns.Given as goal

-- none of the tables so far
abbrev pub invariant-loop-table : goal.invariant-loop-table
invariant-loop-table l = list_any (λ table. same_name table.name (codes "desk") && are_desk_columns table.columns) (take l.table-index l.table-items) ≡ false
