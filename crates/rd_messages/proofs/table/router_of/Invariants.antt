use Rattle.std.proofs.Common.{◌≡◌, [], true, map, drop}
use Rattle.rd_messages.specs.Table.{all_insert, with_rows}
use Rattle.rd_messages.proofs.table.router_of.Given as goal

-- the rest of the table goes in, and with it the router is that of the whole table
abbrev pub invariant-loop-text : goal.invariant-loop-text
invariant-loop-text l =
    (all_insert (map (λ row. (row.0.now, row.1, row.2)) (drop l.text-index l.table)) l.router ≡ true)
    × (with_rows (map (λ row. (row.0.now, row.1, row.2)) (drop l.text-index l.table)) l.router
    ≡ with_rows (map (λ row. (row.0.now, row.1, row.2)) l.table) [])
