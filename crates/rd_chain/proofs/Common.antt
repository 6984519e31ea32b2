-- The names that most proofs of this crate cite, passed on from one place. Declares nothing.
pub use Rattle.rd_chain.specs.Chains.{FIRST_SUM, last_sum, next_sum}
pub use Rattle.rd_chain.specs.Held.{Appends, HoldsChain, IsAtRest, IsFullFor, IsLeft, Keeps, LeavesOldOrNew, LeavesOnly, ReadsAfter, lines}
pub use Rattle.rd_chain.specs.Inside.{AreAllRows, AreLaterRows, AreNextRows, AreRowsOfLines, EndsAt, IsEmpty, IsEndOf, end_of, end_with, lines_in, next_end, shown}
pub use Rattle.rd_chain.specs.Rows.{IsChain, IsChainOf, MOST_LINES, MOST_READ, by_number, columns_after, columns_of, history_schema, history_table, line_columns, lines_of, row_of, seen}
pub use Rattle.rd_chain.specs.declared.sum.End.{End}
pub use Rattle.rd_tables.proofs.Common.{AllByRecursion, Command, CreateTable, Database, Does, Enforced, Err, Error, Insert, Int, IsDatabase, IsPermutation, IsPermutation-map, IsPermutation-refl, IsPermutation-sym, IsPermutation-trans, IsSorted, Less, List, Null, Ok, Option, Result, Row, Schema, Table, Tally, Task, Term, Text, Blob, Trees, [], ap, ap₂, arith, codes, false, inl, inr, is_eq, is_gt, lacks_sequence, length, map, nat_tests, pos, put_row, refl, statement_of, subst, sym, true, true≢false, value_cmp-Int, value_cmp_total, ℕ, ◌++◌, ◌+◌, ◌<◌, ◌∙◌, ◌∷◌, ◌≡◌, ◌≤◌}
pub use Rattle.rd_tables.proofs.StatementRuns.{IsWrite, Makes, plain_mode}
pub use Rattle.rd_tables.specs.Connections.{Asks, IsOpen, Moves, RestsIn, Stays, Turns}
pub use Rattle.sqlite.specs.Held.{Held, state}
pub use Rattle.sqlite.specs.Order.{column}
pub use Rattle.sqlite.specs.Store.{Ghosts}
pub use Rattle.std.proofs.Common.{Bool, IfErr, IsErr, OnErr, OnOk, length-append, rules}
