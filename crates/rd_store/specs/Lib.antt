-- What a store's tables spell, and what its calls read, change and leave, by this project's rules. A connection is at
-- rest (`IsAtRest`) between two calls: while it is open, its tables hold a lawful desk, and a crash leaves that desk
-- and nothing else.
-- ---- what a reader of a public clause believes
pub mod Codes
pub mod Index
pub mod Marks
pub mod Spelled
pub mod Held
pub mod Created
pub mod Copied
pub mod Opened
pub mod Migrated
pub mod Batched
pub mod Latest
pub use Rattle.rd_holdings.specs.State
pub use Rattle.rd_holdings.specs.Lawful
pub use Rattle.rd_holdings.specs.RulesFor
pub use Rattle.rd_holdings.specs.Findings
-- ---- inside: what only private functions and proofs cite
-- Only private functions and proofs cite what follows a line `inside` in a file.
-- An invariant of a type is proved of each value, and no caller has to believe it: so `Ruled` is here, which that of
-- `Rulebook` cites, and `Register` and `ImageCache`, which that of `Store` cites.
pub mod Shown
pub mod Ruled
pub mod Register
pub mod ImageCache
pub mod RowColumns
pub mod Walked
