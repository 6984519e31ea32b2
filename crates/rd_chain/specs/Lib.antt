-- A chain of lines in an SQLite database.
-- ---- what a reader of a public clause believes
pub mod Chains
pub mod Rows
pub mod Held
-- ---- inside: what only private functions and proofs cite
pub mod Inside
