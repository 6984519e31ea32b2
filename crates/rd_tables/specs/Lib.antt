-- The tables of a desk as SQL understands them, by SQLite's documentation; the tables are this project's. What stands
-- is there now: a table, or a row.
-- ---- what a reader of a public clause believes
pub mod Spellings
pub mod Schemas
pub mod Connections
-- ---- inside: what only private functions and proofs cite
pub mod Asked
pub mod Walks
pub mod Statements
pub mod Queries
