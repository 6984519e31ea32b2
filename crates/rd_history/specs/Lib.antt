-- The history of a desk: entries that tell what was changed, who asked it and when, the line of each,
-- and what a list of entries tells.
pub mod Entries
pub mod Changes
pub mod Lines
pub mod Reading
pub mod Standings
pub mod Histories
pub mod Settled
pub mod Left
pub mod Remembered
pub mod Pages
pub mod Replayed
pub mod Rebuilt
pub mod Laws
-- ---- inside: what only private functions and proofs cite
pub mod Stages
pub mod Bases
pub mod Replaying
