-- Links, chains, the directory and the files of a 1541 disk, by the 1541 User's Guide and the public documentation of
-- D64 files. That byte 1 of a last block is the position of its last byte used is this project's profile, and the
-- faults are its rules.
-- ---- what a reader of a public clause believes
pub mod Links
pub mod Walks
pub mod Counts
pub mod Entries
pub mod Files
pub mod Faults
pub mod BlockMap
pub mod Listing
-- ---- inside: what only private functions and proofs cite
pub mod Marked
