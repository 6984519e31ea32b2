-- Entries, files and contents of a CP/M disk, by the CP/M 2.2 Interface Guide; which faults a file has is this
-- project's rule, over the guide's fields. Each fault is a statement about all entries of a file, or about all claims
-- of the directory; none depends on the order in which code goes through them.
-- ---- what a reader of a public clause believes
pub mod Entries
pub mod Files
pub mod Faults
pub mod Contents
pub mod Listing
-- ---- inside: what only private functions and proofs cite
pub mod Owners
pub mod Claimed
pub mod Gathered
pub mod EntryTests
