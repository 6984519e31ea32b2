-- What the samples of tests are: entries of a CP/M and of a 1541 directory, and bytes that were written into an
-- image.
-- ---- what a reader of a public clause believes
pub mod Written
pub mod CpmEntries
pub mod CbmEntries
