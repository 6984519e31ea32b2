-- Lines of an explanation, and what they say, by this project's rules.
-- ---- what a reader of a public clause believes
pub mod Words
pub mod Faults
pub mod Lines
pub mod Explained
pub mod Notes
