-- Days and dates (ISO 8601), the rules of clocks, which mean what the crate `jiff` says, and the rules of deeds and
-- their verdicts, by this project's rules.
-- ---- what a reader of a public clause believes
pub mod Days
pub mod DayFaults
pub mod Zones
pub mod ZoneFaults
pub mod Dates
pub mod Audiences
pub mod Rules
pub mod Matches
pub mod Verdicts
-- ---- inside: what only private functions and proofs cite
pub mod Neighbours
