pub mod LineLemmas
pub mod FaultLemmas
