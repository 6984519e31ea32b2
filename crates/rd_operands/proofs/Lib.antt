pub mod MomentLemmas
pub mod NameLemmas
pub mod ZoneLemmas
