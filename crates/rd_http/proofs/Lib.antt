pub mod RunLemmas
pub mod VisitHiding
pub mod VisitLemmas
