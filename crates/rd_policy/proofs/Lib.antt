pub mod DateLemmas
pub mod OrderLemmas
pub mod Existence
