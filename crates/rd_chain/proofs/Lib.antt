pub mod Common
pub mod Laws
pub mod LineLemmas
pub mod Statements
pub mod Appending
pub mod Transactions
pub mod Reading
pub mod ChainLemmas
