pub mod Lawful
pub mod RulesFor
pub mod Members
pub mod KeyOrders
pub mod Maps
