pub mod Zones
pub mod Decidability
