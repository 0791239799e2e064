pub mod Heads
pub mod Records
pub mod Fronts
pub mod Damage
pub mod Growing
