pub mod Reach
pub mod Lending
pub mod Maps
pub mod Slots
pub mod Tree
pub mod Laws
pub mod Inside
