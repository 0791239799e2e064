pub mod Records
pub mod Text
pub mod Digests
pub mod Frozen
pub mod Outcomes
pub mod Laws
pub mod Inside
