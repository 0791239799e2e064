pub mod Machine
pub mod Codes
pub mod Seen
pub mod Laws
pub mod Inside
