pub mod Rules
pub mod Each
