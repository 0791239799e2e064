pub mod Progress
mod Ones
mod InOrder
pub mod Carried
pub mod Standing
pub mod Places
pub mod Levelled
pub mod Groups
