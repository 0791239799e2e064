-- What contracts of private functions cite.
pub mod Claims
pub mod Lent
pub mod Running
