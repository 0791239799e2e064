-- What contracts of private functions cite.
pub mod Bounds
pub mod Asking
pub mod Growing
pub mod Raising
pub mod Senders
