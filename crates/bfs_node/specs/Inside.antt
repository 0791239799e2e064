-- What contracts of private functions, and the invariant, cite.
pub mod Acting
pub mod Asking
pub mod Bounds
pub mod Finishing
pub mod Settling
pub mod Taking
