-- What proofs share.
pub mod Doing
pub mod Folding
pub mod Frames
pub mod Going
pub mod Processes
pub mod Public
pub mod Resent
pub mod Said
pub mod Tracking
