-- What the proofs of the relay share.
pub mod Folding
pub mod Keeping
pub mod Leading
pub mod Public
pub mod Backed
pub mod Answering
