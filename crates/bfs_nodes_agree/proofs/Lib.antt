-- What proofs share.
pub mod Orders
pub mod Views
pub mod Nodes
pub mod Public
