-- What proofs share.
mod Folds
mod Steps
mod Certified
mod Members
mod First
mod Latest
mod Best
mod OfTheSet
mod Prepared
mod Counting
mod Made
mod Right
mod Behind
mod Kept
pub mod Public
pub mod Few
