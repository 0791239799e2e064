-- What proofs share.
mod Counts
mod Slots
mod Indexes
mod FreeSlots
mod Maps
mod Keeping
mod Greatest
pub mod Public
mod Certifying
mod Folds
mod Proposed
mod Shown
mod Latest
mod Passed
mod Rowed
mod Telling
