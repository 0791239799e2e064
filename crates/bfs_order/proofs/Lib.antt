-- What proofs share.
mod Telling
mod Raising
mod Moving
mod Nearly
mod Putting
mod KeptLogs
mod Entering
mod Executed
mod Resent
mod Fronts
mod Next
mod Proposals
mod Senders
mod Taking
mod Cleaning
mod Saying
mod Viewing
mod Vouching
pub mod Public
