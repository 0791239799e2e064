-- What proofs share.
mod Tables
mod Serving
mod Growing
mod Batches
mod Counting
mod Seeing
mod Timestamps
mod Repeated
mod Rewriting
mod Readers
mod Using
mod Making
mod Answered
