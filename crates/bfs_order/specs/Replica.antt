-- One replica's order of batches: what it knows, what it refuses, and what each call makes of that (OSDI 1999 sections 4.2 to 4.4).
pub mod States
pub mod Marks
pub mod Refusals
pub mod Outcomes
pub mod Answers
pub mod Accepting
pub mod Proposing
pub mod Executing
pub mod Checkpoints
pub mod Behind
pub mod Resending
pub mod Installing
pub mod Views
pub mod Codes
