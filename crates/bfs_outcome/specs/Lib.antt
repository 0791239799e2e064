-- What must be believed (Outcome, Executed, Ran), the statements that are proved of it (Laws), and what contracts of private functions cite
-- (Inside).
pub mod Outcome
pub mod Executed
pub mod Ran
pub mod Laws
pub mod Inside
