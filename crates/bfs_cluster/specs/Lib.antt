-- What must be believed (World, CatchingUp, Steps, Blocks, Timeouts, Standings), the statements that are proved of it (Laws), and
-- what contracts of private functions cite (Inside).
pub mod World
pub mod CatchingUp
pub mod Steps
pub mod Blocks
pub mod Timeouts
pub mod Standings
pub mod Laws
pub mod Inside
