-- What the contracts of bfs_nodes_progress cite.
pub mod Runs
pub mod Members
pub mod Rounds
pub mod Entering
pub mod Begun
pub mod Giving
pub mod Executing
pub mod Following
pub mod LawsOfFollowing
pub mod CatchingUp
pub mod LawsOfCatchingUp
pub mod Requests
pub mod Living
pub mod Laws
pub mod Examples
pub mod Inside
