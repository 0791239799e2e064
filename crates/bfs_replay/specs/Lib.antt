-- What the contracts of bfs_replay cite.
pub mod Output
pub mod CommandLine
pub mod Errors
pub mod Outcomes
pub mod Runs
pub mod Writing
pub mod Inside
