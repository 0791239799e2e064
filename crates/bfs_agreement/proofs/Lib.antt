mod Counts
mod Told
mod Carried
mod Logs
mod Kept
mod Said
mod Worlds
mod Choice
mod Calls
mod Nodes
mod Running
mod Splitting
pub mod Public
