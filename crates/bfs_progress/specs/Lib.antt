-- What the contracts of bfs_progress cite.
pub mod Premises
pub mod Members
pub mod Exchanges
pub mod Following
pub mod Ways
pub mod Laws
pub mod Examples
