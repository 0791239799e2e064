-- What contracts of bfs_checkpoints cite.
pub mod Texts
pub mod Outcomes
pub mod Adoption
pub mod Snapshots
pub mod States
pub mod Certificates
pub mod Collecting
pub mod Keeping
pub mod Laws
