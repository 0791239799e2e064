-- What the contracts of bfs_frames cite.
pub mod Kinds
pub mod Errors
pub mod Limits
pub mod Frames
pub mod Cuts
pub mod Parcels
