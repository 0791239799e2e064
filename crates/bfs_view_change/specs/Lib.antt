-- What the contracts of bfs_view_change and of the crates above it cite.
pub mod Changes
pub mod Inside
pub mod Laws
