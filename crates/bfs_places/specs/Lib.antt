-- What the contracts of bfs_places cite.
pub mod Laws
