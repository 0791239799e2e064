-- What the contracts of bfs_passing cite.
pub mod Signers
pub mod Alike
pub mod Keys
pub mod Own
pub mod Laws
