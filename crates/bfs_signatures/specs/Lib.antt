-- What the contracts of bfs_signatures cite: hashes of a tree over texts (Hashes), signatures of one text as bytes (Signature), what is signed of many texts
-- (Signing), nodes that a signer keeps (Nodes), what is hashed for a root (Hashed), and laws (Laws).
pub mod Hashes
pub mod Signature
pub mod Signing
pub mod Nodes
pub mod Hashed
pub mod Laws
