-- What the contracts of bfs_settings cite.
pub mod Settings
pub mod Tables
pub mod Document
pub mod KeysDocument
pub mod SigningDocument
pub mod Outcomes
pub mod Errors
