-- What the contracts of bfs_deployment cite.
pub mod Keys
pub mod Tables
pub mod Limits
pub mod Signers
pub mod Deployment
pub mod Document
pub mod Outcomes
