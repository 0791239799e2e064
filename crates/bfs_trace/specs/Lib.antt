-- What the contracts of bfs_trace cite.
pub mod Words
pub mod Texts
pub mod Operands
pub mod Verbs
pub mod Messages
pub mod Population
pub mod Callers
pub mod Events
pub mod Lines
pub mod Trace
pub mod Outcomes
pub mod Errors
pub mod Laws
pub mod Inside
