-- What the contracts of bfs_liveness cite.
pub mod Ways
pub mod Meeting
pub mod LawsOfMeeting
pub mod LawsOfMarks
pub mod Even
pub mod Exchanges
pub mod Waiting
pub mod LawsOfExecuting
pub mod Catching
pub mod LawsOfCatching
pub mod LawsOfWindows
pub mod LawsOfProgress
