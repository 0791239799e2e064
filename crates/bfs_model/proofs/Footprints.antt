-- What footprints tell: of calls, of requests, and of requests that overtake each other.
pub mod Frames
pub mod FramedCalls
pub mod Agreement
pub mod Apart
pub mod Own
pub mod Stable
pub mod Requests
pub mod Grouped
pub mod Parts
pub mod Shared
pub mod Overtaking
pub mod OvertakingRequests
pub mod Turns
pub mod Levels
pub mod Counterexamples
