-- Requests that wait: which stand in a batch and which wait on (Requests), how they are found by their names (Names) and counted by their clients
-- (Counts), and which have passed (Passed).
pub mod Requests
pub mod Names
pub mod Passed
pub mod Counts
pub mod Indexes
