-- When a replica does what: times (Times), where replicas stand (Standings), how long a request waits (Timers), to whom what was said is given again
-- (Peers), from whom a state is fetched (Fetching), when it tells where it stands (Telling); all of it together (Policies), and what holds of it (Laws).
pub mod Times
pub mod Standings
pub mod Timers
pub mod Peers
pub mod Fetching
pub mod Telling
pub mod Policies
pub mod Laws
