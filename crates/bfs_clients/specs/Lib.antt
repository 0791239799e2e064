-- The clients of a run, and their keys (Clients); what they make of the replies to their requests (Tallies); what a call begins with (Calls), and
-- how its timestamp is counted (Counters).
pub mod Clients
pub mod Tallies
pub mod Calls
pub mod Counters
pub mod Inside
