-- A replica that outlives its process: what a folder holds (Holding), how that is read (Recovering), of a journal that was cut too (Journals); what is kept of a turn
-- (Keeping), turns (Turns), lives (Lives), and what is said in them (Saying).
pub mod Holding
pub mod Recovering
pub mod Journals
pub mod Keeping
pub mod Turns
pub mod Lives
pub mod Saying
