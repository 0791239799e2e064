-- A replica as a process: how it serves (Terms), the steps of its node (Acting) and their text (Journals), what it tells (Telling), its turns (Turns), and turns of many processes
-- (Processes).
pub mod Terms
pub mod Acting
pub mod Journals
pub mod Telling
pub mod Turns
pub mod Processes
