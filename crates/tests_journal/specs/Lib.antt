-- What the disk of tests_journal says of itself.
pub mod Cuts
