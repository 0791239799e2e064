-- A relay with what is reserved of its timestamps (Reserving), its lives (Lives), and where what it tells in them comes from (Origins).
pub mod Reserving
pub mod Lives
pub mod Origins
