-- The statements that are proved of the definitions.
pub mod Settling
