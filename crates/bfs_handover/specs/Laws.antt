-- The statements that are proved of the definitions.
pub mod Shares
pub mod Homecoming
pub mod Carrying
